-- The skeleton of a module and its faults: what becomes of what is seen of its items.
use Rattle.std.specs.Prelude.{List}
use Rattle.fast_check_tree_syntax.specs.declared.tree.Tree.{Tree}
use Rattle.fast_check_tree_syntax.specs.Shape.{list}
use Rattle.fast_check_tree_forms_programs.specs.Programs.{Module-span, Module-shebang, module'}
use Rattle.fast_check_meaning_signatures.specs.declared.fault.Fault.{Fault}
use Rattle.fast_check_meaning_signatures.specs.Answers.{Answer, answer_of}
use Rattle.fast_check_meaning_skeleton.specs.ModuleFacts.{ModuleFacts}
use Rattle.fast_check_meaning_skeleton.specs.Visible.{visible}

-- what becomes of a module's items
abbrev pub transformed : ModuleFacts → Tree → Answer (List Tree)
transformed module_facts program = answer_of (visible module_facts program)

-- the skeleton of a module: what is public of its items, under its own span and shebang
abbrev pub skeleton_of : ModuleFacts → Tree → Tree
skeleton_of module_facts program =
    module' (Module-span program) (list (transformed module_facts program).stays) (Module-shebang program)

-- what is wrong with a module, in reading order
abbrev pub faults_of : ModuleFacts → Tree → List Fault
faults_of module_facts program = (transformed module_facts program).faults
