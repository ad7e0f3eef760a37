-- Written by forms/write.py from forms/forms.txt.
-- A whole file.
-- Each form has its fields by their names, what it holds once it reads a node, and the node of its fields.
use Rattle.std.specs.Prelude.{◌≡◌, [], ◌∷◌}
use Rattle.fast_check_tree_syntax.specs.declared.kind.Kind.TheVariants as kinds
use Rattle.fast_check_tree_syntax.specs.declared.part.Part.{Part}
use Rattle.fast_check_tree_syntax.specs.declared.source.SourceRange.{SourceRange}
use Rattle.fast_check_tree_syntax.specs.declared.tree.Tree.{Tree, Range}
use Rattle.fast_check_tree_syntax.specs.Part.{seen}
use Rattle.fast_check_tree_syntax.specs.Shape.{node, part, range_of}
use Rattle.fast_check_tree_forms_programs.specs.declared.programs.Module.{Module}
use Rattle.fast_check_tree_forms_programs.specs.declared.programs.Script.{Script}

-- A file with imports or exports: its items, after a line `#!shebang`.
abbrev pub Module-span : Tree → SourceRange
Module-span t = range_of (part 0 t)

abbrev pub Module-body : Tree → Tree
Module-body t = part 1 t

abbrev pub Module-shebang : Tree → Tree
Module-shebang t = part 2 t

pub record ReadsModule (form : Module Part) (t : Tree) : Type 0 where
  pub span : form.span ≡ Module-span t
  pub body : seen form.body ≡ Module-body t
  pub shebang : seen form.shebang ≡ Module-shebang t

abbrev pub module' : SourceRange → Tree → Tree → Tree
module' span body shebang = node kinds.Module (Range span ∷ body ∷ shebang ∷ [])

-- A file without imports and exports: its statements, after a line `#!shebang`.
abbrev pub Script-span : Tree → SourceRange
Script-span t = range_of (part 0 t)

abbrev pub Script-body : Tree → Tree
Script-body t = part 1 t

abbrev pub Script-shebang : Tree → Tree
Script-shebang t = part 2 t

pub record ReadsScript (form : Script Part) (t : Tree) : Type 0 where
  pub span : form.span ≡ Script-span t
  pub body : seen form.body ≡ Script-body t
  pub shebang : seen form.shebang ≡ Script-shebang t

abbrev pub script : SourceRange → Tree → Tree → Tree
script span body shebang = node kinds.Script (Range span ∷ body ∷ shebang ∷ [])
