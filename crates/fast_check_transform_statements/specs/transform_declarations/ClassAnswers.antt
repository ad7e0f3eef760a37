-- Inner: no contract of a public call cites what stands here.
-- The answers to what is seen of classes and of default exports.
use Rattle.std.specs.Prelude.{Bool, Option, List, [], ◌∷◌}
use Rattle.fast_check_tree_syntax.specs.declared.kind.Kind.TheVariants.{ExportDefaultDecl}
use Rattle.fast_check_tree_syntax.specs.declared.source.SourceRange.{SourceRange}
use Rattle.fast_check_tree_syntax.specs.declared.tree.Tree.{Tree}
use Rattle.fast_check_tree_forms_programs.specs.ModuleDecls.{ExportDefaultDecl-span, ExportDefaultDecl-decl}
use Rattle.fast_check_meaning_signatures.specs.Seen.{Seen, written, range, round, seens}
use Rattle.fast_check_meaning_signatures.specs.Answers.{Answer, answer_to, answer_of}
use Rattle.fast_check_transform_imports.specs.skeleton.declared.rules.DefaultRule.{DefaultRule}
use Rattle.fast_check_transform_imports.specs.skeleton.declared.rules.DefaultRule.TheVariants as defaults
use Rattle.fast_check_transform_imports.specs.skeleton.Defaults.{is_public_value, default_value_seen, default_class_seen}
use Rattle.fast_check_transform_imports.specs.skeleton.Defaults.{default_function_seen, default_seen}
use Rattle.fast_check_transform_imports.specs.skeleton.ModuleFacts.{ModuleFacts}
use Rattle.fast_check_transform_imports.specs.skeleton.Visible.{public_class}

-- to a class, which is public by `place`
unfoldable pub public_class_answer : ModuleFacts → SourceRange → Tree → Answer (List Tree)
public_class_answer facts place decl = answer_of (public_class facts place decl)

-- to the default export of an expression, and to a class that is exported by default
unfoldable pub default_value_answer : ModuleFacts → Tree → Answer (Option Tree)
default_value_answer facts t = answer_to (default_value_seen facts t)

unfoldable pub default_class_answer : ModuleFacts → Tree → Answer (Option Tree)
default_class_answer facts decl = answer_to (default_class_seen facts decl)

-- to a function that is exported by default and public by `place`
unfoldable pub default_function_answer : ModuleFacts → SourceRange → Tree → Answer (Option Tree)
default_function_answer facts place decl = answer_to (default_function_seen facts place decl)

-- whether a default export is public, and what is seen of one that is
abbrev pub is_public_default : ModuleFacts → Tree → DefaultRule → Bool
is_public_default facts t defaults.Value = is_public_value facts t
is_public_default facts t _ = facts.is_public (ExportDefaultDecl-span t)

abbrev pub exported_default : Tree → Seen → Seen
exported_default t decl = round ExportDefaultDecl (seens (range (ExportDefaultDecl-span t) ∷ decl ∷ []))

abbrev pub default_decl_seen : ModuleFacts → Tree → DefaultRule → Seen
default_decl_seen facts t defaults.Value = default_value_seen facts t
default_decl_seen facts t defaults.Class = exported_default t (default_class_seen facts (ExportDefaultDecl-decl t))
default_decl_seen facts t defaults.Function =
    exported_default t (default_function_seen facts (ExportDefaultDecl-span t) (ExportDefaultDecl-decl t))
default_decl_seen facts t defaults.Interface = exported_default t (written (ExportDefaultDecl-decl t))

-- to one that is public, and to any
unfoldable pub default_decl_answer : ModuleFacts → Tree → DefaultRule → Answer (Option Tree)
default_decl_answer facts t rule = answer_to (default_decl_seen facts t rule)

unfoldable pub default_answer : ModuleFacts → Tree → DefaultRule → Answer (List Tree)
default_answer facts t rule = answer_of (default_seen facts t rule)
