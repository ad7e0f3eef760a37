-- The type that an untagged template shows by itself.
use Rattle.std.specs.Prelude.{List, [], ◌∷◌, if◌then◌else◌}
use Rattle.fast_check_tree_syntax.specs.declared.kind.Word.TheVariants.{TsStringKeyword}
use Rattle.fast_check_tree_syntax.specs.declared.tree.Tree.{Tree, Absent}
use Rattle.fast_check_tree_syntax.specs.Shape.{none_range, part, parts, text_of, is_absent}
use Rattle.fast_check_tree_forms_programs.specs.Literals.{str}
use Rattle.fast_check_tree_forms_expressions.specs.Templates.{Tpl-exprs, Tpl-quasis, TplElement-cooked}
use Rattle.fast_check_tree_helpers.specs.declared.literal_type.DeclMutabilityKind.{DeclMutabilityKind}
use Rattle.fast_check_tree_helpers.specs.declared.literal_type.DeclMutabilityKind.TheVariants.{Const, Mutable}
use Rattle.fast_check_tree_helpers.specs.Builders.{ts_keyword_type, ts_lit_type}

-- the text that the first part of a template stands for; an empty option where its escapes have no meaning, or there is
-- no part
abbrev pub cooked_text : Tree → Tree
cooked_text tpl = TplElement-cooked (part 0 (Tpl-quasis tpl))

-- the type of a text without its raw form, as `"a"`; `string` where there is no text
abbrev pub text_or_string : Tree → Tree
text_or_string text =
    if is_absent text then ts_keyword_type TsStringKeyword else ts_lit_type (str none_range (text_of text) Absent)

-- of the text, where nothing is substituted
abbrev pub text_without : List Tree → Tree → Tree
text_without [] text = text
text_without (_ ∷ _) text = Absent

-- a constant template without substitutions has the type of its text, another `string`
abbrev pub type_of_template : DeclMutabilityKind → Tree → Tree
type_of_template Const tpl = text_or_string (text_without (parts (Tpl-exprs tpl)) (cooked_text tpl))
type_of_template Mutable tpl = ts_keyword_type TsStringKeyword
