-- Of each kind of hidden change two parts of modules that differ by it and agree, under each renaming and whatever is
-- known of names. What is not the change stands at the place of no text, in no scope.
use Rattle.std.specs.Prelude.{ℕ, Bool, false, List, [], ◌∷◌, codes}
use Rattle.fast_check_tree_syntax.specs.declared.kind.Kind.TheVariants as kinds
use Rattle.fast_check_tree_syntax.specs.declared.kind.Word.TheVariants as words
use Rattle.fast_check_tree_syntax.specs.declared.source.SourceRange.{SourceRange}
use Rattle.fast_check_tree_syntax.specs.declared.tree.Tree as tree
use Rattle.fast_check_tree_syntax.specs.declared.tree.Tree.{Tree, Absent}
use Rattle.fast_check_tree_syntax.specs.Shape.{none_range, node, list}
use Rattle.fast_check_tree_syntax.specs.Moves.{Renaming, IsRenaming}
use Rattle.fast_check_tree_forms_classes.specs.Classes.{class}
use Rattle.fast_check_tree_forms_classes.specs.Functions.{function}
use Rattle.fast_check_tree_forms_classes.specs.Methods.{class_method}
use Rattle.fast_check_tree_forms_expressions.specs.Assertions.{ts_as_expr}
use Rattle.fast_check_tree_forms_expressions.specs.Calls.{call_expr}
use Rattle.fast_check_tree_forms_expressions.specs.Patterns.{array_pat, assign_pat}
use Rattle.fast_check_tree_forms_programs.specs.Literals.{number}
use Rattle.fast_check_tree_forms_programs.specs.Names.{binding_ident}
use Rattle.fast_check_tree_helpers.specs.Builders.{new_ident, ts_keyword_type, type_ann}
use Rattle.fast_check_meaning_signatures.specs.Bindings.{Bindings}
use Rattle.fast_check_meaning_signatures.specs.NewNodes.{no_scope, new_block, ident_name, ts_array_type}
use Rattle.fast_check_meaning_skeleton.specs.SameValues.{SameExpr, SameFunction, SamePat}
use Rattle.fast_check_meaning_skeleton.specs.SameClasses.{SameMember, SameClass}

-- `number`
abbrev pub number_type : Tree
number_type = ts_keyword_type words.TsNumberKeyword

-- `(params): void { stmts }`
abbrev pub void_function : List Tree → List Tree → Tree
void_function params stmts =
    function none_range (list params) (list []) no_scope (new_block stmts) false false Absent
    (type_ann (ts_keyword_type words.TsVoidKeyword))

-- `n: number = value` and `p = value`, of a number
abbrev pub typed_default : Tree → Tree
typed_default value = assign_pat none_range (binding_ident (new_ident (codes "n")) (type_ann number_type)) value

abbrev pub shown_default : List ℕ → Tree
shown_default value = assign_pat none_range (binding_ident (new_ident (codes "p")) Absent) (number none_range value)

-- `[elements]: number[]`
abbrev pub pattern : List Tree → Tree
pattern elements = array_pat none_range (list elements) false (type_ann (ts_array_type none_range number_type))

-- `operand as number`
abbrev pub as_number : Tree → Tree
as_number operand = ts_as_expr none_range operand number_type

-- `private m(params): void { stmts }`
abbrev pub method_m : List Tree → List Tree → Tree
method_m params stmts =
    class_method none_range (ident_name none_range (codes "m")) (void_function params stmts) (tree.Word words.Method)
    false (tree.Word words.Private) false false false

-- a class without members, behind decorators
abbrev pub decorated : List Tree → Tree
decorated decorators = class none_range no_scope (list decorators) (list []) Absent false Absent Absent (list [])

-- `h()` and `h, h`
abbrev pub name_h : Tree
name_h = new_ident (codes "h")

abbrev pub call : Tree
call = call_expr none_range no_scope name_h (list []) Absent

abbrev pub sequence : Tree
sequence = node kinds.SeqExpr (tree.Range none_range ∷ list (name_h ∷ name_h ∷ []) ∷ [])

module _ (r : Renaming) (c d : Bindings) (f g : SourceRange → Bool) where
  pub record HiddenChanges : Type 0 where
    -- any bodies behind a written return type
    pub bodies : (stmts others : List Tree) → SameFunction r c d (void_function [] stmts) (void_function [] others)
    -- any defaults behind a written type
    pub typed_defaults : (value another : Tree) → SamePat r c d (typed_default value) (typed_default another)
    -- two defaults that show the same type
    pub shown_defaults : (value another : List ℕ) → SamePat r c d (shown_default value) (shown_default another)
    -- any operands of an assertion
    pub operands : (operand another : Tree) → SameExpr r c d (as_number operand) (as_number another)
    -- any elements of a pattern
    pub elements : (elements others : List Tree) → SamePat r c d (pattern elements) (pattern others)
    -- any signatures and bodies of a private method
    pub methods : (params others stmts statements : List Tree) →
        SameMember r c d f g (method_m params stmts) (method_m others statements)
    -- any decorators of a class that is not ambient
    pub decorators : (decorators others : List Tree) → SameClass r c d f g (decorated decorators) (decorated others)
    -- two expressions that may not stay
    pub refused : SameExpr r c d call sequence

abbrev pub HidesChanges : Type 0
HidesChanges =
    (r : Renaming) → IsRenaming r → (c d : Bindings) (f g : SourceRange → Bool) → HiddenChanges r c d f g
