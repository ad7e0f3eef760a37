-- Looking into the tables: by the text that JSON has, and by the node or word that a tree has.
use Rattle.std.specs.Prelude.{ℕ, zero, suc, List, Bool, false, Option, Some, None}
use Rattle.std.specs.List.{find, list_any}
use Rattle.std.specs.Str.{bytes_eq}
use denote.Enum.Bare.{sameb}
use Rattle.fast_check_tree_syntax.specs.Shape.{◌is◌}
use Rattle.fast_check_tree_syntax.specs.declared.kind.Kind.{Kind}
use Rattle.fast_check_tree_syntax.specs.declared.kind.Kind.TheVariants as kinds
use Rattle.fast_check_tree_syntax.specs.declared.kind.Word.{Word}
use Rattle.fast_check_tree_syntax.specs.contracts.kind.Word.{the_type as word_type}
use Rattle.fast_check_read.specs.declared.schema.form.Form.{Form}
use Rattle.fast_check_read.specs.declared.schema.form.Form.TheVariants as forms
use Rattle.fast_check_read.specs.declared.schema.form.Choice.{Choice}
use Rattle.fast_check_read.specs.declared.schema.form.Choice.TheVariants as choices
use Rattle.fast_check_read.specs.schema.Rows.{VariantRow, WordRow}
use Rattle.fast_check_read.specs.schema.Schema.{variants_of}

-- the variant of this name
abbrev pub variant_by_name : List ℕ → List VariantRow → Option VariantRow
variant_by_name name variants = find (λ v. bytes_eq v.name name) variants

-- the word of this text
abbrev pub word_by_text : List ℕ → List WordRow → Option WordRow
word_by_text text words = find (λ w. bytes_eq w.name text) words

-- the row of this word
abbrev pub row_of_word : Word → List WordRow → Option WordRow
row_of_word word words = find (λ w. sameb word_type w.word word) words

-- whether a node of the kind may stand where the form does, through at most so many choices
abbrev pub is_admitted : ℕ → Kind → Form → Bool
is_admitted levels kind (forms.Struct own) = own is kind
is_admitted levels kind (forms.Marked own) = own is kind
is_admitted zero kind (forms.Choice choice) = false
is_admitted (suc levels) kind (forms.Choice choice) = list_any (λ v. is_admitted levels kind v.form)
    (variants_of choice)
is_admitted levels kind _ = false

-- the variant under which a node of the kind stands: choices stand within choices at most three deep
abbrev pub variant_by_kind : Kind → List VariantRow → Option VariantRow
variant_by_kind kind variants = find (λ v. is_admitted 2 kind v.form) variants

-- what a mark stands round: a pattern that is assigned to, or an expression that is a pattern
abbrev pub marked_choice : Kind → Option Choice
marked_choice kinds.TargetPat = Some choices.Pat
marked_choice kinds.PatExpr = Some choices.Expr
marked_choice _ = None
