-- The names of the variants that a node is of, and the brackets round it.
use Rattle.std.proofs.Common.{◌≡◌, ℕ, zero, suc, ◌<◌, ◌-◌, List, [], ◌∷◌, ◌++◌, length, replicate, arith, refl, sym, ap, ◌∙◌, append_assoc}
use Rattle.std.proofs.Common.{append-nil}
use Rattle.std.proofs.lemmas.List.{replicate_more}
use native.Mathlib.Numerals.{unary_clauses}
use Rattle.json.specs.Token.{begin_object, end_object, key}
use Rattle.serde_json.specs.Data.{Data}
use Rattle.fast_check_tree_syntax.specs.declared.kind.Kind.{Kind}
use Rattle.fast_check_read.specs.declared.schema.form.Choice.{Choice}
use Rattle.fast_check_read.specs.declared.schema.form.Form.TheVariants as forms
use Rattle.fast_check_read.specs.schema.Lookup.{variant_by_kind}
use Rattle.fast_check_read.specs.schema.Schema.{variants_of}
use Rattle.fast_check_print.specs.Trees.{variant_names, names_from, under}
use Rattle.fast_check_print.specs.Writing.{tokens_of, opening}

pub variant_names-choice : (levels : ℕ) (kind : Kind) (choice : Choice) → 0 < levels
    → variant_names levels kind (forms.Choice choice) ≡ names_from (variant_by_kind kind (variants_of choice))
    (variant_names (levels - 1) kind)
variant_names-choice zero kind choice some = absurd (omega arith)
variant_names-choice (suc levels) kind choice some = let one_less : suc levels - 1 ≡ levels = omega arith in rw one_less refl

-- a value under names: their objects are opened, the value is written, and as many are closed
pub tokens-under : (names : List (List ℕ)) (value : Data) → tokens_of (under names value) ≡ opening names ++
    (tokens_of value ++ replicate (length names) end_object)
tokens-under [] value = sym (append-nil (tokens_of value))
tokens-under (name ∷ names) value =
    ap (λ ts. begin_object ∷ key name ∷ ts)
    (ap (λ ts. ts ++ end_object ∷ []) (tokens-under names value)
    ∙ (append_assoc (opening names) (tokens_of value ++ replicate (length names) end_object) (end_object ∷ [])
    ∙ ap (λ ts. opening names ++ ts) (append_assoc (tokens_of value) (replicate (length names) end_object) (end_object ∷ []) ∙
    ap (λ ts. tokens_of value ++ ts) (replicate_more (length names) end_object ∙ simp unary_clauses refl))))
