use Rattle.std.proofs.Common.{◌≡◌, ℕ, zero, suc, ◌<◌, ◌-◌, arith, refl, sym, ap, ◌∙◌}
use Rattle.std.specs.List.{list_any}
use Rattle.fast_check_tree_syntax.specs.declared.kind.Kind.{Kind}
use Rattle.fast_check_tree_syntax.specs.Shape.{◌is◌}
use Rattle.fast_check_read.specs.declared.schema.form.Choice.{Choice}
use Rattle.fast_check_read.specs.declared.schema.form.Form.TheVariants as forms
use Rattle.fast_check_read.specs.schema.Lookup.{is_admitted}
use Rattle.fast_check_read.specs.schema.Schema.{variants_of}
use Rattle.fast_check_read.specs.schema.Rows.{variant_row}
use Rattle.fast_check_read.proofs.schema.Scan.{some_passes, fails_here, none_passes}
use Rattle.fast_check_read.proofs.schema.lookup.+admits.Goals as goal

is_admitted-choice : (levels : ℕ) (kind : Kind) (choice : Choice) → 0 < levels
    → is_admitted levels kind (forms.Choice choice) ≡ list_any (λ v. is_admitted (levels - 1) kind v.form) (variants_of choice)
is_admitted-choice zero kind choice some = absurd (omega arith)
is_admitted-choice (suc levels) kind choice some = let one_less : suc levels - 1 ≡ levels = omega arith in rw one_less refl

is_admitted-own : (levels : ℕ) (kind own : Kind) → own is kind ≡ is_admitted levels kind (forms.Struct own)
is_admitted-own zero kind own = refl
is_admitted-own (suc levels) kind own = refl

is_admitted-mark : (levels : ℕ) (kind own : Kind) → own is kind ≡ is_admitted levels kind (forms.Marked own)
is_admitted-mark zero kind own = refl
is_admitted-mark (suc levels) kind own = refl

pub admits-returns-then-levels-gt0 : goal.admits-returns-then-levels-gt0
admits-returns-then-levels-gt0 t c =
    c.admits_variant.ensures ∙ sym (is_admitted-choice c.args.levels c.args.kind c.in-Choice.choice c.if-levels-gt0.true) ∙
    ap (is_admitted c.args.levels c.args.kind) (sym c.in-Choice.is)

pub admits_variant-returns-then-admits : goal.admits_variant-returns-then-admits
admits_variant-returns-then-admits t c =
    sym (some_passes (λ v. is_admitted c.args.levels c.args.kind v.form) variant_row _ _ _
    c.loop-variant.invariant c.loop-variant-test.true (sym c.admits.ensures ∙ c.if-admits.true)) ∙
    ap (list_any (λ v. is_admitted c.args.levels c.args.kind v.form)) c.variants-variant-items.ensures

pub admits_variant-loop-variant-preserved : goal.admits_variant-loop-variant-preserved
admits_variant-loop-variant-preserved t c =
    fails_here (λ v. is_admitted c.args.levels c.args.kind v.form) variant_row _ _ _
    c.loop-variant.invariant c.loop-variant-test.true (sym c.admits.ensures ∙ c.if-admits.false)

pub admits_variant-returns : goal.admits_variant-returns
admits_variant-returns t c =
    sym (none_passes (λ v. is_admitted c.args.levels c.args.kind v.form) variant_row _ _
    c.loop-variant.invariant c.loop-variant-test.false) ∙
    ap (list_any (λ v. is_admitted c.args.levels c.args.kind v.form)) c.variants-variant-items.ensures

pub admits-returns-in-Struct : goal.admits-returns-in-Struct
admits-returns-in-Struct t c =
    c.eq.ensures ∙ is_admitted-own c.args.levels c.args.kind c.in-Struct.own ∙
    ap (is_admitted c.args.levels c.args.kind) (sym c.in-Struct.is)

pub admits-returns-in-Marked : goal.admits-returns-in-Marked
admits-returns-in-Marked t c =
    c.eq-in-Marked.ensures ∙ is_admitted-mark c.args.levels c.args.kind c.in-Marked.own ∙
    ap (is_admitted c.args.levels c.args.kind) (sym c.in-Marked.is)

pub admits-overflow_sub-levels : goal.admits-overflow_sub-levels
admits-overflow_sub-levels t c = c.if-levels-gt0.true

pub admits-admits_variant-requires : goal.admits-admits_variant-requires
admits-admits_variant-requires t c = (omega arith, tt)

pub admits_variant-admits-requires : goal.admits_variant-admits-requires
admits_variant-admits-requires t c = (omega arith, tt)
