use Rattle.std.proofs.Common.{sym, ap, ◌∙◌}
use Rattle.fast_check_read.specs.schema.Lookup.{is_admitted, variant_by_kind}
use Rattle.fast_check_read.specs.schema.Rows.{variant_row}
use Rattle.fast_check_read.proofs.schema.Scan.{found, passed_over, none_left}
use Rattle.fast_check_read.proofs.schema.lookup.variant_of.Goals as goal

pub returns-then-admits : goal.returns-then-admits
returns-then-admits c =
    sym (found (λ v. is_admitted 2 c.args.kind v.form) variant_row _ _ _
    c.loop-variant.invariant c.loop-variant-test.true (sym c.admits.ensures ∙ c.if-admits.true)) ∙
    ap (variant_by_kind c.args.kind) c.variants-variant-items.ensures

pub loop-variant-preserved : goal.loop-variant-preserved
loop-variant-preserved c =
    passed_over (λ v. is_admitted 2 c.args.kind v.form) variant_row _ _ _
    c.loop-variant.invariant c.loop-variant-test.true (sym c.admits.ensures ∙ c.if-admits.false)

pub returns : goal.returns
returns c =
    sym (none_left (λ v. is_admitted 2 c.args.kind v.form) variant_row _ _ c.loop-variant.invariant c.loop-variant-test.false) ∙
    ap (variant_by_kind c.args.kind) c.variants-variant-items.ensures
