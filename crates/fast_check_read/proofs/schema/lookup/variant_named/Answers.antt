use Rattle.std.proofs.Common.{sym, ap, ◌∙◌}
use Rattle.std.specs.Str.{bytes_eq}
use Rattle.fast_check_read.specs.schema.Lookup.{variant_by_name}
use Rattle.fast_check_read.specs.schema.Rows.{variant_row}
use Rattle.fast_check_read.proofs.schema.Scan.{found, passed_over, none_left}
use Rattle.fast_check_read.proofs.schema.lookup.variant_named.Goals as goal

pub returns-then-eq : goal.returns-then-eq
returns-then-eq c =
    sym (found (λ v. bytes_eq v.name c.args.name.now) variant_row _ _ _
    c.loop-variant.invariant c.loop-variant-test.true (sym c.eq.ensures ∙ c.if-eq.true)) ∙
    ap (variant_by_name c.args.name.now) c.variants-variant-items.ensures

pub loop-variant-preserved : goal.loop-variant-preserved
loop-variant-preserved c =
    passed_over (λ v. bytes_eq v.name c.args.name.now) variant_row _ _ _
    c.loop-variant.invariant c.loop-variant-test.true (sym c.eq.ensures ∙ c.if-eq.false)

pub returns : goal.returns
returns c =
    sym (none_left (λ v. bytes_eq v.name c.args.name.now) variant_row _ _ c.loop-variant.invariant c.loop-variant-test.false) ∙
    ap (variant_by_name c.args.name.now) c.variants-variant-items.ensures
