use Rattle.std.proofs.Common.{◌≡◌, drop, map, ◌+◌, ◌*◌}
use Rattle.std.specs.List.{list_any}
use Rattle.fast_check_read.specs.schema.Lookup.{is_admitted}
use Rattle.fast_check_read.specs.schema.Rows.{variant_row}
use Rattle.fast_check_read.proofs.schema.lookup.+admits.Given as goal

abbrev pub decreases-admits : goal.decreases-admits
decreases-admits l = 2 * l.levels

abbrev pub decreases-admits_variant : goal.decreases-admits_variant
decreases-admits_variant l = 2 * l.levels + 1

-- no variant so far admits the kind
abbrev pub invariant-admits_variant-loop-variant : goal.invariant-admits_variant-loop-variant
invariant-admits_variant-loop-variant l =
    list_any (λ v. is_admitted l.levels l.kind v.form) (map variant_row l.variant-items) ≡
    list_any (λ v. is_admitted l.levels l.kind v.form) (map variant_row (drop l.variant-index l.variant-items))
