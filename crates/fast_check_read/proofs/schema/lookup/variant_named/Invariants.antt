use Rattle.std.proofs.Common.{◌≡◌, drop, map}
use Rattle.fast_check_read.specs.schema.Lookup.{variant_by_name}
use Rattle.fast_check_read.specs.schema.Rows.{variant_row}
use Rattle.fast_check_read.proofs.schema.lookup.variant_named.Given as goal

-- no variant so far has the name
abbrev pub invariant-loop-variant : goal.invariant-loop-variant
invariant-loop-variant l =
    variant_by_name l.name (map variant_row l.variant-items) ≡ variant_by_name l.name
    (map variant_row (drop l.variant-index l.variant-items))
