use Rattle.std.proofs.Common.{◌≡◌}
use Rattle.fast_check_meaning_expandos.specs.FirstPlaces.{HasNames}
use Rattle.fast_check_meaning_expandos.specs.References.{last_ranges}
use Rattle.fast_check_meaning_expandos.proofs.references.last_ranges.Given as goal

abbrev pub invariant-loop-reference : goal.invariant-loop-reference
invariant-loop-reference l = record {
  places : HasNames l.places l.ranges.items;
  ranges : l.ranges.items ≡ last_ranges l.yielded;
}
