use Rattle.std.proofs.Common.{◌∙◌, sym, ap}
use Rattle.fast_check_meaning_expandos.specs.FirstPlaces.{placed_reference}
use Rattle.fast_check_meaning_expandos.proofs.FirstPlaces.{none_placed}
use Rattle.fast_check_meaning_expandos.proofs.LastRanges.{one_reference_more}
use Rattle.fast_check_meaning_expandos.proofs.references.last_ranges.Goals as goal

pub loop-reference-init : goal.loop-reference-init
loop-reference-init c = record {
  places = none_placed c.new-places.ensures.empty c.new-ranges.ensures.items;
  ranges = c.new-ranges.ensures.items;
}

pub loop-reference-preserved : goal.loop-reference-preserved
loop-reference-preserved c = record {
  places = c.in_ok-place_reference.ensures.places;
  ranges = c.in_ok-place_reference.ensures.ranges
      ∙ (ap (placed_reference c.in-Some.reference) c.loop-reference.invariant.ranges
      ∙ sym (one_reference_more c.loop-reference.yielded c.in-Some.reference));
}
