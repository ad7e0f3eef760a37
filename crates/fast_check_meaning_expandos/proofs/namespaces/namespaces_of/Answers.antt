use Rattle.std.proofs.Common.{◌∙◌, sym, ap}
use Rattle.fast_check_meaning_expandos.specs.Merged.{placed_property}
use Rattle.fast_check_meaning_expandos.proofs.FirstPlaces.{none_placed}
use Rattle.fast_check_meaning_expandos.proofs.Placed.{one_property_more}
use Rattle.fast_check_meaning_expandos.proofs.namespaces.namespaces_of.Goals as goal

pub loop-property-init : goal.loop-property-init
loop-property-init c = record {
  places = none_placed c.new-places.ensures.empty c.new-made.ensures.items;
  made = c.new-made.ensures.items;
}

pub loop-property-preserved : goal.loop-property-preserved
loop-property-preserved c = record {
  places = c.in_ok-place_property.ensures.places;
  made = c.in_ok-place_property.ensures.namespaces
      ∙ (ap (placed_property c.in-Some.property) c.loop-property.invariant.made
      ∙ sym (one_property_more c.loop-property.yielded c.in-Some.property));
}
