use Rattle.std.proofs.Common.{◌≡◌}
use Rattle.fast_check_meaning_expandos.specs.FirstPlaces.{HasObjects}
use Rattle.fast_check_meaning_expandos.specs.Merged.{namespaces}
use Rattle.fast_check_meaning_expandos.proofs.namespaces.namespaces_of.Given as goal

abbrev pub invariant-loop-property : goal.invariant-loop-property
invariant-loop-property l = record {
  places : HasObjects l.places l.made.items;
  made : l.made.items ≡ namespaces l.yielded;
}
