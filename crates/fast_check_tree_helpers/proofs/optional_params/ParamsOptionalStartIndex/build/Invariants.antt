use Rattle.std.proofs.Common.{map, length}
use Rattle.fast_check_tree_syntax.specs.Part.{seen}
use Rattle.fast_check_tree_helpers.specs.OptionalParams.{IsPlace, IsOptionalStart}
use Rattle.fast_check_tree_helpers.proofs.optional_params.ParamsOptionalStartIndex.build.Given as goal

abbrev pub invariant-loop-pat : goal.invariant-loop-pat
invariant-loop-pat g l = record {
  can_next : (goal.iterator-loop-pat g).can_next l.pat-iterator;
  is_finite : (goal.iterator-loop-pat g).is_finite l.pat-iterator;
  place : IsPlace l.place (length (map seen l.yielded));
  start : IsOptionalStart l.start (map seen l.yielded);
}
