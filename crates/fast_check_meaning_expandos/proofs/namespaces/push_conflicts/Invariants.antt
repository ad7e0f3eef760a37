use Rattle.std.proofs.Common.{map, take}
use Rattle.fast_check_meaning_signatures.specs.Answers.{answer_of}
use Rattle.fast_check_meaning_expandos.specs.Expandos.{conflict_seen}
use Rattle.fast_check_meaning_expandos.specs.Merged.{Extends}
use Rattle.fast_check_meaning_expandos.proofs.namespaces.push_conflicts.Given as goal

abbrev pub invariant-loop-reference : goal.invariant-loop-reference
invariant-loop-reference l =
    Extends (answer_of
    (map (conflict_seen l.object)
    (take l.reference-index l.reference-items))) l.initial.items l.items l.initial.faults.items l.faults.items
