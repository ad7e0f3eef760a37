use Rattle.std.proofs.Common.{◌≡◌, ◌++◌}
use Rattle.std.specs.List.{flat_map}
use Rattle.fast_check_meaning_signatures.specs.Answers.{answer_of}
use Rattle.fast_check_meaning_expandos.specs.Expandos.{namespaces_seen}
use Rattle.fast_check_meaning_expandos.specs.Merged.{merged_seen}
use Rattle.fast_check_meaning_expandos.proofs.namespaces.keep_namespaces.Given as goal

abbrev pub invariant-loop-object : goal.invariant-loop-object
invariant-loop-object l = record {
  items : l.items ++ (answer_of (flat_map merged_seen l.object-iterator.rest.items)).stays ≡
      (answer_of (namespaces_seen l.fn.properties.items)).stays;
  faults : l.faults.items ++ (answer_of (flat_map merged_seen l.object-iterator.rest.items)).faults ≡
      l.initial.faults.items ++ (answer_of (namespaces_seen l.fn.properties.items)).faults;
}
