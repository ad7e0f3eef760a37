use Rattle.std.proofs.Common.{map, take, string_bytes}
use Rattle.fast_check_finder_ranges.specs.entries.Joined.{AreJoined}
use Rattle.fast_check_finder_ranges.proofs.entries.joined.join_all.Given as goal

abbrev pub invariant-loop-text : goal.invariant-loop-text
invariant-loop-text l = AreJoined l.base (map string_bytes (take l.text-index l.exports)) l.texts l.urls
