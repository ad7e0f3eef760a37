use Rattle.std.proofs.Common.{◌≡◌, ℕ, ◌+◌, List, ◌++◌, length}
use Rattle.std.specs.Io.KnownBytes.{Appends}
use Rattle.fast_check_program_requests.proofs.lines.write_front.Given as goal

abbrev pub invariant-writes : goal.invariant-writes
invariant-writes g l =
    (done : List ℕ) × (l.initial.rest ≡ done ++ l.rest) × Appends (g.W.Write.contents l.initial.writer) (g.W.Write.contents l.writer) done

abbrev pub decreases-writes : goal.decreases-writes
decreases-writes g l = length l.rest + l.tries
