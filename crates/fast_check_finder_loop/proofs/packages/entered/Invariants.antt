use Rattle.std.proofs.Common.{map}
use Rattle.fast_check_finder_loop.specs.Finder.{entered_nv}
use Rattle.fast_check_finder_loop.specs.Once.{AreApart}
use Rattle.fast_check_finder_loop.specs.Packages.{IsEntered}
use Rattle.fast_check_finder_loop.proofs.packages.entered.Given as goal

abbrev pub invariant-loop-nv : goal.invariant-loop-nv
invariant-loop-nv l = AreApart (map entered_nv l.fn.entrances.items) → IsEntered l.yielded l.found.entries
