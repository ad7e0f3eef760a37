use Rattle.std.proofs.Common.{replicate}
use Rattle.json.specs.Token.{end_object}
use Rattle.fast_check_print.specs.Writing.{Adds}
use Rattle.fast_check_print.proofs.variants.close_variants.Given as goal

-- so many brackets so far
abbrev pub invariant-loop : goal.invariant-loop
invariant-loop l = Adds (replicate l.counter end_object) l.fn.out l.out
