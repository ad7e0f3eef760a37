use Rattle.fast_check_program_requests.proofs.build_requests.Turns.{Goes}
use Rattle.fast_check_program_requests.proofs.build_requests.modules.modules_of.Given as goal

abbrev pub invariant-loop-name : goal.invariant-loop-name
invariant-loop-name l = Goes l.fn.modules.items l.name-iterator.rest.items l.made.items
