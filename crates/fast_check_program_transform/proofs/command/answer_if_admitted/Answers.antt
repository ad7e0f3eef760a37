use Rattle.std.proofs.Common.{rules}
use Rattle.fast_check_program_transform.proofs.command.answer_if_admitted.Goals as goal

pub returns-clause-answer : goal.returns-clause-answer
returns-clause-answer c = search rules
