use Rattle.std.proofs.Common.{refl}
use Rattle.fast_check_program_commands.proofs.program.run.Goals as goal

pub returns-clause-usage : goal.returns-clause-usage
returns-clause-usage g c = λ h. let told = c.run_commands.ensures.usage h in (c.run_commands.result, refl, told.0, told.1)

pub returns-clause-answer : goal.returns-clause-answer
returns-clause-answer g c = λ h. let answered = c.run_commands.ensures.answer h in (c.run_commands.result, refl, answered.0, answered.1)

pub returns-clause-refusal : goal.returns-clause-refusal
returns-clause-refusal g c = λ h. (c.run_commands.result, refl, c.run_commands.ensures.refusal h)
