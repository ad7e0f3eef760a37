use Rattle.std.proofs.Common.{refl, inr, subst, Bool, List, ℕ, false}
use Rattle.fast_check_program_requests.specs.declared.refusal.Refusal.TheVariants as refusals
use Rattle.fast_check_program_requests.proofs.program.run_commands.Goals as goal

pub returns-else-write_line-clause-refusal : goal.returns-else-write_line-clause-refusal
returns-else-write_line-clause-refusal g c =
    let answer = c.in-Ok.answer in
    let takes = g.O.LineWriter.takes in
    let refused : takes c.args.out.now answer.line.items false c.write_line.new.self =
    subst (λ (line : List ℕ). takes c.args.out.now line false c.write_line.new.self) c.as_slice.ensures.value
    (subst (λ (taken : Bool). takes c.args.out.now c.as_slice.result.now taken c.write_line.new.self) c.if-write_line.false
    c.write_line.ensures) in
    λ status. (refusals.Unwritable, c.write_line-in-Ok.ensures, inr (refl, (answer.line.items, answer.status, refused, c.in-Ok.ensures.answer)))
