use Rattle.std.proofs.Common.{rules, arith, refl}
use Rattle.fast_check_tables_modules.specs.symbols.declared.fault.TableFault.{TableFault}
use Rattle.fast_check_tables_modules.specs.symbols.declared.fault.TableFault.TheVariants.{OutOfMemory}
use Rattle.fast_check_program_requests.specs.build_requests.Modules.{IsFaultOf}
use Rattle.fast_check_program_requests.proofs.build_requests.Turns.{begins, goes_on, fails, wants_memory, lacks_room, ends}
use Rattle.fast_check_program_requests.proofs.build_requests.modules.modules_of.Goals as goal

pub loop-name-init : goal.loop-name-init
loop-name-init c =
    begins c.args.modules.items c.into_iter-name-iterator.result.rest.items c.in_ok-made.made.items
    c.into_iter-name-iterator.ensures.into_iter_gives.0 c.in_ok-made.ensures.items

pub returns-in_err-made-clause-fault : goal.returns-in_err-made-clause-fault
returns-in_err-made-clause-fault c =
    let first = lacks_room c.args.modules.items (λ none.
    c.in_err-made.ensures.succeeds (omega (arith, c.len.ensures, c.args.modules.ok.0, none))) in
    search (rules, first)

pub returns-in_err-module-clause-fault : goal.returns-in_err-module-clause-fault
returns-in_err-module-clause-fault c =
    let first = λ (f : TableFault) (h : IsFaultOf c.in-Some.parts f).
    fails c.args.modules.items c.loop-name.name-iterator.rest.items c.loop-name.made.items
    (c.in-Some.name, c.in-Some.parts) c.next.new.self.rest.items f c.loop-name.invariant c.in-Some.ensures.steps.0 h in
    search (rules, first)

pub loop-name-preserved : goal.loop-name-preserved
loop-name-preserved c =
    goes_on c.args.modules.items c.loop-name.name-iterator.rest.items c.loop-name.made.items (c.in-Some.name, c.in-Some.parts)
    c.next.new.self.rest.items (c.in-Some.name, c.in_ok-module.module) c.push.new.self.items c.loop-name.invariant c.in-Some.ensures.steps.0
    (record { name = refl; sound = c.in_ok-module.ensures.sound; made = c.in_ok-module.ensures.made }) c.in_ok-push.ensures.items

pub returns-in_err-push-clause-fault : goal.returns-in_err-push-clause-fault
returns-in_err-push-clause-fault c =
    let first = fails c.args.modules.items c.loop-name.name-iterator.rest.items c.loop-name.made.items (c.in-Some.name, c.in-Some.parts)
    c.next.new.self.rest.items OutOfMemory c.loop-name.invariant c.in-Some.ensures.steps.0 (wants_memory c.in-Some.parts) in
    search (rules, first)

pub returns-clause-made : goal.returns-clause-made
returns-clause-made c =
    ends c.args.modules.items c.loop-name.name-iterator.rest.items c.loop-name.made.items c.loop-name.invariant
    (omega (arith, c.loop-name.name-iterator.rest.ok.0, c.in-None.ensures.steps.0))
