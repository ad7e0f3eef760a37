use Rattle.std.proofs.Common.{rules}
use Rattle.std.proofs.lemmas.Result.{IfOk-weaker, IfErr-weaker, on_ok_weaker}
use Rattle.fast_check_tables_graph.specs.Root.{IsRootOf, IsRootFault}
use Rattle.fast_check_program_requests.specs.build_requests.Root.{IsRootOfParts, IsBuildFault}
use Rattle.fast_check_program_requests.proofs.build_requests.Named.{first_fault, root_of, own_names, root_fault}
use Rattle.fast_check_program_requests.proofs.build_requests.root.root_symbol_of.Goals as goal

pub returns-in_err-modules_of-clause-fault : goal.returns-in_err-modules_of-clause-fault
returns-in_err-modules_of-clause-fault c =
    let diagnosed = first_fault c.args.modules.items c.in_err-modules_of.field-0.0 c.in_err-modules_of.ensures.fault in
    search (rules, diagnosed)

pub returns-clause-made : goal.returns-clause-made
returns-clause-made c =
    IfOk-weaker c.new.result (IsRootOf c.in_ok-modules.modules c.in_ok-aliases.aliases)
    (IsRootOfParts c.args.modules.items c.args.aliases.items)
    (root_of c.args.modules.items c.in_ok-modules_of.field-0.items c.in_ok-modules_of.ensures.made c.in_ok-modules.modules
    c.in_ok-modules.ensures c.args.aliases.items c.in_ok-aliases.aliases c.in_ok-aliases.ensures.got) c.new.ensures.made

pub returns-clause-own_names : goal.returns-clause-own_names
returns-clause-own_names c =
    on_ok_weaker c.new.result
    (own_names c.args.modules.items c.in_ok-modules_of.field-0.items c.in_ok-modules_of.ensures.made c.in_ok-modules.modules
    c.in_ok-modules.ensures) c.new.ensures.own_names

pub returns-clause-fault : goal.returns-clause-fault
returns-clause-fault c =
    IfErr-weaker c.new.result (IsRootFault c.in_ok-modules.modules) (IsBuildFault c.args.modules.items)
    (root_fault c.args.modules.items c.in_ok-modules_of.field-0.items c.in_ok-modules_of.ensures.made c.in_ok-modules.modules
    c.in_ok-modules.ensures) c.new.ensures.fault
