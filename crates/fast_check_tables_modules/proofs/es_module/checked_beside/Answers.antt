use Rattle.fast_check_tables_modules.proofs.FaultsFound.{expandos_bound, unbound_fault}
use Rattle.fast_check_tables_modules.proofs.es_module.checked_beside.Goals as goal

pub returns-in-Ok-clause-tables : goal.returns-in-Ok-clause-tables
returns-in-Ok-clause-tables c = c.in_ok-tables.ensures.made

pub returns-in-Ok-clause-read : goal.returns-in-Ok-clause-read
returns-in-Ok-clause-read c = c.in-Ok.ensures.bound

pub returns-in-Ok-clause-well_formed : goal.returns-in-Ok-clause-well_formed
returns-in-Ok-clause-well_formed c =
    let tables = c.in_ok-tables.ensures in
    record {
      well_formed = tables.well_formed;
      expandos_are_bound = expandos_bound c.args.tables c.in_ok-tables.tables c.args.program.now tables.made c.in-Ok.ensures.bound.bound;
    }

pub returns-in-Err-clause-fault : goal.returns-in-Err-clause-fault
returns-in-Err-clause-fault c =
    let tables = c.in_ok-tables.ensures in
    unbound_fault c.args.tables c.in_ok-tables.tables c.args.program.now tables.made tables.well_formed c.in-Err.fault
    c.in-Err.ensures.fault
