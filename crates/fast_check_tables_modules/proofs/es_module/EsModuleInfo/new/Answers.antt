use Rattle.fast_check_tables_modules.proofs.es_module.EsModuleInfo.new.Goals as goal

pub returns-clause-tables : goal.returns-clause-tables
returns-clause-tables c = c.in_ok-tables.ensures.tables

pub returns-clause-well_formed : goal.returns-clause-well_formed
returns-clause-well_formed c = c.in_ok-tables.ensures.well_formed

pub invariant_of-result : goal.invariant_of-result
invariant_of-result c = c.in_ok-tables.ensures.read
