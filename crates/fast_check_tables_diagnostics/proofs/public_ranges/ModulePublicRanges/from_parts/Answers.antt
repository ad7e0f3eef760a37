use Rattle.std.proofs.Common.{rules}
use Rattle.fast_check_tables_diagnostics.proofs.public_ranges.ModulePublicRanges.from_parts.Goals as goal

pub returns-in_err-range_set-clause-public : goal.returns-in_err-range_set-clause-public
returns-in_err-range_set-clause-public c = search rules

pub returns-in_err-range_set-clause-implementations :
    goal.returns-in_err-range_set-clause-implementations
returns-in_err-range_set-clause-implementations c = search rules

pub returns-in_err-range_set-clause-diagnostics : goal.returns-in_err-range_set-clause-diagnostics
returns-in_err-range_set-clause-diagnostics c = search rules

pub returns-in_err-range_set-2-clause-public : goal.returns-in_err-range_set-2-clause-public
returns-in_err-range_set-2-clause-public c = search rules

pub returns-in_err-range_set-2-clause-implementations :
    goal.returns-in_err-range_set-2-clause-implementations
returns-in_err-range_set-2-clause-implementations c = search rules

pub returns-in_err-range_set-2-clause-diagnostics :
    goal.returns-in_err-range_set-2-clause-diagnostics
returns-in_err-range_set-2-clause-diagnostics c = search rules

pub returns-clause-public : goal.returns-clause-public
returns-clause-public c = search rules

pub returns-clause-implementations : goal.returns-clause-implementations
returns-clause-implementations c = search rules

pub returns-clause-diagnostics : goal.returns-clause-diagnostics
returns-clause-diagnostics c = search rules
