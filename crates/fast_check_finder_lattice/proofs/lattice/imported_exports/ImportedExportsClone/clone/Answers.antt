use Rattle.std.proofs.Common.{rules}
use Rattle.fast_check_finder_lattice.proofs.lattice.imported_exports.ImportedExportsClone.clone.Goals as goal

pub returns-in_err-clone-in-Subset : goal.returns-in_err-clone-in-Subset
returns-in_err-clone-in-Subset c = search rules

pub returns-in-Star : goal.returns-in-Star
returns-in-Star c = search rules

pub returns-in-StarWithDefault : goal.returns-in-StarWithDefault
returns-in-StarWithDefault c = search rules

pub returns-in_ok-clone-in-Subset : goal.returns-in_ok-clone-in-Subset
returns-in_ok-clone-in-Subset c = search rules
