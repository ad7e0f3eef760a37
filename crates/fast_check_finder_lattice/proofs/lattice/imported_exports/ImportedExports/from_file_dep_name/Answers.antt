use Rattle.std.proofs.Common.{rules}
use Rattle.fast_check_finder_lattice.proofs.lattice.imported_exports.ImportedExports.from_file_dep_name.Goals as goal

pub returns-in-Star : goal.returns-in-Star
returns-in-Star c = search rules
