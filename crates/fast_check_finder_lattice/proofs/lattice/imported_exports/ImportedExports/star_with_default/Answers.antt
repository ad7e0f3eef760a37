use Rattle.std.proofs.Common.{rules}
use Rattle.fast_check_finder_lattice.proofs.lattice.imported_exports.ImportedExports.star_with_default.Goals as goal

pub returns : goal.returns
returns c = search rules
