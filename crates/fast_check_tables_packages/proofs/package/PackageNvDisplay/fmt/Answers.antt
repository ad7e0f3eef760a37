use Rattle.std.proofs.Common.{rules}
use Rattle.fast_check_tables_packages.proofs.package.PackageNvDisplay.fmt.Goals as goal

pub returns-clause-writes : goal.returns-clause-writes
returns-clause-writes g c = search rules
