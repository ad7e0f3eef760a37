use Rattle.std.proofs.Common.{rules}
use Rattle.fast_check_tables_packages.proofs.package.PackageNvOrd.cmp.Goals as goal

pub returns-in-Equal : goal.returns-in-Equal
returns-in-Equal c = search rules

pub returns-in_default : goal.returns-in_default
returns-in_default c = search rules
