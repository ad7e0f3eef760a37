use Rattle.std.proofs.Common.{rules}
use Rattle.fast_check_tables_packages.proofs.package.WorkspaceMember.as_nv.Goals as goal

pub returns-in_err-version-in-Some : goal.returns-in_err-version-in-Some
returns-in_err-version-in-Some c = search rules

pub returns-in_err-from_str : goal.returns-in_err-from_str
returns-in_err-from_str c = search rules

pub returns : goal.returns
returns c = search rules
