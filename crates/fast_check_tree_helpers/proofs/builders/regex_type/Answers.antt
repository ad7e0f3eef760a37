use Rattle.std.proofs.Common.{rules}
use Rattle.fast_check_tree_helpers.proofs.builders.regex_type.Goals as goal

pub returns-in_err-from_str : goal.returns-in_err-from_str
returns-in_err-from_str c = search rules

pub returns : goal.returns
returns c = search rules
