use Rattle.std.proofs.Common.{rules}
use Rattle.fast_check_tree_helpers.proofs.template_type.tpl_to_ts_type.Goals as goal

pub returns-in-Const-empty : goal.returns-in-Const-empty
returns-in-Const-empty c = search rules
