use Rattle.std.proofs.Common.{rules}
use Rattle.fast_check_tree_helpers.proofs.builders.ts_lit_type.Goals as goal

pub returns : goal.returns
returns c = search rules
