use Rattle.std.proofs.Common.{rules}
use Rattle.fast_check_transform_statements.proofs.declarations.retyped.Goals as goal

pub returns : goal.returns
returns c = search rules
