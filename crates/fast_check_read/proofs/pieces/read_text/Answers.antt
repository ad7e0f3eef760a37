use Rattle.std.proofs.Common.{rules}
use Rattle.fast_check_read.proofs.pieces.read_text.Goals as goal

pub returns-clause-text : goal.returns-clause-text
returns-clause-text c = search rules

pub returns-clause-err : goal.returns-clause-err
returns-clause-err c = search rules
