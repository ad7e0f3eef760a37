use Rattle.std.proofs.Common.{take}
use Rattle.fast_check_tables_symbols.specs.Members.{IsNumberIndex}
use Rattle.fast_check_tables_symbols.proofs.members.number_index.Given as goal

abbrev pub invariant-loop-member : goal.invariant-loop-member
invariant-loop-member l = IsNumberIndex l.symbols l.namesakes (take l.member-index l.members) l.index
