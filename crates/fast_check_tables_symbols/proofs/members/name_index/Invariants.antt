use Rattle.std.proofs.Common.{take}
use Rattle.fast_check_tables_symbols.specs.Members.{IsNameIndex}
use Rattle.fast_check_tables_symbols.proofs.members.name_index.Given as goal

abbrev pub invariant-loop-id : goal.invariant-loop-id
invariant-loop-id l = IsNameIndex l.symbols (take l.id-index l.ids) l.index
