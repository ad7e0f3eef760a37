use Rattle.std.proofs.Common.{◌∙◌, sym}
use Rattle.fast_check_tables_symbols.proofs.EntriesMissed.{entry_missed, entry_not_missed}
use Rattle.fast_check_tables_symbols.proofs.faults.exports_miss.Goals as goal

pub returns-then-export_misses : goal.returns-then-export_misses
returns-then-export_misses c =
    entry_missed c.args.symbols.now c.args.exports.now c.loop-place.place (sym c.export_misses.ensures ∙ c.if-export_misses.true)

pub loop-place-preserved : goal.loop-place-preserved
loop-place-preserved c =
    entry_not_missed c.args.symbols.now c.args.exports.now c.loop-place.place c.loop-place.invariant
    (sym c.export_misses.ensures ∙ c.if-export_misses.false)
