use Rattle.std.proofs.Common.{◌∙◌, sym, ap, cond, get_or, Option, Some, None}
use Rattle.std.specs.Option.{option_or}
use Rattle.std.proofs.lemmas.Option.{get_or_from_slice_get, slice_get-get_or}
use Rattle.fast_check_tables_symbols.specs.declared.symbol.Symbol.{Symbol}
use Rattle.fast_check_tables_symbols.specs.Exports.{export_named}
use Rattle.fast_check_tables_symbols.specs.Members.{symbol_is_named}
use Rattle.fast_check_tables_symbols.proofs.Named.{index_more}
use Rattle.fast_check_tables_symbols.proofs.members.name_index.Goals as goal

pub loop-id-preserved : goal.loop-id-preserved
loop-id-preserved c =
    let ids = c.args.ids.now in
    let i = c.loop-id.id-index in
    let id = get_or ids i (record { 0 = 0 }) in
    index_more c.args.symbols.now ids i id c.loop-id.index c.put_symbol.new.index c.loop-id-test.true
    (sym (get_or_from_slice_get ids i id id (slice_get-get_or ids i (record { 0 = 0 }) c.loop-id-test.true)))
    (λ name. c.in_ok-put_symbol.ensures name
    ∙ ap (λ (o : Option Symbol). option_or (export_named name c.loop-id.index)
    (cond (symbol_is_named name o) (Some id) None)) c.get.ensures)
    c.loop-id.invariant
