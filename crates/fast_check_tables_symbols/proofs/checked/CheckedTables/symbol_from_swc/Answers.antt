use Rattle.std.proofs.Common.{◌∙◌, sym, ap, Option}
use Rattle.std.specs.Option.{option_copied, option_and_then}
use Rattle.fast_check_tables_symbols.specs.declared.symbol_id.SymbolId.{SymbolId}
use Rattle.fast_check_tables_symbols.specs.Symbols.{symbol_of}
use Rattle.fast_check_tables_symbols.proofs.Alike.{lookup_alike, ids_tie}
use Rattle.fast_check_tables_symbols.proofs.checked.CheckedTables.symbol_from_swc.Goals as goal

pub returns-in_err-symbol : goal.returns-in_err-symbol
returns-in_err-symbol c =
    let es = c.self.inside.swc_ids.entries in
    let found = c.get.ensures.value ∙ lookup_alike _ _ es (λ k. sym (ids_tie c.args.id.now k)) in
    rw (c.from_residual.ensures, ← c.self.view_is)
    (sym (ap (λ (o : Option SymbolId). option_and_then (λ s. symbol_of s c.self.inside.symbols) o)
    (sym found ∙ ap option_copied c.in_err-symbol.was)))

pub returns : goal.returns
returns c =
    let es = c.self.inside.swc_ids.entries in
    let found = c.get.ensures.value ∙ lookup_alike _ _ es (λ k. sym (ids_tie c.args.id.now k)) in
    rw (← c.self.view_is) (c.get-2.ensures
    ∙ sym (ap (λ (o : Option SymbolId). option_and_then (λ s. symbol_of s c.self.inside.symbols) o)
    (sym found ∙ ap option_copied c.in_ok-symbol.was)))
