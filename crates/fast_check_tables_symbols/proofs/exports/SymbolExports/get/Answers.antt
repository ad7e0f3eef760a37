use Rattle.std.proofs.Common.{◌∙◌, sym, refl, ap, map, Option, option_map}
use Rattle.std.specs.Borrow.{Bor}
use Rattle.fast_check_tables_symbols.proofs.Seen.{Entry, seen, placed, read, unread}
use Rattle.fast_check_tables_symbols.proofs.exports.SymbolExports.get.Goals as goal

pub returns-in_err-place : goal.returns-in_err-place
returns-in_err-place c =
    rw (← c.self.view_is) (c.from_residual.ensures
    ∙ unread c.args.name.now (map seen c.self.inside.entries.items)
    (placed refl c.self.invariant c.get.ensures.value c.copied.ensures ∙ c.in_err-place.was))

pub returns-in_err-entry : goal.returns-in_err-entry
returns-in_err-entry c =
    rw (← c.self.view_is) (c.from_residual-in_err-entry.ensures
    ∙ (ap (λ (r : Option (Bor Entry)). option_map (λ e. e.now.1) r) (sym c.in_err-entry.was)
    ∙ read c.args.name.now c.self.inside.entries.items c.in_ok-place.place c.get-2.result
    (placed refl c.self.invariant c.get.ensures.value c.copied.ensures ∙ c.in_ok-place.was)
    (rw (← c.deref.ensures.value) c.get-2.ensures.lookup)))

pub returns : goal.returns
returns c =
    rw (← c.self.view_is)
    (ap (λ (r : Option (Bor Entry)). option_map (λ e. e.now.1) r) (sym c.in_ok-entry.was)
    ∙ read c.args.name.now c.self.inside.entries.items c.in_ok-place.place c.get-2.result
    (placed refl c.self.invariant c.get.ensures.value c.copied.ensures ∙ c.in_ok-place.was)
    (rw (← c.deref.ensures.value) c.get-2.ensures.lookup))
