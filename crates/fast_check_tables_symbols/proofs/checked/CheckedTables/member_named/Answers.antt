use Rattle.std.proofs.Common.{◌∙◌, sym, Some, None}
use Rattle.fast_check_tables_symbols.proofs.Named.{found_by_place}
use Rattle.fast_check_tables_symbols.proofs.checked.CheckedTables.member_named.Goals as goal

pub returns-in_err-place : goal.returns-in_err-place
returns-in_err-place c =
    rw (c.from_residual.ensures, ← c.self.view_is)
    (found_by_place c.self.inside.symbols c.self.inside.members c.args.id c.args.name.now None
    (sym c.place.ensures ∙ c.in_err-place.was)
    c.self.invariant)

pub returns : goal.returns
returns c =
    rw (← c.self.view_is)
    (c.get.ensures
    ∙ found_by_place c.self.inside.symbols c.self.inside.members c.args.id c.args.name.now (Some c.in_ok-place.place)
    (sym c.place.ensures ∙ c.in_ok-place.was)
    c.self.invariant)
