use Rattle.std.proofs.Common.{◌∙◌, sym, subst, ℕ, List, Option}
use Rattle.std.specs.Slice.{IsItemAt}
use Rattle.fast_check_tables_symbols.specs.declared.symbol.Symbol.{Symbol}
use Rattle.fast_check_tables_symbols.specs.Symbols.{has_id, symbol_of}
use Rattle.fast_check_tables_symbols.proofs.Last.{IsFound, last_found}
use Rattle.fast_check_tables_symbols.proofs.Indexed.{got, got_none}
use Rattle.fast_check_tables_symbols.proofs.table.SymbolTable.get.Goals as goal

pub returns-in_err-place : goal.returns-in_err-place
returns-in_err-place c =
    let xs = c.args.self.now in
    rw c.from_residual.ensures
    (got_none xs (symbol_of c.args.id xs)
    (subst (λ (p : Option ℕ). IsFound xs (symbol_of c.args.id xs) p) (sym c.place.ensures ∙ c.in_err-place.was)
    (last_found (has_id c.args.id) xs)))

pub returns : goal.returns
returns c =
    let xs = c.args.self.now in
    let i = c.in_ok-place.place in
    got xs i (symbol_of c.args.id xs) c.get.result
    (subst (λ (p : Option ℕ). IsFound xs (symbol_of c.args.id xs) p) (sym c.place.ensures ∙ c.in_ok-place.was)
    (last_found (has_id c.args.id) xs))
    (subst (λ (ys : List Symbol). IsItemAt ys i c.get.result) (c.deref.ensures.value ∙ c.self.view_is) c.get.ensures.lookup)
