-- What the tests of expando statements say of tables beside a program.
use Rattle.std.proofs.Common.{◌≡◌, ◌∙◌, sym, ap, refl, subst, ℕ, Bool, true, false, not, ◌==◌, List, ◌∷◌, ◌++◌, IsTrue, ◌↔◌}
use Rattle.std.specs.Prelude.{is_some, IsSome}
use Rattle.std.specs.List.{list_any, Contains}
use Rattle.std.specs.Option.{option_and_then}
use Rattle.std.specs.Cmp.{nat_eq_equiv, and_equiv, on_equiv, IsEquivalence, unsigned_Decides}
use Rattle.std.proofs.lemmas.Map.Views.{list_any-from_Contains, Contains-from_any}
use Rattle.fast_check_tree_syntax.specs.declared.atom.Id.{Id}
use Rattle.fast_check_tree_syntax.specs.declared.source.SourceRange.{SourceRange}
use Rattle.fast_check_tree_syntax.specs.declared.tree.Tree.{Tree}
use Rattle.fast_check_tables_symbols.specs.declared.symbol.Symbol.{Symbol}
use Rattle.fast_check_tables_symbols.specs.Entries.{last_value}
use Rattle.fast_check_tables_symbols.specs.Symbols.{symbol_of}
use Rattle.fast_check_tables_diagnostics.specs.PublicRanges.{PublicRanges, same_range}
use Rattle.fast_check_tables_symbols.specs.declared.tables.ModuleTables.{ModuleTables}
use Rattle.fast_check_tables_symbols.specs.declared.tables.ReExportAllNode.{ReExportAllNode}
use Rattle.fast_check_tables_modules.specs.Expandos.{expandos}
use Rattle.fast_check_tables_symbols.specs.Tables.{Tables, same_id, symbol_of_swc, table_ranges}
use Rattle.fast_check_tables_symbols.specs.WellFormed.{AreMadeOf, AreWellFormed, symbols_of, bound_symbol}
use Rattle.fast_check_tables_modules.specs.FitProgram.{HasUnboundExpando, IsModuleFault}
use Rattle.fast_check_tables_symbols.specs.declared.fault.TableFault.{TableFault}
use Rattle.fast_check_tables_symbols.specs.declared.fault.TableFault.TheVariants.{MissingSymbol, SymbolWithoutDecl, ModuleNotUnderOwnName}
use Rattle.fast_check_tables_symbols.specs.declared.fault.TableFault.TheVariants.{ExpandoWithoutSymbol, OutOfMemory}
use Rattle.fast_check_tables_modules.specs.EsModule.{EsModule, Admits, BindsOwnRanges, AreOwnRanges, IsUnboundFault, is_ranged_unbound}
use Rattle.fast_check_tables_modules.specs.EsModule.{is_public_unbound}
use Rattle.fast_check_tables_symbols.proofs.Witness.{witness, none_of, is_none_of, none_is, and_left, and_right, and_both}

-- ranges that are the same are one
range_of : ℕ → ℕ → SourceRange
range_of a b = record { start = record { 0 = a }; end = record { 0 = b } }

same_number : (a b : ℕ) → (a == b) ≡ true → a ≡ b
same_number a b e = (unsigned_Decides a b).0 e

pub exact_range : (a b : SourceRange) → same_range a b ≡ true → a ≡ b
unfolding range_of
exact_range a b e =
    ap (λ n. range_of n a.end.0) (same_number a.start.0 b.start.0 (and_left _ _ e))
    ∙ ap (λ n. range_of b.start.0 n) (same_number a.end.0 b.end.0 (and_right _ _ e))

range_equiv : IsEquivalence same_range
range_equiv = and_equiv (on_equiv (λ a. a.start.0) nat_eq_equiv) (on_equiv (λ a. a.end.0) nat_eq_equiv)

same_bound : (t : ModuleTables) (made : Tables) → AreMadeOf t made → (id : Id) → symbol_of_swc made id ≡ bound_symbol t id
same_bound t made h id =
    ap (λ o. option_and_then (λ s. symbol_of s made.symbols) o) (h.swc_ids id)
    ∙ ap (λ (ss : List Symbol). option_and_then (λ s. symbol_of s ss) (last_value (same_id id) t.swc_ids.items)) h.symbols

same_ranges : (t : ModuleTables) (made : Tables) → AreMadeOf t made
    → table_ranges made.symbols made.re_exports ≡ table_ranges (symbols_of t) t.re_export_all_nodes.items
same_ranges t made h =
    ap (λ (ss : List Symbol). table_ranges ss made.re_exports) h.symbols
    ∙ ap (λ (ns : List ReExportAllNode). table_ranges (symbols_of t) ns) h.re_exports

pub unbound : (t : ModuleTables) (made : Tables) (program : Tree) → AreMadeOf t made
    → list_any (is_ranged_unbound made) (expandos program) ≡ true → HasUnboundExpando t program
unbound t made program h e = let w = witness (is_ranged_unbound made) (expandos program) e in
    record {
      expando = w.0;
      among = w.1;
      ranged =
          subst (λ (rs : List SourceRange). Contains rs w.0.range) (same_ranges t made h)
          (Contains-from_any exact_range w.0.range (table_ranges made.symbols made.re_exports) (and_left _ _ w.2));
      unbound = sym (same_bound t made h w.0.object) ∙ is_none_of (symbol_of_swc made w.0.object) (and_right _ _ w.2);
    }

-- nothing is and is not
apart : (b : Bool) → b ≡ true → not b ≡ true → ⊥
apart true s n = let f : false ≡ true = n in cc
apart false s n = cc

pub expandos_bound : (t : ModuleTables) (made : Tables) (program : Tree) → AreMadeOf t made → BindsOwnRanges made program →
    HasUnboundExpando t program → ⊥
expandos_bound t made program h bound u =
    let object = symbol_of_swc made u.expando.object in
    let ranged = subst (λ (rs : List SourceRange). Contains rs u.expando.range) (sym (same_ranges t made h)) u.ranged in
    apart (is_some object) (bound u.expando u.among ranged) (none_is object (same_bound t made h u.expando.object ∙ u.unbound))

-- the fault of expando statements is one of the module
pub unbound_fault : (t : ModuleTables) (made : Tables) (program : Tree) → AreMadeOf t made → AreWellFormed t → (fault : TableFault)
    → IsUnboundFault made program fault → IsModuleFault t program fault
unbound_fault t made program h w MissingSymbol f = absurd f
unbound_fault t made program h w SymbolWithoutDecl f = absurd f
unbound_fault t made program h w ModuleNotUnderOwnName f = f
unbound_fault t made program h w ExpandoWithoutSymbol f =
    (w.mentioned_have_symbols, w.symbols_have_declarations, unbound t made program h f)
unbound_fault t made program h w OutOfMemory f = f

-- each expando statement with a public range has an object with a symbol
pub admitted : (m : EsModule) (p : PublicRanges) → list_any (is_public_unbound m.tables p) (expandos m.source.program) ≡ false → Admits m p
admitted m p none e among public = go (is_some (symbol_of_swc m.tables e.object)) refl
  where
    go : (b : Bool) → is_some (symbol_of_swc m.tables e.object) ≡ b → IsSome (symbol_of_swc m.tables e.object)
    go true h = h
    go false h = absurd (none_of (is_public_unbound m.tables p) (expandos m.source.program) e none among (and_both _ _ public (ap not h)))

pub admits_none : (m : EsModule) (p : PublicRanges) → Admits m p →
    list_any (is_public_unbound m.tables p) (expandos m.source.program) ≡ true → ⊥
admits_none m p h e =
    let w = witness (is_public_unbound m.tables p) (expandos m.source.program) e in
    let some : is_some (symbol_of_swc m.tables w.0.object) ≡ true = h w.0 w.1 (and_left _ _ w.2) in
    let none : not (is_some (symbol_of_swc m.tables w.0.object)) ≡ true = and_right _ _ w.2 in
    apart _ some none

pub admits_when : (m : EsModule) (p : PublicRanges) (b : Bool) → b ≡ list_any (is_public_unbound m.tables p) (expandos m.source.program)
    → IsTrue (not b) ↔ Admits m p
admits_when m p false e = (λ _. admitted m p (sym e), λ _. refl)
admits_when m p true e = (λ n. absurd (let f : false ≡ true = n in cc), λ h. absurd (admits_none m p h (sym e)))

pub own_admitted : (m : EsModule) (p : PublicRanges) (b : Bool) → b ≡ list_any (is_public_unbound m.tables p) (expandos m.source.program)
    → BindsOwnRanges m.tables m.source.program → AreOwnRanges m.tables p → IsTrue (not b)
own_admitted m p b e bound own = (admits_when m p b e).1 (λ x among shown. bound x among (own x.range shown))

-- no expando statement without symbol has a range of the tables
pub binds_own : (t : Tables) (program : Tree) → list_any (is_ranged_unbound t) (expandos program) ≡ false → BindsOwnRanges t program
binds_own t program none e among ranged = go (is_some (symbol_of_swc t e.object)) refl
  where
    go : (b : Bool) → is_some (symbol_of_swc t e.object) ≡ b → IsSome (symbol_of_swc t e.object)
    go true h = h
    go false h =
        absurd (none_of (is_ranged_unbound t) (expandos program) e none among
        (and_both _ _ (list_any-from_Contains range_equiv e.range (table_ranges t.symbols t.re_exports) ranged) (ap not h)))
