-- The exports whose symbols are looked for one after another.
use Rattle.std.proofs.Common.{◌≡◌, sym, refl, subst, ℕ, zero, suc, ◌+◌, Bool, true, false, ◌||◌, List, [], ◌∷◌, Option, Some, None, take}
use Rattle.std.proofs.Common.{add-one}
use Rattle.std.specs.Prelude.{slice_get}
use Rattle.std.specs.List.{list_any}
use Rattle.std.specs.Map.{values_of}
use Rattle.std.proofs.lemmas.Option.{slice_get_within, get_or_from_slice_get}
use Rattle.fast_check_tables_symbols.specs.declared.symbol_id.SymbolId.{SymbolId}
use Rattle.fast_check_tables_symbols.specs.declared.symbol.Symbol.{Symbol}
use Rattle.fast_check_tables_symbols.specs.Faults.{is_missing, is_missing_entry}
use Rattle.fast_check_tables_symbols.proofs.Witness.{found_value_at}

missed_at : (symbols : List Symbol) (es : List (List ℕ × SymbolId)) (i : ℕ) (o : Option (List ℕ × SymbolId)) → slice_get es i ≡ o
    → is_missing_entry symbols o ≡ true → true ≡ list_any (is_missing symbols) (values_of es)
missed_at symbols es i None at h = cc
missed_at symbols es i (Some e) at h =
    found_value_at (is_missing symbols) es i e (slice_get_within es i e at) (sym (get_or_from_slice_get es i e e at)) h

pub entry_missed : (symbols : List Symbol) (es : List (List ℕ × SymbolId)) (i : ℕ) → is_missing_entry symbols (slice_get es i) ≡ true
    → true ≡ list_any (is_missing symbols) (values_of es)
entry_missed symbols es i h = missed_at symbols es i (slice_get es i) refl h

pub or_left : (a b : Bool) → (a || b) ≡ false → a ≡ false
or_left true b e = cc
or_left false b e = refl

pub or_right : (a b : Bool) → (a || b) ≡ false → b ≡ false
or_right true b e = cc
or_right false b e = e

or_none : (a b : Bool) → a ≡ false → b ≡ false → (a || b) ≡ false
or_none true b h g = cc
or_none false b h g = g

not_missed : (symbols : List Symbol) (es : List (List ℕ × SymbolId)) (i : ℕ) → list_any (is_missing symbols) (values_of (take i es)) ≡ false
    → is_missing_entry symbols (slice_get es i) ≡ false → list_any (is_missing symbols) (values_of (take (suc i) es)) ≡ false
not_missed symbols [] i none h = refl
not_missed symbols (e ∷ es) zero none h = or_none (is_missing symbols e.1) false h refl
not_missed symbols (e ∷ es) (suc i) none h =
    or_none (is_missing symbols e.1) (list_any (is_missing symbols) (values_of (take (suc i) es)))
    (or_left (is_missing symbols e.1) (list_any (is_missing symbols) (values_of (take i es))) none)
    (not_missed symbols es i (or_right (is_missing symbols e.1) (list_any (is_missing symbols) (values_of (take i es))) none) h)

pub entry_not_missed : (symbols : List Symbol) (es : List (List ℕ × SymbolId)) (i : ℕ)
    → list_any (is_missing symbols) (values_of (take i es)) ≡ false → is_missing_entry symbols (slice_get es i) ≡ false
    → list_any (is_missing symbols) (values_of (take (i + 1) es)) ≡ false
entry_not_missed symbols es i none h =
    subst (λ n. list_any (is_missing symbols) (values_of (take n es)) ≡ false) (sym (add-one i)) (not_missed symbols es i none h)
