-- A package, or a path below a symbol, that is covered is there itself, and so what follows from it is covered.
use Rattle.std.proofs.Common.{◌≡◌, ◌∙◌, refl, sym, ap, subst, ℕ, Bool, true, false, ◌||◌, List, [], ◌∷◌, ⊎_elim}
use Rattle.std.specs.List.{Contains}
use Rattle.std.specs.Str.{bytes_eq}
use Rattle.std.specs.Cmp.{unsigned_Decides}
use Rattle.std.proofs.lemmas.Bool.{false≢true, and_parts}
use Rattle.fast_check_tables_packages.specs.Package.{Nv}
use Rattle.fast_check_tables_symbols.proofs.Witness.{witness as any_some}
use Rattle.fast_check_tables_symbols.specs.declared.symbol_id.SymbolId.{SymbolId}
use Rattle.fast_check_finder_lattice.specs.Names.{Path}
use Rattle.fast_check_finder_demands.specs.declared.symbol_demands.demand.Namespaces.TheVariants.{Value, Type_, Both}
use Rattle.fast_check_finder_demands.specs.declared.symbol_demands.demand.Extent.{Extent}
use Rattle.fast_check_finder_demands.specs.declared.symbol_demands.demand.Extent.TheVariants.{Touched, Whole}
use Rattle.fast_check_finder_demands.specs.symbol_demands.Demands.{Demand as SymbolDemand, Asked, by_reference, as_child, by_path, same_symbol}
use Rattle.fast_check_finder_demands.specs.symbol_demands.Rules.{qualified}
use Rattle.fast_check_finder_demands.specs.Account.{same_extent, alike, parts, narrowed}
use Rattle.fast_check_finder_demands.specs.asked.Demands.{Text, Demand, of_package, of_module, of_symbol, Follows, same_nv}
use Rattle.fast_check_finder_demands.specs.facts.GraphFacts.{Known}
use Rattle.fast_check_finder_demands.proofs.Elements.{cases, only, first as here}
use Rattle.fast_check_finder_loop.proofs.Accounted.{text_is}
use Rattle.fast_check_finder_loop.proofs.Places.{nv_is}
use Rattle.fast_check_finder_loop.proofs.Same.{same_paths}
use Rattle.fast_check_finder_loop.specs.Account.{Account, IsAccount, IsCovered, is_package, covers, meets}
use Rattle.fast_check_finder_loop.specs.Rules.{followers}
use Rattle.fast_check_finder_unique.specs.Carried.{IsCarried}

pub package_carried : (k : Known) (roots : List Nv) (account : Account) → IsAccount (followers k) roots account → (p : Nv) →
    IsCarried (followers k) roots account (of_package p)
package_carried k roots account is p chained covered e f =
    let w = any_some (is_package p) account covered in by w.0 w.1 w.2
  where
    by : (d : Demand) → Contains account d → is_package p d ≡ true →
        IsCovered account e
    by (of_package q) c h = is.closed (of_package q) e c (subst (λ (x : Nv). Follows (followers k) (of_package x) e) (nv_is p q h) f)
    by (of_module q t d) c h = absurd (false≢true h)
    by (of_symbol q t d) c h = absurd (false≢true h)

-- demands that are alike

abbrev number : ℕ → SymbolId
number n = record { 0 = n }

symbol_is : (a b : SymbolId) → same_symbol a b ≡ true → a ≡ b
symbol_is a b h = ap number ((unsigned_Decides a.0 b.0).0 h)

extent_is : (x y : Extent) → same_extent x y ≡ true → x ≡ y
extent_is Touched Touched h = refl
extent_is Touched Whole h = absurd (false≢true h)
extent_is Whole Touched h = absurd (false≢true h)
extent_is Whole Whole h = refl

abbrev demand_by : SymbolId → Asked → SymbolId → SymbolDemand
demand_by symbol asked referrer = record { symbol = symbol; asked = asked; referrer = referrer }

alike_is : (a : SymbolId) (path : Path) (extent : Extent) (r b : SymbolId) (asked : Asked) (q : SymbolId) →
    alike (qualified a path extent r) (demand_by b asked q) ≡ true → qualified a path extent r ≡ demand_by b asked q
alike_is a path extent r b (by_reference n) q h = absurd (false≢true (and_parts (same_symbol a b) false h).1)
alike_is a path extent r b (as_child n) q h = absurd (false≢true (and_parts (same_symbol a b) false h).1)
alike_is a path extent r b (by_path other x) q h =
    let s = and_parts (same_symbol a b) _ h in
    let t = and_parts _ (same_symbol r q) s.1 in
    let u = and_parts _ (same_extent extent x) t.0 in
    ap (λ z. qualified z path extent r) (symbol_is a b s.0)
    ∙ (ap (λ z. qualified b z extent r) (same_paths path other u.0)
    ∙ (ap (λ z. qualified b other z r) (extent_is extent x u.1) ∙ ap (λ z. qualified b other x z) (symbol_is r q t.1)))

abbrev is_path : Asked → Bool
is_path (by_reference n) = false
is_path (as_child n) = false
is_path (by_path p x) = true

one_part : (d x : SymbolDemand) → Contains (d ∷ []) x → is_path x.asked ≡ true → d ≡ x
one_part d x c h = only d x c

two_parts : (d x : SymbolDemand) → Contains (narrowed Value d ∷ narrowed Type_ d ∷ []) x → is_path (narrowed Value d).asked ≡ false →
    is_path (narrowed Type_ d).asked ≡ false → is_path x.asked ≡ true → d ≡ x
two_parts d x c v t h = absurd (⊎_elim
    (λ is. false≢true (sym v ∙ (ap (λ (z : SymbolDemand). is_path z.asked) is ∙ h)))
    (λ more. false≢true (sym t ∙ (ap (λ (z : SymbolDemand). is_path z.asked) (only (narrowed Type_ d) x more) ∙ h)))
    (cases (narrowed Value d) (narrowed Type_ d ∷ []) x c))

-- a demand of which a path is a part is that path
part_is : (b : SymbolId) (asked : Asked) (q : SymbolId) (x : SymbolDemand) → Contains (parts (demand_by b asked q)) x →
    is_path x.asked ≡ true → demand_by b asked q ≡ x
part_is b (by_reference Value) q x c h = one_part (demand_by b (by_reference Value) q) x c h
part_is b (by_reference Type_) q x c h = one_part (demand_by b (by_reference Type_) q) x c h
part_is b (by_reference Both) q x c h = two_parts (demand_by b (by_reference Both) q) x c refl refl h
part_is b (as_child Value) q x c h = one_part (demand_by b (as_child Value) q) x c h
part_is b (as_child Type_) q x c h = one_part (demand_by b (as_child Type_) q) x c h
part_is b (as_child Both) q x c h = two_parts (demand_by b (as_child Both) q) x c refl refl h
part_is b (by_path p y) q x c h = one_part (demand_by b (by_path p y) q) x c h

or_same : (a b : Bool) → a ≡ b → (a || b) ≡ true → a ≡ true
or_same true b e h = refl
or_same false b e h = e ∙ h

pub path_carried : (k : Known) (roots : List Nv) (account : Account) → IsAccount (followers k) roots account → (p : Nv) (t : Text)
    (a : SymbolId) (path : Path) (extent : Extent) (r : SymbolId) →
    IsCarried (followers k) roots account (of_symbol p t (qualified a path extent r))
path_carried k roots account is p t a path extent r chained covered e f =
    let s = qualified a path extent r in
    let w = any_some (meets p t s) account (covered s (here s s [] refl)) in by w.0 w.1 w.2
  where
    by : (d : Demand) → Contains account d → meets p t (qualified a path extent r) d ≡ true →
        IsCovered account e
    by (of_package q) c h = absurd (false≢true h)
    by (of_module q u d) c h = absurd (false≢true h)
    by (of_symbol q u d) c h =
        let s = qualified a path extent r in
        let one = and_parts (same_nv p q) _ h in
        let two = and_parts (bytes_eq t u) _ one.1 in
        let x = any_some (covers s) (parts d) two.1 in
        let same = alike_is a path extent r x.0.symbol x.0.asked x.0.referrer (or_same (alike s x.0) _ refl x.2) in
        let is_d : d ≡ x.0 = part_is d.symbol d.asked d.referrer x.0 x.1 (ap (λ (z : SymbolDemand). is_path z.asked) (sym same)) in
        let g = subst (λ (z : SymbolDemand). Follows (followers k) (of_symbol p t z) e) (same ∙ sym is_d) f in
        let m = subst (λ (z : Nv). Follows (followers k) (of_symbol z t d) e) (nv_is p q one.0) g in
        is.closed (of_symbol q u d) e c (subst (λ (z : Text). Follows (followers k) (of_symbol q z d) e) (text_is t u two.0) m)
