-- A star that is covered is there, and so what follows from it is covered.
use Rattle.std.proofs.Common.{◌≡◌, refl, sym, ap, subst, ℕ, zero, suc, ◌+◌, ◌<◌, Bool, true, false, not, cond, List, [], ◌∷◌, map, length, Option, Some, None, ⊎_elim, arith}
use Rattle.std.specs.List.{Contains, flat_map}
use Rattle.std.specs.Str.{bytes_eq}
use Rattle.std.proofs.lemmas.Bool.{false≢true, and_parts}
use Rattle.std.proofs.lemmas.List.Elements.{Contains-append_left, Contains-append_right, Contains-append_cases}
use Rattle.fast_check_tables_packages.specs.Package.{Nv}
use Rattle.fast_check_tables_symbols.proofs.Witness.{witness as any_some}
use Rattle.fast_check_tables_symbols.specs.declared.symbol.Symbol.{Symbol}
use Rattle.fast_check_tables_symbols.specs.declared.symbol_id.SymbolId.{SymbolId}
use Rattle.fast_check_tables_symbols.specs.Symbols.{symbol_of}
use Rattle.fast_check_tables_modules.specs.symbols.Tables.{Tables}
use Rattle.fast_check_finder_lattice.specs.Names.{Name, Covered, IsBelow}
use Rattle.fast_check_finder_lattice.specs.Imports.{NameDemand, names_but_default, each_name, subset_at, whole_at, default_name}
use Rattle.fast_check_finder_demands.specs.symbol_demands.Demands.{Demand as SymbolDemand}
use Rattle.fast_check_finder_demands.specs.symbol_demands.Rules.{each_of}
use Rattle.fast_check_finder_demands.specs.asked.Demands.{Text, one, Demand, of_package, of_module, of_symbol, Follows, DemandSet, to_symbol}
use Rattle.fast_check_finder_demands.specs.facts.GraphFacts.{Known, module_at}
use Rattle.fast_check_finder_demands.specs.re_exports.Modules.{own_tables}
use Rattle.fast_check_finder_demands.specs.re_exports.Roots.{star_export, star_roots, export_whole}
use Rattle.fast_check_finder_demands.specs.declared.re_exports.modules.GraphModule.{GraphModule}
use Rattle.fast_check_finder_demands.proofs.Elements.{no_element, cases, in_map, of_map, in_flat, of_flat}
use Rattle.fast_check_finder_demands.specs.asked.Account.{IsStarred}
use Rattle.fast_check_finder_loop.proofs.Accounted.{text_is}
use Rattle.fast_check_finder_loop.specs.Account.{Account, IsAccount, names_at, joined}
use Rattle.fast_check_finder_loop.specs.Rules.{followers, names_followers, own_text}
use Rattle.fast_check_finder_unique.specs.Carried.{HaveOnePackage, IsCarried}

-- how long the first name of a whole path is
first_length : NameDemand → ℕ
first_length names_but_default = 0
first_length each_name = 0
first_length (subset_at p) = 0
first_length (whole_at []) = 0
first_length (whole_at (n ∷ p)) = length n

length_of : Demand → ℕ
length_of (of_package p) = 0
length_of (of_module p t w) = first_length w
length_of (of_symbol p t s) = 0

bound : List Demand → ℕ
bound [] = 8
bound (d ∷ ds) = length_of d + bound ds

default_below : (ds : List Demand) → 7 < bound ds
unfolding bound
default_below [] = omega arith
default_below (d ∷ ds) = omega (arith, default_below ds)

below_bound : (ds : List Demand) (d : Demand) → Contains ds d → length_of d < bound ds
unfolding bound
below_bound [] d c = absurd (no_element d c)
below_bound (e ∷ ds) d c = ⊎_elim
    (λ is. subst (λ (x : Demand). length_of x < length_of e + bound ds) is (omega (arith, default_below ds)))
    (λ there. omega (arith, below_bound ds d there))
    (cases e ds d c)

name_of : ℕ → Name
name_of zero = []
name_of (suc k) = 0 ∷ name_of k

length_name : (k : ℕ) → length (name_of k) ≡ k
unfolding name_of
length_name zero = refl
length_name (suc k) = ap suc (length_name k)

-- a name that no whole path of the demands begins with, nor is `default`
fresh : List Demand → Name
fresh ds = name_of (bound ds)

fresh_length : (ds : List Demand) → length (fresh ds) ≡ bound ds
unfolding fresh
fresh_length ds = length_name (bound ds)

no_default : (ds : List Demand) (b : Bool) → bytes_eq default_name (fresh ds) ≡ b → not b ≡ true
no_default ds false e = refl
no_default ds true e =
    let h : length default_name ≡ length (fresh ds) = ap (λ (n : Name). length n) (text_is default_name (fresh ds) e) in
    let seven : length default_name ≡ 7 = refl in
    absurd (omega (arith, h, seven, fresh_length ds, default_below ds))

pub record IsStarAt (account : Account) (t : Text) : Type 0 where
  pub home : Nv
  pub names : NameDemand
  pub among : Contains account (of_module home t names)
  pub starred : IsStarred names

starred_by : (n : Name) (w : NameDemand) → first_length w < length n → one w Covered (n ∷ []) ≡ true → IsStarred w
unfolding first_length
starred_by n names_but_default b e = tt
starred_by n each_name b e = tt
starred_by n (subset_at p) b e = absurd (false≢true e)
starred_by n (whole_at []) b e = absurd (false≢true e)
starred_by n (whole_at (m ∷ p)) b e =
    let h : length m ≡ length n = ap (λ (x : Name). length x) (text_is m n (and_parts (bytes_eq m n) _ e).0) in
    absurd (omega (arith, h, b))

-- where all names but `default` are covered, a star is there
pub star_there : (account : Account) (t : Text) → IsBelow (one names_but_default) (joined account t) → IsStarAt account t
unfolding length_of
star_there account t below =
    let n = fresh account in
    let w = any_some (λ x. names_at t x Covered (n ∷ [])) account
    (below Covered (n ∷ []) (no_default account (bytes_eq default_name n) refl)) in
    by n w.0 w.1 w.2 (subst (λ (k : ℕ). length_of w.0 < k) (sym (fresh_length account)) (below_bound account w.0 w.1))
  where
    by : (n : Name) (d : Demand) → Contains account d → names_at t d Covered (n ∷ []) ≡ true → length_of d < length n → IsStarAt account t
    by n (of_package p) c e b = absurd (false≢true e)
    by n (of_module p u w) c e b =
        let h = and_parts (bytes_eq t u) (one w Covered (n ∷ [])) e in
        record {
          home = p;
          names = w;
          among = subst (λ (x : Text). Contains account (of_module p x w)) (sym (text_is t u h.0)) c;
          starred = starred_by n w b h.1;
        }
    by n (of_symbol p u s) c e b = absurd (false≢true e)

-- what follows from all names but `default` follows from all names
more_exports : (t : Tables) (e : Name × SymbolId) (x : SymbolDemand) → Contains (star_export t false e) x →
    Contains (star_export t true e) x
more_exports t e x c = go (bytes_eq e.0 default_name) c
  where
    go : (b : Bool) → Contains (cond (not b) (export_whole t e.1 ∷ []) []) x → Contains (export_whole t e.1 ∷ []) x
    go true d = absurd (no_element x d)
    go false d = d

more_roots : (t : Tables) (x : SymbolDemand) → Contains (star_roots t false) x → Contains (star_roots t true) x
more_roots t x = go (symbol_of t.module_symbol t.symbols)
  where
    go : (o : Option Symbol) → Contains (each_of (λ s. flat_map (star_export t false) s.exports) o) x →
        Contains (each_of (λ s. flat_map (star_export t true) s.exports) o) x
    go None c = c
    go (Some s) c = let m = of_flat (star_export t false) s.exports x c in
        in_flat (star_export t true) s.exports m.0 x m.1 (more_exports t m.0 x m.2)

more_follow : (k : Known) (nv : Nv) (x : DemandSet) (o : Option GraphModule) →
    Contains (each_of (names_followers k nv names_but_default) o) x → Contains (each_of (names_followers k nv each_name) o) x
more_follow k nv x None c = c
more_follow k nv x (Some m) c = ⊎_elim
    (λ here.
    let s = of_map (to_symbol nv (own_text m)) (star_roots (own_tables m) false) x here in
    Contains-append_left _ _ x
    (subst (λ (y : DemandSet). Contains (map (to_symbol nv (own_text m)) (star_roots (own_tables m) true)) y) s.2
    (in_map (to_symbol nv (own_text m)) (star_roots (own_tables m) true) s.0 (more_roots (own_tables m) s.0 s.1))))
    (λ there. Contains-append_right (map (to_symbol nv (own_text m)) (star_roots (own_tables m) true)) _ x there)
    (Contains-append_cases (map (to_symbol nv (own_text m)) (star_roots (own_tables m) false)) _ x c)

star_follows : (k : Known) (p : Nv) (t : Text) (w : NameDemand) → IsStarred w → (e : Demand) →
    Follows (followers k) (of_module p t names_but_default) e → Follows (followers k) (of_module p t w) e
star_follows k p t names_but_default s e f = f
star_follows k p t each_name s e f = record {
  demand_set = f.demand_set;
  among = more_follow k p f.demand_set (module_at k t) f.among;
  includes = f.includes;
}
star_follows k p t (subset_at q) s e f = absurd s
star_follows k p t (whole_at q) s e f = absurd s

-- the key lemma for stars
pub star_carried : (k : Known) (roots : List Nv) (account : Account) → IsAccount (followers k) roots account →
    HaveOnePackage (followers k) roots → (p : Nv) (t : Text) → IsCarried (followers k) roots account (of_module p t names_but_default)
star_carried k roots account is one_package p t chained covered e f =
    let s = star_there account t covered.1 in
    let same : p ≡ s.home = one_package p s.home t names_but_default s.names chained
    (is.chained (of_module s.home t s.names) s.among) in
    is.closed (of_module s.home t s.names) e s.among
    (star_follows k s.home t s.names s.starred e
    (subst (λ (q : Nv). Follows (followers k) (of_module q t names_but_default) e) same f))
