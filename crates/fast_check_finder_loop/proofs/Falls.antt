-- What can still be asked and what waits together do not grow.
use Rattle.std.proofs.Common.{◌≡◌, ◌∙◌, sym, ap, refl, subst, ℕ, ◌+◌, ◌<◌, ◌≤◌, Bool, true, false, List, [], ◌∷◌, ◌++◌, Option, Some, None, length}
use Rattle.std.proofs.Common.{⊎_elim, arith}
use Rattle.std.specs.List.{list_any, Contains}
use Rattle.std.specs.Str.{bytes_eq}
use Rattle.std.proofs.lemmas.Bool.{cases_Bool}
use Rattle.std.proofs.lemmas.List.Elements.{Contains-append_left, Contains-append_right}
use Rattle.url.specs.Parts.{Parts, serialize}
use Rattle.fast_check_finder_lattice.specs.declared.lattice.imported_exports.ImportedExports.{ImportedExports}
use Rattle.fast_check_tables_packages.specs.Package.{Nv}
use Rattle.fast_check_finder_lattice.specs.Imports.{NameDemand}
use Rattle.fast_check_finder_demands.specs.symbol_demands.Demands.{Demand as SymbolDemand}
use Rattle.fast_check_finder_demands.specs.Account.{parts}
use Rattle.fast_check_finder_demands.specs.asked.Demands.{Text, same_nv, asked_by, DemandSet, to_package, to_module, to_symbol, Followers, Demand}
use Rattle.fast_check_finder_demands.proofs.Elements.{in_any}
use Rattle.fast_check_finder_loop.specs.Search.{Search, handled_at, MeetsSame, IsTaken, AsksPackage, IsMarked, AsksSymbol, AsksNames, WaitsFor, Asks, AsksAll}
use Rattle.fast_check_finder_loop.specs.Measure.{Universe, IsWithin, IsSetInside, IsUniverse, cost, total, rank, ranks, packages_left, symbols_left, left}
use Rattle.fast_check_finder_demands.proofs.asked.Maps.{first_in, rest_in}
use Rattle.fast_check_finder_loop.proofs.Lists.{any_more}
use Rattle.fast_check_finder_demands.proofs.asked.Ranks.{cost_le, total_le, total_less}
use Rattle.fast_check_finder_loop.proofs.Added.{Gains, gains}
use Rattle.fast_check_finder_loop.proofs.Accounted.{nv_itself, text_is}
use Rattle.fast_check_finder_loop.proofs.Parts.{part_within, some_part}

cost_less : (x y : Bool) → x ≡ false → y ≡ true → cost y < cost x
cost_less false true e f = omega arith
cost_less true y e f = cc
cost_less false false e f = cc

total_same : {X : Type 0} (f g : X → ℕ) (xs : List X) → ((x : X) → f x ≡ g x) → total f xs ≡ total g xs
total_same f g [] h = refl
total_same f g (x ∷ xs) h = let a = h x in let b = total_same f g xs h in omega (arith, a, b)

module _ (u : Universe) where
  ranks_same : (a b : Search) → b.handled ≡ a.handled → ranks u b ≡ ranks u a
  unfolding ranks
  ranks_same a b e = ap (λ (h : List (Parts × ImportedExports)). total (λ t. rank u.paths (handled_at h t)) u.texts) e

  packages_same : (a b : Search) → b.packages ≡ a.packages → packages_left u b ≡ packages_left u a
  unfolding packages_left
  packages_same a b e = ap (λ (ps : List Nv). total (λ p. cost (list_any (same_nv p) ps)) u.packages) e

  symbols_same : (a b : Search) → MeetsSame a b → symbols_left u b ≡ symbols_left u a
  unfolding symbols_left
  symbols_same a b e =
      total_same (λ p. total (λ t. total (λ d. cost (b.symbols p t d)) u.symbols) u.own_texts)
      (λ p. total (λ t. total (λ d. cost (a.symbols p t d)) u.symbols) u.own_texts) u.packages
      (λ p. total_same (λ t. total (λ d. cost (b.symbols p t d)) u.symbols) (λ t. total (λ d. cost (a.symbols p t d)) u.symbols) u.own_texts
      (λ t. total_same (λ d. cost (b.symbols p t d)) (λ d. cost (a.symbols p t d)) u.symbols (λ d. ap cost (e p t d))))

  falls_taken_one : (d : Demand) (a b : Search) → IsTaken d a b → left u b + 1 ≡ left u a
  unfolding left
  falls_taken_one d a b t =
      let r = ranks_same a b t.handled in
      let p = packages_same a b t.packages in
      let s = symbols_same a b t.symbols in
      let c = t.waits.count in
      omega (arith, r, p, s, c)

  pub falls_taken : (d : Demand) (a b : Search) → IsTaken d a b → left u b < left u a
  falls_taken d a b t = let e = falls_taken_one d a b t in omega (arith, e)

  -- a package

  package_less : (p : Nv) (a b : Search) → Contains u.packages p → list_any (same_nv p) a.packages ≡ false → b.packages ≡ a.packages ++ p ∷ [] →
      packages_left u b < packages_left u a
  unfolding packages_left
  package_less p a b inside was is =
      total_less (λ q. cost (list_any (same_nv q) a.packages)) (λ q. cost (list_any (same_nv q) b.packages)) u.packages p
      (λ q. cost_le (list_any (same_nv q) a.packages) (list_any (same_nv q) b.packages) (λ h. subst (λ (x : List Nv). list_any (same_nv q) x ≡ true) (sym is)
      (any_more (same_nv q) a.packages (a.packages ++ p ∷ []) (λ x c. Contains-append_left a.packages (p ∷ []) x c) h)))
      inside
      (cost_less (list_any (same_nv p) a.packages) (list_any (same_nv p) b.packages) was
      (subst (λ (x : List Nv). list_any (same_nv p) x ≡ true) (sym is)
      (in_any (same_nv p) (a.packages ++ p ∷ []) p (Contains-append_right a.packages (p ∷ []) p (first_in p [])) (nv_itself p))))

  falls_package : (p : Nv) (a b : Search) → Contains u.packages p → AsksPackage p a b → left u b ≤ left u a
  unfolding left
  falls_package p a b inside asks =
      let r = ranks_same a b asks.handled in
      let s = symbols_same a b asks.symbols in
      ⊎_elim
      (λ same. let e = packages_same a b same.1 in let c : length b.waiting ≡ length a.waiting = ap length same.2 in omega (arith, r, s, e, c))
      (λ n. let e = package_less p a b inside n.0 n.1 in let c = n.2.count in omega (arith, r, s, e, c))
      asks.put

  -- a symbol

  module _ (nv : Nv) (t : Text) (d n : SymbolDemand) (a b : Search) (m : IsMarked nv t d n a b) where
    each_le : (p : Nv) (v : Text) (e : SymbolDemand) → cost (b.symbols p v e) ≤ cost (a.symbols p v e)
    each_le p v e = cost_le (a.symbols p v e) (b.symbols p v e) (m.kept p v e)

    texts_le : (p : Nv) (v : Text) → total (λ e. cost (b.symbols p v e)) u.symbols ≤ total (λ e. cost (a.symbols p v e)) u.symbols
    texts_le p v = total_le (λ e. cost (a.symbols p v e)) (λ e. cost (b.symbols p v e)) u.symbols (each_le p v)

    packages_le : (p : Nv) → total (λ v. total (λ e. cost (b.symbols p v e)) u.symbols) u.own_texts ≤
        total (λ v. total (λ e. cost (a.symbols p v e)) u.symbols) u.own_texts
    packages_le p = total_le (λ v. total (λ e. cost (a.symbols p v e)) u.symbols) (λ v. total (λ e. cost (b.symbols p v e)) u.symbols)
        u.own_texts (texts_le p)

    symbol_less : Contains u.packages nv → Contains u.own_texts t → (x : SymbolDemand) → Contains (parts n) x → Contains u.symbols x →
        symbols_left u b < symbols_left u a
    unfolding symbols_left
    symbol_less i j x c k =
        total_less (λ p. total (λ v. total (λ e. cost (a.symbols p v e)) u.symbols) u.own_texts)
        (λ p. total (λ v. total (λ e. cost (b.symbols p v e)) u.symbols) u.own_texts) u.packages nv packages_le i
        (total_less (λ v. total (λ e. cost (a.symbols nv v e)) u.symbols) (λ v. total (λ e. cost (b.symbols nv v e)) u.symbols) u.own_texts t
        (texts_le nv) j
        (total_less (λ e. cost (a.symbols nv t e)) (λ e. cost (b.symbols nv t e)) u.symbols x (each_le nv t) k
        (cost_less (a.symbols nv t x) (b.symbols nv t x) (m.was x c) (m.now x (part_within d n x m.within c)))))

  falls_symbol : (nv : Nv) (t : Text) (d : SymbolDemand) (a b : Search) → Contains u.packages nv → Contains u.own_texts t →
      ((x : SymbolDemand) → Contains (parts d) x → Contains u.symbols x) → AsksSymbol nv t d a b → left u b ≤ left u a
  unfolding left
  falls_symbol nv t d a b i j k asks =
      let r = ranks_same a b asks.handled in
      let p = packages_same a b asks.packages in
      ⊎_elim
      (λ same. let s = symbols_same a b same.1 in let c : length b.waiting ≡ length a.waiting = ap length same.2 in omega (arith, r, p, s, c))
      (λ n. let x = some_part n.0 in
      let s = symbol_less nv t d n.0 a b n.1 i j x.0 x.1 (k x.0 (part_within d n.0 x.0 n.1.within x.1)) in
      let c = n.2.count in omega (arith, r, p, s, c))
      asks.put

  -- names

  module _ {roots : List Nv} {followers : Followers} (is : IsUniverse followers roots u) (nv : Nv) (url : Parts) (d : NameDemand) (a b : Search)
      (proper : asked_by d d ≡ true) (inside : Contains u.texts (serialize url))
      (within : (c : NameDemand) → asked_by d c ≡ true → IsWithin u.paths c) (asks : AsksNames nv url d a b) where
    abbrev t : Text
    t = serialize url

    g : Gains t d asks.new a.handled b.handled
    g = gains url d asks.new a.handled b.handled proper asks.added

    abbrev before : Text → ℕ
    before q = rank u.paths (handled_at a.handled q)

    abbrev after : Text → ℕ
    after q = rank u.paths (handled_at b.handled q)

    at_state : after t ≡ rank u.paths (Some g.state)
    at_state = ap (rank u.paths) g.now_is

    rank_le_at : (q : Text) → after q ≤ before q
    rank_le_at q =
        ⊎_elim
        (λ same. subst (λ (v : Text). after v ≤ before v) (text_is t q same) (let e = g.le u.paths in let f = at_state in omega (arith, e, f)))
        (λ other. let e : after q ≡ before q = ap (rank u.paths) (g.others q other) in omega (arith, e))
        (cases_Bool (bytes_eq t q))

    ranks_le : ranks u b ≤ ranks u a
    unfolding ranks
    ranks_le = total_le before after u.texts rank_le_at

    ranks_less : (n : NameDemand) → asks.new ≡ Some n → ranks u b < ranks u a
    unfolding ranks
    ranks_less n e =
        total_less before after u.texts t rank_le_at inside
        (let l = g.less u.paths is.default is.empty within n e in let f = at_state in omega (arith, l, f))

    falls_names : left u b ≤ left u a
    unfolding left
    falls_names = go asks.new refl asks.waits
      where
        p : packages_left u b ≡ packages_left u a
        p = packages_same a b asks.packages

        s : symbols_left u b ≡ symbols_left u a
        s = symbols_same a b asks.symbols

        go : (o : Option NameDemand) → asks.new ≡ o → WaitsFor nv t o a.waiting b.waiting →
            ranks u b + packages_left u b + symbols_left u b + length b.waiting ≤ ranks u a + packages_left u a + symbols_left u a + length a.waiting
        go None e w = let r = ranks_le in let c : length b.waiting ≡ length a.waiting = ap length w in omega (arith, r, p, s, c)
        go (Some n) e w = let r = ranks_less n e in let c = w.count in omega (arith, r, p, s, c)

  -- all

  module _ {roots : List Nv} {followers : Followers} (is : IsUniverse followers roots u) where
    falls_one : (w : DemandSet) (a b : Search) → IsSetInside u w → Asks w a b → left u b ≤ left u a
    falls_one (to_package p) a b i asks = falls_package p a b i asks
    falls_one (to_module p t w) a b i asks =
        falls_names is p asks.0 asks.1 a b asks.4 (subst (Contains u.texts) (sym asks.2) i.1)
        (λ c h. i.2 c (sym (ap (λ (f : NameDemand → Bool). f c) asks.3) ∙ h)) asks.5
    falls_one (to_symbol p t s) a b i asks = falls_symbol p t s a b i.0 i.1 (λ x c. is.narrowed s x i.2 c) asks

    pub falls_all : (ws : List DemandSet) (a b : Search) → ((w : DemandSet) → Contains ws w → IsSetInside u w) → AsksAll ws a b → left u b ≤ left u a
    falls_all [] a b i asks = let e : left u b ≡ left u a = ap (left u) asks in omega (arith, e)
    falls_all (w ∷ ws) a b i asks =
        let x = falls_one w a asks.0 (i w (first_in w ws)) asks.1 in
        let y = falls_all ws asks.0 b (λ v c. i v (rest_in w v ws c)) asks.2 in
        omega (arith, x, y)
