-- What was asked stays covered, when more is asked.
use Rattle.std.proofs.Common.{◌≡◌, ◌∙◌, sym, ap, refl, subst, Bool, true, List, [], ◌∷◌, ◌++◌, Option, Some, None, inl, inr, ⊎_elim}
use Rattle.std.specs.List.{list_any, Contains}
use Rattle.std.specs.Str.{bytes_eq}
use Rattle.std.specs.Cmp.{eq_by_cmp_equiv}
use Rattle.std.proofs.lemmas.Bool.{cases_Bool, false≢true, and_parts, and_from}
use Rattle.std.proofs.lemmas.Slice.Eq.{bytes_eq-Decides}
use Rattle.std.proofs.lemmas.List.Elements.{Contains-push_cases, Contains-append_left, Contains-append_right, Contains-append_cases}
use Rattle.url.specs.Parts.{Parts, serialize}
use Rattle.fast_check_finder_lattice.specs.declared.lattice.imported_exports.ImportedExports.{ImportedExports}
use Rattle.fast_check_tables_packages.specs.Package.{Nv}
use Rattle.fast_check_tables_packages.specs.PackageOrder.{nv_total}
use Rattle.fast_check_finder_lattice.specs.Names.{Touched, IsBelow}
use Rattle.fast_check_finder_lattice.specs.Imports.{default_name, imported, is_star, NameDemand}
use Rattle.fast_check_finder_demands.specs.symbol_demands.Demands.{Demand as SymbolDemand}
use Rattle.fast_check_finder_demands.specs.asked.Demands.{Text, same_nv, asked_by, one, DemandSet, to_package, to_module, to_symbol}
use Rattle.fast_check_finder_demands.specs.asked.Demands.{Demand, of_package, of_module, of_symbol, Followers, Includes}
use Rattle.fast_check_finder_demands.proofs.asked.Taken.{bytes_same}
use Rattle.fast_check_finder_demands.proofs.Elements.{in_any}
use Rattle.fast_check_finder_loop.specs.Account.{is_package, is_of, names_at, joined, meets, IsStarred, Chained, widen, narrow}
use Rattle.fast_check_finder_loop.specs.Search.{Search, handled_at, IsAsked, MeetsSame, IsPut, IsTaken, AsksPackage, IsMarked, AsksSymbol, AsksNames, WaitsFor, Asks}
use Rattle.fast_check_finder_loop.specs.Search.{AsksAll}
use Rattle.fast_check_finder_loop.specs.Turn.{members, HasStar, IsAccounted}
use Rattle.fast_check_finder_demands.proofs.asked.Maps.{none_in, first_in, rest_in, split_in, some_is}
use Rattle.fast_check_finder_loop.proofs.Lists.{any_more, put_right}
use Rattle.fast_check_finder_demands.proofs.asked.Single.{asked_in}
use Rattle.fast_check_finder_loop.proofs.Parts.{part_within}
use Rattle.fast_check_finder_loop.proofs.Added.{Gains, gains, IsWidenedFrom, default_of}
use Rattle.fast_check_tables_symbols.proofs.Witness.{witness as any_some}

pub nv_itself : (p : Nv) → same_nv p p ≡ true
nv_itself p = (eq_by_cmp_equiv nv_total).refl p

pub text_is : (t u : Text) → bytes_eq t u ≡ true → t ≡ u
text_is t u h = (bytes_eq-Decides t u).0 h

-- what was asked stays asked
abbrev pub IsMore : Search → Search → Type 0
IsMore a b = (e : Demand) → IsAsked a e → IsAsked b e

abbrev pub IsWithinList : List Demand → List Demand → Type 0
IsWithinList xs ys = (x : Demand) → Contains xs x → Contains ys x

-- where the parts of what was asked are the same
same_asked : (a b : Search) → b.packages ≡ a.packages → b.handled ≡ a.handled → MeetsSame a b → IsMore a b
same_asked a b p h s (of_package q) t = subst (λ (x : List Nv). list_any (same_nv q) x ≡ true) (sym p) t
same_asked a b p h s (of_module nv u d) t =
    subst (λ (x : _). (y : ImportedExports) × (handled_at x u ≡ Some y) × IsBelow (one d) (imported y)) (sym h) t
same_asked a b p h s (of_symbol nv u d) t = λ x c. s nv u x ∙ t x c

more_star : (xs ys : List Demand) (t : Text) → IsWithinList xs ys → HasStar xs t → HasStar ys t
more_star xs ys t g h = (h.0, h.1, g (of_module h.0 t h.1) h.2, h.3)

module _ (followers : Followers) (roots : List Nv) (done : List Demand) where
  -- what was asked is the same, and the members are, in some order
  pub accounted_same : (more : List Demand) (a b : Search) → b.packages ≡ a.packages → b.handled ≡ a.handled → MeetsSame a b →
      IsWithinList (members done a) (members more b) → IsWithinList (members more b) (members done a) → IsAccounted followers roots done a →
      IsAccounted followers roots more b
  accounted_same more a b p h s on back k = record {
    chained = λ e c. k.chained e (back e c);
    packages = λ q c. any_more (is_package q) (members done a) (members more b) on
        (k.packages q (subst (λ (x : List Nv). list_any (same_nv q) x ≡ true) p c));
    symbols = λ nv t d c. any_more (meets nv t d) (members done a) (members more b) on
        (k.symbols nv t d (sym (s nv t d) ∙ c));
    some = λ t x e. any_more (is_of t) (members done a) (members more b) on (k.some t x (old t x e));
    names = λ t x e part q g. any_more (λ y. names_at t y part q) (members done a) (members more b) on (k.names t x (old t x e) part q g);
    stars = λ t x e i. more_star (members done a) (members more b) t on (k.stars t x (old t x e) i);
    below = λ e c. same_asked a b p h s e (k.below e (back e c));
  }
    where
      old : (t : Text) (x : ImportedExports) → handled_at b.handled t ≡ Some x → handled_at a.handled t ≡ Some x
      old t x e = subst (λ (y : _). handled_at y t ≡ Some x) h e

  module _ (a b : Search) (k : IsAccounted followers roots done a) where
    abbrev before : List Demand
    before = members done a

    abbrev after : List Demand
    after = members done b

    put_members : (d : Demand) → IsPut d a.waiting b.waiting → IsPut d before after
    put_members d w = put_right d a.waiting b.waiting done w

    nothing_new : b.packages ≡ a.packages → b.handled ≡ a.handled → MeetsSame a b → b.waiting ≡ a.waiting → IsAccounted followers roots done b
    nothing_new p h s w =
        accounted_same done a b p h s (λ e c. subst (λ (x : List Demand). Contains (done ++ x) e) (sym w) c)
        (λ e c. subst (λ (x : List Demand). Contains (done ++ x) e) w c) k

    -- a package

    more_package : (p : Nv) → AsksPackage p a b → IsMore a b
    more_package p asks (of_package q) t =
        ⊎_elim (λ same. subst (λ (x : List Nv). list_any (same_nv q) x ≡ true) (sym same.1) t)
        (λ n. subst (λ (x : List Nv). list_any (same_nv q) x ≡ true) (sym n.1)
        (let s = any_some (same_nv q) a.packages t in in_any (same_nv q) (a.packages ++ p ∷ []) s.0
        (Contains-append_left a.packages (p ∷ []) s.0 s.1) s.2))
        asks.put
    more_package p asks (of_module nv u d) t =
        subst (λ (x : _). (y : ImportedExports) × (handled_at x u ≡ Some y) × IsBelow (one d) (imported y)) (sym asks.handled) t
    more_package p asks (of_symbol nv u d) t = λ x c. asks.symbols nv u x ∙ t x c

    now_package : (p : Nv) → AsksPackage p a b → IsAsked b (of_package p)
    now_package p asks =
        ⊎_elim (λ same. subst (λ (x : List Nv). list_any (same_nv p) x ≡ true) (sym same.1) same.0)
        (λ n. subst (λ (x : List Nv). list_any (same_nv p) x ≡ true) (sym n.1)
        (in_any (same_nv p) (a.packages ++ p ∷ []) p (Contains-append_right a.packages (p ∷ []) p (first_in p [])) (nv_itself p)))
        asks.put

    accounted_package : (p : Nv) → Chained followers roots (of_package p) → AsksPackage p a b → IsAccounted followers roots done b
    accounted_package p chain asks = ⊎_elim (λ same. nothing_new same.1 asks.handled asks.symbols same.2) (λ n. new n.1 (put_members (of_package p) n.2))
        asks.put
      where
        old : (t : Text) (x : ImportedExports) → handled_at b.handled t ≡ Some x → handled_at a.handled t ≡ Some x
        old t x e = subst (λ (y : _). handled_at y t ≡ Some x) asks.handled e

        new : b.packages ≡ a.packages ++ p ∷ [] → IsPut (of_package p) before after → IsAccounted followers roots done b
        new is m = record {
          chained = λ e c. ⊎_elim (λ o. k.chained e o) (λ s. subst (Chained followers roots) s chain) (m.sound e c);
          packages = λ q c.
              let s = any_some (same_nv q) b.packages c in
              ⊎_elim (λ o. any_more (is_package q) before after m.kept (k.packages q (in_any (same_nv q) a.packages s.0 o s.2)))
              (λ e. in_any (is_package q) after (of_package p) m.here (subst (λ (x : Nv). same_nv q x ≡ true) (sym e) s.2))
              (Contains-push_cases a.packages p s.0 (subst (λ (x : List Nv). Contains x s.0) is s.1));
          symbols = λ nv t d c. any_more (meets nv t d) before after m.kept
              (k.symbols nv t d (sym (asks.symbols nv t d) ∙ c));
          some = λ t x e. any_more (is_of t) before after m.kept (k.some t x (old t x e));
          names = λ t x e part q g. any_more (λ y. names_at t y part q) before after m.kept (k.names t x (old t x e) part q g);
          stars = λ t x e i. more_star before after t m.kept (k.stars t x (old t x e) i);
          below = λ e c. ⊎_elim (λ o. more_package p asks e (k.below e o)) (λ s. subst (IsAsked b) s (now_package p asks)) (m.sound e c);
        }

    -- a symbol

    more_symbol : (nv : Nv) (t : Text) (d : SymbolDemand) → AsksSymbol nv t d a b → IsMore a b
    more_symbol nv t d asks (of_package q) h = subst (λ (x : List Nv). list_any (same_nv q) x ≡ true) (sym asks.packages) h
    more_symbol nv t d asks (of_module p u c) h =
        subst (λ (x : _). (y : ImportedExports) × (handled_at x u ≡ Some y) × IsBelow (one c) (imported y)) (sym asks.handled) h
    more_symbol nv t d asks (of_symbol p u c) h = λ x i.
        ⊎_elim (λ same. same.1 p u x ∙ h x i) (λ n. n.1.kept p u x (h x i)) asks.put

    now_symbol : (nv : Nv) (t : Text) (d : SymbolDemand) → AsksSymbol nv t d a b → IsAsked b (of_symbol nv t d)
    now_symbol nv t d asks = λ x i.
        ⊎_elim (λ same. same.1 nv t x ∙ same.0 x i) (λ n. n.1.now x i) asks.put

    accounted_symbol : (nv : Nv) (t : Text) (d : SymbolDemand) → Chained followers roots (of_symbol nv t d) → AsksSymbol nv t d a b →
        IsAccounted followers roots done b
    accounted_symbol nv t d chain asks =
        ⊎_elim (λ same. nothing_new asks.packages asks.handled same.1 same.2)
        (λ n. new n.0 n.1 (put_members (of_symbol nv t n.0) n.2)) asks.put
      where
        old : (t : Text) (x : ImportedExports) → handled_at b.handled t ≡ Some x → handled_at a.handled t ≡ Some x
        old t x e = subst (λ (y : _). handled_at y t ≡ Some x) asks.handled e

        new : (n : SymbolDemand) → IsMarked nv t d n a b → IsPut (of_symbol nv t n) before after → IsAccounted followers roots done b
        new n s m = record {
          chained = λ e c. ⊎_elim (λ o. k.chained e o) (λ same. subst (Chained followers roots) same chain_new) (m.sound e c);
          packages = λ q c. any_more (is_package q) before after m.kept
              (k.packages q (subst (λ (x : List Nv). list_any (same_nv q) x ≡ true) asks.packages c));
          symbols = λ p u c h.
              ⊎_elim (λ o. any_more (meets p u c) before after m.kept (k.symbols p u c o))
              (λ met. in_any (meets p u c) after (of_symbol nv t n) m.here met) (s.only p u c h);
          some = λ u x e. any_more (is_of u) before after m.kept (k.some u x (old u x e));
          names = λ u x e part q g. any_more (λ y. names_at u y part q) before after m.kept (k.names u x (old u x e) part q g);
          stars = λ u x e i. more_star before after u m.kept (k.stars u x (old u x e) i);
          below = λ e c. ⊎_elim (λ o. more_symbol nv t d asks e (k.below e o)) (λ same. subst (IsAsked b) same now_new)
              (m.sound e c);
        }
          where
            chain_new : Chained followers roots (of_symbol nv t n)
            chain_new = ⊎_elim (λ same. subst (λ (x : SymbolDemand). Chained followers roots (of_symbol nv t x)) (sym same) chain) (λ part. narrow chain part)
                s.within

            now_new : IsAsked b (of_symbol nv t n)
            now_new x i = s.now x (part_within d n x s.within i)

    -- names

    module _ (nv : Nv) (url : Parts) (d : NameDemand) (proper : asked_by d d ≡ true) (asks : AsksNames nv url d a b) where
      abbrev t : Text
      t = serialize url

      g : Gains t d asks.new a.handled b.handled
      g = gains url d asks.new a.handled b.handled proper asks.added

      -- by cases: what is handled of this module, or of another
      here_or : (P : Text → ImportedExports → Type 0) (u : Text) (x : ImportedExports) → handled_at b.handled u ≡ Some x → P t g.state →
          (handled_at a.handled u ≡ Some x → P u x) → P u x
      here_or P u x e f o =
          ⊎_elim
          (λ same.
          let is : t ≡ u = text_is t u same in
          subst (λ (v : Text). P v x) is
          (subst (P t) (some_is g.state x (sym g.now_is ∙ (ap (handled_at b.handled) is ∙ e))) f))
          (λ other. o (sym (g.others u other) ∙ e))
          (cases_Bool (bytes_eq t u))

      more_at : (u : Text) (h : ImportedExports) → handled_at a.handled u ≡ Some h →
          (x : ImportedExports) × (handled_at b.handled u ≡ Some x) × IsBelow (imported h) (imported x)
      more_at u h e =
          ⊎_elim
          (λ same.
          let is : t ≡ u = text_is t u same in
          subst (λ (v : Text). (x : ImportedExports) × (handled_at b.handled v ≡ Some x) × IsBelow (imported h) (imported x)) is
          (g.state, g.now_is, g.above_old h (ap (handled_at a.handled) is ∙ e)))
          (λ other. (h, g.others u other ∙ e, λ part p i. i))
          (cases_Bool (bytes_eq t u))

      more_names : IsMore a b
      more_names (of_package q) h = subst (λ (x : List Nv). list_any (same_nv q) x ≡ true) (sym asks.packages) h
      more_names (of_module p u c) h = let m = more_at u h.0 h.1 in (m.0, m.1, λ part q i. m.2 part q (h.2 part q i))
      more_names (of_symbol p u c) h = λ x i. asks.symbols p u x ∙ h x i

      now_names : (p : Nv) (c : NameDemand) → asked_by d c ≡ true → IsAsked b (of_module p t c)
      now_names p c h = (g.state, g.now_is, λ part q i. g.above_new part q (asked_in d c h part q i))

      -- what is new is chained
      chain_new : Chained followers roots (of_module nv t d) → (e : NameDemand) → asks.new ≡ Some e → Chained followers roots (of_module nv t e)
      chain_new chain e h =
          ⊎_elim (λ same. subst (λ (c : NameDemand). Chained followers roots (of_module nv t c)) (sym same) chain) (λ w. widened w) (g.from e h)
        where
          widened : IsWidenedFrom d (handled_at a.handled t) e → Chained followers roots (of_module nv t e)
          widened w =
              ⊎_elim
              (λ l.
              let f = any_some (λ y. names_at t y Touched (default_name ∷ [])) before (k.names t l.1 l.2 Touched (default_name ∷ []) l.3) in
              of_default l.0 f.0 f.1 f.2)
              (λ r.
              let s = k.stars t r.1 r.2 r.3 in
              widen (k.chained (of_module s.0 t s.1) s.2) chain (record { starred = s.3; default = r.0; under = inr refl; to = w.to }))
              w.by
            where
              of_default : IsStarred d → (y : Demand) → Contains before y → names_at t y Touched (default_name ∷ []) ≡ true →
                  Chained followers roots (of_module nv t e)
              of_default i (of_package p) c h = absurd (false≢true h)
              of_default i (of_symbol p u s) c h = absurd (false≢true h)
              of_default i (of_module p u s) c h =
                  let f = and_parts (bytes_eq t u) (one s Touched (default_name ∷ [])) h in
                  widen chain (subst (λ (v : Text). Chained followers roots (of_module p v s)) (sym (text_is t u f.0)) (k.chained (of_module p u s) c))
                  (record { starred = i; default = default_of s f.1; under = inl refl; to = w.to })

      module _ (chain : Chained followers roots (of_module nv t d)) where
        no_new : asks.new ≡ None → b.waiting ≡ a.waiting → IsAccounted followers roots done b
        no_new none w = record {
          chained = λ e c. k.chained e (back e c);
          packages = λ q c. any_more (is_package q) before after on
              (k.packages q (subst (λ (x : List Nv). list_any (same_nv q) x ≡ true) asks.packages c));
          symbols = λ p u s c. any_more (meets p u s) before after on
              (k.symbols p u s (sym (asks.symbols p u s) ∙ c));
          some = λ u x e. here_or (λ v y. list_any (is_of v) after ≡ true) u x e
              (let o = g.none_old none in any_more (is_of t) before after on (k.some t o.0 o.1))
              (λ o. any_more (is_of u) before after on (k.some u x o));
          names = λ u x e. here_or (λ v y. IsBelow (imported y) (joined after v)) u x e
              (λ part q i. ⊎_elim (λ o. any_more (λ y. names_at t y part q) before after on (k.names t o.0 o.1 part q o.2))
              (λ n. nothing n.0 n.1) (g.only part q i))
              (λ o part q i. any_more (λ y. names_at u y part q) before after on (k.names u x o part q i));
          stars = λ u x e. here_or (λ v y. is_star y ≡ true → HasStar after v) u x e
              (λ i. ⊎_elim (λ o. more_star before after t on (k.stars t o.0 o.1 o.2)) (λ n. nothing n.0 n.1) (g.starry i))
              (λ o i. more_star before after u on (k.stars u x o i));
          below = λ e c. more_names e (k.below e (back e c));
        }
          where
            on : IsWithinList before after
            on e c = subst (λ (x : List Demand). Contains (done ++ x) e) (sym w) c

            back : IsWithinList after before
            back e c = subst (λ (x : List Demand). Contains (done ++ x) e) w c

            nothing : {Z : Type 0} (e : NameDemand) → asks.new ≡ Some e → Z
            nothing e h = absurd (clash (sym none ∙ h))
              where
                clash : {X : Type 0} {x : X} → None ≡ Some x → ⊥
                clash e = cc

        some_new : (n : NameDemand) → asks.new ≡ Some n → IsPut (of_module nv t n) before after → IsAccounted followers roots done b
        some_new n is m = record {
          chained = λ e c. ⊎_elim (λ o. k.chained e o) (λ same. subst (Chained followers roots) same (chain_new chain n is)) (m.sound e c);
          packages = λ q c. any_more (is_package q) before after m.kept
              (k.packages q (subst (λ (x : List Nv). list_any (same_nv q) x ≡ true) asks.packages c));
          symbols = λ p u s c. any_more (meets p u s) before after m.kept
              (k.symbols p u s (sym (asks.symbols p u s) ∙ c));
          some = λ u x e. here_or (λ v y. list_any (is_of v) after ≡ true) u x e
              (in_any (is_of t) after (of_module nv t n) m.here (bytes_same t))
              (λ o. any_more (is_of u) before after m.kept (k.some u x o));
          names = λ u x e. here_or (λ v y. IsBelow (imported y) (joined after v)) u x e
              (λ part q i. ⊎_elim (λ o. any_more (λ y. names_at t y part q) before after m.kept (k.names t o.0 o.1 part q o.2))
              (λ f. in_any (λ y. names_at t y part q) after (of_module nv t n) m.here
              (and_from (bytes_eq t t) (one n part q) (bytes_same t)
              (subst (λ (c : NameDemand). one c part q ≡ true) (some_is f.0 n (sym f.1 ∙ is)) f.2)))
              (g.only part q i))
              (λ o part q i. any_more (λ y. names_at u y part q) before after m.kept (k.names u x o part q i));
          stars = λ u x e. here_or (λ v y. is_star y ≡ true → HasStar after v) u x e
              (λ i. ⊎_elim (λ o. more_star before after t m.kept (k.stars t o.0 o.1 o.2))
              (λ f. (nv, n, m.here, subst IsStarred (some_is f.0 n (sym f.1 ∙ is)) f.2)) (g.starry i))
              (λ o i. more_star before after u m.kept (k.stars u x o i));
          below = λ e c. ⊎_elim (λ o. more_names e (k.below e o))
              (λ same. subst (IsAsked b) same (g.state, g.now_is, g.new_below n is)) (m.sound e c);
        }

        accounted_names : IsAccounted followers roots done b
        accounted_names = go asks.new refl asks.waits
          where
            go : (o : Option NameDemand) → asks.new ≡ o → WaitsFor nv t o a.waiting b.waiting → IsAccounted followers roots done b
            go None e w = no_new e w
            go (Some n) e w = some_new n e (put_members (of_module nv t n) w)

    -- any set

    more_one : (w : DemandSet) → Asks w a b → IsMore a b
    more_one (to_package p) asks = more_package p asks
    more_one (to_module p t w) asks = more_names p asks.0 asks.1 asks.4 asks.5
    more_one (to_symbol p t s) asks = more_symbol p t s asks

    now_one : (w : DemandSet) → Asks w a b → (e : Demand) → Includes w e → IsAsked b e
    now_one (to_package p) asks (of_package q) h = subst (λ (x : Nv). IsAsked b (of_package x)) h (now_package p asks)
    now_one (to_package p) asks (of_module q t d) h = absurd h
    now_one (to_package p) asks (of_symbol q t s) h = absurd h
    now_one (to_module p t w) asks (of_package q) h = absurd h
    now_one (to_module p t w) asks (of_module q u c) h =
        subst (λ (v : Text). IsAsked b (of_module q v c)) (asks.2 ∙ h.1)
        (now_names p asks.0 asks.1 asks.4 asks.5 q c (ap (λ (f : NameDemand → Bool). f c) asks.3 ∙ h.2))
    now_one (to_module p t w) asks (of_symbol q u s) h = absurd h
    now_one (to_symbol p t s) asks (of_package q) h = absurd h
    now_one (to_symbol p t s) asks (of_module q u d) h = absurd h
    now_one (to_symbol p t s) asks (of_symbol q u e) h =
        subst (λ (x : SymbolDemand). IsAsked b (of_symbol q u x)) h.2
        (subst (λ (v : Text). IsAsked b (of_symbol q v s)) h.1 (subst (λ (x : Nv). IsAsked b (of_symbol x t s)) h.0 (now_symbol p t s asks)))

    accounted_one : (w : DemandSet) → ((e : Demand) → Includes w e → Chained followers roots e) → Asks w a b → IsAccounted followers roots done b
    accounted_one (to_package p) chain asks = accounted_package p (chain (of_package p) refl) asks
    accounted_one (to_module p t w) chain asks =
        accounted_names p asks.0 asks.1 asks.4 asks.5
        (chain (of_module p (serialize asks.0) asks.1) (refl, sym asks.2, sym (ap (λ (f : NameDemand → Bool). f asks.1) asks.3) ∙ asks.4))
    accounted_one (to_symbol p t s) chain asks = accounted_symbol p t s (chain (of_symbol p t s) (refl, refl, refl)) asks

  pub accounted_all : (ws : List DemandSet) (a b : Search) → IsAccounted followers roots done a →
      ((w : DemandSet) (e : Demand) → Contains ws w → Includes w e → Chained followers roots e) → AsksAll ws a b → IsAccounted followers roots done b
  accounted_all [] a b k chain asks = subst (IsAccounted followers roots done) (sym asks) k
  accounted_all (w ∷ ws) a b k chain asks =
      accounted_all ws asks.0 b (accounted_one a asks.0 k w (λ e h. chain w e (first_in w ws) h) asks.1) (λ v e c h. chain v e (rest_in w v ws c) h) asks.2

  pub more_all : (ws : List DemandSet) (a b : Search) → IsAccounted followers roots done a →
      ((w : DemandSet) (e : Demand) → Contains ws w → Includes w e → Chained followers roots e) → AsksAll ws a b → IsMore a b
  more_all [] a b k chain asks = λ e h. subst (λ (x : Search). IsAsked x e) (sym asks) h
  more_all (w ∷ ws) a b k chain asks = λ e h.
      more_all ws asks.0 b (accounted_one a asks.0 k w (λ e h. chain w e (first_in w ws) h) asks.1) (λ v e c h. chain v e (rest_in w v ws c) h) asks.2
      e (more_one a asks.0 k w asks.1 e h)

  pub now_all : (ws : List DemandSet) (a b : Search) → IsAccounted followers roots done a →
      ((w : DemandSet) (e : Demand) → Contains ws w → Includes w e → Chained followers roots e) → AsksAll ws a b → (w : DemandSet) → Contains ws w → (e : Demand) →
      Includes w e → IsAsked b e
  now_all [] a b k chain asks w c e h = absurd (none_in w c)
  now_all (v ∷ ws) a b k chain asks w c e h =
      let k2 = accounted_one a asks.0 k v (λ e h. chain v e (first_in v ws) h) asks.1 in
      let chain2 = λ (x : DemandSet) (e : Demand) (c : Contains ws x) (h : Includes x e). chain x e (rest_in v x ws c) h in
      ⊎_elim
      (λ same. more_all ws asks.0 b k2 chain2 asks.2 e (now_one a asks.0 k v asks.1 e (subst (λ (x : DemandSet). Includes x e) (sym same) h)))
      (λ rest. now_all ws asks.0 b k2 chain2 asks.2 w rest e h)
      (split_in v w ws c)

  -- a demand that was taken counts among those that are followed
  pub accounted_taken : (d : Demand) (a b : Search) → IsAccounted followers roots done a → IsTaken d a b → IsAccounted followers roots (done ++ d ∷ []) b
  accounted_taken d a b k t = accounted_same (done ++ d ∷ []) a b t.packages t.handled t.symbols on back k
    where
      back : IsWithinList (members (done ++ d ∷ []) b) (members done a)
      back e c =
          ⊎_elim
          (λ l. ⊎_elim (λ o. Contains-append_left done a.waiting e o)
          (λ same. subst (Contains (members done a)) same (Contains-append_right done a.waiting d t.waits.here)) (Contains-push_cases done d e l))
          (λ r. Contains-append_right done a.waiting e (t.waits.kept e r))
          (Contains-append_cases (done ++ d ∷ []) b.waiting e c)

      on : IsWithinList (members done a) (members (done ++ d ∷ []) b)
      on e c =
          ⊎_elim
          (λ l. Contains-append_left (done ++ d ∷ []) b.waiting e (Contains-append_left done (d ∷ []) e l))
          (λ r. ⊎_elim (λ w. Contains-append_right (done ++ d ∷ []) b.waiting e w)
          (λ same. Contains-append_left (done ++ d ∷ []) b.waiting e
          (subst (Contains (done ++ d ∷ [])) same (Contains-append_right done (d ∷ []) d (first_in d [])))) (t.waits.sound e r))
          (Contains-append_cases done a.waiting e c)

  pub more_taken : (d : Demand) (a b : Search) → IsTaken d a b → IsMore a b
  more_taken d a b t = same_asked a b t.packages t.handled t.symbols
