-- What aliases give, gathered at the places of those that stand for different things.
use Rattle.std.proofs.Common.{◌≡◌, ◌∙◌, sym, ap, refl, subst, ℕ, Bool, true, false, cond, List, [], ◌∷◌, ◌++◌, ◌⊎◌, inl, inr, ⊎_elim, append-nil}
use Rattle.std.proofs.Common.{map, arith, Option, Some, None, string_bytes}
use Rattle.std.specs.Prelude.{slice_get, option_map, option_to_list}
use Rattle.std.specs.List.{Contains, flat_map}
use Rattle.std.specs.Option.{option_and_then}
use Rattle.std.proofs.lemmas.List.Elements.{Contains-append_left, Contains-append_right, Contains-append_cases}
use Rattle.std.proofs.lemmas.Simd.{map-map}
use Rattle.std.proofs.lemmas.Option.{slice_get_within, get_or_from_slice_get}
use Rattle.fast_check_finder_lattice.specs.Names.{Path}
use Rattle.fast_check_tables_symbols.specs.Aliases.{Alias, symbol, part, file, export, alias_of, alias_at, AreAliases}
use Rattle.fast_check_tables_symbols.specs.Tables.{Tables}
use Rattle.fast_check_tables_symbols.specs.declared.symbol_id.SymbolId.{SymbolId}
use Rattle.fast_check_tables_symbols.specs.declared.symbol.Symbol.{Symbol}
use Rattle.fast_check_tables_symbols.specs.declared.decl.SymbolDecl.{SymbolDecl}
use Rattle.fast_check_tables_symbols.specs.declared.decl.SymbolDeclKind.{SymbolDeclKind}
use Rattle.fast_check_tables_symbols.specs.declared.decl.SymbolDeclKind.TheVariants.{Target, QualifiedTarget, FileRef, Definition}
use Rattle.fast_check_tables_symbols.specs.declared.file_dep_name.FileDepName.TheVariants.{Star, Name as Named}
use Rattle.fast_check_finder_demands.specs.declared.symbol_demands.demand.Extent.{Extent}
use Rattle.fast_check_finder_demands.specs.declared.symbol_demands.demand.Extent.TheVariants.{Whole}
use Rattle.fast_check_finder_demands.specs.symbol_demands.Demands.{Demand, Asked, by_reference, as_child, by_path}
use Rattle.fast_check_finder_demands.specs.symbol_demands.Rules.{each_of, bound, qualified, parts_names, alias_names, first_names, asked_names, names}
use Rattle.fast_check_finder_demands.specs.symbol_demands.Passed.{alias_passed, path_passed, asked_passed, passed, own_parts, symbol_own, asked_own}
use Rattle.fast_check_finder_demands.specs.symbol_demands.Decls.{has_alias}
use Rattle.fast_check_finder_demands.specs.Yields.{Adds}
use Rattle.fast_check_finder_demands.proofs.Elements.{no_element, in_flat, of_flat}
use Rattle.fast_check_tables_symbols.specs.Symbols.{symbol_of}

-- what the declaration at a place gives
abbrev pub at : {Y : Type 0} → (SymbolDeclKind → List Y) → List SymbolDecl → ℕ → List Y
at f decls place = each_of f (option_map (λ d. d.kind) (slice_get decls place))

in_each : {X Y : Type 0} (f : X → List Y) (o : Option X) (y : Y) → Contains (each_of f o) y → (x : X) × (o ≡ Some x) × Contains (f x) y
in_each f None y c = absurd (omega (arith, c.1))
in_each f (Some x) y c = (x, refl, c)

in_option : {X : Type 0} (o : Option X) (x : X) → o ≡ Some x → Contains (option_to_list o) x
in_option {X} o x e = subst (λ (p : Option X). Contains (option_to_list p) x) (sym e) (0, omega arith, refl)

-- f gives of an alias what g gives of that for which it stands
module _ {Y : Type 0} (f : SymbolDeclKind → List Y) (g : Alias → List Y) (by : (k : SymbolDeclKind) → f k ≡ each_of g (alias_of k))
    (decls : List SymbolDecl) (places : List ℕ) (are : AreAliases decls places) where
  at_is : (place : ℕ) → at f decls place ≡ each_of g (alias_at decls place)
  at_is place = go (slice_get decls place)
    where
      go : (o : Option SymbolDecl) → each_of f (option_map (λ d. d.kind) o) ≡ each_of g (option_and_then (λ d. alias_of d.kind) o)
      go None = refl
      go (Some d) = by d.kind

  sound : (y : Y) → Contains (flat_map (at f decls) places) y → Contains (flat_map (λ d. f d.kind) decls) y
  sound y c =
      let p = of_flat (at f decls) places y c in go p.0 (slice_get decls p.0) refl p.2
    where
      go : (p : ℕ) (o : Option SymbolDecl) → slice_get decls p ≡ o → Contains (each_of f (option_map (λ d. d.kind) o)) y →
          Contains (flat_map (λ d. f d.kind) decls) y
      go p None e h = absurd (omega (arith, h.1))
      go p (Some d) e h = in_flat (λ x. f x.kind) decls d y (p, slice_get_within decls p d e, get_or_from_slice_get decls p d d e) h

  complete : (y : Y) → Contains (flat_map (λ d. f d.kind) decls) y → Contains (flat_map (at f decls) places) y
  complete y c =
      let d = of_flat (λ x. f x.kind) decls y c in
      let a = in_each g (alias_of d.0.kind) y (subst (λ ys. Contains ys y) (by d.0.kind) d.2) in
      let p = are.all a.0 (in_flat (λ x. option_to_list (alias_of x.kind)) decls d.0 a.0 d.1 (in_option (alias_of d.0.kind) a.0 a.1)) in
      in_flat (at f decls) places p.0 y p.1
      (subst (λ ys. Contains ys y) (sym (at_is p.0 ∙ ap (each_of g) p.2)) a.2)

  -- all that the aliases give is added
  pub adds_aliases : (old new : List Y) → new ≡ old ++ flat_map (at f decls) places → Adds (flat_map (λ d. f d.kind) decls) old new
  adds_aliases old new e = record {
    more = flat_map (at f decls) places;
    is = e;
    parts = sound;
    whole = λ y c. subst (λ (ys : List Y). Contains ys y) (sym e)
        (Contains-append_right old (flat_map (at f decls) places) y (complete y c));
  }

-- the path that is passed on by an alias, and the names of its own path

module _ (t : Tables) (r : SymbolId) where
  abbrev pub own_below : Alias → List Demand
  own_below (symbol id) = []
  own_below (part id parts) = each_of (λ x. map (λ n. qualified x (n ∷ []) Whole r) parts) (bound t id)
  own_below (file text) = []
  own_below (export text name) = []

  pub own_of : (k : SymbolDeclKind) → own_parts t r k ≡ each_of own_below (alias_of k)
  own_of (Target id) = refl
  own_of (QualifiedTarget id parts) = go (bound t id)
    where
      go : (o : Option SymbolId) → each_of (λ x. map (λ part. qualified x (string_bytes part ∷ []) Whole r) parts.items) o
          ≡ each_of (λ x. map (λ n. qualified x (n ∷ []) Whole r) (map string_bytes parts.items)) o
      go None = refl
      go (Some x) = sym (map-map (λ n. qualified x (n ∷ []) Whole r) string_bytes parts.items)
  own_of (FileRef specifier Star) = refl
  own_of (FileRef specifier (Named name)) = refl
  own_of (Definition _) = refl

  pub with_own : (s : Symbol) (o : Option Symbol) → o ≡ Some s → has_alias s.decls.items ≡ true →
      flat_map (λ x. own_parts t r x.kind) s.decls.items ≡ each_of (symbol_own t r) o
  with_own s o is h = ap (λ b. cond b (flat_map (λ x. own_parts t r x.kind) s.decls.items) []) (sym h) ∙ ap (each_of (symbol_own t r)) (sym is)

module _ (t : Tables) (d : Demand) (path : Path) (extent : Extent) where
  abbrev pub demands_below : Alias → List Demand
  demands_below (symbol id) = each_of (λ x. qualified x path extent d.referrer ∷ []) (bound t id)
  demands_below (part id parts) = each_of (λ x. qualified x path extent d.referrer ∷ []) (bound t id)
  demands_below (file text) = []
  demands_below (export text name) = []

  pub below : (k : SymbolDeclKind) → alias_passed t d path extent k ≡ each_of demands_below (alias_of k)
  below (Target id) = refl
  below (QualifiedTarget id parts) = refl
  below (FileRef specifier Star) = refl
  below (FileRef specifier (Named name)) = refl
  below (Definition _) = refl

  -- of the symbol that is found
  abbrev each_alias : Symbol → List Demand
  each_alias s = flat_map (λ x. alias_passed t d path extent x.kind) s.decls.items

  pub with_alias : (s : Symbol) (o : Option Symbol) → o ≡ Some s → has_alias s.decls.items ≡ true →
      each_alias s ≡ each_of (path_passed t d path extent) o
  with_alias s o is h = ap (λ b. cond b (each_alias s) (first_names t d path extent s)) (sym h) ∙ ap (each_of (path_passed t d path extent)) (sym is)

  pub without_alias : (s : Symbol) (o : Option Symbol) → o ≡ Some s → has_alias s.decls.items ≡ false →
      each_of (first_names t d path extent) o ≡ each_of (path_passed t d path extent) o
  without_alias s o is h = ap (each_of (first_names t d path extent)) is
      ∙ (ap (λ b. cond b (each_alias s) (first_names t d path extent s)) (sym h)
      ∙ ap (each_of (path_passed t d path extent)) (sym is))

  -- both are what a path below a symbol demands
  abbrev IsEither : Demand → List Demand → List Demand → Type 0
  IsEither y xs zs = Contains xs y ⊎ Contains zs y

  parted : (k : SymbolDeclKind) → alias_names t d path extent k ≡ alias_passed t d path extent k ++ own_parts t d.referrer k
  parted (Target id) = sym (append-nil (alias_passed t d path extent (Target id)))
  parted (QualifiedTarget id parts) = go (bound t id)
    where
      go : (o : Option SymbolId) → each_of (λ x. qualified x path extent d.referrer ∷ parts_names d x parts.items) o
          ≡ each_of (λ x. qualified x path extent d.referrer ∷ []) o ++ each_of (λ x. parts_names d x parts.items) o
      go None = refl
      go (Some x) = refl
  parted (FileRef specifier name) = refl
  parted (Definition _) = refl

  either_of : (s : Symbol) (b : Bool) (y : Demand) → let all = flat_map (λ x. alias_names t d path extent x.kind) s.decls.items in
      let own = flat_map (λ x. own_parts t d.referrer x.kind) s.decls.items in
      Contains (cond b all (first_names t d path extent s)) y →
      IsEither y (cond b (each_alias s) (first_names t d path extent s)) (cond b own [])
  either_of s false y c = inl c
  either_of s true y c =
      let x = of_flat (λ x. alias_names t d path extent x.kind) s.decls.items y c in
      ⊎_elim (λ l. inl (in_flat (λ x. alias_passed t d path extent x.kind) s.decls.items x.0 y x.1 l))
      (λ r. inr (in_flat (λ x. own_parts t d.referrer x.kind) s.decls.items x.0 y x.1 r))
      (Contains-append_cases (alias_passed t d path extent x.0.kind) (own_parts t d.referrer x.0.kind) y
      (subst (λ (ys : List Demand). Contains ys y) (parted x.0.kind) x.2))

  of_either : (s : Symbol) (b : Bool) (y : Demand) → let all = flat_map (λ x. alias_names t d path extent x.kind) s.decls.items in
      let own = flat_map (λ x. own_parts t d.referrer x.kind) s.decls.items in
      IsEither y (cond b (each_alias s) (first_names t d path extent s)) (cond b own []) →
      Contains (cond b all (first_names t d path extent s)) y
  of_either s false y e = ⊎_elim (λ l. l) (λ r. absurd (no_element y r)) e
  of_either s true y e = ⊎_elim
      (λ l. let x = of_flat (λ x. alias_passed t d path extent x.kind) s.decls.items y l in
      in_flat (λ x. alias_names t d path extent x.kind) s.decls.items x.0 y x.1 (subst (λ (ys : List Demand). Contains ys y) (sym (parted x.0.kind))
      (Contains-append_left (alias_passed t d path extent x.0.kind) (own_parts t d.referrer x.0.kind) y x.2)))
      (λ r. let x = of_flat (λ x. own_parts t d.referrer x.kind) s.decls.items y r in
      in_flat (λ x. alias_names t d path extent x.kind) s.decls.items x.0 y x.1 (subst (λ (ys : List Demand). Contains ys y) (sym (parted x.0.kind))
      (Contains-append_right (alias_passed t d path extent x.0.kind) (own_parts t d.referrer x.0.kind) y x.2)))
      e

-- what a demand names is one or the other
module _ (t : Tables) (d : Demand) where
  abbrev asked_own_at : Asked → Option Symbol → List Demand
  asked_own_at (by_reference n) o = []
  asked_own_at (as_child n) o = []
  asked_own_at (by_path p e) o = each_of (symbol_own t d.referrer) o

  to_parts : (a : Asked) (o : Option Symbol) (y : Demand) → Contains (each_of (asked_names t d a) o) y →
      Contains (each_of (asked_passed t d a) o) y ⊎ Contains (asked_own_at a o) y
  to_parts a None y c = inl c
  to_parts (by_reference n) (Some s) y c = inl c
  to_parts (as_child n) (Some s) y c = inl c
  to_parts (by_path p e) (Some s) y c = either_of t d p e s (has_alias s.decls.items) y c

  from_parts : (a : Asked) (o : Option Symbol) (y : Demand) →
      Contains (each_of (asked_passed t d a) o) y ⊎ Contains (asked_own_at a o) y → Contains (each_of (asked_names t d a) o) y
  from_parts (by_reference n) o y e = ⊎_elim (λ l. l) (λ r. absurd (no_element y r)) e
  from_parts (as_child n) o y e = ⊎_elim (λ l. l) (λ r. absurd (no_element y r)) e
  from_parts (by_path p e) None y c = ⊎_elim (λ l. l) (λ r. r) c
  from_parts (by_path p e) (Some s) y c = of_either t d p e s (has_alias s.decls.items) y c

pub names_parted : (t : Tables) (d y : Demand) → Contains (names t d) y → Contains (passed t d) y ⊎ Contains (asked_own t d d.asked) y
names_parted t d y c = go d.asked (to_parts t d d.asked (symbol_of d.symbol t.symbols) y c)
  where
    go : (a : Asked) → Contains (each_of (asked_passed t d a) (symbol_of d.symbol t.symbols)) y ⊎
        Contains (asked_own_at t d a (symbol_of d.symbol t.symbols)) y →
        Contains (each_of (asked_passed t d a) (symbol_of d.symbol t.symbols)) y ⊎ Contains (asked_own t d a) y
    go (by_reference n) e = e
    go (as_child n) e = e
    go (by_path p x) e = e

pub names_joined : (t : Tables) (d y : Demand) → Contains (passed t d) y ⊎ Contains (asked_own t d d.asked) y → Contains (names t d) y
names_joined t d y e = from_parts t d d.asked (symbol_of d.symbol t.symbols) y (go d.asked e)
  where
    go : (a : Asked) → Contains (each_of (asked_passed t d a) (symbol_of d.symbol t.symbols)) y ⊎ Contains (asked_own t d a) y →
        Contains (each_of (asked_passed t d a) (symbol_of d.symbol t.symbols)) y ⊎
        Contains (asked_own_at t d a (symbol_of d.symbol t.symbols)) y
    go (by_reference n) e = e
    go (as_child n) e = e
    go (by_path p x) e = e
