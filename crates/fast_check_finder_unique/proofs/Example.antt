-- A package whose only module exports one function is settled.
use Rattle.std.proofs.Common.{◌≡◌, ◌∙◌, refl, sym, ap, subst, Bool, true, false, not, cond, ◌||◌, List, [], ◌∷◌, ◌++◌, map, Option, Some, None, ⊎_elim}
use Rattle.std.specs.Prelude.{is_some}
use Rattle.std.specs.List.{Contains, flat_map}
use Rattle.std.specs.Option.{option_and_then}
use Rattle.std.specs.Str.{bytes_eq}
use Rattle.std.proofs.lemmas.Bool.{false≢true, and_parts, cases_Bool}
use Rattle.std.proofs.lemmas.List.Elements.{Contains-append_left, Contains-append_cases}
use Rattle.url.specs.Parts.{Parts, serialize}
use Rattle.fast_check_tables_packages.specs.Package.{Nv}
use Rattle.fast_check_tables_symbols.specs.declared.symbol.Symbol.{Symbol}
use Rattle.fast_check_tables_symbols.specs.declared.symbol_id.SymbolId.{SymbolId}
use Rattle.fast_check_tables_symbols.specs.Exports.{export_named}
use Rattle.fast_check_tables_modules.specs.symbols.declared.tables.ReExportAllNode.{ReExportAllNode}
use Rattle.fast_check_tables_modules.specs.symbols.Tables.{Tables}
use Rattle.fast_check_finder_lattice.specs.Names.{Name, Path, Touched}
use Rattle.fast_check_finder_lattice.specs.Imports.{NameDemand, names_but_default, each_name, subset_at, whole_at, default_name}
use Rattle.fast_check_finder_demands.specs.Account.{parts}
use Rattle.fast_check_finder_demands.specs.symbol_demands.Demands.{Demand as SymbolDemand}
use Rattle.fast_check_finder_demands.specs.symbol_demands.Rules.{each_of, reference, names}
use Rattle.fast_check_finder_demands.specs.declared.re_exports.modules.GraphModule.{GraphModule}
use Rattle.fast_check_finder_demands.specs.declared.symbol_demands.demand.Extent.TheVariants as extents
use Rattle.fast_check_finder_demands.specs.name_demands.Files.{files}
use Rattle.fast_check_finder_demands.specs.re_exports.Modules.{own_tables, own_export, first_with, answer_of}
use Rattle.fast_check_finder_demands.specs.re_exports.ReExports.{module_followers, all_re_exported, answered_at, node_ranges, first_range, re_export_ranges}
use Rattle.fast_check_finder_demands.specs.re_exports.Roots.{export_whole, star_export, star_roots, path_roots, roots}
use Rattle.fast_check_finder_demands.specs.asked.Account.{IsStarred}
use Rattle.fast_check_finder_demands.specs.asked.Demands.{Text, one, asked_by, DemandSet, to_module, to_symbol, Demand, of_package, of_module, of_symbol}
use Rattle.fast_check_finder_demands.specs.asked.Demands.{Follows}
use Rattle.fast_check_finder_demands.specs.facts.GraphFacts.{Known}
use Rattle.fast_check_finder_demands.specs.facts.Followers.{file_followers, re_export_followers}
use Rattle.fast_check_finder_demands.proofs.Elements.{no_element, cases, only, first, later, in_map, of_map}
use Rattle.fast_check_finder_ranges.specs.findings.Yields.{Yield, recorded}
use Rattle.fast_check_finder_loop.specs.Account.{Chained, is_package, is_of, names_at, meets}
use Rattle.fast_check_finder_loop.specs.Measure.{Universe, IsWithin, IsInside, IsSetInside, IsUniverse}
use Rattle.fast_check_finder_loop.specs.Rules.{followers, names_followers, symbol_followers, own_text, entry_followers, entered_followers}
use Rattle.fast_check_finder_loop.specs.Rules.{unless_faulty, entry_demands}
use Rattle.fast_check_finder_loop.specs.Yields.{demand_yields, names_yields, dependencies, public_at, untyped_yields}
use Rattle.fast_check_finder_loop.proofs.Accounted.{text_is}
use Rattle.fast_check_finder_loop.proofs.Inside.{inside}
use Rattle.fast_check_finder_loop.proofs.Places.{nv_is}
use Rattle.fast_check_finder_unique.specs.Points.{at_module, at_name, at_symbol, its_module, its_name, its_symbol}
use Rattle.fast_check_finder_unique.specs.Settled.{IsForced, yielded, by_root, by_follower, AreSettled}
use Rattle.fast_check_finder_unique.specs.Example.{ExportsOneFunction, export_demand}

abbrev default_path : Path
default_path = default_name ∷ []

-- the paths that are demanded: `default` and the empty one
abbrev pub few : List Path
few = default_path ∷ [] ∷ []

of_few : (n : Name) (q : Path) → Contains few (n ∷ q) → n ∷ q ≡ default_path
of_few n q c = ⊎_elim (λ is. sym is) (λ there. absurd (no_path (only [] (n ∷ q) there))) (cases default_path ([] ∷ []) (n ∷ q) c)
  where
    no_path : ◌≡◌ {A = Path} [] (n ∷ q) → ⊥
    no_path e = cc

first_name : (n : Name) (q : Path) → n ∷ q ≡ default_path → n ≡ default_name
first_name n q e = cc

none_if : {X : Type 0} (b : Bool) → ◌≡◌ {A = List X} (cond b [] []) []
none_if true = refl
none_if false = refl

one_export : {X : Type 0} (b : Bool) (x y : X) → Contains (cond b (x ∷ []) []) y → x ≡ y
one_export true x y c = only x y c
one_export false x y c = absurd (no_element y c)

not_same : (m n : Name) → (m ≡ n → ⊥) → bytes_eq m n ≡ false
not_same m n h = ⊎_elim (λ same. absurd (h (text_is m n same))) (λ other. other) (cases_Bool (bytes_eq m n))

package_is : (p : Nv) (d : Demand) → is_package p d ≡ true → d ≡ of_package p
package_is p (of_package q) h = ap of_package (sym (nv_is p q h))
package_is p (of_module q t d) h = absurd (false≢true h)
package_is p (of_symbol q t s) h = absurd (false≢true h)

all_asked : (c : NameDemand) → asked_by each_name c ≡ true → IsWithin few c
all_asked names_but_default h = tt
all_asked each_name h = tt
all_asked (subset_at q) h = absurd (false≢true h)
all_asked (whole_at q) h = absurd (false≢true h)

module _ (k : Known) (p : Nv) (url : Parts) (m : GraphModule) (root : Symbol) (name : Name) (x : SymbolId)
    (e : ExportsOneFunction k p url m root name x) where
  abbrev t : Text
  t = serialize url

  abbrev tables : Tables
  tables = own_tables m

  abbrev s : SymbolDemand
  s = export_demand m x

  abbrev all : Universe
  all = record { packages = p ∷ []; texts = t ∷ []; paths = few; own_texts = t ∷ []; symbols = s ∷ [] }

  -- ---- what follows

  pub of_entry : followers k (of_package p) ≡ to_module p t (asked_by each_name) ∷ []
  of_entry = ap (entry_followers k.graph k.used p) e.entrance
      ∙ (ap (entered_followers k.graph p (url ∷ [])) e.uncached
      ∙ ap (λ fs. unless_faulty fs (map (entry_demands p) (url ∷ []))) e.typed)

  whole_is : export_whole tables x ≡ s
  whole_is = ap (λ n. reference x n tables.module_symbol) e.value

  of_star : (b : Bool) (y : SymbolDemand) → Contains (star_roots tables b) y → y ≡ s
  of_star b y c =
      let here : Contains (flat_map (star_export tables b) root.exports) y =
      subst (λ (o : Option Symbol). Contains (each_of (λ (z : Symbol). flat_map (star_export tables b) z.exports) o) y) e.root_symbol c in
      let one = subst (λ (xs : List (Name × SymbolId)). Contains (flat_map (star_export tables b) xs) y) e.exports here in
      ⊎_elim (λ h. sym (one_export (b || not (bytes_eq name default_name)) (export_whole tables x) y h) ∙ whole_is)
      (λ none. absurd (no_element y none))
      (Contains-append_cases (star_export tables b (name, x)) [] y one)

  in_star : (b : Bool) → Contains (star_roots tables b) s
  in_star b =
      let stays : (b || not (bytes_eq name default_name)) ≡ true =
      or_not b (bytes_eq name default_name) (not_same name default_name (λ h. e.no_default (sym h))) in
      let here : Contains (star_export tables b (name, x) ++ []) s =
      Contains-append_left (star_export tables b (name, x)) [] s
      (subst (λ (v : Bool). Contains (cond v (export_whole tables x ∷ []) []) s) (sym stays) (first s (export_whole tables x) [] whole_is)) in
      subst (λ (o : Option Symbol). Contains (each_of (λ (z : Symbol). flat_map (star_export tables b) z.exports) o) s) (sym e.root_symbol)
      (subst (λ (xs : List (Name × SymbolId)). Contains (flat_map (star_export tables b) xs) s) (sym e.exports) here)
    where
      or_not : (a c : Bool) → c ≡ false → (a || not c) ≡ true
      or_not true c h = refl
      or_not false true h = sym h
      or_not false false h = refl

  no_own_default : own_export tables default_name ≡ None
  no_own_default = ap (option_and_then (λ (z : Symbol). export_named default_name z.exports)) e.root_symbol
      ∙ (ap (λ (xs : List (Name × SymbolId)). export_named default_name xs) e.exports
      ∙ ap (λ b. cond b (Some x) None) (not_same default_name name e.no_default))

  of_path : (n : Name) (f : SymbolId → List SymbolDemand) (y : SymbolDemand) → n ≡ default_name → Contains (each_of f (own_export tables n)) y → ⊥
  of_path n f y is c = no_element y
      (subst (λ (o : Option SymbolId). Contains (each_of f o) y) (ap (own_export tables) is ∙ no_own_default) c)

  -- only a demand of all names leads to the function
  pub roots_starred : (c : NameDemand) → IsWithin few c → (y : SymbolDemand) → Contains (roots tables c) y → (y ≡ s) × IsStarred c
  roots_starred names_but_default w y h = (of_star false y h, tt)
  roots_starred each_name w y h = (of_star true y h, tt)
  roots_starred (subset_at []) w y h = absurd (no_element y h)
  roots_starred (subset_at (n ∷ q)) w y h = absurd (of_path n (λ (z : SymbolId). path_roots tables z q extents.Touched) y (first_name n q (of_few n q w)) h)
  roots_starred (whole_at []) w y h = absurd (no_element y h)
  roots_starred (whole_at (n ∷ q)) w y h = absurd (of_path n (λ (z : SymbolId). path_roots tables z q extents.Whole) y (first_name n q (of_few n q w)) h)

  no_answer : (n : Name) (c : NameDemand) → answered_at c (option_and_then (answer_of m n) (first_with m n tables.re_exports)) ≡ []
  no_answer n c = ap (λ (xs : List ReExportAllNode). answered_at c (option_and_then (answer_of m n) (first_with m n xs))) e.re_exports

  not_followed : (c : NameDemand) → module_followers m c ≡ []
  not_followed names_but_default = ap all_re_exported e.re_exports
  not_followed each_name = ap all_re_exported e.re_exports
  not_followed (subset_at []) = refl
  not_followed (subset_at (n ∷ q)) = ap (λ zs. cond (is_some (own_export tables n)) [] zs) (no_answer n (subset_at (n ∷ q)))
      ∙ none_if (is_some (own_export tables n))
  not_followed (whole_at []) = refl
  not_followed (whole_at (n ∷ q)) = ap (λ zs. cond (is_some (own_export tables n)) [] zs) (no_answer n (whole_at (n ∷ q)))
      ∙ none_if (is_some (own_export tables n))

  names_are : (c : NameDemand) → names_followers k p c m ≡ map (to_symbol p (own_text m)) (roots tables c) ++ []
  names_are c = ap (λ ds. map (to_symbol p (own_text m)) (roots tables c) ++ flat_map (re_export_followers k p m) ds) (not_followed c)

  pub of_names : (c : NameDemand) → followers k (of_module p t c) ≡ map (to_symbol p (own_text m)) (roots tables c) ++ []
  of_names c = ap (each_of (names_followers k p c)) e.followed ∙ names_are c

  pub no_followers : symbol_followers k p s m ≡ []
  no_followers = ap (λ ds. map (to_symbol p (own_text m)) ds ++ flat_map (file_followers k p m) (files tables s)) e.no_names
      ∙ ap (λ fs. flat_map (file_followers k p m) fs) e.no_files

  pub of_function : followers k (of_symbol p t s) ≡ []
  of_function = ap (each_of (symbol_followers k p s)) e.named ∙ no_followers

  -- ---- all that is demanded

  from_module : (c : NameDemand) (w : DemandSet) → IsWithin few c → Contains (map (to_symbol p (own_text m)) (roots tables c) ++ []) w →
      IsSetInside all w
  from_module c w within h = ⊎_elim
      (λ here.
      let y = of_map (to_symbol p (own_text m)) (roots tables c) w here in
      subst (λ (z : DemandSet). IsSetInside all z) y.2
      (first p p [] refl, first (own_text m) t [] (sym e.own_name), first y.0 s [] (sym (roots_starred c within y.0 y.1).0)))
      (λ none. absurd (no_element w none))
      (Contains-append_cases (map (to_symbol p (own_text m)) (roots tables c)) [] w h)

  closed : (d : Demand) (w : DemandSet) → IsInside all d → Contains (followers k d) w → IsSetInside all w
  closed (of_package q) w i h =
      let at = subst (λ (v : Nv). Contains (followers k (of_package v)) w) (sym (only p q i)) h in
      let is = only (to_module p t (asked_by each_name)) w (subst (λ (ws : List DemandSet). Contains ws w) of_entry at) in
      subst (λ (z : DemandSet). IsSetInside all z) is (first p p [] refl, first t t [] refl, all_asked)
  closed (of_module q v c) w i h =
      let at = subst (λ (z : Nv). Contains (followers k (of_module z v c)) w) (sym (only p q i.0)) h in
      let there = subst (λ (z : Text). Contains (followers k (of_module p z c)) w) (sym (only t v i.1)) at in
      from_module c w i.2 (subst (λ (ws : List DemandSet). Contains ws w) (of_names c) there)
  closed (of_symbol q v z) w i h =
      let a = subst (λ (y : Nv). Contains (followers k (of_symbol y v z)) w) (sym (only p q i.0)) h in
      let b = subst (λ (y : Text). Contains (followers k (of_symbol p y z)) w) (sym (only t v i.1)) a in
      let c = subst (λ (y : SymbolDemand). Contains (followers k (of_symbol p t y)) w) (sym (only s z i.2)) b in
      absurd (no_element w (subst (λ (ws : List DemandSet). Contains ws w) of_function c))

  is_all : IsUniverse (followers k) (p ∷ []) all
  is_all = record {
    has_roots = λ q c. c;
    default = first default_path default_path ([] ∷ []) refl;
    empty = later default_path ([] ∷ []) [] (first [] [] [] refl);
    closed = closed;
    narrowed = λ d z c h. subst (λ (y : SymbolDemand). Contains (parts y) z) (sym (only s d c)) h;
  }

  pub within_all : (d : Demand) → Chained (followers k) (p ∷ []) d → IsInside all d
  within_all d c = inside (followers k) (p ∷ []) all is_all d c

  -- ---- what is yielded

  abbrev Forced : Yield → List Demand → Type 0
  Forced y ds = IsForced (followers k) (demand_yields k) (p ∷ []) y ds

  -- every account has the package
  with_package : (y : Yield) → ((ds : List Demand) → Contains ds (of_package p) → Forced y ds) → Forced y []
  with_package y go = by_root p (first p p [] refl) (λ c chained h. go (c ∷ []) (first (of_package p) c [] (package_is p c h)))

  follows_entry : Follows (followers k) (of_package p) (of_module p t each_name)
  follows_entry = record {
    demand_set = to_module p t (asked_by each_name);
    among = subst (λ (ws : List DemandSet). Contains ws (to_module p t (asked_by each_name))) (sym of_entry)
        (first (to_module p t (asked_by each_name)) (to_module p t (asked_by each_name)) [] refl);
    includes = (refl, refl, refl);
  }

  pub star_roots_have : (c : NameDemand) → IsStarred c → Contains (roots tables c) s
  star_roots_have names_but_default h = in_star false
  star_roots_have each_name h = in_star true
  star_roots_have (subset_at q) h = absurd h
  star_roots_have (whole_at q) h = absurd h

  follows_function : (c : NameDemand) → IsStarred c → Follows (followers k) (of_module p t c) (of_symbol p t s)
  follows_function c h = record {
    demand_set = to_symbol p (own_text m) s;
    among = subst (λ (ws : List DemandSet). Contains ws (to_symbol p (own_text m) s)) (sym (of_names c))
        (Contains-append_left (map (to_symbol p (own_text m)) (roots tables c)) [] (to_symbol p (own_text m) s)
        (in_map (to_symbol p (own_text m)) (roots tables c) s (star_roots_have c h)));
    includes = (refl, e.own_name, refl);
  }

  -- each demand of the module yields the same

  no_ranges : (c : NameDemand) → re_export_ranges m c ≡ []
  no_ranges names_but_default = ap node_ranges e.re_exports
  no_ranges each_name = ap node_ranges e.re_exports
  no_ranges (subset_at []) = refl
  no_ranges (subset_at (n ∷ q)) =
      ap (λ (xs : List ReExportAllNode). cond (is_some (own_export tables n)) [] (first_range xs (first_with m n xs))) e.re_exports
      ∙ none_if (is_some (own_export tables n))
  no_ranges (whole_at []) = refl
  no_ranges (whole_at (n ∷ q)) =
      ap (λ (xs : List ReExportAllNode). cond (is_some (own_export tables n)) [] (first_range xs (first_with m n xs))) e.re_exports
      ∙ none_if (is_some (own_export tables n))

  no_dependency : (ds : List SymbolDemand) → dependencies p (map (to_symbol p (own_text m)) ds ++ []) ≡ []
  no_dependency [] = refl
  no_dependency (d ∷ ds) = no_dependency ds

  only_recorded : (c : NameDemand) → names_yields k p c m ≡ recorded p (own_text m) ∷ []
  only_recorded c = ap (λ rs. recorded p (own_text m) ∷ (public_at p m rs ++ dependencies p (names_followers k p c m))) (no_ranges c)
      ∙ (ap (λ ws. recorded p (own_text m) ∷ dependencies p ws) (names_are c)
      ∙ ap (λ ys. recorded p (own_text m) ∷ ys) (no_dependency (roots tables c)))

  pub module_yields : (c : NameDemand) → demand_yields k (of_module p t c) ≡ recorded p (own_text m) ∷ untyped_yields k.graph p t
  module_yields c = ap (λ (o : Option GraphModule). each_of (names_yields k p c) o ++ untyped_yields k.graph p t) e.followed
      ∙ ap (λ ys. ys ++ untyped_yields k.graph p t) (only_recorded c)

  -- a chained demand of the module
  of_the_module : (d : Demand) → Chained (followers k) (p ∷ []) d → is_of t d ≡ true → (c : NameDemand) × (d ≡ of_module p t c)
  of_the_module (of_package q) chained h = absurd (false≢true h)
  of_the_module (of_module q v c) chained h =
      let i = within_all (of_module q v c) chained in
      (c, ap (λ z. of_module z v c) (sym (only p q i.0)) ∙ ap (λ z. of_module p z c) (sym (only t v i.1)))
  of_the_module (of_symbol q v z) chained h = absurd (false≢true h)

  -- a chained demand of the name of the export demands all names
  no_path_has : (q : Path) → q ≡ default_path → one (whole_at q) Touched (name ∷ []) ≡ true → ⊥
  no_path_has q is h = e.no_default (text_is default_name name
      (and_parts (bytes_eq default_name name) true (subst (λ (z : Path). one (whole_at z) Touched (name ∷ []) ≡ true) is h)).0)

  no_subset_has : (q : Path) → q ≡ default_path → one (subset_at q) Touched (name ∷ []) ≡ true → ⊥
  no_subset_has q is h = e.no_default (text_is default_name name
      (and_parts (bytes_eq default_name name) true (subst (λ (z : Path). one (subset_at z) Touched (name ∷ []) ≡ true) is h)).0)

  is_starred : (c : NameDemand) → IsWithin few c → one c Touched (name ∷ []) ≡ true → IsStarred c
  is_starred names_but_default w h = tt
  is_starred each_name w h = tt
  is_starred (subset_at []) w h = absurd (false≢true h)
  is_starred (subset_at (n ∷ q)) w h = absurd (no_subset_has (n ∷ q) (of_few n q w) h)
  is_starred (whole_at []) w h = absurd (false≢true h)
  is_starred (whole_at (n ∷ q)) w h = absurd (no_path_has (n ∷ q) (of_few n q w) h)

  of_the_name : (d : Demand) → Chained (followers k) (p ∷ []) d → names_at t d Touched (name ∷ []) ≡ true →
      (c : NameDemand) × (d ≡ of_module p t c) × IsStarred c
  of_the_name (of_package q) chained h = absurd (false≢true h)
  of_the_name (of_module q v c) chained h =
      let i = within_all (of_module q v c) chained in (
        c,
        ap (λ z. of_module z v c) (sym (only p q i.0)) ∙ ap (λ z. of_module p z c) (sym (only t v i.1)),
        is_starred c i.2 (and_parts (bytes_eq t v) (one c Touched (name ∷ [])) h).1,
      )
  of_the_name (of_symbol q v z) chained h = absurd (false≢true h)

  of_the_function : (d : Demand) → Chained (followers k) (p ∷ []) d → meets p t s d ≡ true → d ≡ of_symbol p t s
  of_the_function (of_package q) chained h = absurd (false≢true h)
  of_the_function (of_module q v c) chained h = absurd (false≢true h)
  of_the_function (of_symbol q v z) chained h =
      let i = within_all (of_symbol q v z) chained in
      ap (λ y. of_symbol y v z) (sym (only p q i.0)) ∙ (ap (λ y. of_symbol p y z) (sym (only t v i.1))
      ∙ ap (λ y. of_symbol p t y) (sym (only s z i.2)))

  -- a list begins with a demand that is another one
  begins : (ds : List Demand) (c d : Demand) → c ≡ d → Contains (c ∷ ds) d
  begins ds c d is = first d c ds is

  forced_module : (y : Yield) (c : NameDemand) → Contains (demand_yields k (of_module p t c)) y → Forced y []
  forced_module y c h = with_package y (λ ds among.
      by_follower (of_package p) (of_module p t each_name) (at_module t) among follows_entry its_module (λ d chained has.
      let is = of_the_module d chained has in
      yielded (of_module p t is.0) (begins ds d (of_module p t is.0) is.1)
      (subst (λ (ys : List Yield). Contains ys y) (module_yields c ∙ sym (module_yields is.0)) h)))

  forced_function : (y : Yield) → Contains (demand_yields k (of_symbol p t s)) y → Forced y []
  forced_function y h = with_package y (λ ds among.
      by_follower (of_package p) (of_module p t each_name) (at_name t Touched (name ∷ [])) among follows_entry (its_name refl)
      (λ d chained has.
      let is = of_the_name d chained has in
      by_follower (of_module p t is.0) (of_symbol p t s) (at_symbol p t s) (begins ds d (of_module p t is.0) is.1)
      (follows_function is.0 is.2) (its_symbol (first s s [] refl))
      (λ f meant meets_it.
      yielded (of_symbol p t s) (begins (d ∷ ds) f (of_symbol p t s) (of_the_function f meant meets_it)) h)))

  forced : (d : Demand) (y : Yield) → IsInside all d → Contains (demand_yields k d) y → Forced y []
  forced (of_package q) y i h = with_package y (λ ds among. yielded (of_package p) among
      (subst (λ (z : Nv). Contains (demand_yields k (of_package z)) y) (sym (only p q i)) h))
  forced (of_module q v c) y i h = forced_module y c
      (subst (λ (z : Text). Contains (demand_yields k (of_module p z c)) y) (sym (only t v i.1))
      (subst (λ (z : Nv). Contains (demand_yields k (of_module z v c)) y) (sym (only p q i.0)) h))
  forced (of_symbol q v z) y i h = forced_function y
      (subst (λ (x : SymbolDemand). Contains (demand_yields k (of_symbol p t x)) y) (sym (only s z i.2))
      (subst (λ (x : Text). Contains (demand_yields k (of_symbol p x z)) y) (sym (only t v i.1))
      (subst (λ (x : Nv). Contains (demand_yields k (of_symbol x v z)) y) (sym (only p q i.0)) h)))

  pub settled : AreSettled (followers k) (demand_yields k) (p ∷ []) (λ (y : Yield). true)
  settled d y chained h picked = forced d y (within_all d chained) h
