-- What was found, as it is collected by package.
use Rattle.std.proofs.Common.{◌≡◌, ◌∙◌, sym, ap, refl, subst, ℕ, zero, suc, ◌<◌, List, [], ◌∷◌, ◌++◌, map, length, length-append}
use Rattle.std.proofs.Common.{Option, Some, None, inl, inr, ⊎_elim, ◌⊎◌, append-nil, arith, true, false, ◌&&◌, eqb, get_or, is_some, take, drop, append_assoc, ◌+◌}
use Rattle.std.specs.Prelude.{slice_get, option_to_list, position}
use Rattle.std.specs.Map.{keys_of, values_of}
use Rattle.std.specs.Str.{bytes_eq}
use Rattle.std.specs.Cmp.Lexicographic.{bytes_decides}
use Rattle.std.proofs.lemmas.Bool.{false≢true, and_parts, eqb-true}
use Rattle.std.proofs.lemmas.List.Quantifiers.{position-Some}
use Rattle.fast_check_tables_packages.specs.contracts.package.PackageNvPartialEq.TheImpl as package_eq
use Rattle.std.specs.List.{Contains, flat_map}
use Rattle.std.proofs.lemmas.List.{map-append, map-id, take-append-drop, take_more}
use Rattle.std.proofs.lemmas.List.Concat.{flat_map-append}
use Rattle.std.proofs.lemmas.List.Elements.{Contains-append_left, Contains-push_cases, Contains-push}
use Rattle.std.proofs.lemmas.Option.{slice_get_within, none-some}
use Rattle.indexmap.specs.IndexMap.{set_value_at}
use Rattle.url.specs.Parts.{Parts}
use Rattle.fast_check_tables_packages.specs.Package.{Nv, nv_of}
use Rattle.fast_check_tables_packages.specs.declared.package.PackageNv.{PackageNv}
use Rattle.fast_check_tables_packages.proofs.Rows.{last_got as get_last}
use Rattle.fast_check_finder_demands.specs.Yields.{Joins}
use Rattle.fast_check_finder_demands.proofs.Elements.{no_element, first, later, cases, in_map, of_map}
use Rattle.fast_check_finder_demands.proofs.asked.Maps.{some_is}
use Rattle.fast_check_finder_ranges.specs.findings.Found.{entrance_yields, dependency_yields, module_yields, untyped_yields, package_yields, found_yields}
use Rattle.fast_check_finder_ranges.specs.findings.Yields.{Yield, dependency}
use Rattle.fast_check_finder_ranges.specs.declared.findings.found.Entrance.{Entrance}
use Rattle.fast_check_finder_ranges.specs.declared.findings.found.FoundModule.{FoundModule}
use Rattle.fast_check_finder_ranges.specs.declared.findings.found.FoundPackage.{FoundPackage}
use Rattle.fast_check_finder_loop.specs.Finder.{entered_nv, entered_yields}
use Rattle.fast_check_finder_loop.specs.Once.{AreApart}
use Rattle.fast_check_finder_loop.specs.Packages.{Found, Entered, IsNew, IsNumbered, HasPlaces, Adds, IsEntered}
use Rattle.fast_check_finder_loop.specs.Turn.{AreSame}
use Rattle.fast_check_finder_loop.proofs.Joins.{joins_none, joins_first, joins_then, joins_left, joins_right, joins_push, joins_more}
use Rattle.fast_check_finder_loop.proofs.Lists.{get_value}

-- elements by their places

get_left : {X : Type 0} (xs ys : List X) (i : ℕ) → i < length xs → slice_get (xs ++ ys) i ≡ slice_get xs i
get_left [] ys i h = absurd (omega (arith, h))
get_left (x ∷ xs) ys zero h = refl
get_left (x ∷ xs) ys (suc i) h = get_left xs ys i (omega (arith, h))

pub get_some : {X : Type 0} (xs ys : List X) (i : ℕ) (x : X) → slice_get xs i ≡ Some x → slice_get (xs ++ ys) i ≡ Some x
get_some xs ys i x e = get_left xs ys i (slice_get_within xs i x e) ∙ e

got_in : {X : Type 0} (xs : List X) (i : ℕ) (x : X) → slice_get xs i ≡ Some x → Contains xs x
got_in [] i x e = absurd (none-some x e)
got_in (y ∷ xs) zero x e = first x y xs (some_is y x e)
got_in (y ∷ xs) (suc i) x e = later y xs x (got_in xs i x e)

-- each stands once

pub none_split : {X : Type 0} (front back : List X) (x : X) → [] ≡ front ++ x ∷ back → ⊥
none_split [] back x e = cc
none_split (y ∷ front) back x e = cc

pub apart_none : {X : Type 0} (xs : List X) → xs ≡ [] → AreApart xs
apart_none xs none front back x e = absurd (none_split front back x (sym none ∙ e))

-- what came so far, in front of what comes now
turned : {X : Type 0} (all front : List X) (x : X) → map (λ y. y) front ≡ take (length front) all → length front < length all →
    x ≡ get_or all (length front) x → all ≡ front ++ x ∷ drop (length front + 1) all
turned all front x so_far below is =
    let n = length front in
    sym (take-append-drop (n + 1) all)
    ∙ (ap (λ zs. zs ++ drop (n + 1) all)
    (take_more all n x below ∙ (ap (λ zs. zs ++ get_or all n x ∷ []) (sym so_far ∙ map-id front) ∙ ap (λ z. front ++ z ∷ []) (sym is)))
    ∙ append_assoc front (x ∷ []) (drop (n + 1) all))

pub not_before : {X Y : Type 0} (f : X → Y) (all front : List X) (x : X) → map (λ y. y) front ≡ take (length front) all →
    (length front < length all) × (x ≡ get_or all (length front) x) → AreApart (map f all) → Contains (map f front) (f x) → ⊥
not_before f all front x so_far turn apart = apart (map f front) (map f (drop (length front + 1) all)) (f x)
    (ap (map f) (turned all front x so_far turn.0 turn.1) ∙ map-append f front (x ∷ drop (length front + 1) all))

-- what is found of one package

module _ (ps : List Nv) (nv : Nv) where
  abbrev sum : Option Entrance → List ℕ → List FoundModule → List Parts → List Yield
  sum e ds ms us = entrance_yields nv e ++ (flat_map (dependency_yields ps nv) ds ++ (flat_map (module_yields nv) ms
      ++ flat_map (untyped_yields nv) us))

  same_sum : (e f : Option Entrance) (ds es : List ℕ) (ms ns : List FoundModule) (us vs : List Parts) → e ≡ f → ds ≡ es → ms ≡ ns → us ≡ vs →
      sum e ds ms us ≡ sum f es ns vs
  same_sum e f ds es ms ns us vs h i j k = cc

  new_yields : (p : FoundPackage) → IsNew p → package_yields ps nv p ≡ []
  new_yields p n = same_sum p.entrance None p.dependencies.items [] p.modules.items [] p.untyped.items [] n.entrance n.dependencies n.modules
      n.untyped

  abbrev JoinsAt : List Yield → FoundPackage → FoundPackage → Type 0
  JoinsAt more p w = Joins more (package_yields ps nv p) (package_yields ps nv w)

  pub entrance_more : (p w : FoundPackage) (entrance : Entrance) → p.entrance ≡ None → w.entrance ≡ Some entrance →
      w.dependencies.items ≡ p.dependencies.items → w.modules.items ≡ p.modules.items → w.untyped.items ≡ p.untyped.items →
      JoinsAt (entrance_yields nv (Some entrance)) p w
  entrance_more p w entrance none e d m u =
      let more = entrance_yields nv (Some entrance) in
      let behind = flat_map (dependency_yields ps nv) p.dependencies.items ++ (flat_map (module_yields nv) p.modules.items
      ++ flat_map (untyped_yields nv) p.untyped.items) in
      subst (λ (ys : List Yield). Joins more ys (package_yields ps nv w))
      (ap (λ (o : Option Entrance). entrance_yields nv o ++ behind) (sym none))
      (subst (λ (ys : List Yield). Joins more behind ys)
      (sym (same_sum w.entrance (Some entrance) w.dependencies.items p.dependencies.items w.modules.items p.modules.items w.untyped.items
      p.untyped.items e d m u))
      (joins_left more [] more behind (joins_first more)))

  pub dependency_more : (p w : FoundPackage) (place : ℕ) (on : Nv) → slice_get ps place ≡ Some on → w.entrance ≡ p.entrance →
      w.dependencies.items ≡ p.dependencies.items ++ place ∷ [] → w.modules.items ≡ p.modules.items → w.untyped.items ≡ p.untyped.items →
      JoinsAt (dependency nv on ∷ []) p w
  dependency_more p w place on at e d m u =
      let more : List Yield = dependency nv on ∷ [] in
      let behind = flat_map (module_yields nv) p.modules.items ++ flat_map (untyped_yields nv) p.untyped.items in
      let before = flat_map (dependency_yields ps nv) p.dependencies.items in
      let after = flat_map (dependency_yields ps nv) (p.dependencies.items ++ place ∷ []) in
      subst (λ (ys : List Yield). Joins more (package_yields ps nv p) ys)
      (sym (same_sum w.entrance p.entrance w.dependencies.items (p.dependencies.items ++ place ∷ []) w.modules.items p.modules.items
      w.untyped.items p.untyped.items e d m u))
      (joins_right more (before ++ behind) (after ++ behind) (entrance_yields nv p.entrance)
      (joins_left more before after behind
      (subst (λ (ys : List Yield). Joins ys before after) (ap (λ (o : Option Nv). map (dependency nv) (option_to_list o)) at)
      (joins_push (dependency_yields ps nv) p.dependencies.items place))))

  pub module_more : (p w : FoundPackage) (m : FoundModule) → w.entrance ≡ p.entrance → w.dependencies.items ≡ p.dependencies.items →
      w.modules.items ≡ p.modules.items ++ m ∷ [] → w.untyped.items ≡ p.untyped.items → JoinsAt (module_yields nv m) p w
  module_more p w m e d h u =
      let more = module_yields nv m in
      let behind = flat_map (untyped_yields nv) p.untyped.items in
      let before = flat_map (module_yields nv) p.modules.items in
      let after = flat_map (module_yields nv) (p.modules.items ++ m ∷ []) in
      let depends = flat_map (dependency_yields ps nv) p.dependencies.items in
      subst (λ (ys : List Yield). Joins more (package_yields ps nv p) ys)
      (sym (same_sum w.entrance p.entrance w.dependencies.items p.dependencies.items w.modules.items (p.modules.items ++ m ∷ [])
      w.untyped.items p.untyped.items e d h u))
      (joins_right more (depends ++ (before ++ behind)) (depends ++ (after ++ behind)) (entrance_yields nv p.entrance)
      (joins_right more (before ++ behind) (after ++ behind) depends
      (joins_left more before after behind (joins_push (module_yields nv) p.modules.items m))))

  pub untyped_more : (p w : FoundPackage) (url : Parts) → w.entrance ≡ p.entrance → w.dependencies.items ≡ p.dependencies.items →
      w.modules.items ≡ p.modules.items → w.untyped.items ≡ p.untyped.items ++ url ∷ [] → JoinsAt (untyped_yields nv url) p w
  untyped_more p w url e d m h =
      let more = untyped_yields nv url in
      let before = flat_map (untyped_yields nv) p.untyped.items in
      let after = flat_map (untyped_yields nv) (p.untyped.items ++ url ∷ []) in
      let depends = flat_map (dependency_yields ps nv) p.dependencies.items in
      let modules = flat_map (module_yields nv) p.modules.items in
      subst (λ (ys : List Yield). Joins more (package_yields ps nv p) ys)
      (sym (same_sum w.entrance p.entrance w.dependencies.items p.dependencies.items w.modules.items p.modules.items
      w.untyped.items (p.untyped.items ++ url ∷ []) e d m h))
      (joins_right more (depends ++ (modules ++ before)) (depends ++ (modules ++ after)) (entrance_yields nv p.entrance)
      (joins_right more (modules ++ before) (modules ++ after) depends
      (joins_right more before after modules (joins_push (untyped_yields nv) p.untyped.items url))))

-- a package has a place

abbrev names_in : Found → List Nv
names_in found = map (λ x. nv_of x.0) found

abbrev yields_of : List Nv → PackageNv × FoundPackage → List Yield
yields_of ps e = package_yields ps (nv_of e.0) e.1

names_more : (xs ys : Found) → names_in (xs ++ ys) ≡ names_in xs ++ names_in ys
names_more [] ys = refl
names_more (x ∷ xs) ys = ap (λ ns. nv_of x.0 ∷ ns) (names_more xs ys)

names_length : (xs : Found) → length (names_in xs) ≡ length xs
names_length [] = refl
names_length (x ∷ xs) = ap suc (names_length xs)

pub names_get : (xs : Found) (i : ℕ) (e : PackageNv × FoundPackage) → slice_get xs i ≡ Some e → slice_get (names_in xs) i ≡ Some (nv_of e.0)
names_get [] i e h = absurd (none-some e h)
names_get (x ∷ xs) zero e h = ap (λ (z : PackageNv × FoundPackage). Some (nv_of z.0)) (some_is x e h)
names_get (x ∷ xs) (suc i) e h = names_get xs i e h

flat_same : {X Y : Type 0} (f g : X → List Y) (xs : List X) → ((x : X) → Contains xs x → f x ≡ g x) → flat_map f xs ≡ flat_map g xs
flat_same f g [] h = refl
flat_same f g (x ∷ xs) h = ap (λ ys. ys ++ flat_map f xs) (h x (first x x xs refl))
    ∙ ap (λ ys. g x ++ ys) (flat_same f g xs (λ y c. h y (later x xs y c)))

same_places : (ps qs : List Nv) (nv : Nv) (places : List ℕ) → ((place : ℕ) → Contains places place → place < length ps) →
    flat_map (dependency_yields (ps ++ qs) nv) places ≡ flat_map (dependency_yields ps nv) places
same_places ps qs nv places h = flat_same (dependency_yields (ps ++ qs) nv) (dependency_yields ps nv) places
    (λ place c. ap (λ (o : Option Nv). map (dependency nv) (option_to_list o)) (get_left ps qs place (h place c)))

module _ (old : Found) (entry : PackageNv × FoundPackage) (empty : IsNew entry.1) (has : HasPlaces old) where
  abbrev one_more : Found
  one_more = old ++ entry ∷ []

  same_yields : (e : PackageNv × FoundPackage) → Contains old e → yields_of (names_in one_more) e ≡ yields_of (names_in old) e
  same_yields e c =
      let behind = flat_map (module_yields (nv_of e.0)) e.1.modules.items ++ flat_map (untyped_yields (nv_of e.0)) e.1.untyped.items in
      ap (λ (ps : List Nv). yields_of ps e) (names_more old (entry ∷ []))
      ∙ ap (λ (ys : List Yield). entrance_yields (nv_of e.0) e.1.entrance ++ (ys ++ behind))
      (same_places (names_in old) (nv_of entry.0 ∷ []) (nv_of e.0) e.1.dependencies.items
      (λ place t. let below = has e c place t in omega (arith, names_length old, below)))

  yields_one_more : found_yields one_more ≡ found_yields old
  yields_one_more = flat_map-append (yields_of (names_in one_more)) old (entry ∷ [])
      ∙ (ap (λ (ys : List Yield). flat_map (yields_of (names_in one_more)) old ++ (ys ++ []))
      (new_yields (names_in one_more) (nv_of entry.0) entry.1 empty)
      ∙ (append-nil (flat_map (yields_of (names_in one_more)) old)
      ∙ flat_same (yields_of (names_in one_more)) (yields_of (names_in old)) old same_yields))

  places_one_more : HasPlaces one_more
  places_one_more e c place t = ⊎_elim
      (λ o. let below = has e o place t in omega (arith, length-append old (entry ∷ []), below))
      (λ n. absurd (no_element place (subst (λ (ds : List ℕ). Contains ds place) empty.dependencies
      (subst (λ (x : PackageNv × FoundPackage). Contains x.1.dependencies.items place) (sym n) t))))
      (Contains-push_cases old entry e c)

pub numbered_places : (nv : Nv) (number : ℕ) (old new : Found) → IsNumbered nv number old new → HasPlaces old → HasPlaces new
numbered_places nv number old new n has = ⊎_elim
    (λ same. subst HasPlaces (sym same) has)
    (λ more. subst HasPlaces (sym more.0) (places_one_more old n.entry more.1 has))
    n.by

pub numbered_yields : (nv : Nv) (number : ℕ) (old new : Found) → IsNumbered nv number old new → HasPlaces old →
    found_yields new ≡ found_yields old
numbered_yields nv number old new n has = ⊎_elim
    (λ same. ap found_yields same)
    (λ more. ap found_yields more.0 ∙ yields_one_more old n.entry more.1 has)
    n.by

-- and is written there

module _ (w : FoundPackage) where
  set_names : (found : Found) (i : ℕ) → names_in (set_value_at found i w) ≡ names_in found
  set_names [] i = refl
  set_names (x ∷ xs) zero = refl
  set_names (x ∷ xs) (suc i) = ap (λ ns. nv_of x.0 ∷ ns) (set_names xs i)

  set_length : (found : Found) (i : ℕ) → length (set_value_at found i w) ≡ length found
  set_length [] i = refl
  set_length (x ∷ xs) zero = refl
  set_length (x ∷ xs) (suc i) = ap suc (set_length xs i)

  of_set : (found : Found) (i : ℕ) (e x : PackageNv × FoundPackage) → slice_get found i ≡ Some e → Contains (set_value_at found i w) x →
      Contains found x ⊎ (x ≡ (e.0, w))
  of_set [] i e x h c = absurd (none-some e h)
  of_set (y ∷ ys) zero e x h c = ⊎_elim
      (λ is. inr (sym is ∙ ap (λ (z : PackageNv × FoundPackage). (z.0, w)) (some_is y e h)))
      (λ there. inl (later y ys x there))
      (cases (y.0, w) ys x c)
  of_set (y ∷ ys) (suc i) e x h c = ⊎_elim
      (λ is. inl (first x y ys is))
      (λ there. ⊎_elim (λ o. inl (later y ys x o)) (λ n. inr n) (of_set ys i e x h there))
      (cases y (set_value_at ys i w) x c)

  set_yields : (ps : List Nv) (more : List Yield) (found : Found) (i : ℕ) (e : PackageNv × FoundPackage) → slice_get found i ≡ Some e →
      Joins more (yields_of ps e) (yields_of ps (e.0, w)) →
      Joins more (flat_map (yields_of ps) found) (flat_map (yields_of ps) (set_value_at found i w))
  set_yields ps more [] i e h j = absurd (none-some e h)
  set_yields ps more (y ∷ ys) zero e h j = joins_left more (yields_of ps y) (yields_of ps (y.0, w)) (flat_map (yields_of ps) ys)
      (subst (λ (z : PackageNv × FoundPackage). Joins more (yields_of ps z) (yields_of ps (z.0, w))) (sym (some_is y e h)) j)
  set_yields ps more (y ∷ ys) (suc i) e h j = joins_right more (flat_map (yields_of ps) ys) (flat_map (yields_of ps) (set_value_at ys i w))
      (yields_of ps y) (set_yields ps more ys i e h j)

-- what is added to a package is added to what is found
module _ (nv : Nv) (number : ℕ) (old mid : Found) (n : IsNumbered nv number old mid) (w : FoundPackage) (more : List Yield) where
  abbrev written : Found
  written = set_value_at mid number w

  abbrev KeepsPlaces : Type 0
  KeepsPlaces = (place : ℕ) → Contains w.dependencies.items place → Contains n.entry.1.dependencies.items place ⊎ (place < length mid)

  written_places : KeepsPlaces → HasPlaces old → HasPlaces written
  written_places keeps has e c place t =
      let before = numbered_places nv number old mid n has in
      let below : place < length mid = ⊎_elim
      (λ o. before e o place t)
      (λ is. ⊎_elim (λ was. before n.entry (got_in mid number n.entry n.here) place was) (λ b. b)
      (keeps place (subst (λ (x : PackageNv × FoundPackage). Contains x.1.dependencies.items place) is t)))
      (of_set w mid number n.entry e n.here c) in
      omega (arith, set_length w mid number, below)

  written_yields : Joins more (package_yields (names_in mid) nv n.entry.1) (package_yields (names_in mid) nv w) → HasPlaces old →
      Joins more (found_yields old) (found_yields written)
  written_yields j has = subst (λ (ys : List Yield). Joins more ys (found_yields written)) (numbered_yields nv number old mid n has)
      (subst (λ (ps : List Nv). Joins more (found_yields mid) (flat_map (yields_of ps) written)) (sym (set_names w mid number))
      (set_yields w (names_in mid) more mid number n.entry n.here
      (subst (λ (q : Nv). Joins more (package_yields (names_in mid) q n.entry.1) (package_yields (names_in mid) q w)) (sym n.named) j)))

  pub added : KeepsPlaces → Joins more (package_yields (names_in mid) nv n.entry.1) (package_yields (names_in mid) nv w) →
      Adds more old written
  added keeps j = record { places = written_places keeps; yields = written_yields j }

-- a package as it is found, and as it is written
module _ (nv : Nv) (number : ℕ) (old mid : Found) (n : IsNumbered nv number old mid) (p w : FoundPackage)
    (at : Some p ≡ slice_get (values_of mid) number) where
  found_there : p ≡ n.entry.1
  found_there = some_is p n.entry.1 (at ∙ get_value mid number n.entry n.here)

  abbrev put : Found
  put = set_value_at mid number w

  pub add_untyped : (url : Parts) → w.entrance ≡ p.entrance → w.dependencies.items ≡ p.dependencies.items →
      w.modules.items ≡ p.modules.items → w.untyped.items ≡ p.untyped.items ++ url ∷ [] → Adds (untyped_yields nv url) old put
  add_untyped url e d m u = added nv number old mid n w (untyped_yields nv url) (keeps d)
      (subst (λ (q : FoundPackage). Joins (untyped_yields nv url) (package_yields (names_in mid) nv q) (package_yields (names_in mid) nv w))
      found_there (untyped_more (names_in mid) nv p w url e d m u))
    where
      keeps : w.dependencies.items ≡ p.dependencies.items → (place : ℕ) → Contains w.dependencies.items place →
          Contains n.entry.1.dependencies.items place ⊎ (place < length mid)
      keeps d place t = inl (subst (λ (q : FoundPackage). Contains q.dependencies.items place) found_there
          (subst (λ (ds : List ℕ). Contains ds place) d t))

  pub add_module : (f : FoundModule) → w.entrance ≡ p.entrance → w.dependencies.items ≡ p.dependencies.items →
      w.modules.items ≡ p.modules.items ++ f ∷ [] → w.untyped.items ≡ p.untyped.items → Adds (module_yields nv f) old put
  add_module f e d m u = added nv number old mid n w (module_yields nv f) (keeps d)
      (subst (λ (q : FoundPackage). Joins (module_yields nv f) (package_yields (names_in mid) nv q) (package_yields (names_in mid) nv w))
      found_there (module_more (names_in mid) nv p w f e d m u))
    where
      keeps : w.dependencies.items ≡ p.dependencies.items → (place : ℕ) → Contains w.dependencies.items place →
          Contains n.entry.1.dependencies.items place ⊎ (place < length mid)
      keeps d place t = inl (subst (λ (q : FoundPackage). Contains q.dependencies.items place) found_there
          (subst (λ (ds : List ℕ). Contains ds place) d t))

  pub add_dependency : (place : ℕ) (on : Nv) → slice_get (names_in mid) place ≡ Some on → place < length mid → w.entrance ≡ p.entrance →
      w.dependencies.items ≡ p.dependencies.items ++ place ∷ [] → w.modules.items ≡ p.modules.items → w.untyped.items ≡ p.untyped.items →
      Adds (dependency nv on ∷ []) old put
  add_dependency place on there below e d m u = added nv number old mid n w (dependency nv on ∷ []) keeps
      (subst (λ (q : FoundPackage). Joins (dependency nv on ∷ []) (package_yields (names_in mid) nv q) (package_yields (names_in mid) nv w))
      found_there (dependency_more (names_in mid) nv p w place on there e d m u))
    where
      keeps : (other : ℕ) → Contains w.dependencies.items other → Contains n.entry.1.dependencies.items other ⊎ (other < length mid)
      keeps other t = ⊎_elim
          (λ o. inl (subst (λ (q : FoundPackage). Contains q.dependencies.items other) found_there o))
          (λ is. inr (subst (λ (k : ℕ). k < length mid) is below))
          (Contains-push_cases p.dependencies.items place other (subst (λ (ds : List ℕ). Contains ds other) d t))

-- the place of a package stays as others come
pub still_there : (nv on : Nv) (number place : ℕ) (old mid new : Found) → IsNumbered on place old mid → IsNumbered nv number mid new →
    (slice_get (names_in new) place ≡ Some on) × (place < length new)
still_there nv on number place old mid new n m =
    let at : slice_get new place ≡ Some n.entry =
    ⊎_elim (λ same. ap (λ (xs : Found). slice_get xs place) same ∙ n.here)
    (λ more. ap (λ (xs : Found). slice_get xs place) more.0 ∙ get_some mid (m.entry ∷ []) place n.entry n.here) m.by in
    (names_get new place n.entry at ∙ ap (λ (q : Nv). Some q) n.named, slice_get_within new place n.entry at)

pub not_there : {V : Type 0} (es : List (PackageNv × V)) (i : ℕ) (e : PackageNv × V) → slice_get es i ≡ Some e →
    None ≡ slice_get (values_of es) i → ⊥
not_there es i e h none = none-some e.1 (none ∙ get_value es i e h)

-- by keys

pub no_such : {X : Type 0} (o : Option X) → false ≡ is_some o → o ≡ None
no_such None e = refl
no_such (Some x) e = absurd (false≢true e)

same_nvs : (a b : PackageNv) → package_eq.eq-value.it a b ≡ true → nv_of a ≡ nv_of b
same_nvs a b h =
    let x = nv_of a in
    let y = nv_of b in
    let s = and_parts (bytes_eq x.0 y.0) (eqb x.1.0 y.1.0 && (eqb x.1.1 y.1.1 && (eqb x.1.2 y.1.2 && (bytes_eq x.1.3 y.1.3 && bytes_eq x.1.4 y.1.4)))) h in
    let t = and_parts (eqb x.1.0 y.1.0) (eqb x.1.1 y.1.1 && (eqb x.1.2 y.1.2 && (bytes_eq x.1.3 y.1.3 && bytes_eq x.1.4 y.1.4))) s.1 in
    let u = and_parts (eqb x.1.1 y.1.1) (eqb x.1.2 y.1.2 && (bytes_eq x.1.3 y.1.3 && bytes_eq x.1.4 y.1.4)) t.1 in
    let v = and_parts (eqb x.1.2 y.1.2) (bytes_eq x.1.3 y.1.3 && bytes_eq x.1.4 y.1.4) u.1 in
    let w = and_parts (bytes_eq x.1.3 y.1.3) (bytes_eq x.1.4 y.1.4) v.1 in
    parts x y ((bytes_decides x.0 y.0).0 s.0) (eqb-true x.1.0 y.1.0 t.0) (eqb-true x.1.1 y.1.1 u.0) (eqb-true x.1.2 y.1.2 v.0)
    ((bytes_decides x.1.3 y.1.3).0 w.0) ((bytes_decides x.1.4 y.1.4).0 w.1)
  where
    parts : (x y : Nv) → x.0 ≡ y.0 → x.1.0 ≡ y.1.0 → x.1.1 ≡ y.1.1 → x.1.2 ≡ y.1.2 → x.1.3 ≡ y.1.3 → x.1.4 ≡ y.1.4 → x ≡ y
    parts x y a b c d e f = λ i. (a i, (b i, c i, d i, e i, f i))

pub numbered_here : (nv : PackageNv) (number : ℕ) (found : Found) → Some number ≡ position (package_eq.eq-value.it nv) (keys_of found) →
    IsNumbered (nv_of nv) number found found
numbered_here nv number found e =
    let p = position-Some (package_eq.eq-value.it nv) (keys_of found) number nv (sym e) in
    let k : number < length found = omega (arith, keys_length found, p.0) in
    let s = at_index found number nv k in
    record {
      entry = s.0;
      here = s.1;
      named = sym (same_nvs nv s.0.0 (ap (package_eq.eq-value.it nv) (sym s.2) ∙ p.1));
      by = inl refl;
    }
  where
    keys_length : (xs : Found) → length (keys_of xs) ≡ length xs
    keys_length [] = refl
    keys_length (x ∷ xs) = ap suc (keys_length xs)

    at_index : (xs : Found) (i : ℕ) (nv : PackageNv) → i < length xs →
        (e : PackageNv × FoundPackage) × (slice_get xs i ≡ Some e) × (get_or (keys_of xs) i nv ≡ e.0)
    at_index [] i nv h = absurd (omega (arith, h))
    at_index (x ∷ xs) zero nv h = (x, refl, refl)
    at_index (x ∷ xs) (suc i) nv h = at_index xs i nv (omega (arith, h))

pub numbered_last : (nv : PackageNv) (made : FoundPackage) (number : ℕ) (found new : Found) → number ≡ length found → IsNew made →
    new ≡ found ++ (nv, made) ∷ [] → IsNumbered (nv_of nv) number found new
numbered_last nv made number found new len empty e = record {
  entry = (nv, made);
  here = ap (slice_get new) len ∙ (ap (λ (xs : Found). slice_get xs (length found)) e ∙ get_last found (nv, made));
  named = refl;
  by = inr (e, empty);
}

-- in turn

pub adds_none : (found : Found) → Adds [] found found
adds_none found = record { places = λ has. has; yields = λ has. joins_none (found_yields found) }

pub adds_then : (m n : List Yield) (a b c : Found) → Adds m a b → Adds n b c → Adds (m ++ n) a c
adds_then m n a b c p q = record {
  places = λ has. q.places (p.places has);
  yields = λ has. joins_then m n (found_yields a) (found_yields b) (found_yields c) (p.yields has) (q.yields (p.places has));
}

pub adds_more : {X : Type 0} (f : X → List Yield) (xs : List X) (x : X) (a b c : Found) → Adds (flat_map f xs) a b → Adds (f x) b c →
    Adds (flat_map f (xs ++ x ∷ [])) a c
adds_more f xs x a b c p q = record {
  places = λ has. q.places (p.places has);
  yields = λ has. joins_more f xs x (found_yields a) (found_yields b) (found_yields c) (p.yields has) (q.yields (p.places has));
}

pub adds_push : {X : Type 0} (f : X → Yield) (xs : List X) (x : X) (a b c : Found) → Adds (map f xs) a b → Adds (f x ∷ []) b c →
    Adds (map f (xs ++ x ∷ [])) a c
adds_push f xs x a b c p q = subst (λ (ys : List Yield). Adds ys a c) (sym (map-append f xs (x ∷ [])))
    (adds_then (map f xs) (f x ∷ []) a b c p q)

pub adds_numbered : (nv : Nv) (number : ℕ) (old new : Found) → IsNumbered nv number old new → Adds [] old new
adds_numbered nv number old new n = record {
  places = numbered_places nv number old new n;
  yields = λ has. subst (λ (ys : List Yield). Joins [] (found_yields old) ys) (sym (numbered_yields nv number old new n has))
      (joins_none (found_yields old));
}

-- how packages were entered

pub entered_none : (found : Found) → found ≡ [] → IsEntered [] found
entered_none found e = subst (λ (xs : Found). IsEntered [] xs) (sym e) (record {
  named = λ x c. absurd (no_element x c);
  places = λ x c. absurd (no_element x c);
  yields = joins_none [];
})

name_more : (front : List Entered) (x : Entered) (nv : Nv) → Contains (map entered_nv front) nv → Contains (map entered_nv (front ++ x ∷ [])) nv
name_more front x nv c =
    let m = of_map entered_nv front nv c in
    subst (λ (q : Nv). Contains (map entered_nv (front ++ x ∷ [])) q) m.2
    (in_map entered_nv (front ++ x ∷ []) m.0 (Contains-append_left front (x ∷ []) m.0 m.1))

module _ (front : List Entered) (x : Entered) (number : ℕ) (old mid : Found) (n : IsNumbered (entered_nv x) number old mid)
    (p w : FoundPackage) (at : Some p ≡ slice_get (values_of mid) number) (apart : Contains (map entered_nv front) (entered_nv x) → ⊥) (is : IsEntered front old) where
  -- no package that was entered before
  fresh : IsNew n.entry.1
  fresh = ⊎_elim
      (λ same. absurd (apart (subst (λ (q : Nv). Contains (map entered_nv front) q) n.named
      (is.named n.entry (subst (λ (xs : Found). Contains xs n.entry) same (got_in mid number n.entry n.here))))))
      (λ more. more.1)
      n.by

  last_name : Contains (map entered_nv (front ++ x ∷ [])) (entered_nv x)
  last_name = in_map entered_nv (front ++ x ∷ []) x (Contains-push front x)

  names_mid : (e : PackageNv × FoundPackage) → Contains mid e → Contains (map entered_nv (front ++ x ∷ [])) (nv_of e.0)
  names_mid e c = ⊎_elim
      (λ same. name_more front x (nv_of e.0) (is.named e (subst (λ (xs : Found). Contains xs e) same c)))
      (λ more. ⊎_elim
      (λ o. name_more front x (nv_of e.0) (is.named e o))
      (λ here. subst (λ (q : Nv). Contains (map entered_nv (front ++ x ∷ [])) q)
      (sym n.named ∙ ap (λ (z : PackageNv × FoundPackage). nv_of z.0) here) last_name)
      (Contains-push_cases old n.entry e (subst (λ (xs : Found). Contains xs e) more.0 c)))
      n.by

  there : p ≡ n.entry.1
  there = some_is p n.entry.1 (at ∙ get_value mid number n.entry n.here)

  pub entered_more : w.entrance ≡ Some x.1 → w.dependencies.items ≡ p.dependencies.items → w.modules.items ≡ p.modules.items →
      w.untyped.items ≡ p.untyped.items → IsEntered (front ++ x ∷ []) (set_value_at mid number w)
  entered_more e d m u =
      let more = entered_yields x in
      let none : p.entrance ≡ None = subst (λ (q : FoundPackage). q.entrance ≡ None) (sym there) fresh.entrance in
      let adds : Adds more old (set_value_at mid number w) = added (entered_nv x) number old mid n w more
      (λ place t. inl (subst (λ (q : FoundPackage). Contains q.dependencies.items place) there
      (subst (λ (ds : List ℕ). Contains ds place) d t)))
      (subst (λ (q : FoundPackage). Joins more (package_yields (names_in mid) (entered_nv x) q) (package_yields (names_in mid) (entered_nv x) w))
      there (entrance_more (names_in mid) (entered_nv x) p w x.1 none e d m u)) in
      record {
        named = λ y c.
            ⊎_elim (λ o. names_mid y o)
            (λ here. subst (λ (q : Nv). Contains (map entered_nv (front ++ x ∷ [])) q)
            (sym n.named ∙ ap (λ (z : PackageNv × FoundPackage). nv_of z.0) (sym here)) last_name)
            (of_set w mid number n.entry y n.here c);
        places = adds.places is.places;
        yields = joins_more entered_yields front x [] (found_yields old) (found_yields (set_value_at mid number w)) is.yields
            (adds.yields is.places);
      }

-- all

pub all_found : (entrances : List Entered) (depends modules untyped : List Yield) (a b c d : Found) → IsEntered entrances a →
    Adds depends a b → Adds modules b c → Adds untyped c d →
    AreSame (found_yields d) (flat_map entered_yields entrances ++ (depends ++ (modules ++ untyped)))
all_found entrances depends modules untyped a b c d is p q r =
    let more = adds_then depends (modules ++ untyped) a b d p (adds_then modules untyped b c d q r) in
    let whole = joins_then (flat_map entered_yields entrances) (depends ++ (modules ++ untyped)) [] (found_yields a) (found_yields d) is.yields
    (more.yields is.places) in
    record {
      sound = λ y t. ⊎_elim (λ none. absurd (no_element y none)) (λ u. u) (whole.sound y t);
      complete = λ y t. whole.whole y t;
    }
