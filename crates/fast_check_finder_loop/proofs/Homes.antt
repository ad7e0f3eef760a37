-- What is asked of a module is asked for the same package, or the module's package is asked for beside it.
use Rattle.std.proofs.Common.{◌≡◌, refl, Bool, true, false, cond, IsTrue, List, [], ◌∷◌, ◌++◌, map, Option, Some, None, inl, inr}
use Rattle.std.proofs.Common.{⊎_elim, ◌⊎◌}
use Rattle.std.specs.List.{Contains, flat_map}
use Rattle.std.proofs.lemmas.List.Elements.{Contains-append_left, Contains-append_right}
use Rattle.url.specs.Parts.{Parts, serialize}
use Rattle.fast_check_tables_packages.specs.Package.{Nv}
use Rattle.fast_check_tables_cache.specs.Cache.{ItemView}
use Rattle.fast_check_finder_lattice.specs.Imports.{NameDemand, names_but_default}
use Rattle.fast_check_finder_demands.specs.symbol_demands.Demands.{Demand as SymbolDemand}
use Rattle.fast_check_finder_demands.specs.symbol_demands.Rules.{each_of, names}
use Rattle.fast_check_finder_demands.proofs.Elements.{later, in_flat}
use Rattle.fast_check_finder_demands.proofs.Each.{Each, each_nil, each_one, each_append, each_cons, each_map, each_flat}
use Rattle.fast_check_finder_demands.specs.name_demands.Files.{FileDemand, files}
use Rattle.fast_check_finder_ranges.specs.declared.findings.found.EntryFault.{EntryFault}
use Rattle.fast_check_finder_demands.specs.declared.re_exports.modules.GraphModule.{GraphModule}
use Rattle.fast_check_finder_demands.specs.re_exports.Modules.{own_tables}
use Rattle.fast_check_finder_demands.specs.re_exports.Roots.{roots}
use Rattle.fast_check_finder_demands.specs.re_exports.ReExports.{ModuleDemand, re_exported, answered, module_followers}
use Rattle.fast_check_finder_demands.specs.asked.Demands.{Text, NameDemands, same_nv, asked_by, DemandSet, to_package, to_module, to_symbol}
use Rattle.fast_check_finder_demands.specs.asked.Demands.{Demand, of_package, of_module, of_symbol}
use Rattle.fast_check_finder_demands.proofs.asked.Maps.{first_in}
use Rattle.fast_check_finder_ranges.specs.entries.Entries.{Entrance, passed_over, refused, entered, all_faults}
use Rattle.fast_check_finder_demands.specs.facts.GraphFacts.{Known, module_at}
use Rattle.fast_check_finder_demands.specs.facts.Followers.{file_at, behind, resolved, file_followers, re_export_followers}
use Rattle.fast_check_finder_loop.specs.Account.{package_of}
use Rattle.fast_check_finder_loop.specs.Rules.{own_text, module_of, names_followers, symbol_followers, entry_demands, unless_faulty, entrance_at}
use Rattle.fast_check_finder_loop.specs.Rules.{entered_followers, entry_followers, followers}
use Rattle.fast_check_finder_loop.proofs.Accounted.{nv_itself}

-- by what is asked beside it
abbrev pub IsAtHome : Nv → List DemandSet → DemandSet → Type 0
IsAtHome nv all (to_package p) = Unit {0}
IsAtHome nv all (to_module p t w) = IsTrue (same_nv nv p) ⊎ Contains all (to_package p)
IsAtHome nv all (to_symbol p t s) = p ≡ nv

module _ (nv : Nv) where
  abbrev pub AreAtHome : List DemandSet → Type 0
  AreAtHome all = Each (IsAtHome nv all) all

  -- where more is asked
  more : (some all : List DemandSet) → ((w : DemandSet) → Contains some w → Contains all w) → (w : DemandSet) → IsAtHome nv some w → IsAtHome nv all w
  more some all f (to_package p) h = tt
  more some all f (to_module p t w) h = ⊎_elim (λ same. inl same) (λ c. inr (f (to_package p) c)) h
  more some all f (to_symbol p t s) h = h

  home_append : (xs ys : List DemandSet) → AreAtHome xs → AreAtHome ys → AreAtHome (xs ++ ys)
  home_append xs ys f g = each_append (IsAtHome nv (xs ++ ys)) xs ys
      (λ w c. more xs (xs ++ ys) (Contains-append_left xs ys) w (f w c))
      (λ w c. more ys (xs ++ ys) (Contains-append_right xs ys) w (g w c))

  home_flat : {X : Type 0} (f : X → List DemandSet) (xs : List X) → ((x : X) → AreAtHome (f x)) → AreAtHome (flat_map f xs)
  home_flat f xs h = each_flat (IsAtHome nv (flat_map f xs)) f xs
      (λ x c w i. more (f x) (flat_map f xs) (λ v j. in_flat f xs x v c j) w (h x w i))

  home_each_of : {X : Type 0} (f : X → List DemandSet) (o : Option X) → ((x : X) → AreAtHome (f x)) → AreAtHome (each_of f o)
  home_each_of f None h = each_nil (IsAtHome nv [])
  home_each_of f (Some x) h = h x

  -- of a file, and behind a re-export

  file_home : (t : Text) (w : NameDemands) (o : Option Nv) → AreAtHome (file_at nv t w o)
  file_home t w None = each_nil (IsAtHome nv [])
  file_home t w (Some p) = go (same_nv nv p) refl
    where
      go : (b : Bool) → same_nv nv p ≡ b → AreAtHome (cond b (to_module p t w ∷ []) (to_package p ∷ []))
      go true e = each_one (IsAtHome nv (to_module p t w ∷ [])) (to_module p t w) (inl e)
      go false e = each_one (IsAtHome nv (to_package p ∷ [])) (to_package p) tt

  behind_home : (t : Text) (w : NameDemands) (o : Option Nv) → AreAtHome (behind nv t w o)
  behind_home t w None = each_nil (IsAtHome nv [])
  behind_home t w (Some p) = go (same_nv nv p) refl
    where
      go : (b : Bool) → same_nv nv p ≡ b → AreAtHome (to_module p t w ∷ cond b [] (to_package p ∷ []))
      go true e = each_one (IsAtHome nv (to_module p t w ∷ [])) (to_module p t w) (inl e)
      go false e =
          let all = to_module p t w ∷ to_package p ∷ [] in
          each_cons (IsAtHome nv all) (to_module p t w) (to_package p ∷ [])
          (inr (later (to_module p t w) (to_package p ∷ []) (to_package p) (first_in (to_package p) [])))
          (each_one (IsAtHome nv all) (to_package p) tt)

  -- of a module

  module _ (k : Known) (m : GraphModule) where
    own_home : (found : List SymbolDemand) → AreAtHome (map (to_symbol nv (own_text m)) found)
    own_home found = each_map (IsAtHome nv (map (to_symbol nv (own_text m)) found)) (to_symbol nv (own_text m)) found (λ s c. refl)

    left_home : (v : ModuleDemand) → AreAtHome (re_export_followers k nv m v)
    left_home (re_exported text) =
        home_each_of (λ url. behind nv (serialize url) (asked_by names_but_default) (k.owner (serialize url))) (resolved m text)
        (λ url. behind_home (serialize url) (asked_by names_but_default) (k.owner (serialize url)))
    left_home (answered url d) = behind_home (serialize url) (asked_by d) (k.owner (serialize url))

    sets_home : (f : FileDemand) → AreAtHome (file_followers k nv m f)
    sets_home f = home_each_of (λ url. file_at nv (serialize url) (asked_by f.names) (k.owner (serialize url))) (resolved m f.text)
        (λ url. file_home (serialize url) (asked_by f.names) (k.owner (serialize url)))

    names_home : (d : NameDemand) → AreAtHome (names_followers k nv d m)
    names_home d = home_append (map (to_symbol nv (own_text m)) (roots (own_tables m) d))
        (flat_map (re_export_followers k nv m) (module_followers m d))
        (own_home (roots (own_tables m) d)) (home_flat (re_export_followers k nv m) (module_followers m d) left_home)

    symbols_home : (s : SymbolDemand) → AreAtHome (symbol_followers k nv s m)
    symbols_home s = home_append (map (to_symbol nv (own_text m)) (names (own_tables m) s))
        (flat_map (file_followers k nv m) (files (own_tables m) s))
        (own_home (names (own_tables m) s)) (home_flat (file_followers k nv m) (files (own_tables m) s) sets_home)

  -- of a package

  entries_home : (urls : List Parts) (faults : List (Parts × EntryFault)) → AreAtHome (unless_faulty faults (map (entry_demands nv) urls))
  entries_home urls [] = each_map (IsAtHome nv (map (entry_demands nv) urls)) (entry_demands nv) urls (λ url c. inl (nv_itself nv))
  entries_home urls (f ∷ faults) = each_nil (IsAtHome nv [])

  entered_home : (k : Known) (urls : List Parts) (item : Option ItemView) → AreAtHome (entered_followers k.graph nv urls item)
  entered_home k urls (Some item) = each_map (IsAtHome nv (map to_package item.0)) to_package item.0 (λ p c. tt)
  entered_home k urls None = entries_home urls (all_faults k.graph urls)

  package_home : (k : Known) (e : Entrance) → AreAtHome (entry_followers k.graph k.used nv e)
  package_home k passed_over = each_nil (IsAtHome nv [])
  package_home k (refused text) = each_nil (IsAtHome nv [])
  package_home k (entered urls) = entered_home k urls (k.used nv urls)

pub at_home : (k : Known) (d : Demand) → AreAtHome (package_of d) (followers k d)
at_home k (of_package nv) = package_home nv k (entrance_at k nv)
at_home k (of_module nv t d) = home_each_of nv (names_followers k nv d) (module_at k t) (λ m. names_home nv k m d)
at_home k (of_symbol nv t s) = home_each_of nv (symbol_followers k nv s) (module_of k t) (λ m. symbols_home nv k m s)
