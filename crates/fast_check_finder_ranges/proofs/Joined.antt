-- What the yields about modules come to, piece by piece.
use Rattle.std.proofs.Common.{◌≡◌, ◌∙◌, refl, sym, ap, subst, Bool, true, false, cond, List, [], ◌∷◌, ◌++◌, map, Option, Some, None, unwrap_or, Vec}
use Rattle.std.proofs.Common.{append_assoc, append-nil}
use Rattle.std.specs.List.{list_any, flat_map, AllByRecursion}
use Rattle.std.specs.Map.{lookup}
use Rattle.std.specs.BTreeMap.{BTreeMap, is_at}
use Rattle.std.specs.BTreeMap as tree
use Rattle.std.specs.Cmp.Lexicographic.{slice_cmp}
use Rattle.std.specs.Ordering.{nat_cmp}
use Rattle.std.specs.Str.{bytes_eq}
use Rattle.std.specs.BTreeSet.{BTreeSet}
use Rattle.std.specs.declared.alloc.Global.{Global}
use Rattle.std.specs.declared.cmp.Ordering.{Ordering}
use Rattle.std.specs.declared.rc.Rc.{Rc}
use Rattle.std.proofs.lemmas.List.Concat.{flat_map-append}
use Rattle.std.proofs.lemmas.List.Elements.{filter-append}
use Rattle.url.specs.Parts.{Parts, serialize}
use Rattle.fast_check_tables_diagnostics.specs.PublicRanges.{PublicRanges}
use Rattle.fast_check_tables_packages.specs.Package.{Nv}
use Rattle.fast_check_finder_demands.specs.asked.Demands.{Text}
use Rattle.fast_check_finder_ranges.specs.findings.Found.{entry_fault_yields, entrance_yields}
use Rattle.fast_check_finder_ranges.specs.declared.findings.found.EntryFault.{EntryFault}
use Rattle.fast_check_finder_ranges.specs.declared.findings.found.Entrance.TheVariants.{Entered}
use Rattle.fast_check_finder_ranges.specs.findings.ModuleFaults.{AreFaultsOf}
use Rattle.fast_check_finder_ranges.specs.findings.Yields.{ModuleFault, Yield, known_package, entry_point}
use Rattle.fast_check_finder_ranges.specs.declared.modules.ModuleParts.{ModuleParts}
use Rattle.fast_check_finder_ranges.specs.Answers.{modules_of, ranges_of, implementations_of, faults_of, about_module, is_filled}
use Rattle.fast_check_finder_ranges.specs.Answers.{StandsFor, lookup_text, IsModuleAnswer}
use Rattle.fast_check_finder_ranges.specs.Parts.{is_text, AreParts, AreModules, Joins, IsAnswerOf}
use Rattle.fast_check_finder_ranges.proofs.About.{AreOf, of_module, of_none}
use Rattle.fast_check_finder_ranges.proofs.Lists.{all_map, filled_right}
use Rattle.fast_check_finder_ranges.proofs.Maps.{text_one, text_total, lookup_key, lookup_after}

-- of one module
pub parts_more : (ys more : List Yield) (old new : ModuleParts) → new.ranges.items ≡ old.ranges.items ++ flat_map ranges_of more →
    new.implementations.items ≡ old.implementations.items ++ flat_map implementations_of more →
    AreFaultsOf (flat_map faults_of ys ++ flat_map faults_of more) new.faults → AreParts ys old → AreParts (ys ++ more) new
parts_more ys more old new r i f a = record {
  ranges = r ∙ (ap (λ x. x ++ flat_map ranges_of more) a.ranges ∙ sym (flat_map-append ranges_of ys more));
  implementations = i ∙ (ap (λ x. x ++ flat_map implementations_of more) a.implementations ∙ sym (flat_map-append implementations_of ys more));
  faults = subst (λ (fs : List ModuleFault). AreFaultsOf fs new.faults) (sym (flat_map-append faults_of ys more)) f;
}

about_more : (t : Text) (ys more : List Yield) → about_module t (ys ++ more) ≡ about_module t ys ++ about_module t more
about_more t ys more = filter-append (λ y. list_any (bytes_eq t) (modules_of y)) ys more

abbrev Modules : Type 0
Modules = List (Parts × ModuleParts)

pub joined_none : AreModules [] []
joined_none t = refl

pub joins_none : (old : Modules) → Joins [] old old
joins_none old ys a = subst (λ (x : List Yield). AreModules x old) (sym (append-nil ys)) a

pub joins_then : (xs ys : List Yield) (a b c : Modules) → Joins xs a b → Joins ys b c → Joins (xs ++ ys) a c
joins_then xs ys a b c p q zs h = subst (λ (x : List Yield). AreModules x c) (append_assoc zs xs ys) (q (zs ++ xs) (p zs h))

pub joins_more : {S : Type 0} (demand_yields : S → List Yield) (ss : List S) (s : S) (a b c : Modules) → Joins (flat_map demand_yields ss) a b →
    Joins (demand_yields s) b c → Joins (flat_map demand_yields (ss ++ s ∷ [])) a c
joins_more demand_yields ss s a b c p q = subst (λ (x : List Yield). Joins x a c)
    (sym (flat_map-append demand_yields ss (s ∷ []) ∙ ap (λ x. flat_map demand_yields ss ++ x) (append-nil (demand_yields s))))
    (joins_then (flat_map demand_yields ss) (demand_yields s) a b c p q)

-- yields about no module
pub joins_silent : (more : List Yield) → AllByRecursion (λ y. modules_of y ≡ []) more → (old : Modules) → Joins more old old
joins_silent more none old ys a t = subst (λ (x : List Yield). StandsFor AreParts x (lookup_text t old))
    (sym (about_more t ys more ∙ (ap (λ x. about_module t ys ++ x) (of_none t more none) ∙ append-nil (about_module t ys)))) (a t)

-- those of a package that is entered with these faults
pub joins_entered : (nv : Nv) (entry_points : Rc (BTreeSet Parts) Global) (faults : Vec (Parts × EntryFault) Global) (old new : Modules) →
    Joins (flat_map (entry_fault_yields nv) faults.items) old new → Joins (entrance_yields nv (Some (Entered entry_points faults))) old new
joins_entered nv entry_points faults old new h =
    let urls : List Yield = map (λ url. entry_point nv (serialize url)) entry_points.value.keys in
    joins_then (known_package nv ∷ urls) (flat_map (entry_fault_yields nv) faults.items) old old new
    (joins_silent (known_package nv ∷ urls)
    (refl, all_map (λ y. modules_of y ≡ []) (λ url. entry_point nv (serialize url)) (λ url. refl) entry_points.value.keys) old) h

-- yields about one module
module _ (url : Parts) (more : List Yield) (filled : is_filled more ≡ true) (each : AreOf url more) (none w : ModuleParts)
    (empty : AreParts [] none) where
  standing : (xs : List Yield) (o : Option ModuleParts) → StandsFor AreParts xs o → AreParts xs (unwrap_or o none)
  standing xs None a = subst (λ (x : List Yield). AreParts x none) (sym a) empty
  standing xs (Some m) a = a.1

  put : (b : Bool) (o here : Option ModuleParts) (xs : List Yield) → StandsFor AreParts xs o → (b ≡ true → o ≡ here) →
      ((ys : List Yield) → AreParts ys (unwrap_or here none) → AreParts (ys ++ more) w) →
      StandsFor AreParts (xs ++ cond b more []) (cond b (Some w) o)
  put true o here xs a e h = (
    filled_right xs more filled,
    h xs (subst (λ (x : Option ModuleParts). AreParts xs (unwrap_or x none)) (e refl) (standing xs o a)),
  )
  put false o here xs a e h = subst (λ (x : List Yield). StandsFor AreParts x o) (sym (append-nil xs)) a

  abbrev text_cmp : Parts → Parts → Ordering
  text_cmp a b = slice_cmp nat_cmp (serialize a) (serialize b)

  pub joins : (old new : BTreeMap Parts ModuleParts) → tree.UpdatesBy text_cmp (text_cmp url) old new (Some w) →
      ((ys : List Yield) → AreParts ys (unwrap_or (lookup (is_at (text_cmp url)) old.entries) none) → AreParts (ys ++ more) w) →
      Joins more old.entries new.entries
  joins old new u h ys a t =
      subst (λ (o : Option ModuleParts). StandsFor AreParts (about_module t (ys ++ more)) o)
      (sym (lookup_after text_total (is_text t) (text_one t) url old new (Some w) u))
      (subst (λ (x : List Yield). StandsFor AreParts x (cond (is_text t url) (Some w) (lookup_text t old.entries)))
      (sym (about_more t ys more ∙ ap (λ x. about_module t ys ++ x) (of_module t url more each)))
      (put (is_text t url) (lookup_text t old.entries) (lookup (is_at (text_cmp url)) old.entries) (about_module t ys) (a t)
      (λ y. lookup_key text_total (is_text t) (text_one t) url old.entries y) h))

-- the answer of a module that stands, or does not
pub answered : (t : Text) (ys : List Yield) (o : Option ModuleParts) (p : Option PublicRanges) → IsAnswerOf t o p →
    StandsFor AreParts ys o → StandsFor (IsModuleAnswer t) ys p
answered t ys None None h a = a
answered t ys None (Some m) h a = absurd h
answered t ys (Some x) None h a = absurd h
answered t ys (Some x) (Some m) h a = (a.0, h ys a.1)
