-- Modules under their names, and the parts that they are made of.
use Rattle.std.proofs.Common.{◌≡◌, ◌∙◌, sym, ap, subst, refl, suc, Bool, true, false, cond, not, List, [], ◌∷◌, Option, Some, None, arith}
use Rattle.std.proofs.Math.Logic.{inl, inr}
use Rattle.std.specs.List.{All, Contains}
use Rattle.std.specs.Option.{option_and_then, option_or}
use Rattle.std.specs.Map.{lookup}
use Rattle.std.specs.BTreeMap.{BTreeMap, get, keys, IsFromIterResult}
use Rattle.std.specs.Ordering.{eq_by_cmp}
use Rattle.std.specs.Cmp.{IsTotalOrder, eq_by_cmp_equiv, on_total}
use Rattle.std.specs.Cmp.Lexicographic.{nat_list_cmp_total, nat_list_eq_equiv, texts_ties}
use Rattle.std.proofs.lemmas.List.Elements.{All-nil, All-cons}
use Rattle.std.proofs.lemmas.Map.Keys.{IsDistinct-from_sorted}
use Rattle.std.proofs.lemmas.Map.Views.{lookup-from_Contains}
use Rattle.url.specs.Parts.{Parts, serialize}
use Rattle.fast_check_tables_symbols.specs.Entries.{last_value}
use Rattle.fast_check_tables_symbols.proofs.Last.{last_of_none}
use Rattle.fast_check_tables_modules.specs.symbols.declared.fault.TableFault.{TableFault}
use Rattle.fast_check_tables_modules.specs.symbols.declared.fault.TableFault.TheVariants as faults
use Rattle.fast_check_tables_modules.proofs.symbol_proofs.Alike.{last_alike}
use Rattle.fast_check_tables_graph.specs.declared.root_symbol.AnyModuleInfo.{AnyModuleInfo}
use Rattle.fast_check_tables_graph.specs.declared.root_symbol.AnyModuleInfo.TheVariants as infos
use Rattle.fast_check_tables_graph.specs.declared.root_symbol.RootSymbol.{RootSymbol}
use Rattle.fast_check_tables_graph.specs.Graph.{is_specifier}
use Rattle.fast_check_tables_graph.specs.Root.{specifier_of, HasMisplaced, StandUnderOwnNames, IsRootFault, IsRootOf}
use Rattle.fast_check_tables_graph.proofs.Tied.{at_specifier}
use Rattle.fast_check_program_requests.specs.declared.build_requests.module_parts.ModuleParts.{ModuleParts}
use Rattle.fast_check_program_requests.specs.declared.build_requests.module_parts.ModuleParts.TheVariants as parts
use Rattle.fast_check_program_requests.specs.build_requests.Modules.{Entries, AreModulesOf, AreSound, IsFirstFault, IsModuleOf}
use Rattle.fast_check_program_requests.specs.build_requests.Root.{url_cmp, name_of, IsRootOfParts, HasMisplacedParts, StandUnderNames, IsBuildFault}

abbrev Modules : Type 0
Modules = List (Parts × AnyModuleInfo)

-- ---- maps of entries

-- what a map of entries has under a name is the last
pub last_named : {X : Type 0} (m : BTreeMap Parts X) (es : List (Parts × X))
    → ((key : Parts) → get url_cmp m key ≡ last_value (λ k. eq_by_cmp url_cmp k key) es)
    → (name : Parts) → lookup (is_specifier name) m.entries ≡ last_value (is_specifier name) es
last_named m es h name =
    sym (at_specifier name m.entries)
    ∙ (h name ∙ last_alike (λ k. eq_by_cmp url_cmp k name) (is_specifier name) es
    (λ k. sym (texts_ties (serialize k) (serialize name)) ∙ nat_list_eq_equiv.symm (serialize k) (serialize name)))

-- an entry with a key that passes, and this value
abbrev Holds : {X : Type 0} → (Parts → Bool) → List (Parts × X) → X → Type 0
Holds {X} test es x = (e : Parts × X) × Contains es e × (test e.0 ≡ true) × (e.1 ≡ x)

found_at : {X : Type 0} (test : Parts → Bool) (e : Parts × X) (es : List (Parts × X)) (x : X) (b : Bool) → test e.0 ≡ b
    → (lookup test es ≡ Some x → Holds test es x) → cond b (Some e.1) (lookup test es) ≡ Some x → Holds test (e ∷ es) x
found_at test e es x true t rest h = (e, (0, omega arith, refl), t, let same : e.1 ≡ x = cc in same)
found_at test e es x false t rest h = let f = rest h in (f.0, (suc f.1.0, omega (arith, f.1.1), f.1.2), f.2, f.3)

found_entry : {X : Type 0} (test : Parts → Bool) (es : List (Parts × X)) (x : X) → lookup test es ≡ Some x → Holds test es x
found_entry test [] x is = cc
found_entry test (e ∷ es) x is = found_at test e es x (test e.0) refl (found_entry test es x) is

-- the look-up of an entry's key finds it
entry_found : (m : BTreeMap Parts AnyModuleInfo) (es : Modules) → IsFromIterResult url_cmp es m → (e : Parts × AnyModuleInfo) →
    Contains m.entries e
    → lookup (is_specifier e.0) m.entries ≡ Some e.1
entry_found m es h e among =
    let total : IsTotalOrder url_cmp = on_total serialize nat_list_cmp_total in
    sym (at_specifier e.0 m.entries)
    ∙ lookup-from_Contains (eq_by_cmp_equiv total) e.0 e.1 m.entries (IsDistinct-from_sorted url_cmp (keys m) h.1) among

-- ---- modules and their parts

-- a module of these parts, or neither
abbrev AreAlike : Option ModuleParts → Option AnyModuleInfo → Type 0
AreAlike None None = Unit {0}
AreAlike None (Some m) = ⊥
AreAlike (Some p) None = ⊥
AreAlike (Some p) (Some m) = IsModuleOf p m

or_alike : (o : Option ModuleParts) (n : Option AnyModuleInfo) (b : Bool) (p : ModuleParts) (m : AnyModuleInfo) →
    AreAlike o n → IsModuleOf p m
    → AreAlike (option_or o (cond b (Some p) None)) (option_or n (cond b (Some m) None))
or_alike None None true p m h is = is
or_alike None None false p m h is = tt
or_alike None (Some n) b p m h is = absurd h
or_alike (Some o) None b p m h is = absurd h
or_alike (Some o) (Some n) b p m h is = h

alike : (test : Parts → Bool) (es : Entries) (ms : Modules) → AreModulesOf es ms → AreAlike (last_value test es) (last_value test ms)
alike test [] [] h = tt
alike test [] (m ∷ ms) h = absurd h
alike test (e ∷ es) [] h = absurd h
alike test (e ∷ es) (m ∷ ms) (h, more) =
    subst (λ (b : Bool). AreAlike (last_value test (e ∷ es)) (option_or (last_value test ms) (cond b (Some m.1) None)))
    (sym (ap test h.name))
    (or_alike (last_value test es) (last_value test ms) (test e.0) e.1 m.1 (alike test es ms more) h.made)

module_there : (o : Option ModuleParts) (n : Option AnyModuleInfo) (p : ModuleParts) → AreAlike o n → o ≡ Some p → (m : AnyModuleInfo) ×
    (n ≡ Some m) × IsModuleOf p m
module_there None n p h is = cc
module_there (Some q) None p h is = absurd h
module_there (Some q) (Some m) p h is = (m, refl, subst (λ (r : ModuleParts). IsModuleOf r m) (let same : q ≡ p = cc in same) h)

parts_there : (o : Option ModuleParts) (n : Option AnyModuleInfo) (m : AnyModuleInfo) → AreAlike o n → n ≡ Some m → (p : ModuleParts) ×
    (o ≡ Some p) × IsModuleOf p m
parts_there o None m h is = cc
parts_there None (Some n) m h is = absurd h
parts_there (Some p) (Some n) m h is = (p, refl, subst (λ (r : AnyModuleInfo). IsModuleOf p r) (let same : n ≡ m = cc in same) h)

own_name : (p : ModuleParts) (m : AnyModuleInfo) → IsModuleOf p m → specifier_of m ≡ name_of p
own_name (parts.Esm p) (infos.Esm m) h = h.specifier
own_name (parts.Esm p) (infos.Json m) h = absurd h
own_name (parts.Json p) (infos.Esm m) h = absurd h
own_name (parts.Json p) (infos.Json m) h = h.specifier

all_sound : (es : Entries) (ms : Modules) → AreModulesOf es ms → All (λ (e : Parts × ModuleParts). AreSound e.1) es
all_sound [] ms h = All-nil (λ (e : Parts × ModuleParts). AreSound e.1)
all_sound (e ∷ es) [] h = absurd h
all_sound (e ∷ es) (m ∷ ms) (h, more) = All-cons (λ (e : Parts × ModuleParts). AreSound e.1) e es h.sound (all_sound es ms more)

-- ---- the root

module _ (es : Entries) (ms : Modules) (made : AreModulesOf es ms) (m : BTreeMap Parts AnyModuleInfo)
    (h : IsFromIterResult url_cmp ms m) where
  named : (name : Parts) → lookup (is_specifier name) m.entries ≡ last_value (is_specifier name) ms
  named = last_named m ms (λ key. h.0 key ∙ last_of_none (eq_by_cmp url_cmp) ms key)

  -- under the name of an entry that is misplaced stand parts that are
  misplaced_parts : HasMisplaced m → HasMisplacedParts es
  misplaced_parts w =
      let k = w.entry.0 in
      let p = parts_there (last_value (is_specifier k) es) (last_value (is_specifier k) ms) w.entry.1 (alike (is_specifier k) es ms made)
      (sym (named k) ∙ entry_found m ms h w.entry w.among) in record {
        name = k;
        misplaced = p.0;
        counts = p.1;
        differs = ap (λ (x : Parts). not (is_specifier k x)) (sym (own_name p.0 w.entry.1 p.2)) ∙ w.differs;
      }

  -- and the other way round
  misplaced_entry : HasMisplacedParts es → HasMisplaced m
  misplaced_entry w =
      let i = module_there (last_value (is_specifier w.name) es) (last_value (is_specifier w.name) ms) w.misplaced
      (alike (is_specifier w.name) es ms made) w.counts in
      let e = found_entry (is_specifier w.name) m.entries i.0 (named w.name ∙ i.1) in record {
        entry = e.0;
        among = e.1;
        differs = ap not (sym (nat_list_eq_equiv.congr (serialize w.name) (serialize e.0.0) (serialize (specifier_of e.0.1)) e.2)
            ∙ ap (is_specifier w.name) (ap specifier_of e.3 ∙ own_name w.misplaced i.0 i.2)) ∙ w.differs;
      }

  pub own_names : StandUnderOwnNames m → StandUnderNames es
  own_names stand w = stand (misplaced_entry w)

  pub root_fault : (f : TableFault) → IsRootFault m f → IsBuildFault es f
  root_fault faults.MissingSymbol w = absurd w
  root_fault faults.SymbolWithoutDecl w = absurd w
  root_fault faults.ModuleNotUnderOwnName w = (all_sound es ms made, misplaced_parts w)
  root_fault faults.ExpandoWithoutSymbol w = absurd w
  root_fault faults.OutOfMemory w = tt

  pub root_of : (ps : List (Parts × Parts)) (aliases : BTreeMap Parts Parts)
      → ((key : Parts) → get url_cmp aliases key ≡ last_value (λ k. eq_by_cmp url_cmp k key) ps)
      → (r : RootSymbol) → IsRootOf m aliases r → IsRootOfParts es ps r
  root_of ps aliases a r is = record {
    made = ms;
    are_made = made;
    finds = λ name. is.finds name ∙
        (λ i. option_or (named name i) (option_and_then (λ (other : Parts). named other i) (last_named aliases ps a name i)));
  }

-- ---- faults of tables

first_is_none : (es : Entries) → IsFirstFault es faults.ModuleNotUnderOwnName → ⊥
first_is_none [] h = h
first_is_none ((k, parts.Esm p) ∷ es) (inl h) = h
first_is_none ((k, parts.Json p) ∷ es) (inl h) = h
first_is_none (e ∷ es) (inr h) = first_is_none es h.1

pub first_fault : (es : Entries) (f : TableFault) → IsFirstFault es f → IsBuildFault es f
first_fault es faults.MissingSymbol h = h
first_fault es faults.SymbolWithoutDecl h = h
first_fault es faults.ModuleNotUnderOwnName h = absurd (first_is_none es h)
first_fault es faults.ExpandoWithoutSymbol h = h
first_fault es faults.OutOfMemory h = tt
