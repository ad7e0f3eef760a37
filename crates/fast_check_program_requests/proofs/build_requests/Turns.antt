-- Modules that are made one after another.
use Rattle.std.proofs.Common.{◌≡◌, ◌∙◌, true, false, sym, ap, subst, refl, List, [], ◌∷◌, ◌++◌, length, append_assoc, append-nil, arith}
use Rattle.std.proofs.Math.Logic.{inl, inr}
use Rattle.url.specs.Parts.{Parts}
use Rattle.fast_check_tables_modules.specs.symbols.declared.fault.TableFault.{TableFault}
use Rattle.fast_check_tables_modules.specs.symbols.declared.fault.TableFault.TheVariants.{OutOfMemory}
use Rattle.fast_check_tables_graph.specs.declared.root_symbol.AnyModuleInfo.{AnyModuleInfo}
use Rattle.fast_check_program_requests.specs.declared.build_requests.module_parts.ModuleParts.{ModuleParts}
use Rattle.fast_check_program_requests.specs.declared.build_requests.module_parts.ModuleParts.TheVariants as parts
use Rattle.fast_check_program_requests.specs.build_requests.Modules.{Entries, AreModulesOf, IsEntryOf, IsFaultOf, IsFirstFault}

-- what is made of the rest goes behind what is made so far, and a fault of the rest is the first
pub record Goes (all rest : Entries) (made : List (Parts × AnyModuleInfo)) : Type 0 where
  pub more : (ms : List (Parts × AnyModuleInfo)) → AreModulesOf rest ms → AreModulesOf all (made ++ ms)
  pub fault : (f : TableFault) → IsFirstFault rest f → IsFirstFault all f

pub begins : (all rest : Entries) (made : List (Parts × AnyModuleInfo)) → rest ≡ all → made ≡ [] → Goes all rest made
begins all rest made is none = record {
  more = λ ms h. subst (λ (xs : List (Parts × AnyModuleInfo)). AreModulesOf all (xs ++ ms)) (sym none)
      (subst (λ (es : Entries). AreModulesOf es ms) is h);
  fault = λ f h. subst (λ (es : Entries). IsFirstFault es f) is h;
}

pub goes_on : (all rest : Entries) (made : List (Parts × AnyModuleInfo)) (e : Parts × ModuleParts) (left : Entries)
    (m : Parts × AnyModuleInfo)
    (more : List (Parts × AnyModuleInfo)) → Goes all rest made → rest ≡ e ∷ left → IsEntryOf e m → more ≡ made ++ m ∷ [] →
    Goes all left more
goes_on all rest made e left m more g is h grown = record {
  more = λ ms zipped. subst (λ (xs : List (Parts × AnyModuleInfo)). AreModulesOf all xs)
      (sym (append_assoc made (m ∷ []) ms) ∙ ap (λ (xs : List (Parts × AnyModuleInfo)). xs ++ ms) (sym grown))
      (g.more (m ∷ ms) (subst (λ (es : Entries). AreModulesOf es (m ∷ ms)) (sym is) (h, zipped)));
  fault = λ f later. g.fault f (subst (λ (es : Entries). IsFirstFault es f) (sym is) (inr (h.sound, later)));
}

pub fails : (all rest : Entries) (made : List (Parts × AnyModuleInfo)) (e : Parts × ModuleParts) (left : Entries) (f : TableFault) →
    Goes all rest made → rest ≡ e ∷ left → IsFaultOf e.1 f → IsFirstFault all f
fails all rest made e left f g is h = g.fault f (subst (λ (es : Entries). IsFirstFault es f) (sym is) (inl h))

pub wants_memory : (p : ModuleParts) → IsFaultOf p OutOfMemory
wants_memory (parts.Esm p) = tt
wants_memory (parts.Json p) = tt

-- room is lacking only for modules
pub lacks_room : (all : Entries) → (length all ≡ 0 → false ≡ true) → IsFirstFault all OutOfMemory
lacks_room [] some = absurd (let f : false ≡ true = some refl in cc)
lacks_room (e ∷ es) some = inl (wants_memory e.1)

none_left : (xs : Entries) → length xs ≡ 0 → xs ≡ []
none_left [] is = refl
none_left (e ∷ xs) is = let never : ⊥ = omega (arith, is) in absurd never

pub ends : (all rest : Entries) (made : List (Parts × AnyModuleInfo)) → Goes all rest made → length rest ≡ 0 → AreModulesOf all made
ends all rest made g is =
    subst (λ (xs : List (Parts × AnyModuleInfo)). AreModulesOf all xs) (append-nil made)
    (g.more [] (subst (λ (es : Entries). AreModulesOf es []) (sym (none_left rest is)) tt))
