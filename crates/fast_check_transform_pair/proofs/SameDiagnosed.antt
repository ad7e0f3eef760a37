-- The same faults are reported by the same diagnostics.
use Rattle.std.specs.Prelude.{◌≡◌, Bool, true, false, Some, List, [], ◌∷◌, take, refl}
use Rattle.std.proofs.Common.{ap, ◌∙◌, sym, subst}
use Rattle.fast_check_tables_modules.specs.EsModule.{EsModule}
use Rattle.fast_check_tables_modules.specs.diagnostics.declared.diagnostics.range.FastCheckDiagnosticRange.{FastCheckDiagnosticRange}
use Rattle.fast_check_tables_modules.specs.diagnostics.declared.diagnostics.FastCheckDiagnostic.{FastCheckDiagnostic}
use Rattle.fast_check_tables_modules.specs.diagnostics.declared.diagnostics.FastCheckDiagnostic.TheVariants.{MissingExplicitType}
use Rattle.fast_check_tables_modules.specs.diagnostics.declared.diagnostics.FastCheckDiagnostic.TheVariants.{MissingExplicitReturnType}
use Rattle.fast_check_tables_modules.specs.diagnostics.declared.diagnostics.FastCheckDiagnostic.TheVariants.{UnsupportedDestructuring}
use Rattle.fast_check_tables_modules.specs.diagnostics.declared.diagnostics.FastCheckDiagnostic.TheVariants.{UnsupportedSuperClassExpr}
use Rattle.fast_check_tables_modules.specs.diagnostics.declared.diagnostics.FastCheckDiagnostic.TheVariants.{UnsupportedDefaultExportExpr}
use Rattle.fast_check_tables_modules.specs.diagnostics.declared.diagnostics.FastCheckDiagnostic.TheVariants.{UnsupportedUsing, UnsupportedRequire}
use Rattle.fast_check_tables_modules.specs.diagnostics.declared.diagnostics.FastCheckDiagnostic.TheVariants.{UnsupportedTsExportAssignment}
use Rattle.fast_check_tables_modules.specs.diagnostics.declared.diagnostics.FastCheckDiagnostic.TheVariants.{UnsupportedTsNamespaceExport}
use Rattle.fast_check_tables_modules.specs.diagnostics.declared.diagnostics.FastCheckDiagnostic.TheVariants.{UnsupportedGlobalModule}
use Rattle.fast_check_tables_modules.specs.diagnostics.declared.diagnostics.FastCheckDiagnostic.TheVariants.{UnsupportedAmbientModule}
use Rattle.fast_check_tables_modules.specs.diagnostics.declared.diagnostics.FastCheckDiagnostic.TheVariants.{UnsupportedExpandoProperty}
use Rattle.fast_check_meaning_signatures.specs.declared.fault.Fault.{Fault}
use Rattle.fast_check_meaning_signatures.specs.declared.fault.FaultKind.{FaultKind}
use Rattle.fast_check_meaning_skeleton.specs.Worlds.{SameFault}
use Rattle.fast_check_tree_syntax.specs.Moves.{Renaming}
use Rattle.fast_check_tree_syntax.specs.Same.{SameRange, Each}
use Rattle.fast_check_transform_module.specs.transform_faults.Diagnostics.{IsPlaceOf, IsDiagnosticOf, AreDiagnosticsOf, diagnosed}
use Rattle.fast_check_transform_module.specs.transform_faults.Diagnostics.{diagnosed_by}
use Rattle.fast_check_transform_pair.specs.Compared.{SamePlace, SameDiagnostic}

-- a diagnostic reports its fault, at a place of the module
record Diagnoses (info : EsModule) (f : Fault) (d : FastCheckDiagnostic) : Type 0 where
  place : FastCheckDiagnosticRange
  is_diagnosed : diagnosed_by d ≡ Some (f.kind, place)
  is_place : IsPlaceOf info f.range place

diagnoses_at : {info : EsModule} {f : Fault} {d : FastCheckDiagnostic} {kind : FaultKind} (place : FastCheckDiagnosticRange) →
    diagnosed_by d ≡ Some (kind, place) →
    f.kind ≡ kind → IsPlaceOf info f.range place → Diagnoses info f d
diagnoses_at place e k p = record { place = place; is_diagnosed = e ∙ ap (λ kind. Some (kind, place)) (sym k); is_place = p }

diagnoses : (info : EsModule) (f : Fault) (d : FastCheckDiagnostic) → IsDiagnosticOf info f d → Diagnoses info f d
diagnoses info f (MissingExplicitType p) h = diagnoses_at p refl h.0 h.1
diagnoses info f (MissingExplicitReturnType p x y) h = diagnoses_at p refl h.0 h.1
diagnoses info f (UnsupportedDestructuring p) h = diagnoses_at p refl h.0 h.1
diagnoses info f (UnsupportedSuperClassExpr p) h = diagnoses_at p refl h.0 h.1
diagnoses info f (UnsupportedDefaultExportExpr p) h = diagnoses_at p refl h.0 h.1
diagnoses info f (UnsupportedUsing p) h = diagnoses_at p refl h.0 h.1
diagnoses info f (UnsupportedRequire p) h = diagnoses_at p refl h.0 h.1
diagnoses info f (UnsupportedTsExportAssignment p) h = diagnoses_at p refl h.0 h.1
diagnoses info f (UnsupportedTsNamespaceExport p) h = diagnoses_at p refl h.0 h.1
diagnoses info f (UnsupportedGlobalModule p) h = diagnoses_at p refl h.0 h.1
diagnoses info f (UnsupportedAmbientModule p) h = diagnoses_at p refl h.0 h.1
diagnoses info f (UnsupportedExpandoProperty p object reference) h = diagnoses_at p refl h.0 h.1
diagnoses info f _ h = absurd h

-- what is empty of two lists one by one, and what comes first
pub each_empty : {A : Type 0} (R : A → A → Type 0) (xs ys : List A) → Each R xs ys → (xs ≡ [] → ys ≡ []) × (ys ≡ [] → xs ≡ [])
each_empty R [] [] h = (λ e. e, λ e. e)
each_empty R (x ∷ xs) (y ∷ ys) h = (λ e. cc, λ e. cc)
each_empty R [] (y ∷ ys) h = absurd h
each_empty R (x ∷ xs) [] h = absurd h

each_first : {A : Type 0} (R : A → A → Type 0) (xs ys : List A) → Each R xs ys → Each R (take 1 xs) (take 1 ys)
each_first R [] [] h = tt
each_first R (x ∷ xs) (y ∷ ys) h = (h.0, tt)
each_first R [] (y ∷ ys) h = absurd h
each_first R (x ∷ xs) [] h = absurd h

module _ (r : Renaming) (a b : EsModule) (one : a.specifier ≡ b.specifier) where
  place_same : {x y : FastCheckDiagnosticRange} (f g : Fault) → IsPlaceOf a f.range x → IsPlaceOf b g.range y →
      SameRange r f.range g.range → SamePlace r x y
  place_same {x = x} {y = y} f g p q h = record {
    specifier = p.specifier ∙ (one ∙ sym q.specifier);
    range = subst (λ at. SameRange r at y.range) (sym p.range) (subst (SameRange r f.range) (sym q.range) h);
  }

  diagnostic_same : (f g : Fault) (d e : FastCheckDiagnostic) → SameFault r f g → IsDiagnosticOf a f d → IsDiagnosticOf b g e →
      SameDiagnostic r d e
  diagnostic_same f g d e h i j =
      let first = diagnoses a f d i in
      let second = diagnoses b g e j in
      record {
        kind = f.kind;
        first_place = first.place;
        second_place = second.place;
        first_diagnosed = first.is_diagnosed;
        second_diagnosed = second.is_diagnosed ∙ ap (λ kind. Some (kind, second.place)) (sym h.kind);
        places = place_same f g first.is_place second.is_place h.range;
      }

  each_same : (fs gs : List Fault) (ds es : List FastCheckDiagnostic) → Each (SameFault r) fs gs → AreDiagnosticsOf a fs ds →
      AreDiagnosticsOf b gs es →
      Each (SameDiagnostic r) ds es
  each_same [] [] [] [] h i j = tt
  each_same (f ∷ fs) (g ∷ gs) (d ∷ ds) (e ∷ es) h i j = (diagnostic_same f g d e h.0 i.0 j.0, each_same fs gs ds es h.1 i.1 j.1)
  each_same [] (g ∷ gs) ds es h i j = absurd h
  each_same (f ∷ fs) [] ds es h i j = absurd h
  each_same [] [] (d ∷ ds) es h i j = absurd i
  each_same [] [] [] (e ∷ es) h i j = absurd j
  each_same (f ∷ fs) (g ∷ gs) [] es h i j = absurd i
  each_same (f ∷ fs) (g ∷ gs) (d ∷ ds) [] h i j = absurd j

  -- all of them, or the first alone
  pub diagnosed_same : (first_alone : Bool) (fs gs : List Fault) (ds es : List FastCheckDiagnostic) → Each (SameFault r) fs gs →
      AreDiagnosticsOf a (diagnosed first_alone fs) ds → AreDiagnosticsOf b (diagnosed first_alone gs) es → Each (SameDiagnostic r) ds es
  diagnosed_same true fs gs ds es h = each_same (take 1 fs) (take 1 gs) ds es (each_first (SameFault r) fs gs h)
  diagnosed_same false fs gs ds es h = each_same fs gs ds es h
