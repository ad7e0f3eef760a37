-- What is the same has the same kind, flags, names and places.
use Rattle.std.specs.Prelude.{◌≡◌, Option, Some, None}
use Rattle.std.proofs.Common.{ap, ◌∙◌, sym, subst}
use Rattle.fast_check_tables_modules.specs.diagnostics.declared.diagnostics.range.FastCheckDiagnosticRange.{FastCheckDiagnosticRange}
use Rattle.fast_check_meaning_signatures.specs.declared.fault.FaultKind.{FaultKind}
use Rattle.fast_check_transform_pair.specs.Compared.{SamePlace}
use Rattle.fast_check_transform_module.specs.transform_faults.Diagnostics.{Diagnosed}
use Rattle.fast_check_transform_pair.specs.Apart.{Compares}

-- what is reported of some kind at some places
abbrev Diagnoses : FaultKind → FastCheckDiagnosticRange → FaultKind → FastCheckDiagnosticRange → Type 0
Diagnoses k p m v = ◌≡◌ {A = Option Diagnosed} (Some (k, p)) (Some (m, v))

abbrev kind_in : FaultKind → Option Diagnosed → FaultKind
kind_in kind (Some t) = t.0
kind_in kind None = kind

abbrev place_in : FastCheckDiagnosticRange → Option Diagnosed → FastCheckDiagnosticRange
place_in place (Some t) = t.1
place_in place None = place

kinds_one : (k l m : FaultKind) (p q v w : FastCheckDiagnosticRange) → Diagnoses k p m v → Diagnoses l q m w → k ≡ l
kinds_one k l m p q v w e f = ap (kind_in k) e ∙ sym (ap (kind_in l) f)

places_one : (k m : FaultKind) (p v : FastCheckDiagnosticRange) → Diagnoses k p m v → v ≡ p
places_one k m p v e = sym (ap (place_in p) e)

pub compares : Compares
compares r = record {
  skeleton = λ m ds h. h;
  faulty = λ ds m h. h;
  count = λ d ds h. h;
  kind = λ p q h. let one = kinds_one _ _ h.kind p q h.first_place h.second_place h.first_diagnosed h.second_diagnosed in cc;
  names = λ p q object reference other another h. let one =
      kinds_one _ _ h.kind p q h.first_place h.second_place h.first_diagnosed h.second_diagnosed in (cc, cc);
  flags = λ p q void async other another h.
      let one = kinds_one _ _ h.kind p q h.first_place h.second_place h.first_diagnosed h.second_diagnosed in
      (cc, cc);
  place = λ p q h.
      let same : SamePlace r p q =
      subst (λ x. SamePlace r x q) (places_one _ h.kind p h.first_place h.first_diagnosed)
      (subst (SamePlace r h.first_place) (places_one _ h.kind q h.second_place h.second_diagnosed) h.places) in
      (same.specifier, same.range);
  source = λ s t h. (h.specifier, h.range, h.is_export, h.type_only);
}
