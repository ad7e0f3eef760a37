-- Faults that are passed on.
use Rattle.std.proofs.Common.{◌≡◌, ℕ, sym, subst, List, Option, Some, Result, Ok, Err, IsErrAnd, IfErr, string_bytes}
use Rattle.fast_check_tables_packages.specs.Package.{Nv}
use Rattle.fast_check_tables_packages.specs.declared.fault.BuildFault.{BuildFault}
use Rattle.fast_check_tables_packages.specs.declared.fault.BuildFault.TheVariants.{InvalidExport, OutOfMemory}
use Rattle.fast_check_finder_ranges.specs.entries.Entries.{Diagnoses}

-- `?` passes a fault on as it is
pub passed_on : {T E : Type 0} (r : Result T E) (e : E) (P : E → Type 0) → IsErrAnd r (λ y. y ≡ e) → P e → IfErr r P
passed_on (Ok x) e P is p = tt
passed_on (Err y) e P is p = subst P (sym is) p

-- what is reported of some texts is reported of others that have the same first one
pub diagnoses_of : (nv : Nv) (one other : Option (List ℕ)) → ((text : List ℕ) → one ≡ Some text → other ≡ Some text) → (f : BuildFault) →
    Diagnoses nv one f →
    Diagnoses nv other f
diagnoses_of nv one other same OutOfMemory t = tt
diagnoses_of nv one other same (InvalidExport p text) t = (t.0, same (string_bytes text) t.1)
