-- Faults as diagnostics, one more.
use Rattle.std.specs.Prelude.{ℕ, ◌+◌, ◌<◌, List, [], ◌∷◌, ◌++◌, length, take}
use lib.ListN.{get_or}
use Rattle.std.proofs.Common.{subst, sym}
use Rattle.std.proofs.lemmas.List.{take_more}
use Rattle.fast_check_tables_modules.specs.EsModule.{EsModule}
use Rattle.fast_check_tables_modules.specs.diagnostics.declared.diagnostics.FastCheckDiagnostic.{FastCheckDiagnostic}
use Rattle.fast_check_meaning_signatures.specs.declared.fault.Fault.{Fault}
use Rattle.fast_check_transform_module.specs.transform_faults.Diagnostics.{IsDiagnosticOf, AreDiagnosticsOf}

pub one_more : (info : EsModule) (fs : List Fault) (ds : List FastCheckDiagnostic) (f : Fault) (d : FastCheckDiagnostic) →
    AreDiagnosticsOf info fs ds → IsDiagnosticOf info f d → AreDiagnosticsOf info (fs ++ f ∷ []) (ds ++ d ∷ [])
one_more info [] [] f d h i = (i, tt)
one_more info (g ∷ fs) (e ∷ ds) f d h i = (h.0, one_more info fs ds f d h.1 i)
one_more info [] (e ∷ ds) f d h i = absurd h
one_more info (g ∷ fs) [] f d h i = absurd h

-- one more of the faults that stand in a list
pub next_of : (info : EsModule) (fs : List Fault) (i : ℕ) (ds : List FastCheckDiagnostic) (f : Fault) (d : FastCheckDiagnostic) →
    i < length fs →
    AreDiagnosticsOf info (take i fs) ds → IsDiagnosticOf info (get_or fs i f) d → AreDiagnosticsOf info (take (i + 1) fs) (ds ++ d ∷ [])
next_of info fs i ds f d h all one =
    subst (λ gs. AreDiagnosticsOf info gs (ds ++ d ∷ [])) (sym (take_more fs i f h))
    (one_more info (take i fs) ds (get_or fs i f) d all one)
