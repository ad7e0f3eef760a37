-- What is shown of the diagnostics whose kinds have no rule of their own.
use Rattle.std.proofs.Common.{◌≡◌, refl}
use Rattle.fast_check_tables_diagnostics.specs.declared.diagnostics.FastCheckDiagnostic.{FastCheckDiagnostic}
use Rattle.fast_check_tables_diagnostics.specs.declared.diagnostics.FastCheckDiagnostic.TheVariants.{MissingExplicitReturnType}
use Rattle.fast_check_tables_diagnostics.specs.declared.diagnostics.FastCheckDiagnostic.TheVariants.{UnsupportedExpandoProperty, NotFoundReference}
use Rattle.fast_check_tables_diagnostics.specs.declared.diagnostics.FastCheckDiagnostic.TheVariants.{UnsupportedComplexReference}
use Rattle.fast_check_tables_diagnostics.specs.declared.diagnostics.FastCheckDiagnostic.TheVariants.{UnsupportedPrivateMemberReference, Emit}
use Rattle.fast_check_tables_diagnostics.specs.declared.diagnostics.FastCheckDiagnostic.TheVariants.{ExportNotFound}
use Rattle.fast_check_tables_diagnostics.specs.declared.diagnostics.FastCheckDiagnostic.TheVariants.{UnsupportedJavaScriptEntrypoint}
use Rattle.fast_check_tables_diagnostics.specs.declared.diagnostics.view.DiagnosticLevel.TheVariants.{Error}
use Rattle.fast_check_tables_diagnostics.specs.Diagnostic.{report_of}
use Rattle.fast_check_tables_diagnostics.specs.KindTexts.{kept_message, kept_hint, kept_info, texts_of}

-- they are errors
pub other_levels : (d : FastCheckDiagnostic)
    → ((specifier : _) → d ≡ UnsupportedJavaScriptEntrypoint specifier → ⊥)
    → Error ≡ (report_of d).level
unfolding report_of
other_levels (UnsupportedJavaScriptEntrypoint specifier) none = absurd (none specifier refl)
other_levels _ none = refl

-- their messages are those of the kind
pub other_messages : (d : FastCheckDiagnostic)
    → ((range name referrer : _) → d ≡ NotFoundReference range name referrer → ⊥)
    → ((range name referrer : _) → d ≡ UnsupportedComplexReference range name referrer → ⊥)
    → ((range object_name reference_name : _) → d ≡ UnsupportedExpandoProperty range object_name reference_name → ⊥)
    → ((range name referrer : _) → d ≡ UnsupportedPrivateMemberReference range name referrer → ⊥)
    → ((specifier inner : _) → d ≡ Emit specifier inner → ⊥)
    → ((specifier : _) → d ≡ ExportNotFound specifier → ⊥)
    → (texts_of d).message ≡ (report_of d).message
unfolding kept_message
other_messages (NotFoundReference range name referrer) none _ _ _ _ _ = absurd (none range name referrer refl)
other_messages (UnsupportedComplexReference range name referrer) _ none _ _ _ _ = absurd (none range name referrer refl)
other_messages (UnsupportedExpandoProperty range object_name reference_name) _ _ none _ _ _ =
    absurd (none range object_name reference_name refl)
other_messages (UnsupportedPrivateMemberReference range name referrer) _ _ _ none _ _ = absurd (none range name referrer refl)
other_messages (Emit specifier inner) _ _ _ _ none _ = absurd (none specifier inner refl)
other_messages (ExportNotFound specifier) _ _ _ _ _ none = absurd (none specifier refl)
other_messages _ _ _ _ _ _ _ = refl

-- their hints are those of the kind
pub other_hints : (d : FastCheckDiagnostic)
    → ((range : _) (definite is_async : _) → d ≡ MissingExplicitReturnType range definite is_async → ⊥)
    → ((range object_name reference_name : _) → d ≡ UnsupportedExpandoProperty range object_name reference_name → ⊥)
    → (texts_of d).hint ≡ (report_of d).hint
unfolding kept_hint
other_hints (MissingExplicitReturnType range definite is_async) none _ = absurd (none range definite is_async refl)
other_hints (UnsupportedExpandoProperty range object_name reference_name) _ none = absurd (none range object_name reference_name refl)
other_hints _ _ _ = refl

-- their lines are those of the kind
pub other_info : (d : FastCheckDiagnostic)
    → ((range : _) (definite is_async : _) → d ≡ MissingExplicitReturnType range definite is_async → ⊥)
    → (texts_of d).info ≡ (report_of d).info
unfolding kept_info
other_info (MissingExplicitReturnType range definite is_async) none = absurd (none range definite is_async refl)
other_info _ _ = refl
