-- What copies a diagnostic, and what holds of the kinds that no arm names.
use Rattle.std.proofs.Common.{◌≡◌, ◌⊎◌, [], ◌∷◌, inl, inr, ap, refl, subst, sym, Result, IfOk, MatchResult}
use Rattle.std.specs.Prelude.{String, string_bytes}
use Rattle.std.specs.Global.{Global}
use Rattle.std.proofs.lemmas.Result.{MatchResult-weaker}
use Rattle.url.specs.Parts.{Parts}
use Rattle.fast_check_tables_diagnostics.specs.Diagnostic.{report_of}
use Rattle.fast_check_tables_diagnostics.specs.Subject.{Subject, Part, Whole}
use Rattle.fast_check_tables_diagnostics.specs.declared.diagnostics.range.FastCheckDiagnosticRange.{FastCheckDiagnosticRange}
use Rattle.fast_check_tables_diagnostics.specs.declared.diagnostics.FastCheckDiagnostic.{FastCheckDiagnostic}
use Rattle.fast_check_tables_diagnostics.specs.declared.diagnostics.FastCheckDiagnostic.TheVariants as kinds
use Rattle.fast_check_tables_diagnostics.specs.DiagnosticCopy.{IsDiagnosticCopy, texts_in, flags_in, with_names, with_range, with_specifier}

-- what copies a diagnostic copies each that is found to be it, and so does each that is found to be the copy
pub copies_found : {found known made copy : FastCheckDiagnostic}
    → found ≡ known → copy ≡ made → IsDiagnosticCopy known made → IsDiagnosticCopy found copy
copies_found {found} {known} {made} {copy} is copy_is copied =
    subst (λ d. IsDiagnosticCopy d copy) (sym is) (subst (IsDiagnosticCopy known) (sym copy_is) copied)

pub emit_copied : {d : FastCheckDiagnostic} (specifier copy : Parts) (inner made : String Global)
    → d ≡ kinds.Emit specifier inner → copy ≡ specifier → string_bytes made ≡ string_bytes inner
    → IsDiagnosticCopy d (kinds.Emit copy made)
unfolding report_of texts_in flags_in
emit_copied specifier copy inner made is module_copied text_copied =
    copies_found {made = kinds.Emit copy made} is refl (refl, module_copied, (λ i. text_copied i ∷ []), refl)

-- the last of the kinds that hold a place and two names
pub other_names : (d : FastCheckDiagnostic) (range first second : _)
    → ((range first second : _) → d ≡ kinds.NotFoundReference range first second → ⊥)
    → ((range first second : _) → d ≡ kinds.UnsupportedComplexReference range first second → ⊥)
    → ((range first second : _) → d ≡ kinds.UnsupportedPrivateMemberReference range first second → ⊥)
    → with_names d range first second ≡ kinds.UnsupportedExpandoProperty range first second
unfolding with_names
other_names (kinds.NotFoundReference a b c) _ _ _ none _ _ = absurd (none a b c refl)
other_names (kinds.UnsupportedComplexReference a b c) _ _ _ _ none _ = absurd (none a b c refl)
other_names (kinds.UnsupportedPrivateMemberReference a b c) _ _ _ _ _ none = absurd (none a b c refl)
other_names _ _ _ _ _ _ _ = refl

-- the last of the kinds that hold a place and no text
pub other_ranges : (d : FastCheckDiagnostic) (range : _)
    → ((range : _) → d ≡ kinds.MissingExplicitType range → ⊥)
    → ((range : _) (definite is_async : _) → d ≡ kinds.MissingExplicitReturnType range definite is_async → ⊥)
    → ((range : _) → d ≡ kinds.UnsupportedAmbientModule range → ⊥)
    → ((range : _) → d ≡ kinds.UnsupportedDefaultExportExpr range → ⊥)
    → ((range : _) → d ≡ kinds.UnsupportedDestructuring range → ⊥)
    → ((range : _) → d ≡ kinds.UnsupportedGlobalModule range → ⊥)
    → ((range : _) → d ≡ kinds.UnsupportedRequire range → ⊥)
    → ((range : _) → d ≡ kinds.UnsupportedSuperClassExpr range → ⊥)
    → ((range : _) → d ≡ kinds.UnsupportedTsExportAssignment range → ⊥)
    → ((range : _) → d ≡ kinds.UnsupportedTsNamespaceExport range → ⊥)
    → with_range d range ≡ kinds.UnsupportedUsing range
unfolding with_range
other_ranges (kinds.MissingExplicitType a) _ none _ _ _ _ _ _ _ _ _ = absurd (none a refl)
other_ranges (kinds.MissingExplicitReturnType a b c) _ _ none _ _ _ _ _ _ _ _ = absurd (none a b c refl)
other_ranges (kinds.UnsupportedAmbientModule a) _ _ _ none _ _ _ _ _ _ _ = absurd (none a refl)
other_ranges (kinds.UnsupportedDefaultExportExpr a) _ _ _ _ none _ _ _ _ _ _ = absurd (none a refl)
other_ranges (kinds.UnsupportedDestructuring a) _ _ _ _ _ none _ _ _ _ _ = absurd (none a refl)
other_ranges (kinds.UnsupportedGlobalModule a) _ _ _ _ _ _ none _ _ _ _ = absurd (none a refl)
other_ranges (kinds.UnsupportedRequire a) _ _ _ _ _ _ _ none _ _ _ = absurd (none a refl)
other_ranges (kinds.UnsupportedSuperClassExpr a) _ _ _ _ _ _ _ _ none _ _ = absurd (none a refl)
other_ranges (kinds.UnsupportedTsExportAssignment a) _ _ _ _ _ _ _ _ _ none _ = absurd (none a refl)
other_ranges (kinds.UnsupportedTsNamespaceExport a) _ _ _ _ _ _ _ _ _ _ none = absurd (none a refl)
other_ranges _ _ _ _ _ _ _ _ _ _ _ _ = refl

-- the last of the kinds that hold a module and no text
pub other_specifiers : (d : FastCheckDiagnostic) (specifier : _)
    → ((specifier : _) → d ≡ kinds.UnsupportedNestedJavaScript specifier → ⊥)
    → ((specifier : _) → d ≡ kinds.UnsupportedJavaScriptEntrypoint specifier → ⊥)
    → ((specifier : _) → d ≡ kinds.ExportNotFound specifier → ⊥)
    → with_specifier d specifier ≡ kinds.Cached specifier
unfolding with_specifier
other_specifiers (kinds.UnsupportedNestedJavaScript a) _ none _ _ = absurd (none a refl)
other_specifiers (kinds.UnsupportedJavaScriptEntrypoint a) _ _ none _ = absurd (none a refl)
other_specifiers (kinds.ExportNotFound a) _ _ _ none = absurd (none a refl)
other_specifiers _ _ _ _ _ = refl

-- a call that answers a copy of what is the diagnostic answers a copy of it
pub answers_copy : {E : Type 0} {known d : FastCheckDiagnostic} (r : Result FastCheckDiagnostic E)
    → known ≡ d → IfOk r (IsDiagnosticCopy known) → MatchResult r (IsDiagnosticCopy d) (λ _. ⊥ → ⊥)
answers_copy {E} {known} {d} r is copied = MatchResult-weaker r copied (λ copy h. subst (λ a. IsDiagnosticCopy a copy) is h)
    (λ _ _ never. never)

own_names : {d known : FastCheckDiagnostic} (range first second : _)
    → d ≡ known → with_names known range first second ≡ known → with_names d range first second ≡ d
own_names {d} {known} range first second is own = subst (λ a. with_names a range first second ≡ a) (sym is) own

-- a diagnostic with its own place and names is itself
pub names_kept : {d : FastCheckDiagnostic} {range first second : _}
    → (d ≡ kinds.NotFoundReference range first second) ⊎ ((d ≡ kinds.UnsupportedComplexReference range first second) ⊎
    ((d ≡ kinds.UnsupportedExpandoProperty range first second) ⊎ (d ≡ kinds.UnsupportedPrivateMemberReference range first second)))
    → with_names d range first second ≡ d
unfolding with_names
names_kept {d} {range} {first} {second} (inl e) = own_names range first second e refl
names_kept {d} {range} {first} {second} (inr (inl e)) = own_names range first second e refl
names_kept {d} {range} {first} {second} (inr (inr (inl e))) = own_names range first second e refl
names_kept {d} {range} {first} {second} (inr (inr (inr e))) = own_names range first second e refl

abbrev part_or : FastCheckDiagnosticRange → Subject → FastCheckDiagnosticRange
part_or _ (Part range) = range
part_or other (Whole _) = other

abbrev is_part : Subject → Type 0
is_part (Part _) = Unit
is_part (Whole _) = ⊥

-- a diagnostic without text is itself at its own place
pub range_kept : (d : FastCheckDiagnostic) (range : FastCheckDiagnosticRange)
    → ((range first second : _) → d ≡ kinds.NotFoundReference range first second → ⊥)
    → ((range first second : _) → d ≡ kinds.UnsupportedComplexReference range first second → ⊥)
    → ((range first second : _) → d ≡ kinds.UnsupportedExpandoProperty range first second → ⊥)
    → ((range first second : _) → d ≡ kinds.UnsupportedPrivateMemberReference range first second → ⊥)
    → (report_of d).subject ≡ Part range → with_range d range ≡ d
unfolding report_of with_range
range_kept (kinds.NotFoundReference a b c) _ none _ _ _ _ = absurd (none a b c refl)
range_kept (kinds.UnsupportedComplexReference a b c) _ _ none _ _ _ = absurd (none a b c refl)
range_kept (kinds.UnsupportedExpandoProperty a b c) _ _ _ none _ _ = absurd (none a b c refl)
range_kept (kinds.UnsupportedPrivateMemberReference a b c) _ _ _ _ none _ = absurd (none a b c refl)
range_kept (kinds.MissingExplicitType _) range _ _ _ _ e = sym (ap (λ part. kinds.MissingExplicitType (part_or range part)) e)
range_kept (kinds.MissingExplicitReturnType _ b c) range _ _ _ _ e =
    sym (ap (λ part. kinds.MissingExplicitReturnType (part_or range part) b c) e)
range_kept (kinds.UnsupportedAmbientModule _) range _ _ _ _ e = sym (ap (λ part. kinds.UnsupportedAmbientModule (part_or range part)) e)
range_kept (kinds.UnsupportedDefaultExportExpr _) range _ _ _ _ e =
    sym (ap (λ part. kinds.UnsupportedDefaultExportExpr (part_or range part)) e)
range_kept (kinds.UnsupportedDestructuring _) range _ _ _ _ e = sym (ap (λ part. kinds.UnsupportedDestructuring (part_or range part)) e)
range_kept (kinds.UnsupportedGlobalModule _) range _ _ _ _ e = sym (ap (λ part. kinds.UnsupportedGlobalModule (part_or range part)) e)
range_kept (kinds.UnsupportedRequire _) range _ _ _ _ e = sym (ap (λ part. kinds.UnsupportedRequire (part_or range part)) e)
range_kept (kinds.UnsupportedSuperClassExpr _) range _ _ _ _ e = sym (ap (λ part. kinds.UnsupportedSuperClassExpr (part_or range part)) e)
range_kept (kinds.UnsupportedTsExportAssignment _) range _ _ _ _ e =
    sym (ap (λ part. kinds.UnsupportedTsExportAssignment (part_or range part)) e)
range_kept (kinds.UnsupportedTsNamespaceExport _) range _ _ _ _ e =
    sym (ap (λ part. kinds.UnsupportedTsNamespaceExport (part_or range part)) e)
range_kept (kinds.UnsupportedUsing _) range _ _ _ _ e = sym (ap (λ part. kinds.UnsupportedUsing (part_or range part)) e)
range_kept _ _ _ _ _ _ e = absurd (subst is_part (sym e) tt)

abbrev specifier_or : Parts → Subject → Parts
specifier_or other (Part _) = other
specifier_or _ (Whole specifier) = specifier

abbrev is_whole : Subject → Type 0
is_whole (Part _) = ⊥
is_whole (Whole _) = Unit

-- a diagnostic without text is itself of its own module
pub specifier_kept : (d : FastCheckDiagnostic) (specifier : Parts)
    → ((specifier inner : _) → d ≡ kinds.Emit specifier inner → ⊥)
    → (report_of d).subject ≡ Whole specifier → with_specifier d specifier ≡ d
unfolding report_of with_specifier
specifier_kept (kinds.Emit a b) _ none _ = absurd (none a b refl)
specifier_kept (kinds.UnsupportedNestedJavaScript _) specifier _ e =
    sym (ap (λ whole. kinds.UnsupportedNestedJavaScript (specifier_or specifier whole)) e)
specifier_kept (kinds.UnsupportedJavaScriptEntrypoint _) specifier _ e =
    sym (ap (λ whole. kinds.UnsupportedJavaScriptEntrypoint (specifier_or specifier whole)) e)
specifier_kept (kinds.ExportNotFound _) specifier _ e = sym (ap (λ whole. kinds.ExportNotFound (specifier_or specifier whole)) e)
specifier_kept (kinds.Cached _) specifier _ e = sym (ap (λ whole. kinds.Cached (specifier_or specifier whole)) e)
specifier_kept _ _ _ e = absurd (subst is_whole (sym e) tt)
