-- Inner: no contract of a public call cites what stands here.
-- What is reported of all diagnostics of a kind, beside what goes by what each holds.
use Rattle.std.specs.Prelude.{ℕ, List, [], Option, None, map}
use Rattle.std.specs.Option.{option_copied}
use Rattle.fast_check_tables_diagnostics.specs.declared.diagnostics.FastCheckDiagnostic.{FastCheckDiagnostic}
use Rattle.fast_check_tables_diagnostics.specs.declared.diagnostics.FastCheckDiagnostic.TheVariants as kinds
use Rattle.fast_check_tables_diagnostics.specs.declared.diagnostics.texts.Texts.{Texts}
use Rattle.fast_check_tables_diagnostics.specs.Diagnostic.{report_of}

-- the name of the kind, what is wrong, what the range is to the reader, what can be done about it, and lines that say
-- more
pub record KindTexts : Type 0 where
  pub code : List ℕ
  pub message : List ℕ
  pub range_description : Option (List ℕ)
  pub hint : Option (List ℕ)
  pub info : List (List ℕ)

abbrev pub shown_texts : Texts → KindTexts
shown_texts t = record {
  code = t.code.now;
  message = t.message.now;
  range_description = option_copied t.range_description;
  hint = option_copied t.hint;
  info = map (λ line. line.now) t.info.now;
}

-- what goes by what the diagnostic holds is left out

unfoldable pub kept_message : FastCheckDiagnostic → List ℕ → List ℕ
kept_message (kinds.NotFoundReference _ _ _) _ = []
kept_message (kinds.UnsupportedComplexReference _ _ _) _ = []
kept_message (kinds.UnsupportedExpandoProperty _ _ _) _ = []
kept_message (kinds.UnsupportedPrivateMemberReference _ _ _) _ = []
kept_message (kinds.Emit _ _) _ = []
kept_message (kinds.ExportNotFound _) _ = []
kept_message _ message = message

unfoldable pub kept_hint : FastCheckDiagnostic → Option (List ℕ) → Option (List ℕ)
kept_hint (kinds.MissingExplicitReturnType _ _ _) _ = None
kept_hint (kinds.UnsupportedExpandoProperty _ _ _) _ = None
kept_hint _ hint = hint

unfoldable pub kept_info : FastCheckDiagnostic → List (List ℕ) → List (List ℕ)
kept_info (kinds.MissingExplicitReturnType _ _ _) _ = []
kept_info _ info = info

abbrev pub texts_of : FastCheckDiagnostic → KindTexts
texts_of d =
    let r = report_of d in record {
      code = r.code;
      message = kept_message d r.message;
      range_description = r.range_description;
      hint = kept_hint d r.hint;
      info = kept_info d r.info;
    }
