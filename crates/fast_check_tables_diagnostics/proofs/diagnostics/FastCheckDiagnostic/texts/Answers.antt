use Rattle.std.proofs.Common.{ap, sym}
use Rattle.fast_check_tables_diagnostics.specs.Diagnostic.{report_of}
use Rattle.fast_check_tables_diagnostics.specs.KindTexts.{kept_message, kept_hint, kept_info, texts_of}
use Rattle.fast_check_tables_diagnostics.proofs.diagnostics.FastCheckDiagnostic.texts.Goals as goal

pub returns-in-NotFoundReference : goal.returns-in-NotFoundReference
unfolding report_of kept_message kept_hint kept_info
returns-in-NotFoundReference c = sym (ap texts_of c.in-NotFoundReference.is)

pub returns-in-MissingExplicitType : goal.returns-in-MissingExplicitType
unfolding report_of kept_message kept_hint kept_info
returns-in-MissingExplicitType c = sym (ap texts_of c.in-MissingExplicitType.is)

pub returns-in-MissingExplicitReturnType : goal.returns-in-MissingExplicitReturnType
unfolding report_of kept_message kept_hint kept_info
returns-in-MissingExplicitReturnType c = sym (ap texts_of c.in-MissingExplicitReturnType.is)

pub returns-in-UnsupportedAmbientModule : goal.returns-in-UnsupportedAmbientModule
unfolding report_of kept_message kept_hint kept_info
returns-in-UnsupportedAmbientModule c = sym (ap texts_of c.in-UnsupportedAmbientModule.is)

pub returns-in-UnsupportedComplexReference : goal.returns-in-UnsupportedComplexReference
unfolding report_of kept_message kept_hint kept_info
returns-in-UnsupportedComplexReference c = sym (ap texts_of c.in-UnsupportedComplexReference.is)

pub returns-in-UnsupportedDefaultExportExpr : goal.returns-in-UnsupportedDefaultExportExpr
unfolding report_of kept_message kept_hint kept_info
returns-in-UnsupportedDefaultExportExpr c = sym (ap texts_of c.in-UnsupportedDefaultExportExpr.is)

pub returns-in-UnsupportedDestructuring : goal.returns-in-UnsupportedDestructuring
unfolding report_of kept_message kept_hint kept_info
returns-in-UnsupportedDestructuring c = sym (ap texts_of c.in-UnsupportedDestructuring.is)

pub returns-in-UnsupportedExpandoProperty : goal.returns-in-UnsupportedExpandoProperty
unfolding report_of kept_message kept_hint kept_info
returns-in-UnsupportedExpandoProperty c = sym (ap texts_of c.in-UnsupportedExpandoProperty.is)

pub returns-in-UnsupportedGlobalModule : goal.returns-in-UnsupportedGlobalModule
unfolding report_of kept_message kept_hint kept_info
returns-in-UnsupportedGlobalModule c = sym (ap texts_of c.in-UnsupportedGlobalModule.is)

pub returns-in-UnsupportedRequire : goal.returns-in-UnsupportedRequire
unfolding report_of kept_message kept_hint kept_info
returns-in-UnsupportedRequire c = sym (ap texts_of c.in-UnsupportedRequire.is)

pub returns-in-UnsupportedPrivateMemberReference : goal.returns-in-UnsupportedPrivateMemberReference
unfolding report_of kept_message kept_hint kept_info
returns-in-UnsupportedPrivateMemberReference c = sym (ap texts_of c.in-UnsupportedPrivateMemberReference.is)

pub returns-in-UnsupportedSuperClassExpr : goal.returns-in-UnsupportedSuperClassExpr
unfolding report_of kept_message kept_hint kept_info
returns-in-UnsupportedSuperClassExpr c = sym (ap texts_of c.in-UnsupportedSuperClassExpr.is)

pub returns-in-UnsupportedTsExportAssignment : goal.returns-in-UnsupportedTsExportAssignment
unfolding report_of kept_message kept_hint kept_info
returns-in-UnsupportedTsExportAssignment c = sym (ap texts_of c.in-UnsupportedTsExportAssignment.is)

pub returns-in-UnsupportedTsNamespaceExport : goal.returns-in-UnsupportedTsNamespaceExport
unfolding report_of kept_message kept_hint kept_info
returns-in-UnsupportedTsNamespaceExport c = sym (ap texts_of c.in-UnsupportedTsNamespaceExport.is)

pub returns-in-UnsupportedUsing : goal.returns-in-UnsupportedUsing
unfolding report_of kept_message kept_hint kept_info
returns-in-UnsupportedUsing c = sym (ap texts_of c.in-UnsupportedUsing.is)

pub returns-in-UnsupportedNestedJavaScript : goal.returns-in-UnsupportedNestedJavaScript
unfolding report_of kept_message kept_hint kept_info
returns-in-UnsupportedNestedJavaScript c = sym (ap texts_of c.in-UnsupportedNestedJavaScript.is)

pub returns-in-UnsupportedJavaScriptEntrypoint : goal.returns-in-UnsupportedJavaScriptEntrypoint
unfolding report_of kept_message kept_hint kept_info
returns-in-UnsupportedJavaScriptEntrypoint c = sym (ap texts_of c.in-UnsupportedJavaScriptEntrypoint.is)

pub returns-in-Emit : goal.returns-in-Emit
unfolding report_of kept_message kept_hint kept_info
returns-in-Emit c = sym (ap texts_of c.in-Emit.is)

pub returns-in-ExportNotFound : goal.returns-in-ExportNotFound
unfolding report_of kept_message kept_hint kept_info
returns-in-ExportNotFound c = sym (ap texts_of c.in-ExportNotFound.is)

pub returns-in-Cached : goal.returns-in-Cached
unfolding report_of kept_message kept_hint kept_info
returns-in-Cached c = sym (ap texts_of c.in-Cached.is)
