-- What is reported of each diagnostic: one table, with a row for each kind.
use Rattle.std.specs.Prelude.{ℕ, Bool, true, false, List, [], ◌∷◌, ◌++◌, Option, Some, None, codes}
use Rattle.std.specs.String.{string_bytes}
use Rattle.url.specs.Parts.{Parts, serialize}
use Rattle.fast_check_tables_diagnostics.specs.declared.diagnostics.range.FastCheckDiagnosticRange.{FastCheckDiagnosticRange}
use Rattle.fast_check_tables_diagnostics.specs.declared.diagnostics.FastCheckDiagnostic.{FastCheckDiagnostic}
use Rattle.fast_check_tables_diagnostics.specs.declared.diagnostics.FastCheckDiagnostic.TheVariants.{
  NotFoundReference,
  MissingExplicitType,
  MissingExplicitReturnType,
  UnsupportedAmbientModule,
  UnsupportedComplexReference,
  UnsupportedDefaultExportExpr,
  UnsupportedDestructuring,
  UnsupportedExpandoProperty,
  UnsupportedGlobalModule,
  UnsupportedRequire,
  UnsupportedPrivateMemberReference,
  UnsupportedSuperClassExpr,
  UnsupportedTsExportAssignment,
  UnsupportedTsNamespaceExport,
  UnsupportedUsing,
  UnsupportedNestedJavaScript,
  UnsupportedJavaScriptEntrypoint,
  Emit,
  ExportNotFound,
  Cached,
}
use Rattle.fast_check_tables_diagnostics.specs.declared.diagnostics.view.DiagnosticLevel.TheVariants.{Error, Warning}
use Rattle.fast_check_tables_diagnostics.specs.DiagnosticView.{DiagnosticView}
use Rattle.fast_check_tables_diagnostics.specs.Subject.{Part, Whole, specifier_of_subject, range_of_subject}
use Rattle.fast_check_tables_diagnostics.specs.Report.{Report, row, view_at}

-- Named texts, written by forms/write.py from forms/diagnostics.txt.

abbrev pub may_be_a_bug : List ℕ
may_be_a_bug = codes "this error may be the result of a bug in Deno - if you think this is the case, please open an issue"

abbrev pub is_a_bug : List ℕ
is_a_bug = codes "this error is the result of a bug in Deno and you don't be seeing it - please open an issue if one doesn't exist"

abbrev pub needs_inference : List ℕ
needs_inference = codes "JavaScript files with no corresponding declaration require type inference to be type checked"

abbrev pub declare_or_rewrite : List ℕ
declare_or_rewrite = codes "add a type declaration (d.ts) for the JavaScript module, or rewrite it to TypeScript"

abbrev pub is_reference : List ℕ
is_reference = codes "this is the reference"

abbrev pub return_type : List ℕ
return_type = codes "add an explicit return type to the function"

abbrev pub return_nothing : List ℕ
return_nothing = codes "add an explicit return type of 'void' or 'never' to the function"

abbrev pub return_promise : List ℕ
return_promise = codes "add an explicit return type of 'Promise<void>' or 'Promise<never>' to the function"

abbrev pub needs_return_type : List ℕ
needs_return_type = codes "all functions in the public API must have an explicit return type"

abbrev pub no_returns : List ℕ
no_returns = codes "this function has no return statements, so a return type could not be inferred automatically"

abbrev pub nothing_returned : List ℕ
nothing_returned = codes "function expressions without a return statement can have a return type of either 'void' or 'never'"

abbrev pub promise_returned : List ℕ
promise_returned = codes "async function expressions without a return statement can have a return type of either 'Promise<void>' or 'Promise<never>'"

-- of a function without return type: is it definitely void or never, and is it asynchronous?

abbrev pub hint_of_return_type : Bool → Bool → List ℕ
hint_of_return_type true _ = return_nothing
hint_of_return_type false true = return_promise
hint_of_return_type false false = return_type

abbrev pub info_of_return_type : Bool → Bool → List (List ℕ)
info_of_return_type false _ = needs_return_type ∷ []
info_of_return_type true true = needs_return_type ∷ promise_returned ∷ no_returns ∷ []
info_of_return_type true false = needs_return_type ∷ nothing_returned ∷ no_returns ∷ []

-- The table: what a diagnostic speaks of, how grave it is, the name of its kind, what is wrong, what the range is to
-- the reader, what can be done about it, and lines that say more. Written by forms/write.py from forms/diagnostics.txt.
unfoldable pub report_of : FastCheckDiagnostic → Report
report_of (NotFoundReference range name referrer) = row (Part range) Error (codes "not-found-reference")
    (codes "could not resolve '" ++ (string_bytes name ++ (codes "' referenced from '" ++ (string_bytes referrer ++ codes "'"))))
    (Some is_reference) (Some (codes "fix the reference to point to a symbol that exists"))
    (may_be_a_bug ∷ [])
report_of (MissingExplicitType range) = row (Part range) Error (codes "missing-explicit-type")
    (codes "missing explicit type in the public API")
    (Some (codes "this symbol is missing an explicit type")) (Some (codes "add an explicit type annotation to the symbol"))
    (codes "all symbols in the public API must have an explicit type" ∷ [])
report_of (MissingExplicitReturnType range is_definitely_void_or_never is_async) = row (Part range) Error (codes "missing-explicit-return-type")
    (codes "missing explicit return type in the public API")
    (Some (codes "this function is missing an explicit return type")) (Some (hint_of_return_type is_definitely_void_or_never is_async))
    (info_of_return_type is_definitely_void_or_never is_async)
report_of (UnsupportedAmbientModule range) = row (Part range) Error (codes "unsupported-ambient-module")
    (codes "found an ambient module, which is a global augmentation, which are not unsupported")
    None (Some (codes "remove the ambient module declaration"))
    (codes "ambient modules are not supported because they can modify the types of a module from outside of that module" ∷ [])
report_of (UnsupportedComplexReference range name referrer) = row (Part range) Error (codes "unsupported-complex-reference")
    (codes "the reference '" ++ (string_bytes name ++ (codes "' from '" ++ (string_bytes referrer ++ codes "' was too complex"))))
    (Some is_reference) (Some (codes "extract the shared type to a type alias and reference the type alias instead"))
    (codes "the reference was too complex to be resolved by fast check" ∷ [])
report_of (UnsupportedDefaultExportExpr range) = row (Part range) Error (codes "unsupported-default-export-expr")
    (codes "default export expression was too complex")
    None (Some (codes "add an 'as' clause with an explicit type after the expression, or extract to a variable"))
    (codes "fast check was unable to infer the type of the default export expression" ∷ [])
report_of (UnsupportedDestructuring range) = row (Part range) Error (codes "unsupported-destructuring")
    (codes "found destructuring, which is not supported in the public API")
    None (Some (codes "separate each destructured symbol into its own export statement"))
    (codes "destructuring can not be inferred by fast check" ∷ [])
report_of (UnsupportedExpandoProperty range object_name reference_name) = row (Part range) Error (codes "unsupported-expando-property")
    (codes "expando property referencing '" ++ (string_bytes reference_name ++ (codes "' conflicts with '" ++ (string_bytes object_name ++ (codes "." ++ (string_bytes reference_name ++ codes "'"))))))
    None (Some (codes "rename '" ++ (string_bytes reference_name ++ codes "' to something else to avoid conflicts or create a temporary variable with a different name to use in the expando property reference")))
    (codes "expando properties get converted to a namespace and the reference conflicts with a namespace export" ∷ [])
report_of (UnsupportedGlobalModule range) = row (Part range) Error (codes "unsupported-global-module")
    (codes "found global augmentations, which are not supported")
    None (Some (codes "remove the 'global' augmentation"))
    (codes "global augmentations are not supported because they can modify global types, which can affect other modules type checking" ∷ [])
report_of (UnsupportedRequire range) = row (Part range) Error (codes "unsupported-require")
    (codes "require statements are a CommonJS feature, which are not supported in ES modules")
    None (Some (codes "use an import statement instead"))
    (codes "CommonJS features such as require are not supported in ES modules" ∷ [])
report_of (UnsupportedPrivateMemberReference range name referrer) = row (Part range) Error (codes "unsupported-private-member-reference")
    (codes "public API member (" ++ (string_bytes referrer ++ (codes ") is referencing or transitively referencing a class private member (" ++ (string_bytes name ++ codes ")"))))
    (Some is_reference) (Some (codes "extract the type of the private member to a type alias and reference the type alias instead"))
    (codes "private members can not be referenced from public API members" ∷ codes "this is because fast check removes private members from the types" ∷ [])
report_of (UnsupportedSuperClassExpr range) = row (Part range) Error (codes "unsupported-super-class-expr")
    (codes "super class expression was too complex")
    (Some (codes "this is the superclass expression")) (Some (codes "extract the superclass expression into a variable"))
    (codes "fast check was unable to infer the type of the superclass expression" ∷ [])
report_of (UnsupportedTsExportAssignment range) = row (Part range) Error (codes "unsupported-ts-export-assignment")
    (codes "export assignments are a Common JS feature, which are not supported in ES modules")
    None (Some (codes "use an export statement instead"))
    (codes "CommonJS features such as export assignments are not supported in ES modules" ∷ [])
report_of (UnsupportedTsNamespaceExport range) = row (Part range) Error (codes "unsupported-ts-namespace-export")
    (codes "found namespace export, which is a global augmentation, which are not unsupported")
    None (Some (codes "remove the namespace export"))
    (codes "namespace exports are not supported because they can modify the types of a module from outside of that module" ∷ [])
report_of (UnsupportedUsing range) = row (Part range) Error (codes "unsupported-using")
    (codes "using declarations are not supproted in the public API")
    None (Some (codes "use 'const' instead of 'using'"))
    (codes "using declarations have unclear semantics in the public API" ∷ codes "they are thus not supported in the public API" ∷ [])
report_of (UnsupportedNestedJavaScript specifier) = row (Whole specifier) Error (codes "unsupported-nested-javascript")
    (codes "referenced a JavaScript module without type declarations from a TypeScript module")
    None (Some declare_or_rewrite)
    (needs_inference ∷ codes "fast check avoids type inference, so referencing a JavaScript file with no type declarations is not supported" ∷ [])
report_of (UnsupportedJavaScriptEntrypoint specifier) = row (Whole specifier) Warning (codes "unsupported-javascript-entrypoint")
    (codes "used a JavaScript module without type declarations as an entrypoint")
    None (Some declare_or_rewrite)
    (needs_inference ∷ codes "fast check avoids type inference, so JavaScript entrypoints should be avoided" ∷ [])
report_of (Emit specifier inner) = row (Whole specifier) Error (codes "emit")
    (codes "failed to emit fast check module: " ++ string_bytes inner)
    None (Some may_be_a_bug)
    (may_be_a_bug ∷ [])
report_of (ExportNotFound specifier) = row (Whole specifier) Error (codes "export-not-found")
    (codes "export not found: " ++ serialize specifier)
    None (Some is_a_bug)
    (is_a_bug ∷ [])
report_of (Cached specifier) = row (Whole specifier) Error (codes "cached")
    (codes "diagnostic was cached")
    None (Some is_a_bug)
    (is_a_bug ∷ [])

-- the module, and the part of its source text, that it speaks of, if any

abbrev pub specifier_of : FastCheckDiagnostic → Parts
specifier_of d = specifier_of_subject (report_of d).subject

abbrev pub range_of : FastCheckDiagnostic → Option FastCheckDiagnosticRange
range_of d = range_of_subject (report_of d).subject

-- all that a reader gets of it
abbrev pub view_of : FastCheckDiagnostic → DiagnosticView
view_of d = view_at (report_of d)
