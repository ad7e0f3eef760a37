-- Diagnostics, as JSON.
use Rattle.std.specs.Prelude.{ℕ, List, ◌∷◌, ◌++◌, map, codes, Option}
use Rattle.std.specs.Option.{option_map_or}
use Rattle.json.specs.Token.{Token, key}
use Rattle.serde_json.specs.Data.{Data, null, string, array, object, no_members, member}
use Rattle.serde_json.specs.View.{items_of}
use Rattle.url.specs.Parts.{Parts, serialize}
use Rattle.fast_check_print.specs.Pieces.{range_data}
use Rattle.fast_check_print.specs.Writing.{tokens_of}
use Rattle.fast_check_tables_diagnostics.specs.declared.diagnostics.FastCheckDiagnostic.{FastCheckDiagnostic}
use Rattle.fast_check_tables_diagnostics.specs.declared.diagnostics.range.FastCheckDiagnosticRange.{FastCheckDiagnosticRange}
use Rattle.fast_check_tables_diagnostics.specs.declared.diagnostics.view.DiagnosticLevel.{DiagnosticLevel}
use Rattle.fast_check_tables_diagnostics.specs.declared.diagnostics.view.DiagnosticLevel.TheVariants as levels
use Rattle.fast_check_tables_diagnostics.specs.Diagnostic.{range_of, specifier_of, view_of}
use Rattle.fast_check_tables_diagnostics.specs.DiagnosticView.{DiagnosticView}

abbrev pub text_or_null : Option (List ℕ) → Data
text_or_null text = option_map_or string text null

abbrev pub place_or_null : Option FastCheckDiagnosticRange → Data
place_or_null place = option_map_or (λ place. range_data place.range) place null

abbrev pub level_text : DiagnosticLevel → List ℕ
level_text levels.Error = codes "Error"
level_text levels.Warning = codes "Warning"

-- an object of what a reader is told of it
abbrev pub view_data : DiagnosticView → Option FastCheckDiagnosticRange → Parts → Data
view_data view place specifier =
    object (member (codes "code") (string view.code)
    (member (codes "docs_url") (text_or_null view.docs_url)
    (member (codes "hint") (text_or_null view.hint)
    (member (codes "info") (array (items_of (map string view.info)))
    (member (codes "level") (string (level_text view.level))
    (member (codes "message") (string view.message)
    (member (codes "range") (place_or_null place)
    (member (codes "specifier") (string (serialize specifier)) no_members))))))))

-- the tokens of a member: its name and its value
abbrev pub named : List ℕ → Data → List Token
named name value = key name ∷ tokens_of value

-- the tokens of the members that say more than the message
abbrev pub advice : DiagnosticView → List Token
advice view =
    named (codes "docs_url") (text_or_null view.docs_url)
    ++ (named (codes "hint") (text_or_null view.hint)
    ++ named (codes "info") (array (items_of (map string view.info))))

unfoldable pub diagnostic_data : FastCheckDiagnostic → Data
diagnostic_data d = view_data (view_of d) (range_of d) (specifier_of d)

-- diagnostics in their order, as an array
abbrev pub diagnostics_array : List FastCheckDiagnostic → Data
diagnostics_array ds = array (items_of (map diagnostic_data ds))
