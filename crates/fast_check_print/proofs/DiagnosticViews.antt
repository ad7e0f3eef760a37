-- The JSON of a view, from what its texts are.
use Rattle.std.proofs.Common.{◌≡◌, ℕ, List, ◌++◌, map, Option, codes, Result, OnOk, ap, ◌∙◌, subst, append_assoc}
use Rattle.json.specs.Token.{Token}
use Rattle.json.specs.Written.{Written}
use Rattle.serde_json.specs.Data.{Data, string, array, object, no_members, member}
use Rattle.serde_json.specs.View.{items_of}
use Rattle.url.specs.Parts.{Parts, serialize}
use Rattle.fast_check_print.specs.Writing.{Adds}
use Rattle.fast_check_print.proofs.Adding.{adds-last}
use Rattle.fast_check_tables_diagnostics.specs.declared.diagnostics.range.FastCheckDiagnosticRange.{FastCheckDiagnosticRange}
use Rattle.fast_check_tables_diagnostics.specs.DiagnosticView.{DiagnosticView}
use Rattle.fast_check_print.specs.Diagnostics.{view_data, named, advice, text_or_null, place_or_null, level_text}

-- of a page, a hint and lines
abbrev pub diagnosed_advice : Option (List ℕ) → Option (List ℕ) → List (List ℕ) → List Token
diagnosed_advice docs_url hint info =
    named (codes "docs_url") (text_or_null docs_url)
    ++ (named (codes "hint") (text_or_null hint) ++ named (codes "info") (array (items_of (map string info))))

pub diagnosed_advice-is : (view : DiagnosticView) (docs_url hint : Option (List ℕ)) (info : List (List ℕ)) → docs_url ≡ view.docs_url →
    hint ≡ view.hint →
    info ≡ view.info → diagnosed_advice docs_url hint info ≡ advice view
diagnosed_advice-is view docs_url hint info is_docs_url is_hint is_info =
    ap (λ x. diagnosed_advice x hint info) is_docs_url
    ∙ (ap (λ x. diagnosed_advice view.docs_url x info) is_hint ∙ ap (λ x. diagnosed_advice view.docs_url view.hint x) is_info)

-- of a view's code, level and message, its place and its specifier, and what else it has
abbrev pub diagnosed_data : DiagnosticView → List ℕ → List ℕ → List ℕ → Option FastCheckDiagnosticRange → List ℕ → Data
diagnosed_data view code level message place specifier =
    object (member (codes "code") (string code)
    (member (codes "docs_url") (text_or_null view.docs_url)
    (member (codes "hint") (text_or_null view.hint)
    (member (codes "info") (array (items_of (map string view.info)))
    (member (codes "level") (string level)
    (member (codes "message") (string message)
    (member (codes "range") (place_or_null place)
    (member (codes "specifier") (string specifier) no_members))))))))

pub diagnosed_data-is : (view : DiagnosticView) (at : Option FastCheckDiagnosticRange) (of : Parts) (code level message : List ℕ)
    (place : Option FastCheckDiagnosticRange) (specifier : List ℕ)
    → code ≡ view.code → level ≡ level_text view.level → message ≡ view.message → place ≡ at → specifier ≡ serialize of
    → diagnosed_data view code level message place specifier ≡ view_data view at of
diagnosed_data-is view at of code level message place specifier is_code is_level is_message is_place is_specifier =
    ap (λ x. diagnosed_data view x level message place specifier) is_code
    ∙ (ap (λ x. diagnosed_data view view.code x message place specifier) is_level
    ∙ (ap (λ x. diagnosed_data view view.code (level_text view.level) x place specifier) is_message
    ∙ (ap (λ x. diagnosed_data view view.code (level_text view.level) view.message x specifier) is_place
    ∙ ap (λ x. diagnosed_data view view.code (level_text view.level) view.message at x) is_specifier)))

-- three parts that are written at once, and then the others
pub adds-three : {E : Type 0} (r : Result (Unit {0}) E) (ts us vs rest : List Token) (a b c : Written) → Adds (ts ++ (us ++ vs)) a b →
    OnOk r (Adds rest b c) → OnOk r (Adds (ts ++ (us ++ (vs ++ rest))) a c)
adds-three r ts us vs rest a b c first last =
    subst (λ all. OnOk r (Adds all a c)) (append_assoc ts (us ++ vs) rest ∙ ap (λ all. ts ++ all) (append_assoc us vs rest))
    (adds-last r (ts ++ (us ++ vs)) rest a b c first last)
