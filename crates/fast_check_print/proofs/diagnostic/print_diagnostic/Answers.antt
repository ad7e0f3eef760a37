use Rattle.std.proofs.Common.{OnOk, map, codes, ap, ◌∙◌, subst}
use Rattle.serde_json.specs.Data.{string, array}
use Rattle.serde_json.specs.View.{items_of}
use Rattle.url.specs.Parts.{serialize}
use Rattle.fast_check_tables_diagnostics.specs.Diagnostic.{range_of, specifier_of, view_of}
use Rattle.fast_check_print.specs.Writing.{WritesData}
use Rattle.fast_check_print.proofs.Adding.{adds-token, adds-last, adds-token_ok}
use Rattle.fast_check_print.specs.Diagnostics.{diagnostic_data, named, text_or_null, level_text}
use Rattle.fast_check_print.proofs.DiagnosticViews.{diagnosed_data-is, adds-three}
use Rattle.fast_check_print.proofs.diagnostic.print_diagnostic.Goals as goal

pub returns : goal.returns
unfolding diagnostic_data
returns c =
    let view = view_of c.args.diagnostic.now in
    let closed = adds-token c.end_object.result _ _ _ c.end_object.ensures in
    let specifier = adds-last _ _ _ _ _ _ c.in_ok-print_text-4.ensures closed in
    let range = adds-last _ _ _ _ _ _ (adds-token_ok _ _ _ _ _ c.in_ok-key.was c.key.ensures)
    (adds-last _ _ _ _ _ _ c.in_ok-print_place.ensures specifier) in
    let message = adds-last _ _ _ _ _ _ c.in_ok-print_text-3.ensures range in
    let level = adds-last _ _ _ _ _ _ c.in_ok-print_text-2.ensures message in
    let diagnosed_more = adds-three _ (named (codes "docs_url") (text_or_null view.docs_url))
    (named (codes "hint") (text_or_null view.hint))
    (named (codes "info") (array (items_of (map string view.info)))) _ _ _ _ c.in_ok-print_advice.ensures level in
    let code = adds-last _ _ _ _ _ _ c.in_ok-print_text.ensures diagnosed_more in
    let all = adds-last _ _ _ _ _ _ (adds-token_ok _ _ _ _ _ c.in_ok-begin_object.was c.begin_object.ensures) code in
    let diagnosed = diagnosed_data-is view (range_of c.args.diagnostic.now) (specifier_of c.args.diagnostic.now) _ _ _ _ _
    c.code.ensures (c.level_text.ensures ∙ ap level_text c.level.ensures)
    (c.as_str.ensures.value ∙ c.in_ok-message.ensures) c.range.ensures (c.as_str-2.ensures.value ∙ ap serialize c.specifier.ensures) in
    subst (λ d. OnOk c.end_object.result (WritesData d c.args.out.now c.end_object.new.self)) diagnosed all
