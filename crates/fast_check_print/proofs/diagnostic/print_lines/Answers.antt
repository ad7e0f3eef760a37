use Rattle.std.proofs.Common.{map, string_bytes, OnOk, sym, ap, ◌∙◌, subst}
use Rattle.std.proofs.lemmas.Simd.{map-map}
use Rattle.serde_json.specs.Data.{string, array}
use Rattle.serde_json.specs.View.{items_of}
use Rattle.fast_check_print.specs.Writing.{WritesData}
use Rattle.fast_check_print.proofs.Adding.{remains-first, adds-token_ok}
use Rattle.fast_check_print.proofs.Arrays.{item_written, items_written}
use Rattle.fast_check_print.proofs.diagnostic.print_lines.Goals as goal

pub loop-line-init : goal.loop-line-init
loop-line-init c = remains-first _ _ _ _ (adds-token_ok _ _ _ _ _ c.in_ok-begin_array.was c.begin_array.ensures)

pub loop-line-preserved : goal.loop-line-preserved
loop-line-preserved c =
    let written = subst (λ text. WritesData (string text) c.loop-line.out c.string.new.self) c.as_str.ensures.value
    (adds-token_ok _ _ _ _ _ c.in_ok-string.was c.string.ensures) in
    item_written (λ line. string (string_bytes line)) _ _ _ c.loop-line-test.true c.line-item.is c.loop-line.invariant written

pub returns : goal.returns
returns c =
    let listed = items_written (λ line. string (string_bytes line)) _ _ c.loop-line-test.false c.loop-line.invariant c.end_array.ensures in
    let each = sym (map-map string string_bytes c.as_slice-line-items.result.now)
    ∙ ap (λ lines. map string (map string_bytes lines)) c.as_slice-line-items.ensures.value in
    subst (λ texts. OnOk c.end_array.result (WritesData (array (items_of texts)) c.args.out.now c.end_array.new.self)) each listed
