use Rattle.std.proofs.Common.{OnOk, subst}
use Rattle.fast_check_print.specs.Writing.{WritesData}
use Rattle.fast_check_print.proofs.Adding.{remains-first, adds-ok, adds-then, adds-last, adds-token, adds-token_ok}
use Rattle.fast_check_print.specs.Answer.{source_data, sources_data}
use Rattle.fast_check_print.proofs.Arrays.{item_written, items_written}
use Rattle.fast_check_print.proofs.answer.print_module_info.Goals as goal

pub loop-source-init : goal.loop-source-init
loop-source-init c =
    let opened = adds-token_ok _ _ _ _ _ c.in_ok-begin_object.was c.begin_object.ensures in
    let named = adds-then _ _ _ _ _ opened (adds-token_ok _ _ _ _ _ c.in_ok-key.was c.key.ensures) in
    remains-first _ _ _ _ (adds-then _ _ _ _ _ named (adds-token_ok _ _ _ _ _ c.in_ok-begin_array.was c.begin_array.ensures))

pub loop-source-preserved : goal.loop-source-preserved
loop-source-preserved c =
    item_written source_data _ _ _ c.loop-source-test.true c.source-item.is c.loop-source.invariant c.in_ok-print_static_source.ensures

pub returns : goal.returns
returns c =
    let listed = items_written source_data _ _ c.loop-source-test.false c.loop-source.invariant c.end_array.ensures in
    let whole = adds-last _ _ _ _ _ _ (adds-ok _ _ _ _ _ c.in_ok-end_array.was listed) (adds-token _ _ _ _ c.end_object.ensures) in
    subst (λ sources. OnOk c.end_object.result (WritesData (sources_data sources) c.args.out.now c.end_object.new.self))
    c.as_slice-source-items.ensures.value whole
