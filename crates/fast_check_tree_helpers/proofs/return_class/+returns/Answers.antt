use Rattle.std.proofs.Common.{refl, sym, ap, not, ◌∙◌}
use Rattle.std.specs.List.{fold}
use Rattle.fast_check_tree_syntax.specs.declared.kind.Kind.TheVariants as kinds
use Rattle.fast_check_tree_syntax.specs.Part.{seen}
use Rattle.fast_check_tree_syntax.specs.Shape.{is_absent}
use Rattle.fast_check_tree_helpers.specs.ReturnClass.{entered, returns}
use Rattle.fast_check_tree_helpers.specs.ReturnStep.{after_return}
use Rattle.fast_check_tree_helpers.proofs.Lower.{lower_even, lower_list, lower_item}
use Rattle.fast_check_tree_helpers.proofs.Returns.{returns_at, returns_each, returns_fields, enters, each_more, each_all}
use Rattle.fast_check_tree_helpers.proofs.return_class.+returns.Goals as goal

pub analyze_return_stmts-returns-in-ReturnStmt : goal.analyze_return_stmts-returns-in-ReturnStmt
analyze_return_stmts-returns-in-ReturnStmt t c =
    c.after_return.ensures
    ∙ (ap (λ b. after_return c.args.analysis (not b)) (c.is_absent.ensures ∙ ap is_absent c.of.ensures.arg)
    ∙ sym (ap (fold after_return c.args.analysis) (returns_at (seen c.args.stmt) kinds.ReturnStmt (sym c.in-ReturnStmt.ensures))))

pub analyze_return_stmts-analyze_each-requires : goal.analyze_return_stmts-analyze_each-requires
analyze_return_stmts-analyze_each-requires t c = (lower_list (seen c.args.stmt) c.decreases, tt)

pub analyze_return_stmts-returns-in-List : goal.analyze_return_stmts-returns-in-List
analyze_return_stmts-returns-in-List t c =
    c.analyze_each.ensures ∙ sym (ap (fold after_return c.args.analysis) (returns_each (seen c.args.stmt) (sym c.in-List.ensures)))

pub analyze_return_stmts-analyze_fields-requires : goal.analyze_return_stmts-analyze_fields-requires
analyze_return_stmts-analyze_fields-requires t c = (lower_list (seen c.args.stmt) c.decreases, tt)

pub analyze_return_stmts-returns-in_default : goal.analyze_return_stmts-returns-in_default
analyze_return_stmts-returns-in_default t c =
    let d = c.in_default in
    c.analyze_fields.ensures ∙ sym (ap (fold after_return c.args.analysis)
    (returns_fields (seen c.args.stmt) c.kind.result (sym c.kind.ensures) d.not-ReturnStmt d.not-List))

pub analyze_fields-loop-place-init : goal.analyze_fields-loop-place-init
analyze_fields-loop-place-init t c = refl

pub analyze_fields-analyze_return_stmts-analysis-requires : goal.analyze_fields-analyze_return_stmts-analysis-requires
analyze_fields-analyze_return_stmts-analysis-requires t c = (
  lower_even (seen c.args.stmt) _ c.decreases (enters (seen c.args.stmt) (c.entered-place-items.ensures ∙ ap entered c.kind.ensures)
      c.loop-place-test.true) c.part.ensures,
  tt,
)

pub analyze_fields-loop-place-preserved : goal.analyze_fields-loop-place-preserved
analyze_fields-loop-place-preserved t c =
    each_more _ c.args.analysis _ _ c.loop-place.invariant _ c.loop-place-test.true refl
    (c.analyze_return_stmts-analysis.ensures ∙ ap (λ u. fold after_return c.loop-place.analysis (returns u)) c.part.ensures)

pub analyze_fields-returns : goal.analyze_fields-returns
analyze_fields-returns t c =
    each_all _ c.args.analysis _ _ c.loop-place.invariant _ c.loop-place-test.false
    (c.entered-place-items.ensures ∙ ap entered c.kind.ensures)

pub analyze_each-loop-stmt-init : goal.analyze_each-loop-stmt-init
analyze_each-loop-stmt-init t c = refl

pub analyze_each-analyze_return_stmts-analysis-requires : goal.analyze_each-analyze_return_stmts-analysis-requires
analyze_each-analyze_return_stmts-analysis-requires t c =
    (lower_item (seen c.args.stmts) _ _ _ c.decreases c.parts-stmt-items.ensures c.loop-stmt-test.true c.stmt-item.is c.read.ensures, tt)

pub analyze_each-loop-stmt-preserved : goal.analyze_each-loop-stmt-preserved
analyze_each-loop-stmt-preserved t c =
    each_more returns c.args.analysis _ _ c.loop-stmt.invariant _ c.loop-stmt-test.true c.stmt-item.is
    (c.analyze_return_stmts-analysis.ensures ∙ ap (λ u. fold after_return c.loop-stmt.analysis (returns u)) c.read.ensures)

pub analyze_each-returns : goal.analyze_each-returns
analyze_each-returns t c = each_all returns c.args.analysis _ _ c.loop-stmt.invariant _ c.loop-stmt-test.false c.parts-stmt-items.ensures
