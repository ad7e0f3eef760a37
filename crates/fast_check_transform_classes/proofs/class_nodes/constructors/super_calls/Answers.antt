use Rattle.std.proofs.Common.{rules, ap, sym, ◌∙◌}
use Rattle.fast_check_tree_syntax.specs.Part.{seen}
use Rattle.fast_check_tree_syntax.specs.Shape.{list}
use Rattle.fast_check_meaning_signatures.specs.Classes.{super_call, is_super_call}
use Rattle.fast_check_transform_classes.proofs.class_nodes.Lists.{taken_more, passed_more, taken_all}
use Rattle.fast_check_transform_classes.proofs.class_nodes.constructors.super_calls.Goals as goal
use Rattle.fast_check_transform_classes.proofs.class_nodes.constructors.super_calls.Goals.{then-is_super_call+in_ok-super_call+in_ok-push, else-is_super_call}

pub loop-stmt-preserved : goal.loop-stmt-preserved
loop-stmt-preserved c =
    let items = c.parts-stmt-items.result.now in
    elim c.if-is_super_call.branch [
      | then-is_super_call+in_ok-super_call+in_ok-push w ↦
          taken_more (λ s. super_call s) (λ s. is_super_call s) items c.loop-stmt.stmt-index (seen c.read-stmt.result) c.loop-stmt-test.true
          (search rules)
          (sym c.is_super_call.ensures ∙ w.if-is_super_call.true) c.loop-stmt.invariant w.in_ok-super_call.ensures
          (w.items-is ∙ w.in_ok-push.ensures.ok)
      | else-is_super_call w ↦
          passed_more (λ s. super_call s) (λ s. is_super_call s) items c.loop-stmt.stmt-index
          (seen c.read-stmt.result) c.loop-stmt-test.true (search rules)
          (sym c.is_super_call.ensures ∙ w.if-is_super_call.false) (w.items-is ∙ c.loop-stmt.invariant)
    ]

pub returns : goal.returns
returns c =
    c.list.ensures ∙
    ap list (taken_all (λ s. super_call s)
    (λ s. is_super_call s) c.loop-stmt.stmt-index c.loop-stmt-test.false c.parts-stmt-items.ensures
    c.loop-stmt.invariant)
