use Rattle.std.proofs.Common.{◌∙◌, ap, rules, map, take, [], ◌∷◌, ◌++◌}
use Rattle.fast_check_meaning_expandos.specs.Expandos.{conflict_seen}
use Rattle.fast_check_meaning_expandos.proofs.Extended.{extends_conflict, one_taken}
use Rattle.fast_check_meaning_expandos.proofs.namespaces.push_conflicts.Goals as goal

pub loop-reference-preserved : goal.loop-reference-preserved
loop-reference-preserved c =
    let rs = c.as_slice-reference-items.result.now in
    let i = c.loop-reference.reference-index in
    extends_conflict (map (conflict_seen c.args.object.now) (take i rs)) _ c.args.object.now c.reference-item.result
    (one_taken (conflict_seen c.args.object.now) rs i c.reference-item.result c.loop-reference-test.true
    (search rules)) c.loop-reference.invariant
    c.in_ok-push-2.ensures.ok
    (c.in_ok-push.ensures.items ∙ ap (λ f. c.loop-reference.faults.items ++ f ∷ []) c.in_ok-conflict.ensures)
