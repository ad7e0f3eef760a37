use Rattle.std.proofs.Common.{◌∙◌, ap, map, [], ◌∷◌, ◌++◌}
use Rattle.std.proofs.lemmas.Result.{on_ok_weaker}
use Rattle.fast_check_meaning_expandos.specs.Expandos.{conflict_seen, namespace_item}
use Rattle.fast_check_meaning_expandos.proofs.Extended.{extends_tree}
use Rattle.fast_check_meaning_expandos.proofs.namespaces.push_namespace.Goals as goal

pub returns : goal.returns
returns c =
    let n = c.args.namespace in
    on_ok_weaker c.push.result
    (λ e. extends_tree (map (conflict_seen c.args.object) n.conflicts) (namespace_item n.is_exported c.args.object.0 n.declarators)
    c.in_ok-push_conflicts.ensures (e ∙ ap (λ t. c.push_conflicts.new.items ++ t ∷ []) c.in_ok-namespace_item.ensures))
    c.push.ensures.ok
