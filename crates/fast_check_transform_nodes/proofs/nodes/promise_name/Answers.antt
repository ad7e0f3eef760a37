use Rattle.std.proofs.Common.{◌≡◌, IfOk, ap, ◌∙◌, subst}
use Rattle.fast_check_tree_helpers.specs.Builders.{new_ident}
use Rattle.fast_check_transform_nodes.proofs.nodes.promise_name.Goals as goal

pub returns : goal.returns
returns c = subst (λ t. IfOk c.into_tree.result (λ tree. tree ≡ t))
    (c.new_ident.ensures ∙ ap new_ident c.in_ok-from_str.ensures) c.into_tree.ensures
