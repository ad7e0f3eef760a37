use Rattle.std.proofs.Common.{sym, ◌∙◌}
use denote.Enum.Bare.{same_true, true_same}
use Rattle.fast_check_tree_syntax.specs.contracts.kind.Kind.{the_type}
use Rattle.fast_check_tree_syntax.proofs.tree.same_kind.Goals as goal

pub returns : goal.returns
returns c =
    let h = c.eq.ensures in
    (λ p. same_true the_type tt c.args.a c.args.b (sym h ∙ p), λ e. h ∙ true_same the_type c.args.a c.args.b e)
