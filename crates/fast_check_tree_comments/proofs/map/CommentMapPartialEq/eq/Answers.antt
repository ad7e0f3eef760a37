use Rattle.std.proofs.Common.{◌≡◌, ◌∙◌, sym, rules}
use Rattle.fast_check_tree_comments.specs.Equality.{same_places, places-decides}
use Rattle.fast_check_tree_comments.proofs.map.CommentMapPartialEq.eq.Goals as goal

pub returns-clause-same : goal.returns-clause-same
returns-clause-same c =
    let a = c.args.self.now in
    let b = c.args.other.now in
    let e : c.eq.result ≡ same_places a b = search rules in
    (λ t. (places-decides a b).0 (sym e ∙ t), λ h. e ∙ (places-decides a b).1 h)
