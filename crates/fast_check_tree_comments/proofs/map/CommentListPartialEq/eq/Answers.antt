use Rattle.std.proofs.lemmas.Slice.Eq.{slice_eq-Decides}
use Rattle.fast_check_tree_comments.specs.Equality.{comment-decides}
use Rattle.fast_check_tree_comments.proofs.map.CommentListPartialEq.eq.Goals as goal

pub returns-clause-same : goal.returns-clause-same
returns-clause-same c =
    rw (c.as_slice.ensures, c.as_slice-2.ensures) at
    (slice_eq-Decides comment-decides c.as_slice.result.now c.as_slice-2.result.now c.eq.result c.eq.ensures)
