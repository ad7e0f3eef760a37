-- Equality of comments, of lists of them, and of all comments of a module, as tests. Each holds exactly of equal
-- values.
use Rattle.std.specs.Prelude.{◌≡◌, ◌==◌, Bool, true, false, ◌&&◌, List, bytes_eq, refl}
use Rattle.std.proofs.Common.{Decides, ap}
use Rattle.std.specs.Cmp.{IsEquivalence, decided, unsigned_Decides}
use Rattle.std.specs.Cmp.Lexicographic.{pointwise, pointwise_decides, bytes_decides}
use Rattle.std.proofs.lemmas.Bool.{and_parts, and_from}
use denote.Enum.Bare.{sameb, same_true, true_same}
use Rattle.fast_check_tree_syntax.specs.declared.source.SourcePos.{SourcePos}
use Rattle.fast_check_tree_comments.specs.declared.comment.Comment.{Comment}
use Rattle.fast_check_tree_comments.specs.contracts.comment.CommentKind.{the_type}
use Rattle.fast_check_tree_comments.specs.declared.comments.Comments.{Comments}
use Rattle.fast_check_tree_comments.specs.Places.{Places}

-- kind, place and text are the same
abbrev pub same_comment : Comment → Comment → Bool
same_comment a b =
    sameb the_type a.kind b.kind &&
    (a.span.start.0 == b.span.start.0 && (a.span.end.0 == b.span.end.0 && bytes_eq a.text b.text))

-- the same comments in the same order
abbrev pub same_list : List Comment → List Comment → Bool
same_list = pointwise same_comment

abbrev pub same_position : SourcePos → SourcePos → Bool
same_position a b = a.0 == b.0

abbrev pub same_entry : SourcePos × List Comment → SourcePos × List Comment → Bool
same_entry p q = same_position p.0 q.0 && same_list p.1 q.1

-- the same comments at the same positions
abbrev pub same_places : Places → Places → Bool
same_places = pointwise same_entry

abbrev pub same_comments : Comments → Comments → Bool
same_comments a b = same_places a.leading b.leading && same_places a.trailing b.trailing

pub comment-decides : (a b : Comment) → Decides (same_comment a b) (a ≡ b)
comment-decides a b = (to, from)
  where
    to : same_comment a b ≡ true → a ≡ b
    to e =
        let k = and_parts _ _ e in
        let s = and_parts _ _ k.1 in
        let t = and_parts _ _ s.1 in
        let kinds = same_true the_type tt a.kind b.kind k.0 in
        let starts = (unsigned_Decides a.span.start.0 b.span.start.0).0 s.0 in
        let ends = (unsigned_Decides a.span.end.0 b.span.end.0).0 t.0 in
        let texts = (bytes_decides a.text b.text).0 t.1 in
        λ i. record {
          kind = kinds i;
          span = record { start = record { 0 = starts i }; end = record { 0 = ends i } };
          text = texts i;
        }

    from : a ≡ b → same_comment a b ≡ true
    from e =
        and_from _ _ (true_same the_type a.kind b.kind (ap (λ x. x.kind) e))
        (and_from _ _ ((unsigned_Decides a.span.start.0 b.span.start.0).1 (ap (λ x. x.span.start.0) e))
        (and_from _ _ ((unsigned_Decides a.span.end.0 b.span.end.0).1 (ap (λ x. x.span.end.0) e))
        ((bytes_decides a.text b.text).1 (ap (λ x. x.text) e))))

pub list-decides : (a b : List Comment) → Decides (same_list a b) (a ≡ b)
list-decides a b = pointwise_decides comment-decides a b

pub position-decides : (a b : SourcePos) → Decides (same_position a b) (a ≡ b)
position-decides a b = (
  λ e. let n = (unsigned_Decides a.0 b.0).0 e in λ i. record { 0 = n i },
  λ e. (unsigned_Decides a.0 b.0).1 (ap (λ x. x.0) e),
)

entry-decides : (p q : SourcePos × List Comment) → Decides (same_entry p q) (p ≡ q)
entry-decides p q = (
  λ e.
      let s = and_parts (same_position p.0 q.0) (same_list p.1 q.1) e in
      let positions = (position-decides p.0 q.0).0 s.0 in
      let lists = (list-decides p.1 q.1).0 s.1 in
      λ i. (positions i, lists i),
  λ e. and_from (same_position p.0 q.0) (same_list p.1 q.1) ((position-decides p.0 q.0).1 (ap (λ x. x.0) e))
      ((list-decides p.1 q.1).1 (ap (λ x. x.1) e)),
)

pub places-decides : (a b : Places) → Decides (same_places a b) (a ≡ b)
places-decides a b = pointwise_decides entry-decides a b

pub comments-decides : (a b : Comments) → Decides (same_comments a b) (a ≡ b)
comments-decides a b = (
  λ e.
      let s = and_parts (same_places a.leading b.leading) (same_places a.trailing b.trailing) e in
      let before = (places-decides a.leading b.leading).0 s.0 in
      let after = (places-decides a.trailing b.trailing).0 s.1 in
      λ i. record { leading = before i; trailing = after i },
  λ e. and_from (same_places a.leading b.leading) (same_places a.trailing b.trailing)
      ((places-decides a.leading b.leading).1 (ap (λ x. x.leading) e))
      ((places-decides a.trailing b.trailing).1 (ap (λ x. x.trailing) e)),
)

pub comment-equiv : IsEquivalence same_comment
comment-equiv = decided same_comment comment-decides

pub list-equiv : IsEquivalence same_list
list-equiv = decided same_list list-decides

pub places-equiv : IsEquivalence same_places
places-equiv = decided same_places places-decides

pub comments-equiv : IsEquivalence same_comments
comments-equiv = decided same_comments comments-decides
