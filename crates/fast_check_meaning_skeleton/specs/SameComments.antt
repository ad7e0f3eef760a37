-- Comments that are the same at renamed positions. Where a position has no partner they are not compared.
use Rattle.std.specs.Prelude.{◌≡◌, ℕ, List, [], if◌then◌else◌}
use Rattle.std.specs.List.{flat_map}
use Rattle.fast_check_tree_syntax.specs.Moves.{Renaming, Pairs, IsPair}
use Rattle.fast_check_tree_syntax.specs.Same.{SameRange, Each}
use Rattle.fast_check_tree_comments.specs.declared.comment.Comment.{Comment}
use Rattle.fast_check_tree_comments.specs.declared.comments.Comments.{Comments}
use Rattle.fast_check_tree_comments.specs.Places.{Places, is_place_at}

-- all comments that stand at a position, in order
abbrev pub all_comments_at : ℕ → Places → List Comment
all_comments_at position places =
    flat_map (λ place. if is_place_at (record { 0 = position }) place then place.1 else []) places

-- one comment, at ranges that the renaming pairs
pub record SameComment (r : Renaming) (c d : Comment) : Type 0 where
  pub kind : c.kind ≡ d.kind
  pub span : SameRange r c.span d.span
  pub text : c.text ≡ d.text

-- at each position of these pairs the same comments as at its partner, one by one; none where none stands there
abbrev pub SameAtPairs : Renaming → Pairs → Places → Places → Type 0
SameAtPairs r pairs c d = (p q : ℕ) → IsPair pairs p q →
    Each (SameComment r) (all_comments_at p c) (all_comments_at q d)

-- comments before tokens stand at starts, those after tokens at ends
pub record SameComments (r : Renaming) (c d : Comments) : Type 0 where
  pub leading : SameAtPairs r r.starts c.leading d.leading
  pub trailing : SameAtPairs r r.ends c.trailing d.trailing
