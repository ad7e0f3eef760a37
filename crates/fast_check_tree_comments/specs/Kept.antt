-- Which comments a skeleton keeps.
use Rattle.std.specs.Prelude.{ℕ, Bool, false, true, not, List, [], ◌∷◌, map, codes, nat_eq}
use Rattle.std.specs.List.{filter, starts_with}
use Rattle.std.specs.Str.{trim_start}
use Rattle.fast_check_tree_syntax.specs.declared.source.SourcePos.{SourcePos}
use Rattle.fast_check_tree_comments.specs.declared.comment.Comment.{Comment}
use Rattle.fast_check_tree_comments.specs.declared.comment.CommentKind.{CommentKind}
use Rattle.fast_check_tree_comments.specs.declared.comment.CommentKind.TheVariants.{Line, Block}
use Rattle.fast_check_tree_comments.specs.declared.comments.Comments.{Comments}
use Rattle.fast_check_tree_comments.specs.Places.{Places, without_comments}

-- a line comment whose text begins with `@ts-`, white space aside, and a block comment whose text begins with `*`
abbrev pub is_kept_text : CommentKind → List ℕ → Bool
is_kept_text Line text = starts_with nat_eq (trim_start text) (codes "@ts-")
is_kept_text Block text = starts_with nat_eq text (codes "*")

-- directives for the type checker, and documentation
abbrev pub is_kept : Comment → Bool
is_kept comment = is_kept_text comment.kind comment.text

abbrev pub is_empty : List Comment → Bool
is_empty [] = true
is_empty (_ ∷ _) = false

-- a place with those of its comments that are kept
abbrev pub pruned_place : SourcePos × List Comment → SourcePos × List Comment
pruned_place place = (place.0, filter is_kept place.1)

-- the places with the comments that are kept; a place that is left with none goes
abbrev pub pruned : Places → Places
pruned places = filter (λ place. not (is_empty place.1)) (map pruned_place places)

-- the comments that are kept of those before and after tokens
abbrev pub kept : Comments → Comments
kept comments = record { leading = pruned comments.leading; trailing = pruned comments.trailing }

-- the comments without those before the token at a position
abbrev pub without_leading : SourcePos → Comments → Comments
without_leading position comments =
    record { leading = without_comments position comments.leading; trailing = comments.trailing }
