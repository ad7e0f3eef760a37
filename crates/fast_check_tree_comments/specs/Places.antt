-- The comments of a text as a list of entries: a position, and the comments that stand at it. The entries stand in the
-- order of their positions.
use Rattle.std.specs.Prelude.{Bool, not, List, Option}
use Rattle.std.specs.declared.cmp.Ordering.{Ordering}
use Rattle.std.specs.Ordering.{nat_cmp}
use Rattle.std.specs.BTreeMap.{insert_entry, is_at}
use Rattle.std.specs.List.{filter}
use Rattle.std.specs.Map as entries
use Rattle.fast_check_tree_syntax.specs.declared.source.SourcePos.{SourcePos}
use Rattle.fast_check_tree_comments.specs.declared.comment.Comment.{Comment}

abbrev pub Places : Type 0
Places = List (SourcePos × List Comment)

-- positions compare as their numbers
abbrev pub by_number : SourcePos → SourcePos → Ordering
by_number a b = nat_cmp a.0 b.0

-- the comments at a position
abbrev pub comments_at : SourcePos → Places → Option (List Comment)
comments_at position places = entries.lookup (is_at (by_number position)) places

-- the places with these comments at the position, in place of those that stood there
abbrev pub with_comments : SourcePos → List Comment → Places → Places
with_comments position comments places = insert_entry by_number places position comments

-- whether a place is at the position
abbrev pub is_place_at : SourcePos → SourcePos × List Comment → Bool
is_place_at position place = is_at (by_number position) place.0

-- the places but those at the position
abbrev pub without_comments : SourcePos → Places → Places
without_comments position places = filter (λ place. not (is_place_at position place)) places
