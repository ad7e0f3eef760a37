-- What the JSON of comments stands for.
use Rattle.std.specs.Prelude.{List, [], ◌∷◌, codes, if◌then◌else◌, Option, Some, None, option_map, option_and_then}
use Rattle.std.specs.Option.{option_map_or}
use Rattle.std.specs.Str.{bytes_eq}
use Rattle.serde_json.specs.Data.{Data}
use Rattle.serde_json.specs.Find.{as_str, as_array, as_object, get}
use Rattle.fast_check_tree_syntax.specs.Shape.{none_range}
use Rattle.fast_check_tree_syntax.specs.declared.source.SourcePos.{SourcePos}
use Rattle.fast_check_tree_comments.specs.declared.comment.Comment.{Comment}
use Rattle.fast_check_tree_comments.specs.declared.comment.CommentKind.{CommentKind}
use Rattle.fast_check_tree_comments.specs.declared.comment.CommentKind.TheVariants.{Line, Block}
use Rattle.fast_check_tree_comments.specs.declared.comments.Comments.{Comments}
use Rattle.fast_check_tree_comments.specs.Places.{Places, with_comments}
use Rattle.fast_check_read.specs.Each.{each}
use Rattle.fast_check_read.specs.Pieces.{u32_of, pair_of, range_of_data, items_list}

-- "Line" or "Block"
abbrev pub comment_kind_of : Data → Option CommentKind
comment_kind_of value = option_and_then (λ text. if bytes_eq text (codes "Line") then Some Line else
    (if bytes_eq text (codes "Block") then Some Block else None)) (as_str value)

-- an object of the members kind, span and text: the span may be left out
abbrev pub comment_of : Data → Option Comment
comment_of value =
    option_and_then
    (λ kind. option_and_then (λ span. option_map (λ text. record { kind = kind; span = span; text = text })
    (option_and_then as_str (get (codes "text") value)))
    (option_map_or range_of_data (get (codes "span") value) (Some none_range)))
    (option_and_then comment_kind_of (get (codes "kind") value))

-- an array of comments
abbrev pub comment_list_of : Data → Option (List Comment)
comment_list_of value = option_and_then (λ items. each comment_of (items_list items)) (as_array value)

-- an array of a position and its comments
abbrev pub entry_of : Data → Option (SourcePos × List Comment)
entry_of value =
    option_and_then
    (λ pair. option_and_then (λ p. option_map (λ cs. (record { 0 = p }, cs)) (comment_list_of pair.1))
    (u32_of pair.0))
    (pair_of value)

-- the places with each entry laid in turn, so that of entries with one position the last counts
abbrev pub laid : Places → List (SourcePos × List Comment) → Places
laid places [] = places
laid places (e ∷ es) = laid (with_comments e.0 e.1 places) es

abbrev pub places_of : Data → Option Places
places_of value = option_and_then (λ items. option_map (laid []) (each entry_of (items_list items))) (as_array value)

-- an object of the members leading and trailing, which may be left out
abbrev pub comments_of : Data → Option Comments
comments_of value =
    option_and_then
    (λ members. option_and_then
    (λ leading. option_map (λ trailing. record { leading = leading; trailing = trailing })
    (option_map_or places_of (get (codes "trailing") value) (Some [])))
    (option_map_or places_of (get (codes "leading") value) (Some [])))
    (as_object value)
