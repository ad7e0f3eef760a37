-- The JSON of comments.
use Rattle.std.specs.Prelude.{ℕ, List, codes, map}
use Rattle.serde_json.specs.Data.{Data, string, array, object, no_members, member}
use Rattle.serde_json.specs.View.{items_of}
use Rattle.fast_check_tree_syntax.specs.declared.source.SourcePos.{SourcePos}
use Rattle.fast_check_tree_comments.specs.declared.comment.Comment.{Comment}
use Rattle.fast_check_tree_comments.specs.declared.comment.CommentKind.{CommentKind}
use Rattle.fast_check_tree_comments.specs.declared.comment.CommentKind.TheVariants.{Line, Block}
use Rattle.fast_check_tree_comments.specs.declared.comments.Comments.{Comments}
use Rattle.fast_check_tree_comments.specs.Places.{Places}
use Rattle.fast_check_print.specs.Pieces.{number_data, pair_data, range_data}

abbrev pub kind_text : CommentKind → List ℕ
kind_text Line = codes "Line"
kind_text Block = codes "Block"

-- an object of the members kind, span and text
abbrev pub comment_data : Comment → Data
comment_data comment = object (member (codes "kind") (string (kind_text comment.kind))
    (member (codes "span") (range_data comment.span) (member (codes "text") (string comment.text) no_members)))

-- an array of comments
abbrev pub comment_list_data : List Comment → Data
comment_list_data comments = array (items_of (map comment_data comments))

-- an array of a position and its comments
abbrev pub entry_data : SourcePos × List Comment → Data
entry_data entry = pair_data (number_data entry.0.0) (comment_list_data entry.1)

-- an array of the entries, in the order of their positions
abbrev pub places_data : Places → Data
places_data places = array (items_of (map entry_data places))

-- an object of the members leading and trailing
abbrev pub comments_data : Comments → Data
comments_data comments =
    object (member (codes "leading") (places_data comments.leading)
    (member (codes "trailing") (places_data comments.trailing) no_members))
