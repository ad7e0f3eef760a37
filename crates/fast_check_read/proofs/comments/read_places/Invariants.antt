use Rattle.std.proofs.Common.{◌≡◌, [], drop, option_map}
use Rattle.serde_json.specs.View.{items_view}
use Rattle.fast_check_read.specs.Each.{each}
use Rattle.fast_check_read.specs.Comments.{entry_of, laid}
use Rattle.fast_check_read.specs.Pieces.{items_list}
use Rattle.fast_check_read.proofs.comments.read_places.Given as goal

-- laying the other entries over the places so far lays all entries
abbrev pub invariant-loop-item : goal.invariant-loop-item
invariant-loop-item l =
    option_map (laid []) (each entry_of (items_list (items_view l.item-items))) ≡ option_map (laid l.places)
    (each entry_of (items_list (items_view (drop l.item-index l.item-items))))
