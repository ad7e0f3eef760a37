use Rattle.std.proofs.Common.{map}
use Rattle.fast_check_print.specs.Comments.{entry_data, places_data}
use Rattle.fast_check_print.specs.Writing.{tokens_of}
use Rattle.fast_check_print.proofs.Adding.{Remains}
use Rattle.fast_check_print.proofs.Items.{rest_of_items}
use Rattle.fast_check_print.proofs.comments.print_places.Given as goal

-- the other entries still have to come
abbrev pub invariant-loop-position : goal.invariant-loop-position
invariant-loop-position l = Remains (tokens_of (places_data l.fn.places)) l.fn.out l.out
    (rest_of_items (map entry_data l.position-iterator))
