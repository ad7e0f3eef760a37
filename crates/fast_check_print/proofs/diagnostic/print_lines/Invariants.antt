use Rattle.std.proofs.Common.{drop, map, string_bytes}
use Rattle.serde_json.specs.Data.{string, array}
use Rattle.serde_json.specs.View.{items_of}
use Rattle.fast_check_print.specs.Writing.{tokens_of}
use Rattle.fast_check_print.proofs.Adding.{Remains}
use Rattle.fast_check_print.proofs.Items.{rest_of_items}
use Rattle.fast_check_print.proofs.diagnostic.print_lines.Given as goal

-- the other lines still have to come
abbrev pub invariant-loop-line : goal.invariant-loop-line
invariant-loop-line l =
    Remains (tokens_of (array (items_of (map (λ line. string (string_bytes line)) l.line-items)))) l.fn.out l.out
    (rest_of_items (map (λ line. string (string_bytes line)) (drop l.line-index l.line-items)))
