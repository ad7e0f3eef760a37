use Rattle.std.proofs.Common.{drop, map, codes, ◌∷◌}
use Rattle.json.specs.Token.{begin_object, key, begin_array}
use Rattle.fast_check_print.proofs.Adding.{Remains}
use Rattle.fast_check_print.proofs.Items.{rest_of_items}
use Rattle.fast_check_print.specs.Answer.{source_data}
use Rattle.fast_check_print.proofs.answer.print_module_info.Given as goal

-- the other sources still have to come
abbrev pub invariant-loop-source : goal.invariant-loop-source
invariant-loop-source l =
    Remains (begin_object ∷ key (codes "sources") ∷ begin_array ∷ rest_of_items (map source_data l.source-items)) l.fn.out l.out
    (rest_of_items (map source_data (drop l.source-index l.source-items)))
