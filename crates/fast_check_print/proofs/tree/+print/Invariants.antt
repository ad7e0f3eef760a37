use Rattle.std.proofs.Common.{drop, map}
use Rattle.fast_check_read.specs.schema.Rows.{field_row}
use Rattle.fast_check_read.specs.schema.Schema.{fields_of}
use Rattle.fast_check_print.specs.Trees.{json_of, list_data, fields_data}
use Rattle.fast_check_print.specs.Writing.{tokens_of}
use Rattle.fast_check_print.proofs.Adding.{Remains}
use Rattle.fast_check_print.proofs.Items.{rest_of_items}
use Rattle.fast_check_print.proofs.Members.{rest_of_members, Within}
use Rattle.fast_check_print.proofs.tree.+print.Given as goal

-- the other items still have to come
abbrev pub invariant-print_list-loop-item : goal.invariant-print_list-loop-item
invariant-print_list-loop-item l =
    Remains (tokens_of (list_data (map json_of l.fn.items) l.fn.form)) l.fn.out l.out
    (rest_of_items (map (λ p. p l.form) (map json_of (drop l.item-index l.items))))

-- the members of the other places still have to come
abbrev pub invariant-print_fields-loop-place : goal.invariant-print_fields-loop-place
invariant-print_fields-loop-place l =
    let places = drop l.place-index l.place-items in
    Remains (tokens_of (fields_data (fields_of l.fn.kind) (map json_of l.fn.parts))) l.fn.out l.out
    (rest_of_members (map field_row l.fields) (map json_of l.parts) places)
    × Within (map field_row l.fields) places
