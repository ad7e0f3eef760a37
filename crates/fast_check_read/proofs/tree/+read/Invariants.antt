use Rattle.std.proofs.Common.{◌≡◌, ◌++◌, drop, map, option_map}
use Rattle.serde_json.specs.View.{items_view, members_view}
use Rattle.fast_check_read.specs.schema.Rows.{field_row}
use Rattle.fast_check_read.specs.Each.{each}
use Rattle.fast_check_read.specs.Reading.{item_readings, member_readings, field_tree, list_items, option_items}
use Rattle.fast_check_read.proofs.tree.+read.Given as goal

-- the parts so far, and then what the other fields give, is what all fields give
abbrev pub invariant-read_node-loop-field : goal.invariant-read_node-loop-field
invariant-read_node-loop-field l =
    let part = field_tree (member_readings (members_view l.members.entries)) in
    each part (map field_row l.fields) ≡ option_map (λ more. l.parts ++ more) (each part (map field_row (drop l.field-index l.fields)))

abbrev pub invariant-read_list-loop-value : goal.invariant-read_list-loop-value
invariant-read_list-loop-value l =
    list_items l.form (item_readings (items_view l.value-items)) ≡ option_map (λ more. l.items ++ more)
    (list_items l.form (item_readings (items_view (drop l.value-index l.value-items))))

abbrev pub invariant-read_options-loop-value : goal.invariant-read_options-loop-value
invariant-read_options-loop-value l =
    option_items l.form (item_readings (items_view l.value-items)) ≡ option_map (λ more. l.items ++ more)
    (option_items l.form (item_readings (items_view (drop l.value-index l.value-items))))
