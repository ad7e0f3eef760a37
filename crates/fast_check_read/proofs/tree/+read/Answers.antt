use borrow.Author.Count.{falls}
use Rattle.std.proofs.Common.{ℕ, List, [], ◌∷◌, Bor, String, Global, Option, Some, sym, ap, ◌∙◌, subst, option_map, option_and_then}
use Rattle.std.proofs.Common.{map, refl}
use Rattle.serde_json.specs.View.{view, items_view, members_view}
use Rattle.serde_json.specs.declared.value.Value.{Value}
use Rattle.fast_check_tree_syntax.specs.Shape.{list, node}
use Rattle.fast_check_tree_syntax.specs.declared.tree.Tree.{Tree, Flag, Context, Text, Range, Word}
use Rattle.fast_check_read.specs.schema.Rows.{VariantRow, field_row}
use Rattle.fast_check_read.specs.declared.schema.form.Count.{Count}
use Rattle.fast_check_read.specs.declared.schema.form.Form.{Form}
use Rattle.fast_check_read.specs.Each.{each, Answers}
use Rattle.fast_check_read.specs.Reading.{reading, tree_of, field_or_default, item_readings, member_readings, list_items, option_items}
use Rattle.fast_check_read.specs.Reading.{counted, field_tree, option_tree, or_absent, Reading}
use Rattle.fast_check_read.proofs.Each.{answers_none, answers_out, answers_passed, some_of_ok, none_of_err, then_none, then_some, one_more}
use Rattle.fast_check_read.proofs.Each.{none_here, all_done, nothing_done, pushed}
use Rattle.fast_check_read.proofs.Members.{field_tree_found}
use Rattle.fast_check_read.proofs.Words.{tree_of_flag, tree_of_context, tree_of_text, tree_of_range, tree_of_word, tree_of_struct}
use Rattle.fast_check_read.proofs.Words.{tree_of_choice, tree_of_marked, word_found, members_there, array_there, one_member, no_list}
use Rattle.fast_check_read.proofs.Words.{no_options, reading_is_null}
use Rattle.fast_check_read.proofs.tree.+read.Goals as goal

-- ---- fields

pub read_field-returns-in-Some : goal.read_field-returns-in-Some
read_field-returns-in-Some t c =
    let field = field_row c.args.field in
    let found = field_tree_found field c.args.members.now c.get.result c.get.ensures.value in
    subst (λ expected. Answers expected c.read_counted.result)
    (sym (found ∙ ap (λ r. field_or_default (option_map (λ v. reading (view v.now)) r) field) c.in-Some.is)) c.read_counted.ensures

pub read_field-returns-in-None : goal.read_field-returns-in-None
read_field-returns-in-None t c =
    let field = field_row c.args.field in
    let found = field_tree_found field c.args.members.now c.get.result c.get.ensures.value in
    subst (λ expected. Answers expected c.default_of.result)
    (sym (found ∙ ap (λ r. field_or_default (option_map (λ v. reading (view v.now)) r) field) c.in-None.is)) c.default_of.ensures

-- ---- the items of a list

abbrev trees : Form → List Value → Option (List Tree)
trees form vs = list_items form (item_readings (items_view vs))

pub read_list-returns-in_err-with_capacity : goal.read_list-returns-in_err-with_capacity
read_list-returns-in_err-with_capacity t c = answers_out _ _ c.from_residual.ensures.1

pub read_list-loop-value-init : goal.read_list-loop-value-init
read_list-loop-value-init t c = nothing_done _ _ (c.from_vec-items.ensures ∙ c.in_ok-with_capacity.ensures.items)

pub read_list-bounds-value-items-value-index : goal.read_list-bounds-value-items-value-index
read_list-bounds-value-items-value-index t c = c.loop-value-test.true

pub read_list-returns-in_err-read_tree : goal.read_list-returns-in_err-read_tree
read_list-returns-in_err-read_tree t c =
    let form = c.args.form in
    answers_passed _ _ _ c.from_residual-in_err-read_tree.ensures.1 (λ bad.
    ap (λ vs. option_map list (trees form vs)) (sym c.deref-value-items.ensures.value)
    ∙ ap (option_map list)
    (none_here (trees form) (λ v. tree_of (view v) form) (λ v vs. refl) _ _ _ _ _ _ c.loop-value-test.true c.value-item.is
    c.loop-value.invariant (c.in_err-read_tree.ensures bad)))

pub read_list-returns-in_err-push : goal.read_list-returns-in_err-push
read_list-returns-in_err-push t c = answers_out _ _ c.from_residual-in_err-push.ensures.1

pub read_list-loop-value-preserved : goal.read_list-loop-value-preserved
read_list-loop-value-preserved t c =
    let form = c.args.form in
    one_more (trees form) (λ v. tree_of (view v) form)
    (λ v vs. refl) _ _ _ _ _ _ _ _ c.loop-value-test.true c.value-item.is c.loop-value.invariant
    c.in_ok-read_tree.ensures (pushed _ _ _ c.in_ok-push.ensures.ok)

pub read_list-returns : goal.read_list-returns
read_list-returns t c =
    let form = c.args.form in
    ap (λ vs. option_map list (trees form vs)) (sym c.deref-value-items.ensures.value)
    ∙ (ap (option_map list) (all_done (trees form) refl _ _ _ _ c.loop-value-test.false c.loop-value.invariant) ∙
    ap Some (sym c.list.ensures))

-- ---- of a list of options

abbrev options : Form → List Value → Option (List Tree)
options form vs = option_items form (item_readings (items_view vs))

pub read_options-returns-in_err-with_capacity : goal.read_options-returns-in_err-with_capacity
read_options-returns-in_err-with_capacity t c = answers_out _ _ c.from_residual.ensures.1

pub read_options-loop-value-init : goal.read_options-loop-value-init
read_options-loop-value-init t c = nothing_done _ _ (c.from_vec-items.ensures ∙ c.in_ok-with_capacity.ensures.items)

pub read_options-bounds-value-items-value-index : goal.read_options-bounds-value-items-value-index
read_options-bounds-value-items-value-index t c = c.loop-value-test.true

pub read_options-returns-in_err-read_option : goal.read_options-returns-in_err-read_option
read_options-returns-in_err-read_option t c =
    let form = c.args.form in
    answers_passed _ _ _ c.from_residual-in_err-read_option.ensures.1 (λ bad.
    ap (λ vs. option_map list (options form vs)) (sym c.deref-value-items.ensures.value)
    ∙ ap (option_map list)
    (none_here (options form) (λ v. option_tree (reading (view v)) form) (λ v vs. refl) _ _ _ _ _ _ c.loop-value-test.true
    c.value-item.is c.loop-value.invariant (c.in_err-read_option.ensures bad)))

pub read_options-returns-in_err-push : goal.read_options-returns-in_err-push
read_options-returns-in_err-push t c = answers_out _ _ c.from_residual-in_err-push.ensures.1

pub read_options-loop-value-preserved : goal.read_options-loop-value-preserved
read_options-loop-value-preserved t c =
    let form = c.args.form in
    one_more (options form) (λ v. option_tree (reading (view v)) form) (λ v vs. refl) _ _ _ _ _ _ _ _ c.loop-value-test.true c.value-item.is
    c.loop-value.invariant c.in_ok-read_option.ensures (pushed _ _ _ c.in_ok-push.ensures.ok)

pub read_options-returns : goal.read_options-returns
read_options-returns t c =
    let form = c.args.form in
    ap (λ vs. option_map list (options form vs)) (sym c.deref-value-items.ensures.value)
    ∙ (ap (option_map list) (all_done (options form) refl _ _ _ _ c.loop-value-test.false c.loop-value.invariant) ∙
    ap Some (sym c.list.ensures))

-- ---- what stands so often

pub read_counted-returns-in_err-read_array-in-List : goal.read_counted-returns-in_err-read_array-in-List
read_counted-returns-in_err-read_array-in-List t c =
    let value = view c.args.value.now in
    answers_none _ _ (ap (counted (reading value) c.args.form) c.in-List.is
    ∙ ap (option_map list) (no_list value c.args.form c.in_err-read_array-in-List.ensures.err.1)) c.from_residual.ensures.0

pub read_counted-returns-in_err-read_array-in-ListOfOptions : goal.read_counted-returns-in_err-read_array-in-ListOfOptions
read_counted-returns-in_err-read_array-in-ListOfOptions t c =
    let value = view c.args.value.now in
    answers_none _ _ (ap (counted (reading value) c.args.form) c.in-ListOfOptions.is
    ∙ ap (option_map list) (no_options value c.args.form c.in_err-read_array-in-ListOfOptions.ensures.err.1))
    c.from_residual-in_err-read_array-in-ListOfOptions.ensures.0

pub read_counted-returns-in-One : goal.read_counted-returns-in-One
read_counted-returns-in-One t c =
    subst (λ expected. Answers expected c.read_tree.result)
    (sym (ap (counted (reading (view c.args.value.now)) c.args.form) c.in-One.is)) c.read_tree.ensures

pub read_counted-returns-in-Option : goal.read_counted-returns-in-Option
read_counted-returns-in-Option t c =
    subst (λ expected. Answers expected c.read_option.result)
    (sym (ap (counted (reading (view c.args.value.now)) c.args.form) c.in-Option.is))
    c.read_option.ensures

pub read_counted-returns-in_ok-read_array-in-List : goal.read_counted-returns-in_ok-read_array-in-List
read_counted-returns-in_ok-read_array-in-List t c =
    subst (λ expected. Answers expected c.read_list.result)
    (sym (array_there _ _ c.args.form _ _ c.in_ok-read_array-in-List.ensures.ok c.in-List.is))
    c.read_list.ensures

pub read_counted-returns-in_ok-read_array-in-ListOfOptions : goal.read_counted-returns-in_ok-read_array-in-ListOfOptions
read_counted-returns-in_ok-read_array-in-ListOfOptions t c =
    subst (λ expected. Answers expected c.read_options.result)
    (sym (array_there _ _ c.args.form _ _ c.in_ok-read_array-in-ListOfOptions.ensures.ok c.in-ListOfOptions.is)) c.read_options.ensures

pub read_counted-returns-in_ok-read_array-in_default : goal.read_counted-returns-in_ok-read_array-in_default
read_counted-returns-in_ok-read_array-in_default t c =
    subst (λ expected. Answers expected c.read_list-in_default.result)
    (sym (array_there _ _ c.args.form _ _ c.in_ok-read_array-in_default.ensures.ok c.in-OptionOfList.is)) c.read_list-in_default.ensures

-- ---- the forms

pub read_tree-returns-in_err-read_bool-in-Flag : goal.read_tree-returns-in_err-read_bool-in-Flag
read_tree-returns-in_err-read_bool-in-Flag t c =
    let value = view c.args.value.now in
    answers_none _ _
    (ap (tree_of value) c.in-Flag.is ∙
    (tree_of_flag value ∙ ap (option_map Flag) (none_of_err _ _ _ c.in_err-read_bool-in-Flag.ensures)))
    c.from_residual.ensures.0

pub read_tree-returns-in_err-read_u32-in-Context : goal.read_tree-returns-in_err-read_u32-in-Context
read_tree-returns-in_err-read_u32-in-Context t c =
    let value = view c.args.value.now in
    answers_none _ _ (ap (tree_of value) c.in-Context.is
    ∙ (tree_of_context value ∙ ap (option_map (λ n. Context (record { 0 = n }))) (none_of_err _ _ _ c.in_err-read_u32-in-Context.ensures)))
    c.from_residual-in_err-read_u32-in-Context.ensures.0

pub read_tree-returns-in_err-read_text-in-Text : goal.read_tree-returns-in_err-read_text-in-Text
read_tree-returns-in_err-read_text-in-Text t c =
    let value = view c.args.value.now in
    answers_none _ _
    (ap (tree_of value) c.in-Text.is ∙ (tree_of_text value ∙ ap (option_map Text) (sym c.in_err-read_text-in-Text.ensures.text)))
    c.from_residual-in_err-read_text-in-Text.ensures.0

pub read_tree-returns-in_err-from_str-in-Text : goal.read_tree-returns-in_err-from_str-in-Text
read_tree-returns-in_err-from_str-in-Text t c = answers_out _ _ c.from_residual-in_err-from_str-in-Text.ensures.1

pub read_tree-returns-in_err-read_range-in-Range : goal.read_tree-returns-in_err-read_range-in-Range
read_tree-returns-in_err-read_range-in-Range t c =
    let value = view c.args.value.now in
    answers_none _ _
    (ap (tree_of value) c.in-Range.is ∙
    (tree_of_range value ∙ ap (option_map Range) (none_of_err _ _ _ c.in_err-read_range-in-Range.ensures)))
    c.from_residual-in_err-read_range-in-Range.ensures.0

pub read_tree-returns-in_err-read_word-in-Word : goal.read_tree-returns-in_err-read_word-in-Word
read_tree-returns-in_err-read_word-in-Word t c =
    let value = view c.args.value.now in
    answers_none _ _ (ap (tree_of value) c.in-Word.is
    ∙ (tree_of_word value c.in-Word.list ∙ ap (option_map Word) (none_of_err _ _ _ c.in_err-read_word-in-Word.ensures)))
    c.from_residual-in_err-read_word-in-Word.ensures.0

pub read_tree-returns-in_err-read_members-in-Struct : goal.read_tree-returns-in_err-read_members-in-Struct
read_tree-returns-in_err-read_members-in-Struct t c =
    let value = view c.args.value.now in
    answers_none _ _
    (ap (tree_of value) c.in-Struct.is ∙ (tree_of_struct value _ ∙ then_none _ c.in_err-read_members-in-Struct.ensures.err.1))
    c.from_residual-in_err-read_members-in-Struct.ensures.0

pub read_tree-returns-in_err-read_members-in-Choice : goal.read_tree-returns-in_err-read_members-in-Choice
read_tree-returns-in_err-read_members-in-Choice t c =
    let value = view c.args.value.now in
    answers_none _ _
    (ap (tree_of value) c.in-Choice.is ∙ (tree_of_choice value _ ∙ then_none _ c.in_err-read_members-in-Choice.ensures.err.1))
    c.from_residual-in_err-read_members-in-Choice.ensures.0

pub read_tree-returns-in_err-read_members-in-Marked : goal.read_tree-returns-in_err-read_members-in-Marked
read_tree-returns-in_err-read_members-in-Marked t c =
    let value = view c.args.value.now in
    answers_none _ _
    (ap (tree_of value) c.in-Marked.is ∙ (tree_of_marked value _ ∙ then_none _ c.in_err-read_members-in-Marked.ensures.err.1))
    c.from_residual-in_err-read_members-in-Marked.ensures.0

pub read_tree-returns-in_ok-read_bool-in-Flag : goal.read_tree-returns-in_ok-read_bool-in-Flag
read_tree-returns-in_ok-read_bool-in-Flag t c =
    let value = view c.args.value.now in
    ap (tree_of value) c.in-Flag.is ∙ (tree_of_flag value ∙ ap (option_map Flag) (some_of_ok _ _ _ c.in_ok-read_bool-in-Flag.ensures))

pub read_tree-returns-in_ok-read_u32-in-Context : goal.read_tree-returns-in_ok-read_u32-in-Context
read_tree-returns-in_ok-read_u32-in-Context t c =
    let value = view c.args.value.now in
    ap (tree_of value) c.in-Context.is
    ∙ (tree_of_context value ∙ ap (option_map (λ n. Context (record { 0 = n }))) (some_of_ok _ _ _ c.in_ok-read_u32-in-Context.ensures))

pub read_tree-returns-in_ok-from_str-in-Text : goal.read_tree-returns-in_ok-from_str-in-Text
read_tree-returns-in_ok-from_str-in-Text t c =
    let value = view c.args.value.now in
    ap (tree_of value) c.in-Text.is ∙ (tree_of_text value
    ∙ (ap (option_map Text) (sym c.in_ok-read_text-in-Text.ensures.text) ∙
    ap (λ text. Some (Text text)) (sym c.in_ok-from_str-in-Text.ensures)))

pub read_tree-returns-in_ok-read_range-in-Range : goal.read_tree-returns-in_ok-read_range-in-Range
read_tree-returns-in_ok-read_range-in-Range t c =
    let value = view c.args.value.now in
    ap (tree_of value) c.in-Range.is ∙ (tree_of_range value ∙ ap (option_map Range) (some_of_ok _ _ _ c.in_ok-read_range-in-Range.ensures))

pub read_tree-returns-in_ok-read_word-in-Word : goal.read_tree-returns-in_ok-read_word-in-Word
read_tree-returns-in_ok-read_word-in-Word t c =
    ap (tree_of (view c.args.value.now)) c.in-Word.is
    ∙ (tree_of_word (view c.args.value.now) c.in-Word.list ∙ ap (option_map Word)
    (word_found _ _ _ (sym c.read_word.ensures ∙ c.in_ok-read_word-in-Word.was)))

pub read_tree-returns-in_ok-read_members-in-Struct : goal.read_tree-returns-in_ok-read_members-in-Struct
read_tree-returns-in_ok-read_members-in-Struct t c =
    let value = view c.args.value.now in
    subst (λ expected. Answers expected c.read_node.result) (sym (ap (tree_of value) c.in-Struct.is ∙ (tree_of_struct value _
    ∙ then_some _ (members_there _ _ c.in_ok-read_members-in-Struct.ensures.ok)))) c.read_node.ensures

pub read_tree-returns-in_ok-read_members-in-Choice : goal.read_tree-returns-in_ok-read_members-in-Choice
read_tree-returns-in_ok-read_members-in-Choice t c =
    let value = view c.args.value.now in
    subst (λ expected. Answers expected c.read_choice.result) (sym (ap (tree_of value) c.in-Choice.is ∙ (tree_of_choice value _
    ∙ then_some _ (members_there _ _ c.in_ok-read_members-in-Choice.ensures.ok)))) c.read_choice.ensures

pub read_tree-returns-in_ok-read_members-in-Marked : goal.read_tree-returns-in_ok-read_members-in-Marked
read_tree-returns-in_ok-read_members-in-Marked t c =
    let value = view c.args.value.now in
    subst (λ expected. Answers expected c.read_marked.result) (sym (ap (tree_of value) c.in-Marked.is ∙ (tree_of_marked value _
    ∙ then_some _ (members_there _ _ c.in_ok-read_members-in-Marked.ensures.ok)))) c.read_marked.ensures

-- ---- nodes

abbrev parts : List (List ℕ × Reading) → List (Bor (List ℕ) × Form × Count) → Option (List Tree)
parts members fields = each (field_tree members) (map field_row fields)

pub read_node-returns-in_err-with_capacity : goal.read_node-returns-in_err-with_capacity
read_node-returns-in_err-with_capacity t c = answers_out _ _ c.from_residual.ensures.1

pub read_node-loop-field-init : goal.read_node-loop-field-init
read_node-loop-field-init t c = nothing_done _ _ (c.from_vec-parts.ensures ∙ c.in_ok-with_capacity.ensures.items)

pub read_node-bounds-fields-field-index : goal.read_node-bounds-fields-field-index
read_node-bounds-fields-field-index t c = c.loop-field-test.true

pub read_node-returns-in_err-read_field : goal.read_node-returns-in_err-read_field
read_node-returns-in_err-read_field t c =
    let members = member_readings (members_view c.args.members.now.entries) in
    answers_passed _ _ _ c.from_residual-in_err-read_field.ensures.1 (λ bad.
    ap (λ rows. option_map (node c.args.kind) (each (field_tree members) rows)) (sym c.fields-fields.ensures)
    ∙ ap (option_map (node c.args.kind))
    (none_here (parts members) (λ field. field_tree members (field_row field)) (λ v vs. refl) _ _ _ _ _ _
    c.loop-field-test.true refl c.loop-field.invariant (c.in_err-read_field.ensures bad)))

pub read_node-returns-in_err-push : goal.read_node-returns-in_err-push
read_node-returns-in_err-push t c = answers_out _ _ c.from_residual-in_err-push.ensures.1

pub read_node-loop-field-preserved : goal.read_node-loop-field-preserved
read_node-loop-field-preserved t c =
    let members = member_readings (members_view c.args.members.now.entries) in
    one_more (parts members) (λ field. field_tree members (field_row field)) (λ v vs. refl) _ _ _ _ _ _ _ _ c.loop-field-test.true refl
    c.loop-field.invariant c.in_ok-read_field.ensures (pushed _ _ _ c.in_ok-push.ensures.ok)

pub read_node-returns : goal.read_node-returns
read_node-returns t c =
    let members = member_readings (members_view c.args.members.now.entries) in
    ap (λ rows. option_map (node c.args.kind) (each (field_tree members) rows)) (sym c.fields-fields.ensures)
    ∙ ap (option_map (node c.args.kind)) (all_done (parts members) refl _ _ _ _ c.loop-field-test.false c.loop-field.invariant)

-- ---- choices under their mark

pub read_marked-returns-in_err-read_choice-in-Some : goal.read_marked-returns-in_err-read_choice-in-Some
read_marked-returns-in_err-read_choice-in-Some t c =
    answers_passed _ _ _ c.from_residual.ensures.1 (λ bad.
    then_some _ (sym c.in-Some.ensures) ∙ ap (option_map (λ tree. node c.args.mark (tree ∷ []))) (c.in_err-read_choice-in-Some.ensures bad))

pub read_marked-returns-in_err-node-in-Some : goal.read_marked-returns-in_err-node-in-Some
read_marked-returns-in_err-node-in-Some t c = answers_out _ _ c.from_residual-in_err-node-in-Some.ensures.1

pub read_marked-returns-in_ok-node-in-Some : goal.read_marked-returns-in_ok-node-in-Some
read_marked-returns-in_ok-node-in-Some t c =
    then_some _ (sym c.in-Some.ensures)
    ∙ (ap (option_map (λ tree. node c.args.mark (tree ∷ []))) c.in_ok-read_choice-in-Some.ensures ∙
    ap Some (sym c.in_ok-node-in-Some.ensures))

pub read_marked-returns-in-None : goal.read_marked-returns-in-None
read_marked-returns-in-None t c = λ bad. then_none _ (sym c.in-None.ensures)

-- ---- options

pub read_option-returns-then-is_null : goal.read_option-returns-then-is_null
read_option-returns-then-is_null t c =
    ap (λ is_null. or_absent is_null (tree_of (view c.args.value.now) c.args.form))
    (reading_is_null (view c.args.value.now) ∙ (sym c.is_null.ensures ∙ c.if-is_null.true))

pub read_option-returns-else-is_null : goal.read_option-returns-else-is_null
read_option-returns-else-is_null t c =
    subst (λ expected. Answers expected c.read_tree.result)
    (sym (ap (λ is_null. or_absent is_null (tree_of (view c.args.value.now) c.args.form))
    (reading_is_null (view c.args.value.now) ∙ (sym c.is_null.ensures ∙ c.if-is_null.false)))) c.read_tree.ensures

pub read_list-loop-value-smaller : goal.read_list-loop-value-smaller
read_list-loop-value-smaller t c = falls _ _ c.loop-value-test.true

pub read_options-loop-value-smaller : goal.read_options-loop-value-smaller
read_options-loop-value-smaller t c = falls _ _ c.loop-value-test.true

pub read_node-loop-field-smaller : goal.read_node-loop-field-smaller
read_node-loop-field-smaller t c = falls _ _ c.loop-field-test.true

-- ---- choices

abbrev of_variants : Value → Option VariantRow → Option Tree
of_variants content variant = option_and_then (λ v. tree_of (view content) v.form) variant

pub read_choice-next-requires : goal.read_choice-next-requires
read_choice-next-requires t c = tt

pub read_choice-next-requires-2 : goal.read_choice-next-requires-2
read_choice-next-requires-2 t c = tt

pub read_choice-variant_named-requires-text-name : goal.read_choice-variant_named-requires-text-name
read_choice-variant_named-requires-text-name t c = λ κs. c.as_str.utf8

pub read_choice-returns-in-Some : goal.read_choice-returns-in-Some
read_choice-returns-in-Some t c =
    let member : String Global × Value = (c.in-Some-None.name.now, c.in-Some-None.content.now) in
    let with_more : List (String Global × Value) → List (String Global × Value) = λ more. member ∷ more in
    let entries = sym c.iter-entries.ensures.rest ∙ (c.in-Some-None.ensures.steps ∙ ap with_more c.in-Some-None.ensures'.steps.0) in
    subst (λ expected. Answers expected c.read_tree.result)
    (sym (one_member _ member.0 member.1 c.args.choice entries _ c.as_str.ensures.value
    ∙ ap (of_variants c.in-Some-None.content.now) (sym c.in-Some.ensures))) c.read_tree.ensures

pub read_choice-returns-in-None : goal.read_choice-returns-in-None
read_choice-returns-in-None t c = λ bad.
    let member : String Global × Value = (c.in-Some-None.name.now, c.in-Some-None.content.now) in
    let with_more : List (String Global × Value) → List (String Global × Value) = λ more. member ∷ more in
    let entries = sym c.iter-entries.ensures.rest ∙ (c.in-Some-None.ensures.steps ∙ ap with_more c.in-Some-None.ensures'.steps.0) in
    one_member _ member.0 member.1 c.args.choice entries _ c.as_str.ensures.value ∙
    ap (of_variants c.in-Some-None.content.now) (sym c.in-None.ensures)
