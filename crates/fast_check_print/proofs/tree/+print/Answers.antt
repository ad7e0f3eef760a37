use Rattle.std.proofs.Common.{◌≡◌, ℕ, ◌+◌, ◌<◌, [], ◌∷◌, ◌++◌, length, drop, map, get_or, option_map, refl, sym, ap, ◌∙◌, subst}
use Rattle.std.proofs.Common.{append_assoc, replicate, if◌then◌else◌, OnOk, arith}
use Rattle.std.proofs.lemmas.List.{length-map}
use Rattle.std.proofs.lemmas.Option.{slice_get-map, slice_get_read, slice_get_past}
use Rattle.json.specs.Token.{begin_object, end_object, key}
use Rattle.json.specs.Tree.{members_tokens}
use Rattle.serde_json.specs.Written.{members_outline}
use Rattle.fast_check_read.specs.schema.Rows.{field_row}
use Rattle.fast_check_read.specs.schema.Schema.{fields_of}
use Rattle.fast_check_print.specs.Trees.{json_of, node_data, list_data, part_data, fields_data, members_of_fields, variant_names, under}
use Rattle.fast_check_print.specs.Trees.{content_data}
use Rattle.fast_check_print.specs.Writing.{Adds, tokens_of, opening}
use Rattle.fast_check_print.proofs.Adding.{Remains, remains-first, adds-token, adds-then, adds-token_ok, adds-last}
use Rattle.fast_check_print.proofs.Members.{rest_of_members, Within, members-listed, within-by_name, next-within, next-member}
use Rattle.fast_check_print.proofs.VariantNames.{tokens-under}
use Rattle.fast_check_print.proofs.tree.+print.Goals as goal
use Rattle.fast_check_print.proofs.tree.+print.Goals.{print_fields-in-Some+in_ok-print_member, print_fields-in_default}

pub print_fields-loop-place-init : goal.print_fields-loop-place-init
print_fields-loop-place-init t c =
    let kind = c.args.kind in
    let parts = map json_of c.args.parts.now in
    let fields = fields_of kind in
    let places = c.written_order-place-items.result.now in
    let all = c.fields-fields.ensures in
    let order = c.written_order-place-items.ensures in
    let rest = rest_of_members (map field_row c.fields-fields.result.now) parts places in
    let is : rest ≡ members_tokens (members_outline (members_of_fields fields parts (length fields))) =
    ap (λ f. rest_of_members f parts places) all ∙
    (ap (rest_of_members fields parts) order ∙ ap (λ ms. members_tokens (members_outline ms))
    (sym (members-listed fields parts (length fields)))) in
    let opened = adds-token_ok _ _ _ _ _ c.in_ok-begin_object.was c.begin_object.ensures in (
      subst (λ ts. Remains (begin_object ∷ ts) c.args.out.now c.begin_object.new.self rest) is
          (remains-first (begin_object ∷ []) rest c.args.out.now c.begin_object.new.self opened),
      subst (λ f. Within f places) (sym all) (subst (Within fields) (sym order) (within-by_name fields (length fields) (omega arith))),
    )

-- the place of the next member has a field
has-field : (t : ℕ) (c : goal.print_fields-Joined-get t) →
    get_or c.written_order-place-items.result.now c.loop-place.place-index 0 < length c.fields-fields.result.now
has-field t c =
    let within =
    next-within
    (map field_row c.fields-fields.result.now) c.written_order-place-items.result.now c.loop-place.place-index c.loop-place-test.true
    c.loop-place.invariant.1 in
    subst (λ n. get_or c.written_order-place-items.result.now c.loop-place.place-index 0 < n)
    (length-map c.fields-fields.result.now field_row) within.0

pub print_fields-loop-place-preserved : goal.print_fields-loop-place-preserved
print_fields-loop-place-preserved t c =
    let rows = map field_row c.fields-fields.result.now in
    let parts = map json_of c.args.parts.now in
    let places = c.written_order-place-items.result.now in
    let index = c.loop-place.place-index in
    let whole = tokens_of (fields_data (fields_of c.args.kind) parts) in
    let others = (next-within rows places index c.loop-place-test.true c.loop-place.invariant.1).1 in
    elim c.match-get.branch [
      | print_fields-in-Some+in_ok-print_member w ↦
          let field = w.in-Some.field.now in
          let found = slice_get_read c.fields-fields.result.now (length c.fields-fields.result.now) (get_or places index 0) field refl
          (has-field t c) w.in-Some.ensures.lookup.1 in
          let row = slice_get-map field_row c.fields-fields.result.now (get_or places index 0) ∙ ap (option_map field_row) found in
          let next = next-member rows parts places index
          (field_row field) whole c.args.out.now c.loop-place.out w.print_member.new.out c.loop-place-test.true row c.loop-place.invariant.0
          w.in_ok-print_member.ensures in (
            subst (λ out. Remains whole c.args.out.now out (rest_of_members rows parts (drop (index + 1) places))) (sym w.out-is) next,
            others,
          )
      | print_fields-in_default w ↦
          let none : ⊥ = omega (arith, has-field t c, w.in_default.ensures.lookup.3) in
          absurd none
    ]

pub print_node-returns : goal.print_node-returns
print_node-returns t c =
    let kind = c.args.kind in
    let parts = map json_of c.args.parts.now in
    let names = variant_names 3 kind c.args.form in
    let value = content_data kind parts in
    let node : node_data kind parts c.args.form ≡ under names value =
    ap (λ b. if b then list_data parts c.args.form else under names value) (sym c.if-eq.ensures) in
    let all = adds-then (opening names) (tokens_of value) _ _ _ c.in_ok-opened.ensures.tokens c.in_ok-print_content.ensures in
    let closed = adds-last c.close_variants.result (opening names ++ tokens_of value) _ _ _ _ all c.close_variants.ensures in
    let is : (opening names ++ tokens_of value) ++ replicate c.in_ok-opened.opened end_object ≡ tokens_of
    (node_data kind parts c.args.form) =
    append_assoc (opening names) (tokens_of value) (replicate c.in_ok-opened.opened end_object)
    ∙ (ap (λ n. opening names ++ (tokens_of value ++ replicate n end_object)) c.in_ok-opened.ensures.count.0 ∙
    (sym (tokens-under names value) ∙ ap tokens_of (sym node))) in
    subst (λ ts. OnOk c.close_variants.result (Adds ts c.args.out.now c.close_variants.new.out)) is closed

pub print_member-returns-in-Some : goal.print_member-returns-in-Some
print_member-returns-in-Some t c =
    let found = slice_get_read c.args.parts.now
    (length c.args.parts.now) c.args.place c.in-Some.part.now refl c.in-Some.ensures.lookup.3.0 c.in-Some.ensures.lookup.1 in
    let part = slice_get-map json_of c.args.parts.now c.args.place ∙ ap (option_map json_of) found in
    let named = adds-token_ok _ _ _ _ _ c.in_ok-key.was c.key.ensures in
    let all = adds-last c.print_tree.result _ _ _ _ _ named c.print_tree.ensures in
    subst (λ p. OnOk c.print_tree.result
    (Adds (key c.args.field.now.0.now ∷ tokens_of (part_data p c.args.field.now.1)) c.args.out.now c.print_tree.new.out))
    (sym part) all

pub print_member-returns-in-None : goal.print_member-returns-in-None
print_member-returns-in-None t c =
    let past = slice_get-map json_of c.args.parts.now c.args.place ∙
    ap (option_map json_of) (slice_get_past c.args.parts.now c.args.place c.in-None.ensures.lookup.3) in
    let named = adds-token_ok _ _ _ _ _ c.in_ok-key.was c.key.ensures in
    let all = adds-last c.null.result _ _ _ _ _ named (adds-token _ _ _ _ c.null.ensures) in
    subst (λ p. OnOk c.null.result
    (Adds (key c.args.field.now.0.now ∷ tokens_of (part_data p c.args.field.now.1)) c.args.out.now c.null.new.self))
    (sym past) all
