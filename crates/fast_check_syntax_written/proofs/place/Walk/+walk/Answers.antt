use Rattle.std.proofs.Common.{rules, arith, ◌≡◌, ◌≤◌, ◌<◌, ◌+◌, sym, ap, ◌∙◌, subst, map, List, ℕ, length, codes, if◌then◌else◌, false, nat_eq}
use Rattle.fast_check_tree_syntax.specs.Shape.{part as part_of, kind_of, parts, is_absent, ◌is◌}
use Rattle.fast_check_tree_syntax.specs.declared.kind.Kind.TheVariants as kinds
use Rattle.fast_check_tree_syntax.specs.Part.{seen}
use Rattle.fast_check_tree_syntax.specs.declared.tree.Tree.{Tree}
use Rattle.fast_check_syntax_table.specs.declared.piece.Slot.TheVariants as slots
use Rattle.fast_check_syntax_table.specs.Rows.{Row, row as row_of}
use Rattle.fast_check_syntax_table.specs.Table.{table}
use Rattle.fast_check_syntax_table.specs.Spelled.{Syntax, Nothing, Bytes, Then, Either, token, may}
use Rattle.fast_check_syntax_table.specs.Lists.{each, joined, listed, braces, comma_after, after_default, bindings, clause}
use Rattle.fast_check_syntax_table.specs.Written.{Ways, ways, written, rows_syntax}
use Rattle.fast_check_syntax_written.specs.Passes.{Passes, wholes}
use Rattle.fast_check_syntax_written.proofs.Levels.{written_node}
use Rattle.fast_check_syntax_written.proofs.Passing.{passes_then, passes_same, passes_other}
use Rattle.fast_check_syntax_written.proofs.Clauses.{listed_some, after_default_none, with_default_is, clause_none, clause_some}
use Rattle.fast_check_syntax_written.proofs.Sequences.{each_step, each_done, rest_step, rest_done, members_step, members_done, joined_is, rows_step, rows_done, holes_step, holes_done, last_item, texts_step, texts_last}
use Rattle.fast_check_syntax_written.proofs.place.Walk.+walk.Goals as goal

pub all-loop-item-preserved : goal.all-loop-item-preserved
all-loop-item-preserved t c =
    let item = c.if-not-part.ensures (search rules) in
    each_step c.args.items.now c.loop-item.item-index c.item-item.result _ c.args.self.now c.loop-item-test.true c.args.slot c.loop-item.self
    c.part.new.self c.loop-item.invariant
    (subst (λ (u : Tree). Passes (written u c.args.slot) c.loop-item.self c.part.new.self) (c.read.ensures ∙ c.item-item.is) item)

pub rest-loop-item-preserved : goal.rest-loop-item-preserved
rest-loop-item-preserved t c =
    let mark = c.if-not-mark.ensures.found (search rules) in
    let item = c.if-not-part.ensures (search rules) in
    rest_step c.args.items.now c.loop-item.item-index c.item-item.result _ c.args.self.now c.loop-item-test.true c.args.sign.now c.loop-item.self
    c.mark.new.self c.part.new.self c.loop-item.invariant mark
    (subst (λ (u : Tree). Passes (written u slots.Whole) c.mark.new.self c.part.new.self) (c.read.ensures ∙ c.item-item.is) item)

pub members-loop-item-preserved : goal.members-loop-item-preserved
members-loop-item-preserved t c =
    let item = c.if-not-part.ensures (search rules) in
    members_step c.args.items.now c.loop-item.item-index c.item-item.result _ c.args.self.now c.loop-item-test.true c.loop-item.self c.part.new.self
    c.separator.new.self c.loop-item.invariant
    (subst (λ (u : Tree). Passes (written u slots.Whole) c.loop-item.self c.part.new.self) (c.read.ensures ∙ c.item-item.is) item)
    (c.if-not-separator.ensures (search rules))

pub all-returns : goal.all-returns
all-returns t c = λ _. each_done c.args.items.now c.loop-item.item-index _ c.args.self.now c.loop-item.self c.loop-item-test.false c.args.slot c.loop-item.invariant

pub rest-returns : goal.rest-returns
rest-returns t c = λ _. rest_done c.args.items.now c.loop-item.item-index _ c.args.self.now c.loop-item.self c.loop-item-test.false c.args.sign.now
    c.loop-item.invariant

pub members-returns : goal.members-returns
members-returns t c = λ _. members_done c.args.items.now c.loop-item.item-index _ c.args.self.now c.loop-item.self c.loop-item-test.false c.loop-item.invariant

pub joined-returns-then-part : goal.joined-returns-then-part
joined-returns-then-part t c = λ h.
    let first = subst (λ (u : Tree). Passes (written u slots.Whole) c.args.self.now c.part.new.self) (c.read.ensures ∙ c.first-item.is)
    (c.if-part.ensures (search rules)) in
    subst (λ (x : Syntax). Passes x c.args.self.now c.rest.new.self)
    (sym (joined_is c.args.sign.now c.args.items.now c.first-item.result c.in-len1-up.len_at_least))
    (passes_then _ _ c.args.self.now c.part.new.self c.rest.new.self first (c.rest.ensures h))

pub rows-loop-row-preserved : goal.rows-loop-row-preserved
rows-loop-row-preserved t c =
    rows_step c.args.rows.now c.loop-row.row-index (seen c.args.tree) _ c.args.self.now _ c.loop-row.self c.row.new.self c.loop-row-test.true
    c.loop-row.invariant (c.if-not-row.ensures (search rules))

pub rows-returns : goal.rows-returns
rows-returns t c = λ _. rows_done c.args.rows.now c.loop-row.row-index (seen c.args.tree) _ c.args.self.now c.loop-row.self c.loop-row-test.false
    c.loop-row.invariant

pub part-returns : goal.part-returns
part-returns t c = λ h.
    let tree = seen c.args.tree in
    let at = λ (k : ℕ). ways (part_of k tree) in
    let some : kind_of tree ≡ kinds.Leaf → ⊥ = search rules in
    let no_list : (kind_of tree is kinds.List) ≡ false = search rules in
    let level : written tree c.args.slot ≡ rows_syntax (table (kind_of tree) c.args.slot) tree at =
    written_node tree c.args.slot some
    ∙ ap (λ b. if b then each (map (λ (w : Ways). w.way c.args.slot) (map ways (parts tree))) else rows_syntax (table (kind_of tree) c.args.slot) tree at) no_list in
    let rows : map row_of c.pieces.result.now ≡ table (kind_of tree) c.args.slot =
    c.pieces.ensures ∙ ap (λ k. table k c.args.slot) c.kind-kind.ensures in
    subst (λ (x : Syntax). Passes x c.args.self.now c.rows.new.self) (sym level)
    (subst (λ (rs : List Row). Passes (rows_syntax rs tree at) c.args.self.now c.rows.new.self) rows (c.rows.ensures h))

pub closed-returns-then-listed : goal.closed-returns-then-listed
closed-returns-then-listed t c = λ h.
    passes_then (listed (wholes c.args.items.now)) (token c.args.sign.now) c.args.self.now c.listed.new.self c.mark.new.self
    (c.if-listed.ensures (search rules)) (c.mark.ensures.found h)

pub braces-returns-then-mark : goal.braces-returns-then-mark
braces-returns-then-mark t c = λ h.
    passes_then (token (codes "{")) (Then (listed (wholes c.args.items.now)) (token (codes "}"))) c.args.self.now c.mark.new.self c.closed.new.self
    (c.if-mark.ensures.found (search rules)) (c.closed.ensures h)

pub parenthesized-returns-then-mark : goal.parenthesized-returns-then-mark
parenthesized-returns-then-mark t c = λ h.
    passes_then (token (codes "(")) (Then (listed (wholes c.args.items.now)) (token (codes ")"))) c.args.self.now c.mark.new.self c.closed.new.self
    (c.if-mark.ensures.found (search rules)) (c.closed.ensures h)

pub listed-returns : goal.listed-returns
listed-returns t c = λ _.
    let some : length c.args.items.now ≡ 0 → ⊥ = search rules in
    passes_same (Then (joined (codes ",") (wholes c.args.items.now)) (may (codes ","))) (listed (wholes c.args.items.now)) c.args.self.now c.may.new.self
    (sym (listed_some c.args.items.now some))
    (passes_then (joined (codes ",") (wholes c.args.items.now)) (may (codes ",")) c.args.self.now c.joined.new.self c.may.new.self
    (c.if-not-joined.ensures (search rules)) c.may.ensures)

pub after_default-returns-then-mark : goal.after_default-returns-then-mark
after_default-returns-then-mark t c = λ h.
    let none : length c.args.items.now ≡ 0 = search rules in
    passes_same (Either Nothing (Then (token (codes ",")) (braces (wholes c.args.items.now)))) (after_default c.args.items.now (wholes c.args.items.now))
    c.args.self.now c.braces.new.self (sym (after_default_none c.args.items.now none))
    (passes_other Nothing (Then (token (codes ",")) (braces (wholes c.args.items.now))) c.args.self.now c.braces.new.self
    (passes_then (token (codes ",")) (braces (wholes c.args.items.now)) c.args.self.now c.mark.new.self c.braces.new.self
    (c.if-mark.ensures.found (search rules)) (c.braces.ensures h)))

pub with_default-returns-then-part : goal.with_default-returns-then-part
with_default-returns-then-part t c = λ h.
    let first = subst (λ (u : Tree). Passes (written u slots.Whole) c.args.self.now c.part.new.self) (c.read.ensures ∙ c.first-item.is)
    (c.if-part.ensures (search rules)) in
    subst (λ (x : Syntax). Passes x c.args.self.now c.after_default.new.self)
    (sym (with_default_is c.args.items.now c.first-item.result c.in-len1-up.len_at_least))
    (passes_then _ _ c.args.self.now c.part.new.self c.after_default.new.self first (c.after_default.ensures h))

pub clause-returns-then-braces : goal.clause-returns-then-braces
clause-returns-then-braces t c = λ h.
    let none : length c.args.items.now ≡ 0 = search rules in
    passes_same (Either Nothing (Then (braces (wholes c.args.items.now)) (token (codes "from")))) (clause c.args.items.now (wholes c.args.items.now))
    c.args.self.now c.mark.new.self (sym (clause_none c.args.items.now none))
    (passes_other Nothing (Then (braces (wholes c.args.items.now)) (token (codes "from"))) c.args.self.now c.mark.new.self
    (passes_then (braces (wholes c.args.items.now)) (token (codes "from")) c.args.self.now c.braces.new.self c.mark.new.self
    (c.if-braces.ensures (search rules)) (c.mark.ensures.found h)))

pub clause-returns-then-bindings : goal.clause-returns-then-bindings
clause-returns-then-bindings t c = λ h.
    let some : length c.args.items.now ≡ 0 → ⊥ = search rules in
    passes_same (Then (bindings c.args.items.now (wholes c.args.items.now)) (token (codes "from"))) (clause c.args.items.now (wholes c.args.items.now))
    c.args.self.now c.mark-then-bindings.new.self (sym (clause_some c.args.items.now some))
    (passes_then (bindings c.args.items.now (wholes c.args.items.now)) (token (codes "from")) c.args.self.now c.bindings.new.self
    c.mark-then-bindings.new.self (c.if-bindings.ensures (search rules)) (c.mark-then-bindings.ensures.found h))

pub holes-loop-k-preserved : goal.holes-loop-k-preserved
holes-loop-k-preserved t c =
    let last = nat_eq (c.loop-k.k + 1) (length c.args.items.now) in
    let lt : c.loop-k.k < length c.args.items.now = omega (arith, c.loop-k-test.true) in
    let item = c.if-not-part.ensures (search rules) in
    let comma = c.if-not-comma_after.ensures (search rules) in
    holes_step c.args.items.now c.loop-k.k c.index-items-k.result _ c.args.self.now lt c.loop-k.self c.part.new.self c.comma_after.new.self last
    (last_item c.args.items.now c.loop-k.k c.index-items-k.result lt) c.loop-k.invariant
    (subst (λ (u : Tree). Passes (written u slots.Whole) c.loop-k.self c.part.new.self) (c.read.ensures ∙ c.index-items-k.is) item)
    (subst (λ (u : Tree). Passes (comma_after (is_absent u) last) c.part.new.self c.comma_after.new.self) c.index-items-k.is comma)

pub holes-returns : goal.holes-returns
holes-returns t c = λ _. holes_done c.args.items.now c.loop-k.k _ c.args.self.now c.loop-k.self (omega (arith, c.loop-k-test.false)) c.loop-k.invariant

pub opened-returns-then-part : goal.opened-returns-then-part
opened-returns-then-part t c = λ h.
    passes_then (written c.args.quasi.now slots.Whole) (Bytes (codes "${")) c.args.self.now c.part.new.self c.bytes.new.self
    (subst (λ (u : Tree). Passes (written u slots.Whole) c.args.self.now c.part.new.self) c.read.ensures (c.if-part.ensures (search rules)))
    (c.bytes.ensures h)

pub substituted-returns-then-part : goal.substituted-returns-then-part
substituted-returns-then-part t c = λ h.
    passes_then (written c.args.expr.now slots.Whole) (token (codes "}")) c.args.self.now c.part.new.self c.mark.new.self
    (subst (λ (u : Tree). Passes (written u slots.Whole) c.args.self.now c.part.new.self) c.read.ensures (c.if-part.ensures (search rules)))
    (c.mark.ensures.found h)

pub ending-returns-then-part : goal.ending-returns-then-part
ending-returns-then-part t c = λ h.
    passes_then (written c.args.quasi.now slots.Whole) (Bytes (codes "`")) c.args.self.now c.part.new.self c.bytes.new.self
    (subst (λ (u : Tree). Passes (written u slots.Whole) c.args.self.now c.part.new.self) c.read.ensures (c.if-part.ensures (search rules)))
    (c.bytes.ensures h)

pub texts-loop-k-preserved : goal.texts-loop-k-preserved
texts-loop-k-preserved t c =
    let lu : c.loop-k.k < length c.args.exprs.now = omega (arith, c.loop-k-test.true) in
    let lt : c.loop-k.k < length c.args.quasis.now = omega (arith, c.loop-k-test.true, c.requires) in
    texts_step c.args.quasis.now c.args.exprs.now c.loop-k.k c.index-quasis-k.result c.index-exprs-k.result _ c.args.self.now lt lu c.loop-k.self
    c.opened.new.self c.substituted.new.self c.loop-k.invariant
    (subst (λ (u : Tree). Passes (Then (written u slots.Whole) (Bytes (codes "${"))) c.loop-k.self c.opened.new.self) c.index-quasis-k.is
    (c.if-not-opened.ensures (search rules)))
    (subst (λ (u : Tree). Passes (Then (written u slots.Whole) (token (codes "}"))) c.opened.new.self c.substituted.new.self) c.index-exprs-k.is
    (c.if-not-substituted.ensures (search rules)))

pub texts-returns : goal.texts-returns
texts-returns t c = λ h.
    let le : length c.args.exprs.now ≤ c.loop-k.k = omega (arith, c.loop-k-test.false) in
    let ge : c.loop-k.k ≤ length c.args.exprs.now = search rules in
    texts_last c.args.quasis.now c.args.exprs.now c.loop-k.k c.index-quasis-end.result _ c.args.self.now c.loop-k.self c.ending.new.self c.requires le ge
    c.loop-k.invariant
    (subst (λ (u : Tree). Passes (Then (written u slots.Whole) (Bytes (codes "`"))) c.loop-k.self c.ending.new.self) c.index-quasis-end.is
    (c.ending.ensures h))
