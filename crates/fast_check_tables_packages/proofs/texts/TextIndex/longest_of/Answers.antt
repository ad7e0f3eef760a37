use Rattle.std.proofs.Common.{◌≡◌, ◌∙◌, ◌<◌, ◌≤◌, sym, ap, subst, List, ℕ, Some, None, Option, arith, length, slice_get}
use Rattle.std.proofs.Common.{true≢false, is_some}
use Rattle.fast_check_tables_packages.specs.declared.texts.Entry.{Entry}
use Rattle.fast_check_tables_packages.specs.Texts.{IsLongestOf, common}
use Rattle.fast_check_tables_packages.proofs.Rows.{item_at}
use Rattle.fast_check_tables_packages.proofs.Longest.{IsOnWay, none_begins, way_begins, way_at, way_ends, way_fails, way_goes_on, note_before}
use Rattle.fast_check_tables_packages.proofs.texts.TextIndex.longest_of.Goals as goal

pub returns-in_err-place : goal.returns-in_err-place
returns-in_err-place c = λ s noted.
    let es = c.args.self.now.entries.items in
    let text = c.args.text.now in
    subst (λ (o : Option ℕ). IsLongestOf text es o) (sym c.from_residual.ensures) (none_begins text es (c.in_err-place.ensures s))

pub returns-in_err-get : goal.returns-in_err-get
returns-in_err-get c = λ s noted.
    let none = item_at c.deref.result.now c.in_ok-place.place None c.in_err-get.ensures.lookup
    ∙ ap (λ (xs : List Entry). slice_get xs c.in_ok-place.place) c.deref.ensures.value in
    absurd (true≢false (sym (ap is_some (none ∙ (c.in_ok-place.ensures s).1))))

pub loop-entry-init : goal.loop-entry-init
loop-entry-init c = λ s noted.
    let es = c.args.self.now.entries.items in
    let text = c.args.text.now in
    let place = c.in_ok-place.place in
    let key = c.in_ok-get.field-0.now in
    let found : slice_get es place ≡ Some key = sym (item_at c.deref.result.now place (Some c.in_ok-get.field-0) c.in_ok-get.ensures.lookup
    ∙ ap (λ (xs : List Entry). slice_get xs place) c.deref.ensures.value) in (
      key,
      subst (λ (n : ℕ). IsOnWay text es n place key)
          (sym (c.common_length-common.ensures ∙ ap (λ (k : List ℕ). common k text) c.as_slice.ensures.value))
          (way_begins text es place key (c.in_ok-place.ensures s) found),
    )

pub returns-then-as_slice-common : goal.returns-then-as_slice-common
returns-then-as_slice-common c = λ s noted.
    let es = c.args.self.now.entries.items in
    let text = c.args.text.now in
    let place = c.loop-entry.place in
    let n = c.common_length-common.result in
    let entry = c.in-Some.entry.now in
    let found : slice_get es place ≡ Some entry =
    sym (item_at c.deref-in-loop-entry.result.now place (Some c.in-Some.entry) c.in-Some.ensures.lookup
    ∙ ap (λ (xs : List Entry). slice_get xs place) c.deref-in-loop-entry.ensures.value) in
    let on = c.loop-entry.invariant s noted in
    way_ends text es n place entry (way_at text es n place on.0 entry on.1 found)
    (subst (λ (m : ℕ). m ≤ n) (ap length c.as_slice-in-Some.ensures.value) c.if-as_slice-common.true)

pub returns-in_err-before : goal.returns-in_err-before
returns-in_err-before c = λ s noted.
    let es = c.args.self.now.entries.items in
    let text = c.args.text.now in
    let place = c.loop-entry.place in
    let n = c.common_length-common.result in
    let entry = c.in-Some.entry.now in
    let found : slice_get es place ≡ Some entry =
    sym (item_at c.deref-in-loop-entry.result.now place (Some c.in-Some.entry) c.in-Some.ensures.lookup
    ∙ ap (λ (xs : List Entry). slice_get xs place) c.deref-in-loop-entry.ensures.value) in
    let on = c.loop-entry.invariant s noted in
    subst (λ (o : Option ℕ). IsLongestOf text es o) (sym c.from_residual-in_err-before.ensures)
    (way_fails text es n place entry s noted (way_at text es n place on.0 entry on.1 found)
    (subst (λ (m : ℕ). n < m) (ap length c.as_slice-in-Some.ensures.value) c.if-as_slice-common.false)
    c.in_err-before.was)

below_itself : (m n : ℕ) → m ≤ n → n < m → ⊥
below_itself m n h g = omega arith

pub returns-then-before-place : goal.returns-then-before-place
returns-then-before-place c = λ s noted.
    let es = c.args.self.now.entries.items in
    let text = c.args.text.now in
    let place = c.loop-entry.place in
    let n = c.common_length-common.result in
    let entry = c.in-Some.entry.now in
    let found : slice_get es place ≡ Some entry =
    sym (item_at c.deref-in-loop-entry.result.now place (Some c.in-Some.entry) c.in-Some.ensures.lookup
    ∙ ap (λ (xs : List Entry). slice_get xs place) c.deref-in-loop-entry.ensures.value) in
    let on = c.loop-entry.invariant s noted in
    absurd (below_itself place c.in_ok-before.before c.if-before-place.true
    (note_before text es n place c.in_ok-before.before entry noted (way_at text es n place on.0 entry on.1 found) c.in_ok-before.was))

pub loop-entry-preserved : goal.loop-entry-preserved
loop-entry-preserved c = λ s noted.
    let es = c.args.self.now.entries.items in
    let text = c.args.text.now in
    let place = c.loop-entry.place in
    let n = c.common_length-common.result in
    let entry = c.in-Some.entry.now in
    let found : slice_get es place ≡ Some entry =
    sym (item_at c.deref-in-loop-entry.result.now place (Some c.in-Some.entry) c.in-Some.ensures.lookup
    ∙ ap (λ (xs : List Entry). slice_get xs place) c.deref-in-loop-entry.ensures.value) in
    let on = c.loop-entry.invariant s noted in
    way_goes_on text es n place c.in_ok-before.before entry s noted (way_at text es n place on.0 entry on.1 found)
    (subst (λ (m : ℕ). n < m) (ap length c.as_slice-in-Some.ensures.value) c.if-as_slice-common.false)
    c.in_ok-before.was

pub returns : goal.returns
returns c = λ s noted.
    let es = c.args.self.now.entries.items in
    let place = c.loop-entry.place in
    let on = c.loop-entry.invariant s noted in
    let none = item_at c.deref-in-loop-entry.result.now place None c.in_default.ensures.lookup
    ∙ ap (λ (xs : List Entry). slice_get xs place) c.deref-in-loop-entry.ensures.value in
    absurd (true≢false (sym (ap is_some (none ∙ on.1.found))))
