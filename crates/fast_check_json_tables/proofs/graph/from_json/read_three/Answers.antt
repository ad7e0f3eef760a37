use Rattle.std.proofs.Common.{rules, ◌≡◌, ◌∙◌, ap, sym, None, length, ◌<◌, arith}
use Rattle.std.proofs.lemmas.Bool.{ltb-true, ltb-false}
use Rattle.serde_json.specs.Find.{as_array}
use Rattle.serde_json.specs.View.{view, items_view}
use Rattle.serde_json.proofs.Views.{view-Array}
use Rattle.fast_check_json_tables.specs.graph.Reads.{given, only_three}
use Rattle.fast_check_read.proofs.Each.{gives_none, bad_passed}
use Rattle.fast_check_json_tables.proofs.graph.Given.{few, many, three, given_none}
use Rattle.fast_check_json_tables.proofs.graph.from_json.read_three.Goals as goal
use Rattle.fast_check_json_tables.proofs.graph.from_json.read_three.Goals.{in_default-via-then-as_slice-lt3}
use Rattle.fast_check_json_tables.proofs.graph.from_json.read_three.Goals.{in_default-via-else-as_slice-lt3+else-this-lt4}

pub returns-in_default-clause-items : goal.returns-in_default-clause-items
returns-in_default-clause-items c =
    let items = c.in_ok-read_array.field-0.now in
    let none : only_three (items_view c.as_slice.result.now) ≡ None = elim c.in_default.branch [
      | in_default-via-then-as_slice-lt3 w ↦ few c.as_slice.result.now (ltb-true (length c.as_slice.result.now) 3 (search rules))
      | in_default-via-else-as_slice-lt3+else-this-lt4 w ↦ many c.as_slice.result.now
          (ltb-false (length c.as_slice.result.now) 4 (search rules))
    ] in
    sym (ap (λ v. given (as_array (view v)) only_three) c.in_ok-read_array.ensures.ok
    ∙ (ap (λ d. given (as_array d) only_three) (view-Array items)
    ∙ (ap (λ vs. only_three (items_view vs)) (sym c.as_slice.ensures.value) ∙ none)))

pub returns-in_err-read_array-clause-items : goal.returns-in_err-read_array-clause-items
returns-in_err-read_array-clause-items c = gives_none _ _ c.from_residual.result
    (given_none _ c.in_err-read_array.ensures.err.1) c.from_residual.ensures.0

pub returns-in_err-read_array-clause-err : goal.returns-in_err-read_array-clause-err
returns-in_err-read_array-clause-err c = bad_passed c.from_residual.result _ c.from_residual.ensures.1 c.in_err-read_array.ensures.err.0

pub bounds-first-0 : goal.bounds-first-0
bounds-first-0 c = let less : 0 < length c.as_slice.result.now = omega (arith, c.in-len3.len_at_least) in less

pub bounds-second-1 : goal.bounds-second-1
bounds-second-1 c = let less : 1 < length c.as_slice.result.now = omega (arith, c.in-len3.len_at_least) in less

pub bounds-third-2 : goal.bounds-third-2
bounds-third-2 c = c.in-len3.len_at_least

pub returns-in-len3-clause-items : goal.returns-in-len3-clause-items
returns-in-len3-clause-items c =
    let items = c.in_ok-read_array.field-0.now in
    three _ _ _ _ c.in-len3.len_at_least c.in-len3.len_below c.first-item.is c.second-item.is c.third-item.is
    ∙ sym (ap (λ v. given (as_array (view v)) only_three) c.in_ok-read_array.ensures.ok
    ∙ (ap (λ d. given (as_array d) only_three) (view-Array items) ∙ ap (λ vs. only_three (items_view vs)) (sym c.as_slice.ensures.value)))
