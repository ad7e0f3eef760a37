use Rattle.std.proofs.Common.{◌≡◌, ◌∙◌, ◌<◌, sym, None, length, arith, rules}
use Rattle.std.proofs.lemmas.Bool.{ltb-true, ltb-false}
use Rattle.serde_json.specs.View.{items_view}
use Rattle.fast_check_read.specs.Pieces.{pair_of_items}
use Rattle.fast_check_read.proofs.Each.{then_none, then_some, items_there}
use Rattle.fast_check_read.proofs.Each.{gives_none, bad_passed}
use Rattle.fast_check_read.proofs.Pairs.{two, too_few, too_many}
use Rattle.fast_check_read.proofs.pieces.read_pair.Goals as goal
use Rattle.fast_check_read.proofs.pieces.read_pair.Goals.{in_default-via-then-as_slice-lt2, in_default-via-else-as_slice-lt2+else-this-lt3}

pub returns-in_err-read_array-clause-pair : goal.returns-in_err-read_array-clause-pair
returns-in_err-read_array-clause-pair c = gives_none _ _ c.from_residual.result
    (then_none _ c.in_err-read_array.ensures.err.1) c.from_residual.ensures.0

pub returns-in_err-read_array-clause-err : goal.returns-in_err-read_array-clause-err
returns-in_err-read_array-clause-err c = bad_passed c.from_residual.result _ c.from_residual.ensures.1 c.in_err-read_array.ensures.err.0

pub bounds-first-0 : goal.bounds-first-0
bounds-first-0 c = let less : 0 < length c.as_slice.result.now = omega (arith, c.in-len2.len_at_least) in less

pub bounds-second-1 : goal.bounds-second-1
bounds-second-1 c = c.in-len2.len_at_least

pub returns-in-len2-clause-pair : goal.returns-in-len2-clause-pair
returns-in-len2-clause-pair c =
    two _ _ _ c.in-len2.len_at_least c.in-len2.len_below c.first-item.is c.second-item.is
    ∙ sym (then_some _ (items_there _ _ _ c.in_ok-read_array.ensures.ok c.as_slice.ensures.value))

pub returns-in_default-clause-pair : goal.returns-in_default-clause-pair
returns-in_default-clause-pair c =
    let items = c.as_slice.result.now in
    let none : pair_of_items (items_view items) ≡ None = elim c.in_default.branch [
      | in_default-via-then-as_slice-lt2 w ↦ too_few items (ltb-true (length items) 2 (search rules))
      | in_default-via-else-as_slice-lt2+else-this-lt3 w ↦ too_many items (ltb-false (length items) 3 (search rules))
    ] in
    sym (then_some _ (items_there _ _ _ c.in_ok-read_array.ensures.ok c.as_slice.ensures.value) ∙ none)
