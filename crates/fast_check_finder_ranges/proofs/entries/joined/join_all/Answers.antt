use Rattle.std.proofs.Common.{◌∙◌, sym, ap, subst, List, [], ◌∷◌, ◌++◌, map, take, is_none, string_bytes, ℕ}
use Rattle.fast_check_tables_packages.specs.Package.{nv_of}
use Rattle.fast_check_finder_ranges.specs.entries.Entries.{joined, first_refused, Diagnoses}
use Rattle.fast_check_finder_ranges.specs.entries.Joined.{AreJoined}
use Rattle.fast_check_finder_ranges.proofs.entries.First.{first_at, one_after}
use Rattle.fast_check_finder_ranges.proofs.entries.Passed.{passed_on, diagnoses_of}
use Rattle.fast_check_finder_ranges.proofs.entries.joined.join_all.Goals as goal

pub returns-in_err-push_once-clause-refused : goal.returns-in_err-push_once-clause-refused
returns-in_err-push_once-clause-refused c =
    let base = c.args.base.now in
    let texts = map string_bytes c.args.exports.now in
    let f = c.in_err-push_once.field-0.0 in
    passed_on c.from_residual.result f (Diagnoses (nv_of c.args.nv.now) (first_refused base texts)) c.from_residual.ensures.1
    (diagnoses_of (nv_of c.args.nv.now) (first_refused base (c.as_str.result.now ∷ [])) (first_refused base texts)
    (λ y h. first_at (λ (t : List ℕ). is_none (joined base t)) string_bytes c.args.exports.now c.loop-text.text-index c.text-item.result
    c.loop-text-test.true c.text-item.is c.loop-text.invariant.all y
    (ap (λ (t : List ℕ). first_refused base (t ∷ [])) (sym c.as_str.ensures.value) ∙ h))
    f c.in_err-push_once.ensures.refused)

pub loop-text-preserved : goal.loop-text-preserved
loop-text-preserved c =
    let done = map string_bytes (take c.loop-text.text-index c.args.exports.now) in
    subst (λ (ts : List (List ℕ)). AreJoined c.args.base.now ts c.push_once.new.texts c.push_once.new.urls)
    (ap (λ (t : List ℕ). done ++ t ∷ []) c.as_str.ensures.value
    ∙ sym (one_after string_bytes c.args.exports.now c.loop-text.text-index c.text-item.result c.loop-text-test.true c.text-item.is))
    (c.in_ok-push_once.ensures.joined done c.loop-text.invariant)
