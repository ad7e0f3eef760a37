use Rattle.std.proofs.Common.{arith, ◌≡◌, ◌∷◌, ◌∙◌, ℕ, ◌+◌, ◌-◌, ◌<◌, ap, sym, drop, length, String, string_bytes}
use Rattle.std.proofs.lemmas.List.{drop_more}
use Rattle.std.specs.declared.alloc.Global.{Global}
use Rattle.fast_check_finder_lattice.specs.Names.{path_of, paths_below}
use Rattle.fast_check_finder_demands.proofs.asked.ExportsAsked.{below_first}
use Rattle.fast_check_finder_demands.proofs.asked.exports.exports_below.Goals as goal

pub loop-place-preserved : goal.loop-place-preserved
loop-place-preserved c =
    let parts = c.args.parts.now in
    let place = c.loop-place.place in
    let i = place - 1 in
    let part : String Global = c.index-parts-place.result in
    let within : i < length parts = omega (arith, c.loop-place-test.true, c.loop-place.auto.place) in
    let next : i + 1 ≡ place = omega (arith, c.loop-place-test.true) in
    let here : drop i parts ≡ part ∷ drop place parts = drop_more parts i part within ∙
    (ap (λ (x : String Global). x ∷ drop (i + 1) parts) (sym c.index-parts-place.is) ∙ ap (λ (k : ℕ). part ∷ drop k parts) next) in
    below_first (path_of (drop i parts)) (string_bytes part) (path_of (drop place parts)) (ap path_of here)
    c.in_ok-names.names (paths_below c.loop-place.below) c.loop-place.invariant
    (rw c.as_str.ensures.value at c.in_ok-names.ensures)
