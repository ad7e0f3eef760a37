use Rattle.std.proofs.Common.{◌≡◌, ℕ, ◌+◌, ◌<◌, Some, List, [], drop, length, get_or, refl, ap, ◌∙◌, sym, add-one}
use Rattle.std.proofs.Math.Seq.{drop-cons}
use Rattle.fast_check_tree_syntax.specs.declared.kind.Kind.TheVariants.{RestPat}
use Rattle.fast_check_tree_syntax.specs.declared.tree.Tree.{Tree}
use Rattle.fast_check_tree_syntax.specs.Shape.{◌is◌, kind_of}
use Rattle.fast_check_tree_forms_classes.specs.Functions.{Param-pat}
use Rattle.fast_check_meaning_signatures.specs.Answers.{answer_of, answer_to, faultless, joined, with_tree}
use Rattle.fast_check_meaning_signatures.specs.Functions.{any_params_from}
use Rattle.fast_check_meaning_signatures.specs.NewNodes.{any_param}
use Rattle.fast_check_meaning_signatures.specs.Seen.{written}
use Rattle.fast_check_meaning_signatures.proofs.Adding.{adds_same, adds_nothing}
use Rattle.fast_check_transform_expressions.proofs.Behind.{behind_along, items_step, trees_are}
use Rattle.fast_check_transform_expressions.proofs.functions.any_params.Goals as goal

-- a parameter of any type, at its place
abbrev here : ℕ → Tree → Tree
here i p = any_param i (kind_of (Param-pat p) is RestPat)

next : (ts : List Tree) (i : ℕ) (d : Tree) → i < length ts →
    answer_of (any_params_from i (drop i ts)) ≡
    joined with_tree (answer_to (written (here i (get_or ts i d)))) (answer_of (any_params_from (i + 1) (drop (i + 1) ts)))
next ts i d h = rw (add-one, drop-cons ts i d) refl

pub loop-place-preserved : goal.loop-place-preserved
loop-place-preserved c =
    let i = c.loop-place.place in
    let is_rest = c.eq-is_rest.ensures ∙ ap (λ k. k is RestPat) (c.kind.ensures ∙ ap kind_of c.of.ensures.pat)
    ∙ ap (λ p. kind_of (Param-pat p) is RestPat) (c.read.ensures ∙ c.param-item.is) in
    let made = c.in_ok-any_param.ensures ∙ ap (λ b. any_param i b) is_rest in
    trees_are (sym c.in_ok-push.ensures.ok) (items_step c.loop-place.items c.in_ok-any_param.field-0 _ _
    (behind_along (next c.parts-param-items.result.now i c.param-item.result c.loop-place-test.true) c.loop-place.invariant)
    (adds_same (ap (λ (t : Tree). faultless (Some t)) (sym made)) (adds_nothing (Some c.in_ok-any_param.field-0) [])))
