use Rattle.std.proofs.Common.{◌+◌, ◌-◌, ◌*◌, None, drop, map, ◌++◌}
use Rattle.fast_check_tree_syntax.specs.Part.{seen}
use Rattle.fast_check_tree_syntax.specs.Height.{height}
use Rattle.fast_check_transform_nodes.specs.Bindings.{names_of}
use Rattle.fast_check_meaning_signatures.specs.Seen.{seens}
use Rattle.fast_check_meaning_signatures.specs.Answers.{answer_of, parts_answer}
use Rattle.fast_check_meaning_signatures.specs.Expressions.{expr_seen, slots_seen}
use Rattle.fast_check_meaning_signatures.specs.Parameters.{pats_seen}
use Rattle.fast_check_transform_expressions.specs.Looked.{params_looked}
use Rattle.fast_check_transform_expressions.proofs.Behind.{Behind, behind}
use Rattle.fast_check_transform_expressions.proofs.+transform.Given as goal

abbrev pub decreases-expressions::transform_expr : goal.decreases-expressions::transform_expr
decreases-expressions::transform_expr l = 16 * height (seen l.expr) + 15

abbrev pub decreases-expressions::transform_parts : goal.decreases-expressions::transform_parts
decreases-expressions::transform_parts l = 16 * height (seen l.expr)

abbrev pub decreases-expressions::transform_slots : goal.decreases-expressions::transform_slots
decreases-expressions::transform_slots l = 16 * (height (seen l.expr) - 1) + 17

abbrev pub decreases-expressions::transform_slot : goal.decreases-expressions::transform_slot
decreases-expressions::transform_slot l = 16 * height (seen l.part) + 16

abbrev pub decreases-expressions::transform_value : goal.decreases-expressions::transform_value
decreases-expressions::transform_value l = 16 * height (seen l.value) + 16

abbrev pub decreases-functions::transform_arrow : goal.decreases-functions::transform_arrow
decreases-functions::transform_arrow l = 16 * (height (seen l.arrow) - 1) + 17

abbrev pub decreases-functions::transform_fn : goal.decreases-functions::transform_fn
decreases-functions::transform_fn l = 16 * height (seen l.function) + 5

abbrev pub decreases-parameters::transform_assign_pat : goal.decreases-parameters::transform_assign_pat
decreases-parameters::transform_assign_pat l = 16 * height (seen l.pat) + 18

abbrev pub decreases-parameters::transform_param_pat : goal.decreases-parameters::transform_param_pat
decreases-parameters::transform_param_pat l = 16 * height (seen l.pat) + 19

abbrev pub decreases-parameters::transform_params : goal.decreases-parameters::transform_params
decreases-parameters::transform_params l = 16 * height (seen l.params) + 4

abbrev pub decreases-parameters::transform_pats : goal.decreases-parameters::transform_pats
decreases-parameters::transform_pats l = 16 * height (seen l.params) + 4

-- what all parts give is what those give that are left, behind what was given so far
abbrev pub invariant-expressions::transform_parts-loop-part : goal.invariant-expressions::transform_parts-loop-part
invariant-expressions::transform_parts-loop-part l =
    Behind (behind l.items) (parts_answer (seens (map (λ p. expr_seen (names_of l.bindings) p None) l.part-items)))
    (parts_answer
    (seens (map (λ p. expr_seen (names_of l.bindings) p None) (drop l.part-index l.part-items)))) l.initial.faults.items l.faults.items

abbrev pub invariant-expressions::transform_slots-loop-index : goal.invariant-expressions::transform_slots-loop-index
invariant-expressions::transform_slots-loop-index l =
    Behind (behind l.stay)
    (parts_answer (seens (slots_seen (names_of l.bindings) l.row 0 (seen l.expr) (expr_seen (names_of l.bindings)) l.place)))
    (parts_answer
    (seens (slots_seen (names_of l.bindings) (drop l.index l.row) l.index (seen l.expr) (expr_seen (names_of l.bindings)) l.place)))
    l.initial.faults.items
    l.faults.items

abbrev pub invariant-parameters::transform_pats-loop-index : goal.invariant-parameters::transform_pats-loop-index
invariant-parameters::transform_pats-loop-index l =
    Behind (λ ts. l.items ++ ts) (answer_of (pats_seen (names_of l.bindings) (expr_seen (names_of l.bindings)) l.pats))
    (answer_of
    (pats_seen (names_of l.bindings) (expr_seen (names_of l.bindings)) (drop l.index l.pats))) l.initial.faults.items l.faults.items

abbrev pub invariant-parameters::transform_params-loop-index : goal.invariant-parameters::transform_params-loop-index
invariant-parameters::transform_params-loop-index l =
    Behind (λ ts. l.items ++ ts) (answer_of (params_looked (names_of l.bindings) l.params))
    (answer_of (params_looked (names_of l.bindings) (drop l.index l.params))) l.initial.faults.items l.faults.items
