use Rattle.std.proofs.Common.{◌≡◌, take, ◌+◌, ◌*◌}
use Rattle.std.specs.List.{fold, flat_map}
use Rattle.fast_check_tree_syntax.specs.Part.{seen}
use Rattle.fast_check_tree_syntax.specs.Shape.{part}
use Rattle.fast_check_tree_syntax.specs.Height.{height}
use Rattle.fast_check_tree_helpers.specs.ReturnClass.{returns}
use Rattle.fast_check_tree_helpers.specs.ReturnStep.{after_return}
use Rattle.fast_check_tree_helpers.proofs.return_class.+returns.Given as goal

abbrev pub decreases-analyze_return_stmts : goal.decreases-analyze_return_stmts
decreases-analyze_return_stmts l = 2 * height (seen l.stmt) + 1

abbrev pub decreases-analyze_fields : goal.decreases-analyze_fields
decreases-analyze_fields l = 2 * height (seen l.stmt)

abbrev pub decreases-analyze_each : goal.decreases-analyze_each
decreases-analyze_each l = 2 * height (seen l.stmts)

abbrev pub invariant-analyze_fields-loop-place : goal.invariant-analyze_fields-loop-place
invariant-analyze_fields-loop-place l =
    l.analysis ≡ fold after_return l.initial.analysis (flat_map (λ i. returns (part i (seen l.stmt))) (take l.place-index l.place-items))

abbrev pub invariant-analyze_each-loop-stmt : goal.invariant-analyze_each-loop-stmt
invariant-analyze_each-loop-stmt l = l.analysis ≡ fold after_return l.initial.analysis (flat_map returns (take l.stmt-index l.stmt-items))
