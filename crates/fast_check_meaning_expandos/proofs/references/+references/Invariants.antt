use Rattle.std.proofs.Common.{◌≡◌, ◌++◌, take, ◌+◌, ◌*◌}
use Rattle.std.specs.List.{flat_map}
use Rattle.std.specs.Option.{option_copied}
use Rattle.fast_check_tree_syntax.specs.Part.{seen}
use Rattle.fast_check_tree_syntax.specs.Height.{height}
use Rattle.fast_check_meaning_expandos.specs.Objects.{exports_name}
use Rattle.fast_check_meaning_expandos.specs.References.{references}
use Rattle.fast_check_meaning_expandos.proofs.references.+references.Given as goal

abbrev pub decreases-push_references : goal.decreases-push_references
decreases-push_references l = 2 * height (seen l.part) + 1

abbrev pub decreases-push_each : goal.decreases-push_each
decreases-push_each l = 2 * height (seen l.part)

abbrev pub invariant-push_each-loop-inner : goal.invariant-push_each-loop-inner
invariant-push_each-loop-inner l =
    l.out.items ≡ l.initial.out.items ++ flat_map (references l.scope (exports_name (option_copied l.symbol)))
    (take l.inner-index l.inner-items)
