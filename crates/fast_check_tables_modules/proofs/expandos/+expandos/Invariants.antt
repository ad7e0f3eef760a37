use Rattle.std.proofs.Common.{◌≡◌, ◌++◌, take, ◌+◌, ◌*◌}
use Rattle.std.specs.List.{flat_map}
use Rattle.fast_check_tree_syntax.specs.Part.{seen}
use Rattle.fast_check_tree_syntax.specs.Height.{height}
use Rattle.fast_check_tables_modules.specs.Expandos.{expandos}
use Rattle.fast_check_tables_modules.proofs.expandos.+expandos.Given as goal

abbrev pub decreases-push_expandos : goal.decreases-push_expandos
decreases-push_expandos l = 2 * height (seen l.part) + 1

abbrev pub decreases-push_each : goal.decreases-push_each
decreases-push_each l = 2 * height (seen l.part)

abbrev pub invariant-push_each-loop-inner : goal.invariant-push_each-loop-inner
invariant-push_each-loop-inner l = l.out.items ≡ l.initial.out.items ++ flat_map expandos (take l.inner-index l.inner-items)
