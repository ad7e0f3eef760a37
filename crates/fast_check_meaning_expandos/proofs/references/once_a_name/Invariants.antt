use Rattle.std.proofs.Common.{◌≡◌, ◌++◌, map}
use Rattle.fast_check_meaning_expandos.specs.References.{once_a_name}
use Rattle.fast_check_meaning_expandos.proofs.references.once_a_name.Given as goal

abbrev pub invariant-loop-name : goal.invariant-loop-name
invariant-loop-name l =
    l.once ++ map (λ e. record { name = e.0; range = e.1 }) l.name-iterator.rest.items ≡ once_a_name l.fn.references.items
