use Rattle.std.proofs.Common.{◌≡◌, ◌++◌, not, take}
use Rattle.std.specs.List.{filter}
use Rattle.fast_check_finder_demands.specs.Yields.{decl_ranges, is_within}
use Rattle.fast_check_finder_demands.proofs.public.push_outside.Given as goal

abbrev pub invariant-loop-decl : goal.invariant-loop-decl
invariant-loop-decl l = l.out.items ≡ l.initial.out.items ++ decl_ranges
    (filter (λ x. not (is_within l.hidden x.range)) (take l.decl-index l.decls))
