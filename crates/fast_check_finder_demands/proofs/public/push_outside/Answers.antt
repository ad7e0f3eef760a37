use Rattle.std.proofs.Common.{◌∙◌, sym, ap, not, ◌++◌}
use Rattle.std.specs.List.{filter}
use Rattle.std.proofs.lemmas.List.{take_all}
use Rattle.fast_check_finder_demands.specs.Yields.{decl_ranges, is_within}
use Rattle.fast_check_finder_demands.proofs.Filters.{filter_of_map}
use Rattle.fast_check_finder_demands.proofs.public.push_outside.Goals as goal

pub returns : goal.returns
returns c = c.loop-decl.invariant ∙ ap (λ ys. c.args.out.now.items ++ ys)
    (ap (λ ds. decl_ranges (filter (λ x. not (is_within c.args.hidden x.range)) ds))
    (take_all c.loop-decl.decl-index c.args.decls.now c.loop-decl-test.false) ∙
    sym (filter_of_map (λ r. not (is_within c.args.hidden r)) (λ x. x.range) c.args.decls.now))
