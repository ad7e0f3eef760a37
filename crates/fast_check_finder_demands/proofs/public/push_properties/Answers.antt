use Rattle.std.proofs.Common.{◌∙◌, sym, ap, not, ◌++◌}
use Rattle.std.proofs.lemmas.List.Elements.{filter_agree}
use Rattle.std.proofs.lemmas.Result.{on_ok_weaker}
use Rattle.fast_check_finder_demands.specs.Yields.{stands_outside, export_ranges, is_within}
use Rattle.fast_check_finder_demands.proofs.Adds.{nothing_more}
use Rattle.fast_check_finder_demands.proofs.Filters.{filter_none}
use Rattle.fast_check_finder_demands.proofs.public.push_properties.Goals as goal

pub returns-in-None : goal.returns-in-None
returns-in-None c = nothing_more c.args.out.now.items _
    (sym (filter_none (stands_outside c.args.namespaces c.args.symbol.now.decls.items)
    (λ r. c.in-None.ensures r ∙ ap (λ ds. stands_outside c.args.namespaces ds r) c.as_slice.ensures)
    (export_ranges c.args.tables.now c.args.symbol.now.exports)))

pub returns-in-Some : goal.returns-in-Some
returns-in-Some c = on_ok_weaker c.push_exports.result
    (λ e. e ∙ ap (λ xs. c.args.out.now.items ++ xs)
    (filter_agree (λ r. not (is_within c.in-Some.hidden r)) (stands_outside c.args.namespaces c.args.symbol.now.decls.items)
    (λ r. c.in-Some.ensures r ∙ ap (λ ds. stands_outside c.args.namespaces ds r) c.as_slice.ensures)
    (export_ranges c.args.tables.now c.args.symbol.now.exports)))
    c.push_exports.ensures
