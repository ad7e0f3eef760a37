use Rattle.std.proofs.Common.{◌∙◌, ap, subst, List}
use Rattle.fast_check_tree_syntax.specs.declared.source.SourceRange.{SourceRange}
use Rattle.fast_check_tables_graph.specs.declared.root_symbol.AnyModuleInfo.{AnyModuleInfo}
use Rattle.fast_check_finder_demands.specs.Yields.{Joins}
use Rattle.fast_check_finder_demands.specs.re_exports.Modules.{tables_in}
use Rattle.fast_check_finder_demands.specs.re_exports.ReExports.{shown_ranges}
use Rattle.fast_check_finder_loop.proofs.follow.follow_names_in.Goals as goal

pub returns-clause-shows : goal.returns-clause-shows
returns-clause-shows c was =
    let s = c.in_ok-show.ensures.shows was in
    let same = ap (λ (i : AnyModuleInfo). shown_ranges (tables_in i).re_exports c.in_ok-re_exports.re_exports.public) c.requires.info in
    record {
      info = s.info;
      ranges = subst (λ (rs : List SourceRange). Joins rs c.args.followed.now.found.ranges.items c.show.new.followed.found.ranges.items)
          (same ∙ c.in_ok-re_exports.ensures.public) s.ranges;
      implementations = s.implementations;
      faults = s.faults;
      shown = s.shown;
    }
