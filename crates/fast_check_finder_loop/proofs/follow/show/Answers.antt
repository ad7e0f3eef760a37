use Rattle.std.proofs.Common.{◌≡◌, ◌∙◌, sym, ap, refl, subst, List, [], ◌∷◌, ◌++◌}
use Rattle.std.specs.List.{Contains}
use Rattle.std.proofs.lemmas.List.Elements.{Contains-append_left, Contains-append_right}
use Rattle.fast_check_tree_syntax.specs.declared.source.SourceRange.{SourceRange}
use Rattle.fast_check_tables_modules.specs.symbols.Tables.{Tables}
use Rattle.fast_check_finder_demands.specs.Yields.{Joins}
use Rattle.fast_check_finder_demands.specs.declared.re_exports.public.PublicReExports.{PublicReExports}
use Rattle.fast_check_finder_demands.specs.re_exports.Modules.{tables_in}
use Rattle.fast_check_finder_demands.specs.re_exports.ReExports.{node_ranges, shown_ranges}
use Rattle.fast_check_finder_loop.proofs.Joins.{joins_last}
use Rattle.fast_check_finder_loop.proofs.follow.show.Goals as goal

pub returns-in_ok-push-in-First-clause-shows : goal.returns-in_ok-push-in-First-clause-shows
returns-in_ok-push-in-First-clause-shows c shown =
    let old = c.args.followed.now.found.ranges.items in
    let range = c.in-First.range in
    let items = c.in_ok-push-in-First.ensures.items in
    let nodes = (tables_in c.args.followed.now.found.info.now).re_exports in
    record {
      info = refl;
      ranges = subst (λ (p : PublicReExports). Joins (shown_ranges nodes p) old c.push.new.self.items) (sym c.in-First.is)
          (subst (λ (ys : List SourceRange). Joins (range ∷ []) old ys) (sym items) (joins_last (range ∷ []) old));
      implementations = refl;
      faults = refl;
      shown = λ t r h. subst (λ (ys : List SourceRange). Contains ys r) (sym items) (Contains-append_left old (range ∷ []) r (shown t r h));
    }

pub returns-in_ok-push_all_ranges-in-All-clause-shows : goal.returns-in_ok-push_all_ranges-in-All-clause-shows
returns-in_ok-push_all_ranges-in-All-clause-shows c shown =
    let old = c.args.followed.now.found.ranges.items in
    let nodes = (tables_in c.args.followed.now.found.info.now).re_exports in
    let items : c.push_all_ranges.new.out.items ≡ old ++ node_ranges nodes =
    c.in_ok-push_all_ranges-in-All.ensures ∙ ap (λ (t : Tables). old ++ node_ranges t.re_exports) c.tables_of.ensures in
    record {
      info = refl;
      ranges = subst (λ (p : PublicReExports). Joins (shown_ranges nodes p) old c.push_all_ranges.new.out.items) (sym c.in-All.is)
          (subst (λ (ys : List SourceRange). Joins (node_ranges nodes) old ys) (sym items) (joins_last (node_ranges nodes) old));
      implementations = refl;
      faults = refl;
      shown = λ t r h. subst (λ (ys : List SourceRange). Contains ys r) (sym items) (Contains-append_right old (node_ranges nodes) r h);
    }
