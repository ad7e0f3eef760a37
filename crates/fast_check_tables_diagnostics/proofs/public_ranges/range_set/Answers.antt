use Rattle.std.proofs.Common.{rules, ◌≡◌, ◌∙◌, sym, List}
use Rattle.std.proofs.lemmas.Result.{IfOk-weaker}
use Rattle.std.specs.List.{list_any}
use Rattle.std.specs.BTreeSet as sorted
use Rattle.std.specs.Ordering.{is_eq}
use Rattle.fast_check_tree_syntax.specs.declared.source.SourceRange.{SourceRange}
use Rattle.fast_check_tree_syntax.specs.contracts.source.SourceRangeOrd.TheImpl as order
use Rattle.fast_check_tables_diagnostics.specs.PublicRanges.{same_range}
use Rattle.fast_check_tables_diagnostics.proofs.public_ranges.range_set.Goals as goal

-- ranges that compare alike are the same
alike : (r : SourceRange) (xs : List SourceRange) → list_any (λ k. is_eq (order.cmp-value.it r k)) xs ≡ list_any (same_range r) xs
alike r xs = search rules

pub returns : goal.returns
returns c = IfOk-weaker c.collect.result (sorted.IsFromIterResult order.cmp-value.it c.args.ranges.items) _
    (λ set h r. sym (alike r set.keys) ∙ h.0 r ∙ alike r c.args.ranges.items) (search rules)
