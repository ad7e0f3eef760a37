use Rattle.std.proofs.Common.{◌≡◌, ◌∙◌, sym, ap, refl, Bool, true, false, cond, List, []}
use Rattle.std.proofs.lemmas.Bool.{cond-true}
use Rattle.fast_check_tree_syntax.specs.declared.source.SourceRange.{SourceRange}
use Rattle.fast_check_finder_demands.specs.symbol_demands.Decls.{binds, is_implementation}
use Rattle.fast_check_finder_demands.specs.Yields.{decl_ranges}
use Rattle.fast_check_finder_demands.proofs.Adds.{nothing_more}
use Rattle.fast_check_finder_demands.proofs.Filters.{filter_beside}
use Rattle.fast_check_finder_demands.proofs.public.push_symbol_implementations.Goals as goal
use Rattle.fast_check_finder_demands.proofs.public.push_symbol_implementations.Goals.{then-symbol-via-then-symbol}
use Rattle.fast_check_finder_demands.proofs.public.push_symbol_implementations.Goals.{then-symbol-via-else-symbol+then-not-has_implementation}

if_none : (b : Bool) (xs : List SourceRange) → xs ≡ [] → cond b [] xs ≡ []
if_none true xs e = refl
if_none false xs e = e

pub returns-then-symbol : goal.returns-then-symbol
returns-then-symbol c =
    let n = c.args.namespaces in
    let s = c.args.symbol.now in
    elim c.then-symbol.branch [
      | then-symbol-via-then-symbol w ↦ nothing_more c.args.out.now.items _ (cond-true s.is_private_member [] _ w.if-symbol.true)
      | then-symbol-via-else-symbol+then-not-has_implementation w ↦
          nothing_more c.args.out.now.items _ (if_none s.is_private_member _
          (ap decl_ranges (filter_beside (λ x. binds x n) is_implementation s.decls.items
          (sym w.has_implementation.ensures ∙ w.if-not-has_implementation.true))))
    ]
