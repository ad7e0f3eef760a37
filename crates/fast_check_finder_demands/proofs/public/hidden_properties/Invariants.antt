use Rattle.std.proofs.Common.{◌≡◌, take}
use Rattle.fast_check_tree_syntax.specs.declared.source.SourceRange.{SourceRange}
use Rattle.fast_check_finder_demands.specs.Yields.{is_outside, stands_outside}
use Rattle.fast_check_finder_demands.proofs.public.hidden_properties.Given as goal

abbrev pub invariant-loop-decl : goal.invariant-loop-decl
invariant-loop-decl l = (r : SourceRange) → is_outside l.found r ≡ stands_outside l.namespaces (take l.decl-index l.decls) r
