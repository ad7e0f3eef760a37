-- What is public in a module.
use Rattle.std.specs.Prelude.{Bool, List, ◌==◌, ◌&&◌}
use Rattle.std.specs.List.{list_any}
use Rattle.fast_check_tree_syntax.specs.declared.source.SourceRange.{SourceRange}
use Rattle.fast_check_tables_diagnostics.specs.declared.diagnostics.FastCheckDiagnostic.{FastCheckDiagnostic}

-- the ranges of the public declarations, those of the implementations that have overloads (each in order, each once),
-- and the diagnostics that were found with them
pub record PublicRanges : Type 0 where
  pub ranges : List SourceRange
  pub implementations : List SourceRange
  pub diagnostics : List FastCheckDiagnostic

-- two ranges start at one place and end at one place
abbrev pub same_range : SourceRange → SourceRange → Bool
same_range a b = (a.start.0 == b.start.0) && (a.end.0 == b.end.0)

-- a declaration is public, by its range
abbrev pub is_public : PublicRanges → SourceRange → Bool
is_public public r = list_any (same_range r) public.ranges

-- a declaration is an implementation that has overloads, by its range
abbrev pub is_implementation : PublicRanges → SourceRange → Bool
is_implementation public r = list_any (same_range r) public.implementations
