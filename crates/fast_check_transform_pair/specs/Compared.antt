-- How sources and diagnostics are compared under a renaming.
use Rattle.std.specs.Prelude.{◌≡◌, Some}
use Rattle.fast_check_tables_modules.specs.diagnostics.declared.diagnostics.range.FastCheckDiagnosticRange.{FastCheckDiagnosticRange}
use Rattle.fast_check_tables_modules.specs.diagnostics.declared.diagnostics.FastCheckDiagnostic.{FastCheckDiagnostic}
use Rattle.fast_check_tables_diagnostics.specs.declared.parsed_source.tables.fast_check_module.StaticSource.{StaticSource}
use Rattle.fast_check_meaning_signatures.specs.declared.fault.FaultKind.{FaultKind}
use Rattle.fast_check_tree_syntax.specs.Moves.{Renaming}
use Rattle.fast_check_tree_syntax.specs.Same.{SameRange}
use Rattle.fast_check_transform_module.specs.transform_faults.Diagnostics.{diagnosed_by}

-- one source of imports or exports, at a renamed range
pub record SameStaticSource (r : Renaming) (s t : StaticSource) : Type 0 where
  pub specifier : s.specifier ≡ t.specifier
  pub range : SameRange r s.range t.range
  pub is_export : s.is_export ≡ t.is_export
  pub type_only : s.type_only ≡ t.type_only

-- one place in modules of one name; the source texts may differ
pub record SamePlace (r : Renaming) (p q : FastCheckDiagnosticRange) : Type 0 where
  pub specifier : p.specifier ≡ q.specifier
  pub range : SameRange r p.range q.range

-- one diagnostic: the same kind, flags and names, by bytes, at places that are the same
pub record SameDiagnostic (r : Renaming) (d e : FastCheckDiagnostic) : Type 0 where
  pub kind : FaultKind
  pub first_place : FastCheckDiagnosticRange
  pub second_place : FastCheckDiagnosticRange
  pub first_diagnosed : diagnosed_by d ≡ Some (kind, first_place)
  pub second_diagnosed : diagnosed_by e ≡ Some (kind, second_place)
  pub places : SamePlace r first_place second_place
