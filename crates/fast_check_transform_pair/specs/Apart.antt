-- What tells two answers apart, so that the law of two worlds does not pass over it.
use Rattle.std.specs.Prelude.{◌≡◌, Bool, List, [], ◌∷◌, Ok, Err, String, Vec, string_bytes}
use Rattle.std.specs.declared.alloc.Global.{Global}
use Rattle.fast_check_tables_modules.specs.diagnostics.declared.diagnostics.range.FastCheckDiagnosticRange.{
  FastCheckDiagnosticRange,
}
use Rattle.fast_check_tables_modules.specs.diagnostics.declared.diagnostics.FastCheckDiagnostic.{FastCheckDiagnostic}
use Rattle.fast_check_tables_modules.specs.diagnostics.declared.diagnostics.FastCheckDiagnostic.TheVariants.{
  MissingExplicitType,
  MissingExplicitReturnType,
  UnsupportedUsing,
  UnsupportedExpandoProperty,
}
use Rattle.fast_check_tables_diagnostics.specs.declared.parsed_source.tables.fast_check_module.FastCheckModule.{FastCheckModule}
use Rattle.fast_check_tables_diagnostics.specs.declared.parsed_source.tables.fast_check_module.StaticSource.{StaticSource}
use Rattle.fast_check_tree_syntax.specs.Moves.{Renaming}
use Rattle.fast_check_tree_syntax.specs.Same.{SameRange, Each}
use Rattle.fast_check_transform_pair.specs.Compared.{SameStaticSource, SameDiagnostic}
use Rattle.fast_check_transform_pair.specs.Worlds.{SameAnswer}

-- under a renaming
pub record DiagnosesApart (r : Renaming) : Type 0 where
  -- a skeleton is no diagnostics, and no diagnostics are one
  pub skeleton : (m : FastCheckModule) (ds : Vec FastCheckDiagnostic Global) → SameAnswer r (Ok m) (Err ds) → ⊥
  pub faulty : (ds : Vec FastCheckDiagnostic Global) (m : FastCheckModule) → SameAnswer r (Err ds) (Ok m) → ⊥
  -- one diagnostic more
  pub count : (d : FastCheckDiagnostic) (ds : List FastCheckDiagnostic) → Each (SameDiagnostic r) [] (d ∷ ds) → ⊥
  -- another kind, other names of an expando property, other flags of a return type, another module or range
  pub kind : (p q : FastCheckDiagnosticRange) → SameDiagnostic r (MissingExplicitType p) (UnsupportedUsing q) → ⊥
  pub names : (p q : FastCheckDiagnosticRange) (object reference other another : String Global) →
      SameDiagnostic r (UnsupportedExpandoProperty p object reference) (UnsupportedExpandoProperty q other another) →
      (string_bytes object ≡ string_bytes other) × (string_bytes reference ≡ string_bytes another)
  pub flags : (p q : FastCheckDiagnosticRange) (void async other another : Bool) →
      SameDiagnostic r (MissingExplicitReturnType p void async) (MissingExplicitReturnType q other another) →
      (void ≡ other) × (async ≡ another)
  pub place : (p q : FastCheckDiagnosticRange) → SameDiagnostic r (MissingExplicitType p) (MissingExplicitType q) →
      (p.specifier ≡ q.specifier) × SameRange r p.range q.range
  -- another text, range or flag of a source
  pub source : (s t : StaticSource) → SameStaticSource r s t →
      (s.specifier ≡ t.specifier) × SameRange r s.range t.range × (s.is_export ≡ t.is_export) ×
      (s.type_only ≡ t.type_only)

abbrev pub Compares : Type 0
Compares = (r : Renaming) → DiagnosesApart r
