use Rattle.std.specs.Prelude.{refl}
use Rattle.fast_check_tables_diagnostics.specs.Diagnostic.{report_of}
use Rattle.fast_check_tables_diagnostics.proofs.law.pinned_texts.Goals as goal

pub returns : goal.returns
unfolding report_of
returns c = record {
  missing_type = λ range. refl;
  super_class = λ range. refl;
  destructuring = λ range. refl;
  not_found = λ range name referrer. refl;
  complex = λ range name referrer. refl;
  private_member = λ range name referrer. refl;
  javascript = λ specifier. refl;
  not_exported = λ specifier. refl;
  failed = λ specifier inner. refl;
}
