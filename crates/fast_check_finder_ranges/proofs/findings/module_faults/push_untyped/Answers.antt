use Rattle.std.proofs.Common.{◌≡◌, ◌==◌, length, vec_len, arith, ◌∙◌, sym, ap, map, cond, Some, None}
use Rattle.std.specs.Str.{bytes_eq}
use Rattle.url.specs.Parts.{Parts, serialize}
use Rattle.fast_check_tables_diagnostics.specs.declared.diagnostics.FastCheckDiagnostic.TheVariants.{UnsupportedNestedJavaScript}
use Rattle.fast_check_tables_symbols.proofs.Witness.{nil_of}
use Rattle.fast_check_finder_ranges.specs.findings.Yields.{untyped_module}
use Rattle.fast_check_finder_ranges.specs.findings.Diagnostics.{fault_reported}
use Rattle.fast_check_finder_ranges.proofs.findings.Diagnosed.{pushed, whole_reported}
use Rattle.fast_check_finder_ranges.proofs.findings.module_faults.push_untyped.Goals as goal

pub returns : goal.returns
returns c =
    let t = serialize c.args.specifier.now in
    let len : length c.args.out.now.items ≡ vec_len c.args.out.now = omega arith in
    ap (map (fault_reported t)) c.in_ok-push.ensures.items
    ∙ pushed c.args.is_untyped t c.args.out.now.items (UnsupportedNestedJavaScript c.in_ok-specifier.specifier)
    c.if-not-is_untyped.false
    (nil_of c.args.out.now.items (ap (λ n. n == 0) len ∙ (sym c.is_empty.ensures ∙ c.if-not-is_empty.false)))
    (ap (λ (p : Parts). cond (bytes_eq t (serialize p)) (Some untyped_module) None) c.in_ok-specifier.ensures.cases
    ∙ whole_reported c.args.specifier.now untyped_module)
