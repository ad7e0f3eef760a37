use Rattle.std.proofs.Common.{OnOk, subst}
use Rattle.fast_check_tables_diagnostics.specs.Diagnostic.{view_of}
use Rattle.fast_check_print.specs.Writing.{Adds}
use Rattle.fast_check_print.proofs.Adding.{adds-last, adds-token_ok}
use Rattle.fast_check_print.proofs.DiagnosticViews.{diagnosed_advice-is}
use Rattle.fast_check_print.proofs.diagnostic.print_advice.Goals as goal

pub returns : goal.returns
returns c =
    let info = adds-last _ _ _ _ _ _ (adds-token_ok _ _ _ _ _ c.in_ok-key-3.was c.key-3.ensures) c.print_lines.ensures in
    let hint = adds-last _ _ _ _ _ _ (adds-token_ok _ _ _ _ _ c.in_ok-key-2.was c.key-2.ensures)
    (adds-last _ _ _ _ _ _ c.in_ok-print_optional-2.ensures info) in
    let docs_url = adds-last _ _ _ _ _ _ (adds-token_ok _ _ _ _ _ c.in_ok-key.was c.key.ensures)
    (adds-last _ _ _ _ _ _ c.in_ok-print_optional.ensures hint) in
    let diagnosed = diagnosed_advice-is (view_of c.args.diagnostic.now) _ _ _ c.in_ok-docs_url.ensures c.in_ok-hint.ensures
    c.in_ok-info.ensures in
    subst (λ tokens. OnOk c.print_lines.result (Adds tokens c.args.out.now c.print_lines.new.out)) diagnosed docs_url
