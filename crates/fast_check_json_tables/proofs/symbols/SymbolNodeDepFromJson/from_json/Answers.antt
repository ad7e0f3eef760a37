use Rattle.std.proofs.Common.{◌∙◌, sym}
use Rattle.fast_check_json_tables.proofs.graph.Gathering.{both_reads, reads_passed}
use Rattle.fast_check_json_tables.proofs.graph.Given.{given_none, given_some, reads_none}
use Rattle.fast_check_json_tables.proofs.symbols.SymbolNodeDepFromJson.from_json.Goals as goal

pub returns-in_err-dep : goal.returns-in_err-dep
returns-in_err-dep c = reads_none _ _ _ (given_none _ (sym c.in_err-dep.ensures.pair)) c.from_residual.ensures.0

pub returns-in_err-dep-2 : goal.returns-in_err-dep-2
returns-in_err-dep-2 c =
    let none = both_reads _ _ _ _ _ _ _ c.in_err-dep-2.ensures c.read_dep.ensures c.read_namespace.ensures in
    reads_passed _ _ _ c.in_err-dep-2.field-0.0 c.from_residual-in_err-dep-2.ensures.1
    (λ bad. given_some _ (sym c.in_ok-dep.ensures.pair) ∙ none bad)

pub returns : goal.returns
returns c = given_some _ (sym c.in_ok-dep.ensures.pair) ∙
    both_reads _ _ _ _ _ _ _ c.in_ok-dep-2.ensures c.read_dep.ensures c.read_namespace.ensures
