use Rattle.std.proofs.Common.{sym}
use Rattle.fast_check_json_tables.specs.Symbols.{namespace_named}
use Rattle.fast_check_json_tables.proofs.graph.Given.{given_none, reads_none, spelled}
use Rattle.fast_check_json_tables.proofs.symbols.read_namespace.Goals as goal

pub returns-in_err-read_text : goal.returns-in_err-read_text
returns-in_err-read_text c = reads_none _ _ _ (given_none _ (sym c.in_err-read_text.ensures.text)) c.from_residual.ensures.0

pub returns-in-Value : goal.returns-in-Value
returns-in-Value c = spelled namespace_named _ _ _ c.in_ok-read_text.ensures.text c.in-Value.is

pub returns-in-Type_ : goal.returns-in-Type_
returns-in-Type_ c = spelled namespace_named _ _ _ c.in_ok-read_text.ensures.text c.in-Type_.is

pub returns-in-Both : goal.returns-in-Both
returns-in-Both c = spelled namespace_named _ _ _ c.in_ok-read_text.ensures.text c.in-Both.is
