use Rattle.std.proofs.Common.{sym}
use Rattle.fast_check_json_tables.specs.graph.Modules.{media_types, named}
use Rattle.fast_check_json_tables.proofs.graph.Given.{given_none, reads_none, spelled}
use Rattle.fast_check_json_tables.proofs.graph.modules.MediaTypeFromJson.from_json.Goals as goal

pub returns-in_err-read_text : goal.returns-in_err-read_text
returns-in_err-read_text c = reads_none _ _ _ (given_none _ (sym c.in_err-read_text.ensures.text)) c.from_residual.ensures.0

pub returns-in-TypeScript : goal.returns-in-TypeScript
returns-in-TypeScript c = spelled (named media_types) _ _ _ c.in_ok-read_text.ensures.text c.in-TypeScript.is

pub returns-in-Mts : goal.returns-in-Mts
returns-in-Mts c = spelled (named media_types) _ _ _ c.in_ok-read_text.ensures.text c.in-Mts.is

pub returns-in-Cts : goal.returns-in-Cts
returns-in-Cts c = spelled (named media_types) _ _ _ c.in_ok-read_text.ensures.text c.in-Cts.is

pub returns-in-Tsx : goal.returns-in-Tsx
returns-in-Tsx c = spelled (named media_types) _ _ _ c.in_ok-read_text.ensures.text c.in-Tsx.is

pub returns-in-Dts : goal.returns-in-Dts
returns-in-Dts c = spelled (named media_types) _ _ _ c.in_ok-read_text.ensures.text c.in-Dts.is

pub returns-in-Dmts : goal.returns-in-Dmts
returns-in-Dmts c = spelled (named media_types) _ _ _ c.in_ok-read_text.ensures.text c.in-Dmts.is

pub returns-in-Dcts : goal.returns-in-Dcts
returns-in-Dcts c = spelled (named media_types) _ _ _ c.in_ok-read_text.ensures.text c.in-Dcts.is

pub returns-in-JavaScript : goal.returns-in-JavaScript
returns-in-JavaScript c = spelled (named media_types) _ _ _ c.in_ok-read_text.ensures.text c.in-JavaScript.is

pub returns-in-Mjs : goal.returns-in-Mjs
returns-in-Mjs c = spelled (named media_types) _ _ _ c.in_ok-read_text.ensures.text c.in-Mjs.is

pub returns-in-Cjs : goal.returns-in-Cjs
returns-in-Cjs c = spelled (named media_types) _ _ _ c.in_ok-read_text.ensures.text c.in-Cjs.is

pub returns-in-Jsx : goal.returns-in-Jsx
returns-in-Jsx c = spelled (named media_types) _ _ _ c.in_ok-read_text.ensures.text c.in-Jsx.is

pub returns-in-Unknown : goal.returns-in-Unknown
returns-in-Unknown c = spelled (named media_types) _ _ _ c.in_ok-read_text.ensures.text c.in-Unknown.is
