use Rattle.std.proofs.Common.{◌∙◌}
use Rattle.fast_check_json_tables.proofs.graph.Given.{given_some, map_some}
use Rattle.fast_check_program_requests.proofs.build_requests.module_parts.JsonModulePartsFromJson.from_json.Goals as goal

pub returns : goal.returns
returns c = given_some _ c.in_ok-read_member.ensures ∙ map_some _ c.in_ok-read_module_tables.ensures
