use Rattle.std.proofs.Common.{rules}
use Rattle.fast_check_transform_imports.proofs.module_facts.facts.ModuleFacts.inside.Goals as goal

pub returns : goal.returns
returns c = search rules
