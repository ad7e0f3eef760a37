use Rattle.std.specs.Prelude.{string_bytes, option_map}
use Rattle.std.proofs.lemmas.Result.{IfOk-weaker}
use Rattle.fast_check_transform_imports.proofs.module_facts.Related.{relative_is}
use Rattle.fast_check_transform_imports.proofs.module_facts.sources.relative_url.Goals as goal

pub returns : goal.returns
returns c =
    IfOk-weaker c.make_relative.result _ _
    (λ text h. relative_is c.args.base.now c.args.url.now (option_map string_bytes text) h) c.make_relative.ensures
