use Rattle.std.proofs.Common.{option_map}
use Rattle.std.proofs.lemmas.Result.{IfOk-weaker}
use Rattle.fast_check_finder_demands.specs.name_demands.Files.{names_of}
use Rattle.fast_check_finder_demands.specs.re_exports.Origins.{origin_of}
use Rattle.fast_check_finder_demands.proofs.re_exports.Named.{named_ranges, named_followers}
use Rattle.fast_check_finder_demands.proofs.re_exports.public.named_re_exports.Goals as goal

pub returns-in_ok-origin-in-None-clause-public : goal.returns-in_ok-origin-in-None-clause-public
returns-in_ok-origin-in-None-clause-public c =
    IfOk-weaker c.re_exports_at.result _ _
    (λ r e. named_ranges c.args.traced c.args.first.now c.own_tables-tables.result.now c.own_tables-tables.ensures c.in-None.ensures
    (option_map origin_of c.in_ok-origin-in-None.origin) c.in_ok-origin-in-None.ensures.origin r.public e)
    c.re_exports_at.ensures.public

pub returns-in_ok-origin-in-None-clause-demands : goal.returns-in_ok-origin-in-None-clause-demands
returns-in_ok-origin-in-None-clause-demands c =
    IfOk-weaker c.re_exports_at.result _ _
    (λ r e. named_followers c.args.traced c.args.first.now c.own_tables-tables.result.now c.own_tables-tables.ensures c.in-None.ensures
    (option_map origin_of c.in_ok-origin-in-None.origin) c.in_ok-origin-in-None.ensures.origin (names_of c.args.demand) r.demands e)
    c.re_exports_at.ensures.demands
