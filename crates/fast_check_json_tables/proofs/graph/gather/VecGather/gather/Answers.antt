use Rattle.std.proofs.Common.{ap, option_map}
use Rattle.fast_check_json_tables.proofs.graph.Gathering.{reads_out, reads_passed}
use Rattle.fast_check_json_tables.proofs.graph.gather.VecGather.gather.Goals as goal

pub returns-in_err-from_json : goal.returns-in_err-from_json
returns-in_err-from_json g c =
    reads_passed _ _ _ c.in_err-from_json.field-0.0 c.from_residual.ensures.1 (λ bad. ap (option_map _) (c.in_err-from_json.ensures bad))

pub returns-in_err-push : goal.returns-in_err-push
returns-in_err-push g c = reads_out _ _ _ c.from_residual-in_err-push.ensures.1
