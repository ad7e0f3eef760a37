use Rattle.std.proofs.Common.{rules}
use Rattle.fast_check_program_requests.proofs.request.read_transform_request.Goals as goal

pub returns-then-has_float : goal.returns-then-has_float
returns-then-has_float c = search rules

pub returns : goal.returns
returns c = search rules
