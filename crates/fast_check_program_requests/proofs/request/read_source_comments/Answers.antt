use Rattle.std.proofs.Common.{rules}
use Rattle.fast_check_program_requests.proofs.request.read_source_comments.Goals as goal

pub returns-in_err-member : goal.returns-in_err-member
returns-in_err-member c = search rules

pub returns : goal.returns
returns c = search rules
