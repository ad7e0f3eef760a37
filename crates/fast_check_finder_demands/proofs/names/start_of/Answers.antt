use Rattle.std.proofs.Common.{sym, string_bytes}
use Rattle.std.proofs.lemmas.List.{take-map}
use Rattle.fast_check_finder_demands.proofs.names.start_of.Goals as goal

pub returns-then-count-names : goal.returns-then-count-names
returns-then-count-names c = sym (take-map string_bytes c.args.count c.args.names.now)
