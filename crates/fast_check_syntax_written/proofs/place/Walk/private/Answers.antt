use Rattle.std.proofs.Common.{rules, codes}
use Rattle.fast_check_syntax_table.specs.Spelled.{Syntax, Gap, Bytes, Apart, Escaped, Ended, Then, Either}
use Rattle.fast_check_syntax_written.proofs.Passing.{passes_then}
use Rattle.fast_check_syntax_written.proofs.place.Walk.private.Goals as goal

pub returns-then-bytes : goal.returns-then-bytes
returns-then-bytes c = λ h.
    let left : Syntax = Either (Then (Bytes c.args.s.now) (Apart c.args.s.now)) (Then Escaped Ended) in
    passes_then Gap (Then (Bytes (codes "#")) left) c.args.self.now c.gap.new.self c.rest_of_private.new.self c.gap.ensures
    (passes_then (Bytes (codes "#")) left c.gap.new.self c.bytes.new.self c.rest_of_private.new.self (c.if-bytes.ensures (search rules))
    (c.rest_of_private.ensures h))
