use Rattle.std.proofs.Common.{rules, ◌≡◌, sym, codes, length}
use Rattle.fast_check_syntax_table.specs.Spelled.{token}
use Rattle.fast_check_syntax_written.proofs.Passing.{passes_same, passes_then, export_some}
use Rattle.fast_check_syntax_table.specs.Written.{export}
use Rattle.fast_check_syntax_table.specs.Spelled.{Then}
use Rattle.fast_check_syntax_written.proofs.place.Walk.export.Goals as goal

pub returns-then-mark : goal.returns-then-mark
returns-then-mark c = λ h.
    let some : length c.args.text.now ≡ 0 → ⊥ = search rules in
    passes_same (Then (token (codes "export")) (token c.args.text.now)) (export c.args.text.now) c.args.self.now c.mark-then-mark.new.self
    (sym (export_some c.args.text.now some))
    (passes_then (token (codes "export")) (token c.args.text.now) c.args.self.now c.mark-2.new.self c.mark-then-mark.new.self
    (c.if-mark.ensures.found (search rules)) (c.mark-then-mark.ensures.found h))
