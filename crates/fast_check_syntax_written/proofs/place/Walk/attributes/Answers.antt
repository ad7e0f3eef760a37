use Rattle.std.proofs.Common.{rules, subst, codes}
use Rattle.fast_check_syntax_table.specs.Spelled.{token}
use Rattle.fast_check_syntax_written.specs.declared.place.Walk.{Walk}
use Rattle.fast_check_syntax_written.specs.Passes.{Passes}
use Rattle.fast_check_syntax_written.proofs.Passing.{passes_other}
use Rattle.fast_check_syntax_written.proofs.place.Walk.attributes.Goals as goal

pub returns-else-mark : goal.returns-else-mark
returns-else-mark c = λ h. passes_other (token (codes "with")) (token (codes "assert")) c.args.self.now c.mark-else-mark.new.self
    (subst (λ (a : Walk). Passes (token (codes "assert")) a c.mark-else-mark.new.self) (c.if-mark.ensures.kept (search rules))
    (c.mark-else-mark.ensures.found h))
