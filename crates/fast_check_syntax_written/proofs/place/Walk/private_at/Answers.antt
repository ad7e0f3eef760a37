use Rattle.std.proofs.Common.{List, ℕ, ap, ◌∙◌, subst}
use Rattle.fast_check_tree_syntax.specs.Shape.{text_of}
use Rattle.fast_check_syntax_table.specs.Spelled.{private_name}
use Rattle.fast_check_syntax_written.specs.Passes.{Passes}
use Rattle.fast_check_syntax_written.proofs.place.Walk.private_at.Goals as goal

pub returns : goal.returns
returns c = λ h. subst (λ (s : List ℕ). Passes (private_name s) c.args.self.now c.private.new.self) (c.text.ensures ∙ ap text_of c.part.ensures)
    (c.private.ensures h)
