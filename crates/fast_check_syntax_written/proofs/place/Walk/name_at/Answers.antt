use Rattle.std.proofs.Common.{List, ℕ, ap, ◌∙◌, subst}
use Rattle.fast_check_tree_syntax.specs.Shape.{text_of}
use Rattle.fast_check_syntax_table.specs.Spelled.{name}
use Rattle.fast_check_syntax_written.specs.Passes.{Passes}
use Rattle.fast_check_syntax_written.proofs.place.Walk.name_at.Goals as goal

pub returns : goal.returns
returns c = λ h. subst (λ (s : List ℕ). Passes (name s) c.args.self.now c.name.new.self) (c.text.ensures ∙ ap text_of c.part.ensures)
    (c.name.ensures h)
