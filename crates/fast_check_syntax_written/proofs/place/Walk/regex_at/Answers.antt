use Rattle.std.proofs.Common.{List, ℕ, ap, ◌∙◌, subst}
use Rattle.fast_check_tree_syntax.specs.Part.{seen}
use Rattle.fast_check_tree_syntax.specs.Shape.{text_of, part as part_of}
use Rattle.fast_check_syntax_table.specs.Spelled.{regex}
use Rattle.fast_check_syntax_written.specs.Passes.{Passes}
use Rattle.fast_check_syntax_written.proofs.place.Walk.regex_at.Goals as goal

pub returns : goal.returns
returns c = λ h.
    subst (λ (s : List ℕ). Passes (regex s (text_of (part_of c.args.flags (seen c.args.tree)))) c.args.self.now c.regex.new.self)
    (c.text.ensures ∙ ap text_of c.part.ensures)
    (subst (λ (s : List ℕ). Passes (regex c.text.result.now s) c.args.self.now c.regex.new.self) (c.text-2.ensures ∙ ap text_of c.part-2.ensures)
    (c.regex.ensures h))
