-- Inner: no contract of a public call cites what stands here.
-- What a walk passes.
use Rattle.std.specs.Prelude.{◌≡◌, List, map}
use Rattle.fast_check_tree_syntax.specs.declared.tree.Tree.{Tree}
use Rattle.fast_check_syntax_table.specs.declared.piece.Slot.{Slot}
use Rattle.fast_check_syntax_table.specs.declared.piece.Slot.TheVariants as slots
use Rattle.fast_check_syntax_table.specs.Spelled.{Syntax, Spelled}
use Rattle.fast_check_syntax_table.specs.Written.{written}
use Rattle.fast_check_syntax_written.specs.declared.place.Walk.{Walk}

-- The walk goes on over this syntax.
abbrev pub Passes : Syntax → Walk → Walk → Type 0
Passes x old new = (new.source ≡ old.source) × Spelled old.source.text.now x old.end new.end

-- what trees write, in a way
abbrev pub in_way : Slot → List Tree → List Syntax
in_way slot ts = map (λ t. written t slot) ts

abbrev pub wholes : List Tree → List Syntax
wholes ts = in_way slots.Whole ts
