-- Inner: no contract of a public call cites what stands here.
-- What stays of an item: one at most.
use Rattle.std.specs.Prelude.{Option, Some, None, List, [], ◌∷◌, Result, IfOk}
use Rattle.std.specs.declared.alloc.AllocError.{AllocError}
use Rattle.std.specs.declared.alloc.Global.{Global}
use Rattle.std.specs.declared.vec.Vec.{Vec}
use Rattle.fast_check_tree_syntax.specs.declared.tree.Tree.{Tree}
use Rattle.fast_check_meaning_signatures.specs.declared.fault.Fault.{Fault}
use Rattle.fast_check_meaning_signatures.specs.Answers.{Answer, Adds}

abbrev pub as_list : Option Tree → List Tree
as_list (Some t) = t ∷ []
as_list None = []

-- what a call gives of an item stays, and with the faults that it adds it is this answer
abbrev pub GivesItem : Result (Option Tree) AllocError → Answer (List Tree) → Vec Fault Global → Vec Fault Global → Type 0
GivesItem result answer old new = IfOk result (λ tree. Adds answer (as_list tree) old.items new.items)
