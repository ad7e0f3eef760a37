-- Inner: no contract of a public call cites what stands here.
-- What a call gives and adds where memory lasts: what it gives stays, and with the faults that it adds it is an answer.
use Rattle.std.specs.Prelude.{Option, Some, Result, IfOk}
use Rattle.std.specs.declared.alloc.AllocError.{AllocError}
use Rattle.std.specs.declared.alloc.Global.{Global}
use Rattle.std.specs.declared.vec.Vec.{Vec}
use Rattle.fast_check_tree_syntax.specs.declared.tree.Tree.{Tree}
use Rattle.fast_check_meaning_signatures.specs.declared.fault.Fault.{Fault}
use Rattle.fast_check_meaning_signatures.specs.Answers.{Answer, Adds}

abbrev pub Gives : {A : Type 0} → Result A AllocError → Answer A → Vec Fault Global → Vec Fault Global → Type 0
Gives result answer old new = IfOk result (λ given. Adds answer given old.items new.items)

-- a tree, which stays whatever is wrong
abbrev pub GivesTree : Result Tree AllocError → Answer (Option Tree) → Vec Fault Global → Vec Fault Global → Type 0
GivesTree result answer old new = IfOk result (λ tree. Adds answer (Some tree) old.items new.items)
