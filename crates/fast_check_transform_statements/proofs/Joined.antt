-- What is added where two ways join: by the tree and the faults of one of them.
use Rattle.std.specs.Prelude.{◌≡◌, Option, Some, List}
use Rattle.std.proofs.Common.{subst, sym}
use Rattle.fast_check_tree_syntax.specs.declared.tree.Tree.{Tree}
use Rattle.fast_check_meaning_signatures.specs.declared.fault.Fault.{Fault}
use Rattle.fast_check_meaning_signatures.specs.Answers.{Answer, Adds}

pub adds_joined_way : {a : Answer (Option Tree)} {t u : Tree} {old new all : List Fault} → t ≡ u → all ≡ new → Adds a (Some u) old new →
    Adds a (Some t) old all
adds_joined_way {a} {t} {old = old} {new = new} p q h =
    subst (λ fs. Adds a (Some t) old fs) (sym q) (subst (λ x. Adds a (Some x) old new) (sym p) h)
