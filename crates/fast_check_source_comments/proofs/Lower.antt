-- An item of a tree is lower, as the measures of the recursion count.
use Rattle.std.proofs.Common.{◌≡◌, ◌<◌, ◌+◌, ◌*◌, ◌∙◌, ℕ, List, ap, subst, arith, length, get_or}
use Rattle.fast_check_tree_syntax.specs.declared.tree.Tree.{Tree}
use Rattle.fast_check_tree_syntax.specs.Height.{height, height_read}
use Rattle.fast_check_tree_syntax.specs.Shape.{parts}

pub item_lower : (t d : Tree) (i : ℕ) {u : Tree} {ts : List Tree} {n : ℕ} → 2 * height t ≡ n → i < length ts → ts ≡ parts t →
    d ≡ get_or ts i d → u ≡ d → 2 * height u + 1 < n
item_lower t d i m lt p is e =
    let same = ap height (e ∙ (is ∙ ap (λ (ts : List Tree). get_or ts i d) p)) in
    omega (arith, m, same, height_read t i d (subst (λ (ts : List Tree). i < length ts) p lt))
