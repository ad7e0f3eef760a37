-- Lists of which the first item, or whether there is one, says what is written.
use Rattle.std.proofs.Common.{◌≡◌, ◌≤◌, ◌-◌, List, [], ◌∷◌, length, get_or, drop, take, codes, refl, sym, ap, arith}
use Rattle.fast_check_tree_syntax.specs.declared.tree.Tree.{Tree}
use Rattle.fast_check_syntax_table.specs.declared.piece.Slot.TheVariants as slots
use Rattle.fast_check_syntax_table.specs.Spelled.{Nothing, Then, Either, token, may}
use Rattle.fast_check_syntax_table.specs.Lists.{joined, listed, braces, names, after_default, with_default, bindings, clause}
use Rattle.fast_check_syntax_table.specs.Written.{written}
use Rattle.fast_check_syntax_written.specs.Passes.{wholes}
use Rattle.fast_check_syntax_written.proofs.Sequences.{take_whole}

pub listed_some : (items : List Tree) → (length items ≡ 0 → ⊥) →
    listed (wholes items) ≡ Then (joined (codes ",") (wholes items)) (may (codes ","))
listed_some [] some = absurd (some refl)
listed_some (t ∷ ts) some = refl

pub after_default_none : (items : List Tree) → length items ≡ 0 →
    after_default items (wholes items) ≡ Either Nothing (Then (token (codes ",")) (braces (wholes items)))
after_default_none [] none = refl
after_default_none (t ∷ ts) none = absurd (omega (arith, none))

pub after_default_some : (items : List Tree) → (length items ≡ 0 → ⊥) →
    after_default items (wholes items) ≡ Then (token (codes ",")) (names items (wholes items))
after_default_some [] some = absurd (some refl)
after_default_some (t ∷ ts) some = refl

-- the items after the first, as a pattern has them
abbrev pub others_of : List Tree → List Tree
others_of items = take (length items - 1) (drop 1 items)

pub with_default_is : (items : List Tree) (d : Tree) → 1 ≤ length items →
    with_default items (wholes items) ≡ Then (written (get_or items 0 d) slots.Whole) (after_default (others_of items) (wholes (others_of items)))
with_default_is [] d some = absurd (omega arith)
with_default_is (t ∷ ts) d some =
    ap (λ (us : List Tree). Then (written t slots.Whole) (after_default us (wholes us))) (sym (take_whole ts (length (t ∷ ts) - 1) (omega arith)))

pub clause_none : (items : List Tree) → length items ≡ 0 →
    clause items (wholes items) ≡ Either Nothing (Then (braces (wholes items)) (token (codes "from")))
clause_none [] none = refl
clause_none (t ∷ ts) none = absurd (omega (arith, none))

pub clause_some : (items : List Tree) → (length items ≡ 0 → ⊥) →
    clause items (wholes items) ≡ Then (bindings items (wholes items)) (token (codes "from"))
clause_some [] some = absurd (some refl)
clause_some (t ∷ ts) some = refl
