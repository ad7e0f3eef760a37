-- The equation of `expandos`.
use Rattle.std.proofs.Common.{◌≡◌, ◌∙◌, sym, ap, refl, subst, arith, ℕ, ◌+◌, ◌*◌, ◌<◌, Bool, true, false, List, [], ◌∷◌, ◌++◌, map, length}
use Rattle.std.proofs.Common.{get_or}
use Rattle.std.specs.List.{flat_map}
use Rattle.fast_check_tree_syntax.specs.declared.kind.Kind.TheVariants.{Leaf}
use Rattle.fast_check_tree_syntax.specs.declared.tree.Tree.{Tree}
use Rattle.fast_check_tree_syntax.specs.Height.{height, height_read}
use Rattle.fast_check_tree_syntax.specs.Shape.{kind_of, parts, is_absent}
use Rattle.fast_check_tree_syntax.specs.Recursion.{by_form_is, by_form_is_absent}
use Rattle.fast_check_tree_syntax.proofs.Leaves.{leaf_of_absent, no_parts}
use Rattle.fast_check_tables_modules.specs.declared.expandos.Expando.{Expando}
use Rattle.fast_check_tables_modules.specs.Expandos.{expandos, expandos_form, own_expando}

each_found : (ts : List Tree) → flat_map (λ (found : List Expando). found) (map expandos ts) ≡ flat_map expandos ts
each_found [] = refl
each_found (t ∷ ts) = ap (λ rest. expandos t ++ rest) (each_found ts)

nothing : (t : Tree) → kind_of t ≡ Leaf → parts t ≡ [] → own_expando t ++ flat_map expandos (parts t) ≡ []
nothing t e f = rw (e, f) refl

pub expandos_out : (t : Tree) → expandos t ≡ own_expando t ++ flat_map expandos (parts t)
unfolding expandos
expandos_out t = go (is_absent t) refl
  where
    go : (b : Bool) → is_absent t ≡ b → expandos t ≡ own_expando t ++ flat_map expandos (parts t)
    go true e = by_form_is_absent [] expandos_form t e ∙ sym (nothing t (leaf_of_absent t e) (no_parts t e))
    go false e = by_form_is [] expandos_form t e ∙ ap (λ rest. own_expando t ++ rest) (each_found (parts t))

-- an item of a tree is lower, as the measures of the recursion count
pub item_lower : (t d : Tree) (i : ℕ) {u : Tree} {ts : List Tree} {n : ℕ} → 2 * height t ≡ n → i < length ts → ts ≡ parts t →
    d ≡ get_or ts i d →
    u ≡ d → 2 * height u + 1 < n
item_lower t d i m lt p is e =
    let same = ap height (e ∙ (is ∙ ap (λ (ts : List Tree). get_or ts i d) p)) in
    omega (arith, m, same, height_read t i d (subst (λ (ts : List Tree). i < length ts) p lt))
