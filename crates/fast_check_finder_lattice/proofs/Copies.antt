-- What is built from the nodes of sets.
use Rattle.std.proofs.Common.{◌≡◌, ◌∙◌, sym, ap, refl, subst, ℕ, ◌<◌, ◌≤◌, true, List, [], ◌∷◌, Option, Some, None}
use Rattle.std.proofs.Common.{arith, length, get_or, string_bytes}
use Rattle.std.proofs.lemmas.List.{get_or_past, length-map}
use Rattle.fast_check_finder_lattice.specs.declared.lattice.node.Node.{Node}
use Rattle.fast_check_finder_lattice.specs.declared.lattice.node.NodeNo.{NodeNo}
use Rattle.fast_check_finder_lattice.specs.declared.lattice.node.Below.{Below}
use Rattle.fast_check_finder_lattice.specs.declared.lattice.node.Below.TheVariants.{All, Subset}
use Rattle.fast_check_finder_lattice.specs.Order.{Name, Entry, found}
use Rattle.fast_check_finder_lattice.specs.Graph.{Touched, Graph, listings, entry, reach, below_node, subset_of, IsTree, IsAfter}
use Rattle.fast_check_finder_lattice.specs.Names.{nothing, IsSame}
use Rattle.fast_check_finder_lattice.proofs.Walks.{is_after}
use Rattle.fast_check_finder_lattice.proofs.Sorted.{node_once}
use Rattle.fast_check_finder_lattice.proofs.Lists.{items_at, found_read}
use Rattle.fast_check_finder_lattice.specs.EqualityProof.{none_is}

-- a node that is not there lists nothing
pub past_nothing : (nodes : List Node) (at : ℕ) → length nodes ≤ at → IsSame (below_node (entry nodes) at) nothing
past_nothing nodes at h part [] = refl
past_nothing nodes at h part (n ∷ q) =
    ap (λ es. reach (entry nodes) (found es n) part q)
    (get_or_past (listings nodes) at [] (omega (arith, h, length-map nodes (λ (x : Node). x.names.items)))) ∙
    none_is (entry nodes) part q

-- what a node lists at a place, is found under its name
pub listed_at : (nodes : List Node) (at : ℕ) (node : Node) (i : ℕ) (d : Entry) → at < length nodes → node ≡ get_or nodes at node →
    i < length node.names.items →
    d ≡ get_or node.names.items i d → entry nodes at (string_bytes d.0) ≡ Some d.1
listed_at nodes at node i d within is here this =
    ap (λ es. found es (string_bytes d.0)) (sym (items_at nodes at node within is)) ∙ found_read node.names.items (node_once node) i d here this

pub later_at : (nodes : List Node) (size : ℕ) → IsTree (entry nodes) size → (at : ℕ) (n : Name) (o : Option Below) → entry nodes at n ≡ o →
    IsAfter at size o
later_at nodes size tree at n o e = let P : Option Below → Type 0 =
    IsAfter at size in subst P e (is_after (entry nodes) size tree at at n (omega arith))

pub subset_reach : (g : Graph) (j : NodeNo) → IsSame (subset_of (below_node g j.0)) (reach g (Some (Subset j)))
subset_reach g j part [] = refl
subset_reach g j part (n ∷ q) = refl

pub root_empty : (nodes : List Node) (root : Node) → 0 < length nodes → root ≡ get_or nodes 0 root → root.names.items ≡ [] →
    IsSame (below_node (entry nodes) 0) nothing
root_empty nodes root within is none part [] = refl
root_empty nodes root within is none part (n ∷ q) =
    ap (λ es. reach (entry nodes) (found es n) part q) (sym (items_at nodes 0 root within is) ∙ none) ∙ none_is (entry nodes) part q

pub some_touched : (g : Graph) (b : Below) → reach g (Some b) Touched [] ≡ true
some_touched g All = refl
some_touched g (Subset j) = refl

pub first_of : (es : List Entry) → 0 < length es → (d : Entry) × (d ≡ get_or es 0 d)
first_of [] h = absurd (omega (arith, h))
first_of (e ∷ es) h = (e, refl)

pub root_some : (nodes : List Node) (root : Node) → 0 < length nodes → root ≡ get_or nodes 0 root → 0 < length root.names.items →
    (n : Name) × (below_node (entry nodes) 0 Touched (n ∷ []) ≡ true)
root_some nodes root within is some =
    let first = first_of root.names.items some in (
      string_bytes first.0.0,
      ap (λ o. reach (entry nodes) o Touched []) (listed_at nodes 0 root 0 first.0 within is some first.1) ∙
          some_touched (entry nodes) first.0.1,
    )

pub past_none : (nodes : List Node) (at : ℕ) → length nodes ≤ at → (n : Name) → entry nodes at n ≡ None
past_none nodes at h n =
    ap (λ es. found es n) (get_or_past (listings nodes) at [] (omega (arith, h, length-map nodes (λ (x : Node). x.names.items))))
