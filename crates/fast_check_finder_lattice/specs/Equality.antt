-- When two sets of names are the same, as a test: each has all that the other has.
use Rattle.std.specs.Prelude.{ℕ, zero, suc, Bool, true, false, ◌&&◌, Option, Some, None, string_bytes, List, [], length, get_or}
use Rattle.std.specs.List.{list_all}
use Rattle.fast_check_finder_lattice.specs.declared.lattice.named_subset.Exports.{Exports}
use Rattle.fast_check_finder_lattice.specs.declared.lattice.named_subset.Exports.TheVariants.{All, Subset}
use Rattle.fast_check_finder_lattice.specs.declared.lattice.named_subset.NamedSubset.{NamedSubset}
use Rattle.fast_check_finder_lattice.specs.declared.lattice.node.Below.{Below}
use Rattle.fast_check_finder_lattice.specs.declared.lattice.node.Below.TheVariants as below
use Rattle.fast_check_finder_lattice.specs.Order.{Entry}
use Rattle.fast_check_finder_lattice.specs.Graph.{listings, listed}

-- what stands under a name in one set, the other has
abbrev pub has_below : (ℕ → ℕ → Bool) → Option Below → Option Below → Bool
has_below test None p = true
has_below test (Some below.All) (Some below.All) = true
has_below test (Some (below.Subset i)) (Some below.All) = true
has_below test (Some (below.Subset i)) (Some (below.Subset j)) = test i.0 j.0
has_below test _ _ = false

-- what a node lists, another has, as deep as the fuel goes
abbrev pub has_node : List (List Entry) → List (List Entry) → ℕ → ℕ → ℕ → Bool
has_node ls ms zero i j = false
has_node ls ms (suc fuel) i j =
    list_all (λ e. has_below (has_node ls ms fuel) (listed ls i (string_bytes e.0)) (listed ms j (string_bytes e.0)))
    (get_or ls i [])

-- all of the first set is in the second
abbrev pub is_within : NamedSubset → NamedSubset → Bool
is_within s t = has_node (listings s.nodes.items) (listings t.nodes.items) (suc (length s.nodes.items)) 0 0

abbrev pub same_names : NamedSubset → NamedSubset → Bool
same_names s t = is_within s t && is_within t s

abbrev pub same_exports : Exports → Exports → Bool
same_exports All All = true
same_exports (Subset s) (Subset t) = same_names s t
same_exports _ _ = false
