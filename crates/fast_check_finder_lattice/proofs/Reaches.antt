-- What a path reaches, name by name.
use Rattle.std.proofs.Common.{◌≡◌, ◌∙◌, sym, ap, ◌∷◌, Option, Some, None}
use Rattle.fast_check_finder_lattice.specs.declared.lattice.node.NodeNo.{NodeNo}
use Rattle.fast_check_finder_lattice.specs.declared.lattice.node.Below.{Below}
use Rattle.fast_check_finder_lattice.specs.declared.lattice.node.Below.TheVariants.{All, Subset}
use Rattle.fast_check_finder_lattice.specs.Graph.{Path, Part, Graph, ends, reach}
use Rattle.fast_check_finder_lattice.specs.Order.{Name}
use Rattle.fast_check_finder_lattice.specs.EqualityProof.{none_is, all_is}

-- below a subset the path goes on at its node
pub past_name : (g : Graph) (o p : Option Below) (node : NodeNo) (n : Name) (r q : Path) → o ≡ Some (Subset node) → q ≡ n ∷ r → p ≡ g node.0 n →
    (part : Part) → reach g p part r ≡ reach g o part q
past_name g o p node n r q here path next part =
    ap (λ z. reach g z part r) next
    ∙ sym (ap (λ z. reach g z part q) here ∙ ap (λ w. reach g (Some (Subset node)) part w) path)

-- nothing and all settle it
pub at_nothing : (g : Graph) (o : Option Below) (q : Path) → o ≡ None → (part : Part) → reach g o part q ≡ ends o part
at_nothing g o q is part = ap (λ z. reach g z part q) is ∙ (none_is g part q ∙ sym (ap (λ z. ends z part) is))

pub at_all : (g : Graph) (o : Option Below) (q : Path) → o ≡ Some All → (part : Part) → reach g o part q ≡ ends o part
at_all g o q is part = ap (λ z. reach g z part q) is ∙ (all_is g part q ∙ sym (ap (λ z. ends z part) is))
