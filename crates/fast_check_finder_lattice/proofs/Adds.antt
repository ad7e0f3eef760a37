-- What the calls add, as joins.
use Rattle.std.proofs.Common.{◌∙◌, sym, ap, ◌||◌, [], ◌∷◌}
use Rattle.fast_check_finder_lattice.specs.Graph.{Path, NameSet, is_touched, subset_of}
use Rattle.fast_check_finder_lattice.specs.Names.{Name, whole, whole_below, nothing, IsSame, IsJoin, IsJoined}
use Rattle.fast_check_finder_lattice.proofs.Walks.{or_itself, or_false}
use Rattle.fast_check_finder_lattice.proofs.Sets.{of_join}

pub joined : (a b c : NameSet) → IsJoin a b c → IsJoined a b c
joined a b c j = record { join = j; of_either = of_join a b c j }

pub join_nothing : (f h s : NameSet) → IsSame f nothing → IsJoin f s h → IsSame h s
join_nothing f h s e j part p = j part p ∙ ap (λ b. b || s part p) (e part p)

pub join_with_nothing : (f s h : NameSet) → IsSame s nothing → IsJoin f s h → IsSame h f
join_with_nothing f s h e j part p = j part p ∙ (ap (λ b. f part p || b) (e part p) ∙ sym (or_false (f part p)))

pub path_joined : (o j : NameSet) (n : Name) (p : Path) → IsJoin o (whole n p) j → IsJoin (subset_of o) (whole_below (n ∷ p)) (subset_of j)
path_joined o j n p h part [] = or_itself (is_touched part)
path_joined o j n p h part (m ∷ q) = h part (m ∷ q)

pub join_both : (a b c d f h : NameSet) → IsSame a c → IsSame b d → IsSame f h → IsJoin a b f → IsJoin c d h
join_both a b c d f h ea eb ef j part q = sym (ef part q) ∙
    (j part q ∙ (ap (λ x. x || b part q) (ea part q) ∙ ap (λ x. c part q || x) (eb part q)))

pub join_below_subsets : (a b f : NameSet) → IsJoin a b f → IsJoin (subset_of a) (subset_of b) (subset_of f)
join_below_subsets a b f j part [] = or_itself (is_touched part)
join_below_subsets a b f j part (n ∷ q) = j part (n ∷ q)
