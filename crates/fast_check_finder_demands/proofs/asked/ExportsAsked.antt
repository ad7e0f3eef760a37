-- What is asked of a module by a path that is touched.
use Rattle.std.proofs.Common.{◌≡◌, ◌∙◌, sym, ap, refl, Bool, ◌&&◌, ◌||◌, [], ◌∷◌}
use Rattle.std.proofs.Math.Path.{fun_ext}
use Rattle.std.proofs.lemmas.Bool.{and_right}
use Rattle.std.specs.Str.{bytes_eq}
use Rattle.fast_check_finder_lattice.specs.declared.lattice.named_subset.NamedSubset.{NamedSubset}
use Rattle.fast_check_finder_lattice.specs.declared.lattice.named_subset.Exports.TheVariants.{Subset as SubsetBelow}
use Rattle.fast_check_finder_lattice.specs.declared.lattice.imported_exports.ImportedExports.TheVariants.{Subset}
use Rattle.fast_check_finder_lattice.specs.Names.{Name, Path, Part, Touched, Covered, NameSet, nothing, named, whole, subset_of, paths, paths_below}
use Rattle.fast_check_finder_lattice.specs.Names.{IsSame, IsJoin}
use Rattle.fast_check_finder_lattice.proofs.Paths.{below_subset_is}
use Rattle.fast_check_finder_lattice.specs.Imports.{NameDemand, names_but_default, each_name, subset_at, whole_at}
use Rattle.fast_check_finder_lattice.proofs.Sets.{same_subset, same_whole}
use Rattle.fast_check_finder_demands.specs.asked.Demands.{touched_path, set_demands, asked, asked_by}
use Rattle.fast_check_finder_demands.specs.asked.Exports.{touched_below}

-- a name before what is below it
below_named : (n : Name) (p : Path) (s : NamedSubset) (f : NameSet) → IsSame f (touched_below p) → IsSame (paths s) (named n f) →
    IsSame (paths_below (SubsetBelow s)) (touched_below (n ∷ p))
below_named n p s f same is part q = below_subset_is s part q ∙ go part q
  where
    go : (part : Part) (q : Path) → subset_of (paths s) part q ≡ touched_below (n ∷ p) part q
    go Touched [] = refl
    go Covered [] = refl
    go Touched (m ∷ q) = is Touched (m ∷ q) ∙ ap (λ (b : Bool). bytes_eq n m && b) (same Touched q)
    go Covered (m ∷ q) = is Covered (m ∷ q) ∙ and_right (bytes_eq n m) (f Covered q) (same Covered q)

-- the same of a path that has such a name first
pub below_first : (p : Path) (n : Name) (r : Path) → p ≡ n ∷ r → (s : NamedSubset) (f : NameSet) → IsSame f (touched_below r) →
    IsSame (paths s) (named n f) → IsSame (paths_below (SubsetBelow s)) (touched_below p)
below_first p n r is s f same names part q = below_named n r s f same names part q ∙ ap (λ w. touched_below w part q) (sym is)

asked_same : (s : NamedSubset) (f : NameSet) → IsSame (paths s) f → (d : NameDemand) → asked (Subset s) d ≡ set_demands f d
asked_same s f same names_but_default = refl
asked_same s f same each_name = refl
asked_same s f same (subset_at []) = refl
asked_same s f same (subset_at (n ∷ p)) = same_subset (paths s) f same (n ∷ p)
asked_same s f same (whole_at p) = same_whole (paths s) f same p

pub touched_asked : (n : Name) (p : Path) (s : NamedSubset) (f : NameSet) → IsSame f (touched_below p) → IsSame (paths s) (named n f) →
    asked (Subset s) ≡ asked_by (subset_at (n ∷ p))
touched_asked n p s f same is = fun_ext (asked_same s (touched_path (n ∷ p)) go)
  where
    go : IsSame (paths s) (touched_path (n ∷ p))
    go part [] = is part []
    go Touched (m ∷ q) = is Touched (m ∷ q) ∙ ap (λ (b : Bool). bytes_eq n m && b) (same Touched q)
    go Covered (m ∷ q) = is Covered (m ∷ q) ∙ and_right (bytes_eq n m) (f Covered q) (same Covered q)

-- a set to which one whole path was brought, where nothing was
pub whole_asked : (n : Name) (p : Path) (s : NamedSubset) (old : NameSet) → IsSame old nothing → IsJoin old (whole n p) (paths s) →
    asked (Subset s) ≡ asked_by (whole_at (n ∷ p))
whole_asked n p s old none join =
    fun_ext (asked_same s (whole n p) (λ part q. join part q ∙ ap (λ (b : Bool). b || whole n p part q) (none part q)))

pub nothing_asked : (s : NamedSubset) → IsSame (paths s) nothing → asked (Subset s) ≡ asked_by (subset_at [])
nothing_asked s is = fun_ext (asked_same s (touched_path []) go)
  where
    go : IsSame (paths s) (touched_path [])
    go part [] = is part []
    go Touched (m ∷ q) = is Touched (m ∷ q)
    go Covered (m ∷ q) = is Covered (m ∷ q)
