-- The equations of `paths`, for callers.
use Rattle.std.specs.Prelude.{◌≡◌, false, [], refl}
use Rattle.fast_check_finder_lattice.specs.declared.lattice.named_subset.Exports.TheVariants.{Subset}
use Rattle.fast_check_finder_lattice.specs.declared.lattice.named_subset.NamedSubset.{NamedSubset}
use Rattle.fast_check_finder_lattice.specs.Names.{Part, paths, paths_below, subset_of, IsSame}

pub paths_opened_nil : (s : NamedSubset) (part : Part) → paths s part [] ≡ false
paths_opened_nil s part = refl

pub below_subset_is : (s : NamedSubset) → IsSame (paths_below (Subset s)) (subset_of (paths s))
below_subset_is s part q = refl
