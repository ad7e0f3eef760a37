use Rattle.std.proofs.Common.{◌≡◌, ◌∙◌, refl, ap, List, [], ◌∷◌, ◌++◌, map}
use Rattle.std.specs.Map.{keys_of}
use Rattle.fast_check_tables_packages.specs.Package.{nv_of}
use Rattle.fast_check_tables_packages.specs.declared.package.PackageNv.{PackageNv}
use Rattle.fast_check_finder_ranges.proofs.ranges.names_of.Goals as goal

names : {X : Type 0} (es : List (PackageNv × X)) → map nv_of (keys_of es) ≡ map (λ e. nv_of e.0) es
names [] = refl
names (e ∷ es) = ap (λ xs. nv_of e.0 ∷ xs) (names es)

pub loop-package-init : goal.loop-package-init
loop-package-init c =
    ap (λ xs. map nv_of xs ++ map nv_of c.into_iter-package-iterator.result) c.new-names.ensures.items
    ∙ (ap (map nv_of) (c.into_iter-package-iterator.ensures.into_iter_gives ∙ c.keys-package-items.ensures.rest)
    ∙ names c.args.found.now.entries)
