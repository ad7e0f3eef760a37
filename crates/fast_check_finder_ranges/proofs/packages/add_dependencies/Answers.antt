use Rattle.std.proofs.Common.{◌≡◌, ◌||◌, map, List, ℕ, subst, refl}
use Rattle.std.specs.List.{list_any}
use Rattle.std.proofs.lemmas.List.{take_all}
use Rattle.fast_check_tables_packages.specs.Package.{nv_of}
use Rattle.fast_check_finder_demands.specs.asked.Demands.{same_nv}
use Rattle.fast_check_finder_ranges.specs.Parts.{is_package, named_at}
use Rattle.fast_check_finder_ranges.proofs.Dependencies.{named_more}
use Rattle.fast_check_finder_ranges.proofs.packages.add_dependencies.Goals as goal

pub loop-place-preserved : goal.loop-place-preserved
loop-place-preserved c = λ nv.
    named_more (map nv_of c.args.packages.now) nv c.args.places.now c.loop-place.place-index _
    (list_any (is_package nv) c.args.dependencies.now.keys) (list_any (is_package nv) c.loop-place.dependencies.keys)
    (list_any (is_package nv) c.add_dependency.new.dependencies.keys) c.loop-place-test.true refl (c.loop-place.invariant nv)
    (c.in_ok-add_dependency.ensures nv)

pub returns : goal.returns
returns c = λ nv.
    subst (λ (ks : List ℕ). list_any (is_package nv) c.loop-place.dependencies.keys ≡
    (list_any (is_package nv) c.args.dependencies.now.keys || list_any (same_nv nv) (named_at (map nv_of c.args.packages.now) ks)))
    (take_all c.loop-place.place-index c.args.places.now c.loop-place-test.false) (c.loop-place.invariant nv)
