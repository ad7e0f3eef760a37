use Rattle.std.proofs.Common.{sym, refl, subst, [], ◌∷◌, ◌++◌, List, map}
use Rattle.std.proofs.lemmas.List.{append-nil}
use Rattle.fast_check_tables_packages.specs.Package.{Nv, nv_of}
use Rattle.fast_check_tables_cache.specs.Cache.{item_of}
use Rattle.fast_check_finder_ranges.specs.findings.Yields.{cached}
use Rattle.fast_check_finder_ranges.specs.declared.findings.found.Entrance.TheVariants.{Cached}
use Rattle.fast_check_finder_demands.specs.asked.Demands.{DemandSet, to_package}
use Rattle.fast_check_finder_loop.specs.declared.finder.Finder.{Finder}
use Rattle.fast_check_finder_loop.specs.Finder.{CanEnter, Goes}
use Rattle.fast_check_finder_loop.proofs.Reported.{entrance_goes}
use Rattle.fast_check_finder_loop.proofs.Steps.{goes_then}
use Rattle.fast_check_finder_loop.proofs.finder.Finder.enter_cached.Goals as goal

pub returns : goal.returns
returns c g r sound can =
    let mid = c.ask_packages.new.self in
    let b : Finder = record mid { entrances = c.push.new.self } in
    let nv = nv_of c.args.nv.now in
    let p = c.in_ok-package.package in
    let ws = map to_package (item_of c.args.item).0 in
    let first = c.in_ok-ask_packages.ensures.goes g r sound in
    let last = entrance_goes mid b
    (record { packages = refl; entered = refl; handled = refl; names = refl; modules = refl; symbols = refl; dependencies = refl }) g r first.sound
    p (Cached c.args.entry_points c.args.item)
    (subst (λ (n : Nv). CanEnter n mid) (sym c.in_ok-package.ensures) (c.in_ok-ask_packages.ensures.enters nv can)) c.in_ok-push.ensures.items refl in
    subst (λ (vs : List DemandSet). Goes g r vs (cached nv c.args.entry_points.value.keys (item_of c.args.item) ∷ []) c.args.self.now b) (append-nil ws)
    (subst (λ (n : Nv). Goes g r (ws ++ []) (cached n c.args.entry_points.value.keys (item_of c.args.item) ∷ []) c.args.self.now b) c.in_ok-package.ensures
    (goes_then g r ws [] [] (cached (nv_of p) c.args.entry_points.value.keys (item_of c.args.item) ∷ []) c.args.self.now mid b first last))
