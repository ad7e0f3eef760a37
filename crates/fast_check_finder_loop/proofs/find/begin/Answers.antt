use Rattle.std.proofs.Common.{◌≡◌, ◌∙◌, ◌+◌, sym, ap, subst, [], ◌∷◌, ◌++◌, map, take, List}
use Rattle.std.proofs.lemmas.List.{take_more, take_all, map-append}
use Rattle.fast_check_tables_packages.specs.Package.{nv_of}
use Rattle.fast_check_tables_packages.specs.declared.package.PackageNv.{PackageNv}
use Rattle.fast_check_finder_demands.specs.asked.Demands.{DemandSet, to_package}
use Rattle.fast_check_finder_loop.specs.Finder.{Goes}
use Rattle.fast_check_finder_loop.proofs.Loop.{begins_from}
use Rattle.fast_check_finder_loop.proofs.Steps.{goes_nowhere, goes_then}
use Rattle.fast_check_finder_loop.proofs.find.begin.Goals as goal

pub loop-nv-init : goal.loop-nv-init
loop-nv-init c g r = goes_nowhere g r c.new-finder.result (c.new-finder.ensures.sound g r)

pub loop-nv-preserved : goal.loop-nv-preserved
loop-nv-preserved c g r =
    let xs = c.args.roots.now in
    let i = c.loop-nv.nv-index in
    let x = c.nv-item.result in
    let s = c.loop-nv.invariant g r in
    let more : map to_package (map nv_of (take (i + 1) xs)) ≡ map to_package (map nv_of (take i xs)) ++ to_package (nv_of x) ∷ [] =
    ap (λ (ps : List PackageNv). map to_package (map nv_of ps))
    (take_more xs i x c.loop-nv-test.true ∙ ap (λ (y : PackageNv). take i xs ++ y ∷ []) (sym c.nv-item.is)) ∙
    (ap (map to_package) (map-append nv_of (take i xs) (x ∷ [])) ∙ map-append to_package (map nv_of (take i xs)) (nv_of x ∷ [])) in
    subst (λ (ws : List DemandSet). Goes g r ws [] c.new-finder.result c.ask_package.new.self) (sym more)
    (goes_then g r (map to_package (map nv_of (take i xs))) (to_package (nv_of x) ∷ []) [] [] c.new-finder.result c.loop-nv.finder
    c.ask_package.new.self s (c.in_ok-ask_package.ensures.goes g r s.sound))

pub returns : goal.returns
returns c g r = begins_from g r (map nv_of c.args.roots.now) c.new-finder.result c.loop-nv.finder c.new-finder.ensures.fresh c.new-finder.ensures.found
    (subst (λ (ps : List PackageNv). Goes g r (map to_package (map nv_of ps)) [] c.new-finder.result c.loop-nv.finder)
    (take_all c.loop-nv.nv-index c.args.roots.now c.loop-nv-test.false) (c.loop-nv.invariant g r))
