use Rattle.std.proofs.Common.{◌≡◌, ◌∙◌, ◌+◌, sym, ap, subst, [], ◌∷◌, ◌++◌, map, take, List}
use Rattle.std.specs.List.{flat_map}
use Rattle.std.specs.Prelude.{option_map}
use Rattle.std.specs.Map.Iter.{deref_pair}
use Rattle.std.proofs.lemmas.List.{take_more, take_all, map-append}
use Rattle.fast_check_tables_packages.specs.Package.{nv_of}
use Rattle.fast_check_finder_demands.specs.symbol_demands.Demands.{demand_of}
use Rattle.fast_check_finder_demands.specs.name_demands.Files.{FileDemand, file_demand_of}
use Rattle.fast_check_finder_demands.specs.declared.name_demands.name_demand.FileDependency.{FileDependency}
use Rattle.fast_check_finder_demands.specs.facts.GraphFacts.{known, traced_as}
use Rattle.fast_check_finder_demands.specs.facts.Followers.{file_followers}
use Rattle.fast_check_finder_demands.proofs.asked.Maps.{some_is}
use Rattle.fast_check_finder_loop.specs.Finder.{Followed, place_nv}
use Rattle.fast_check_finder_loop.proofs.Gained.{get_in}
use Rattle.fast_check_finder_loop.proofs.Owners.{AsksFor}
use Rattle.fast_check_finder_loop.proofs.Steps.{goes_nowhere, goes_more}
use Rattle.fast_check_finder_loop.proofs.Whole.{symbol_all}
use Rattle.fast_check_finder_loop.proofs.finder.Finder.follow_symbol.Goals as goal

pub loop-dependency-init : goal.loop-dependency-init
loop-dependency-init g c sound = goes_nowhere _ _ c.follow_at.new.self sound

pub loop-dependency-preserved : goal.loop-dependency-preserved
loop-dependency-preserved g c sound =
    let m = goal.JsrUrlProvider-dyn g c.args.lent.provider.now in
    let k = known c.args.lent.facts (m.url_of c.args.lent.provider.now.1) (m.nv_at c.args.lent.provider.now.1) in
    let nv = nv_of c.in_ok-nv.nv in
    let h = file_followers k nv (traced_as k c.in-Some.followed.now.found.info.now) in
    let xs = c.as_slice-dependency-items.result.now in
    let i = c.loop-dependency.dependency-index in
    let x = c.dependency-item.result in
    let s = c.loop-dependency.invariant sound in
    let more : map file_demand_of (take (i + 1) xs) ≡ map file_demand_of (take i xs) ++ file_demand_of x ∷ [] =
    ap (map file_demand_of) (take_more xs i x c.loop-dependency-test.true ∙ ap (λ (y : FileDependency). take i xs ++ y ∷ []) (sym c.dependency-item.is)) ∙
    map-append file_demand_of (take i xs) (x ∷ []) in
    subst (λ (ds : List FileDemand). AsksFor k.graph k.root_symbol nv (flat_map h ds) c.follow_at.new.self c.ask_dependency.new.self) (sym more)
    (goes_more k.graph k.root_symbol h nv (map file_demand_of (take i xs)) (file_demand_of x) c.follow_at.new.self c.loop-dependency.self
    c.ask_dependency.new.self s (c.in_ok-ask_dependency.ensures s.sound))

pub returns : goal.returns
returns g c e here sound =
    let m = goal.JsrUrlProvider-dyn g c.args.lent.provider.now in
    let k = known c.args.lent.facts (m.url_of c.args.lent.provider.now.1) (m.nv_at c.args.lent.provider.now.1) in
    let x : Followed = (c.in-Some.place.now, c.in-Some.followed.now) in
    let same : e ≡ x = some_is e x (sym here ∙ (sym c.get_index.ensures.entry ∙ ap (option_map deref_pair) c.in-Some.is)) in
    let nv = nv_of c.in_ok-nv.nv in
    let info = c.in-Some.followed.now.found.info.now in
    let h = file_followers k nv (traced_as k info) in
    let xs = c.as_slice-dependency-items.result.now in
    let first = c.in_ok-dependencies.ensures k.graph k.root_symbol e here sound in
    symbol_all k c.args.self.now c.follow_at.new.self c.loop-dependency.self e
    (sound.modules e (get_in c.args.self.now.modules.entries c.args.at.place e here)) (demand_of c.args.at.demand) nv info (map file_demand_of xs)
    (c.in_ok-nv.ensures ∙ ap (λ (y : Followed). place_nv y) (sym same)) (ap (λ (y : Followed). y.1.found.info.now) (sym same))
    (c.as_slice-dependency-items.ensures ∙ first.0) first.1
    (subst (λ (ds : List FileDependency). AsksFor k.graph k.root_symbol nv (flat_map h (map file_demand_of ds)) c.follow_at.new.self c.loop-dependency.self)
    (take_all c.loop-dependency.dependency-index xs c.loop-dependency-test.false) (c.loop-dependency.invariant first.1.sound))
