use Rattle.std.proofs.Common.{◌≡◌, ◌∙◌, ◌+◌, sym, ap, refl, subst, [], ◌∷◌, ◌++◌, map, take, List}
use Rattle.std.specs.List.{flat_map}
use Rattle.std.proofs.lemmas.List.{take_more, take_all, map-append}
use Rattle.std.proofs.lemmas.Option.{slice_get_within}
use Rattle.url.specs.Parts.{serialize}
use Rattle.fast_check_tables_packages.specs.Package.{Nv, nv_of}
use Rattle.fast_check_tables_graph.specs.Root.{specifier_of}
use Rattle.fast_check_finder_demands.specs.name_demands.Files.{names_of}
use Rattle.fast_check_finder_ranges.specs.findings.Yields.{recorded}
use Rattle.fast_check_finder_demands.specs.re_exports.ReExports.{ModuleDemand, module_demand_of}
use Rattle.fast_check_finder_demands.specs.declared.re_exports.list.ReExportDemand.{ReExportDemand}
use Rattle.fast_check_finder_demands.specs.facts.GraphFacts.{known, traced_as}
use Rattle.fast_check_finder_demands.specs.facts.Followers.{re_export_followers}
use Rattle.fast_check_finder_loop.specs.declared.finder.Finder.{Finder}
use Rattle.fast_check_finder_loop.specs.Finder.{Goes}
use Rattle.fast_check_finder_loop.proofs.Owners.{AsksFor}
use Rattle.fast_check_finder_loop.proofs.Placed.{placed_info, placed_goes}
use Rattle.fast_check_finder_loop.proofs.Steps.{goes_nowhere, goes_more}
use Rattle.fast_check_finder_loop.proofs.Whole.{names_all}
use Rattle.fast_check_finder_loop.proofs.finder.Finder.follow_module.Goals as goal

pub follow_names_at-requires-clause-within : goal.follow_names_at-requires-clause-within
follow_names_at-requires-clause-within g c =
    slice_get_within c.place_of.new.modules.entries c.in_ok-place.place c.in_ok-place.ensures.followed c.in_ok-place.ensures.here

pub follow_names_at-requires-clause-sound : goal.follow_names_at-requires-clause-sound
follow_names_at-requires-clause-sound g c =
    let f = c.args.self.now in
    let b : Finder = record f { modules = c.place_of.new.modules } in
    (placed_goes c.args.lent.facts.graph.now c.args.lent.facts.root_symbol.now f b c.requires.sound (nv_of c.in_ok-copy_of.field-0) c.args.info.now c.requires.own
    c.in_ok-place.place c.in_ok-place.ensures
    (record { packages = refl; entered = refl; handled = refl; names = refl; symbols = refl; entrances = refl; dependencies = refl; untyped = refl })).sound

pub loop-demand-init : goal.loop-demand-init
loop-demand-init g c sound = goes_nowhere _ _ c.follow_names_at.new.self sound

pub loop-demand-preserved : goal.loop-demand-preserved
loop-demand-preserved g c sound =
    let m = goal.JsrUrlProvider-dyn g c.args.lent.provider.now in
    let k = known c.args.lent.facts (m.url_of c.args.lent.provider.now.1) (m.nv_at c.args.lent.provider.now.1) in
    let nv = nv_of c.args.nv in
    let h = re_export_followers k nv (traced_as k c.args.info.now) in
    let xs = c.as_slice-demand-items.result.now in
    let i = c.loop-demand.demand-index in
    let x = c.demand-item.result in
    let s = c.loop-demand.invariant sound in
    let more : map module_demand_of (take (i + 1) xs) ≡ map module_demand_of (take i xs) ++ module_demand_of x ∷ [] =
    ap (map module_demand_of) (take_more xs i x c.loop-demand-test.true ∙ ap (λ (y : ReExportDemand). take i xs ++ y ∷ []) (sym c.demand-item.is)) ∙
    map-append module_demand_of (take i xs) (x ∷ []) in
    subst (λ (ds : List ModuleDemand). AsksFor k.graph k.root_symbol nv (flat_map h ds) c.follow_names_at.new.self c.ask_re_exported.new.self) (sym more)
    (goes_more k.graph k.root_symbol h nv (map module_demand_of (take i xs)) (module_demand_of x) c.follow_names_at.new.self c.loop-demand.self
    c.ask_re_exported.new.self s (c.in_ok-ask_re_exported.ensures s.sound))

pub returns : goal.returns
returns g c =
    let m = goal.JsrUrlProvider-dyn g c.args.lent.provider.now in
    let k = known c.args.lent.facts (m.url_of c.args.lent.provider.now.1) (m.nv_at c.args.lent.provider.now.1) in
    let f = c.args.self.now in
    let b : Finder = record f { modules = c.place_of.new.modules } in
    let nv = nv_of c.args.nv in
    let info = c.args.info.now in
    let h = re_export_followers k nv (traced_as k info) in
    let xs = c.as_slice-demand-items.result.now in
    let p = c.in_ok-place.ensures in
    let first = placed_goes k.graph k.root_symbol f b c.requires.sound (nv_of c.in_ok-copy_of.field-0) info c.requires.own c.in_ok-place.place p
    (record { packages = refl; entered = refl; handled = refl; names = refl; symbols = refl; entrances = refl; dependencies = refl; untyped = refl }) in
    let here = c.in_ok-demands.ensures p.followed p.here in
    names_all k b c.follow_names_at.new.self c.loop-demand.self f p.followed (names_of c.args.names) nv info (map module_demand_of xs)
    (p.nv_is ∙ c.in_ok-copy_of.ensures)
    (placed_info k.graph k.root_symbol f b c.requires.sound (nv_of c.in_ok-copy_of.field-0) info c.requires.own c.in_ok-place.place p)
    (c.as_slice-demand-items.ensures ∙ here.0)
    (subst (λ (q : Nv). Goes k.graph k.root_symbol [] (recorded q (serialize (specifier_of info)) ∷ []) f b) c.in_ok-copy_of.ensures first) here.1
    (subst (λ (ds : List ReExportDemand). AsksFor k.graph k.root_symbol nv (flat_map h (map module_demand_of ds)) c.follow_names_at.new.self c.loop-demand.self)
    (take_all c.loop-demand.demand-index xs c.loop-demand-test.false) (c.loop-demand.invariant here.1.sound))
