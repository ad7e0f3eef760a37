use Rattle.std.proofs.Common.{◌≡◌, ◌∙◌, sym, ap, refl, subst, Some, map}
use Rattle.std.specs.Prelude.{slice_get}
use Rattle.indexmap.specs.IndexMap.{with_value_at}
use Rattle.fast_check_finder_demands.specs.name_demands.Files.{names_of}
use Rattle.fast_check_finder_demands.specs.re_exports.Modules.{own_tables}
use Rattle.fast_check_finder_demands.specs.re_exports.Roots.{roots}
use Rattle.fast_check_finder_demands.specs.re_exports.ReExports.{module_followers, re_export_ranges}
use Rattle.fast_check_finder_demands.specs.asked.Demands.{to_symbol}
use Rattle.fast_check_finder_demands.proofs.asked.Maps.{some_is}
use Rattle.fast_check_finder_loop.specs.declared.finder.Finder.{Finder}
use Rattle.fast_check_finder_loop.specs.declared.finder.FollowedModule.{FollowedModule}
use Rattle.fast_check_finder_loop.specs.contracts.demand.PlacePartialEq.TheImpl as place_eq
use Rattle.fast_check_finder_loop.specs.Finder.{place_nv, traced_in, Goes}
use Rattle.fast_check_finder_loop.specs.Rules.{own_text}
use Rattle.fast_check_finder_loop.specs.Yields.{public_at}
use Rattle.fast_check_finder_loop.proofs.Gained.{get_in}
use Rattle.fast_check_finder_loop.proofs.PlaceKeys.{tells_places}
use Rattle.fast_check_finder_loop.proofs.OwnAsked.{each_kept, same_aliases}
use Rattle.fast_check_finder_loop.proofs.Within.{with_ok, value_in, names_within}
use Rattle.fast_check_finder_loop.proofs.Lists.{get_value}
use Rattle.fast_check_finder_loop.proofs.finder.Finder.follow_names_at.Goals as goal

pub follow_names_in-requires-clause-index : goal.follow_names_in-requires-clause-index
follow_names_in-requires-clause-index c =
    let v = value_in c.args.self.now.modules.entries c.args.place c.in-Some.followed.now (sym c.in-Some.ensures.value) in
    (c.requires.sound.modules (v.0, c.in-Some.followed.now) (get_in c.args.self.now.modules.entries c.args.place (v.0, c.in-Some.followed.now) v.1)).index

pub returns : goal.returns
returns c = with_ok c.follow_names_in.result c.follow_names_in.ensures.demands c.follow_names_in.ensures.asks c.follow_names_in.ensures.shows
    c.follow_names_in.ensures.index_of c.follow_names_in.ensures.aliases
    (λ out is asks shows index aliases e here.
    let f = c.args.self.now in
    let g = c.args.facts.graph.now in
    let r = c.args.facts.root_symbol.now in
    let d = names_of c.args.names in
    let x = c.in-Some.followed.now in
    let m = c.follow_names_in.new.followed in
    let b : Finder = record f { modules = with_value_at f.modules c.args.place m; symbols = c.follow_names_in.new.symbols } in
    let same : e.1 ≡ x = some_is e.1 x (sym (get_value f.modules.entries c.args.place e here) ∙ sym c.in-Some.ensures.value) in
    let here_x : slice_get f.modules.entries c.args.place ≡ Some (e.0, x) = here ∙ ap (λ (y : FollowedModule). Some (e.0, y)) same in
    let own = c.requires.sound.modules (e.0, x) (get_in f.modules.entries c.args.place (e.0, x) here_x) in
    let shown = shows own.shown in
    subst (λ (y : FollowedModule). let t = traced_in g r y.found.info.now in
    (out ≡ module_followers t d) × Goes g r (map (to_symbol (place_nv e) (own_text t)) (roots (own_tables t) d))
    (public_at (place_nv e) t (re_export_ranges t d)) f b) (sym same) (
      is,
      names_within g r f b c.requires.sound c.args.place (e.0, x) here_x m
          (record { modules = refl; packages = refl; entered = refl; handled = refl; names = refl; entrances = refl; dependencies = refl; untyped = refl })
          place_eq.eq-value.it tells_places c.get_index_mut.ensures.unique (ap (λ i. i.now) shown.info) d asks shown index
          (same_aliases x m (ap (λ i. i.now) shown.info)
          (each_kept c.args.place (roots (own_tables (traced_in g r x.found.info.now)) d) x.asked m.asked f.symbols.items b.symbols.items asks)
          own.aliases aliases),
    ))
