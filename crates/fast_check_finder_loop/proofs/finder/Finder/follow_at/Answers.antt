use Rattle.std.proofs.Common.{◌≡◌, ◌∙◌, sym, ap, refl, subst, Some, List, [], ◌++◌, map}
use Rattle.std.specs.Prelude.{slice_get}
use Rattle.std.proofs.lemmas.Result.{IfOk-weaker}
use Rattle.indexmap.specs.IndexMap.{with_value_at}
use Rattle.fast_check_finder_demands.specs.symbol_demands.Demands.{Demand as SymbolDemand, demand_of}
use Rattle.fast_check_finder_demands.specs.symbol_demands.Rules.{names}
use Rattle.fast_check_finder_demands.specs.symbol_demands.Passed.{passed, asked_own}
use Rattle.fast_check_finder_demands.specs.Yields.{Adds, ranges, implementations, faults, fault_seen}
use Rattle.fast_check_tables_modules.specs.symbols.Tables.{Tables}
use Rattle.fast_check_finder_demands.specs.name_demands.Files.{files}
use Rattle.fast_check_finder_demands.specs.re_exports.Modules.{tables_in, own_tables}
use Rattle.fast_check_finder_demands.specs.asked.Demands.{to_symbol}
use Rattle.fast_check_finder_demands.proofs.asked.Maps.{some_is}
use Rattle.fast_check_finder_loop.specs.declared.finder.Finder.{Finder}
use Rattle.fast_check_finder_loop.specs.declared.finder.FollowedModule.{FollowedModule}
use Rattle.fast_check_finder_loop.specs.contracts.demand.PlacePartialEq.TheImpl as place_eq
use Rattle.fast_check_finder_loop.specs.Finder.{place_nv, traced_in, AsksEach, Goes}
use Rattle.fast_check_finder_loop.specs.Rules.{own_text}
use Rattle.fast_check_finder_loop.specs.Yields.{public_at, implementing_at, faults_at}
use Rattle.fast_check_tables_graph.specs.declared.root_symbol.AnyModuleInfo.{AnyModuleInfo}
use Rattle.fast_check_finder_loop.specs.Turn.{AreSame}
use Rattle.fast_check_finder_loop.proofs.Gained.{get_in}
use Rattle.fast_check_finder_loop.proofs.OwnAsked.{each_kept, each_append, all_names, same_aliases}
use Rattle.fast_check_finder_loop.proofs.PlaceKeys.{tells_places}
use Rattle.fast_check_finder_loop.proofs.Steps.{same_added}
use Rattle.fast_check_finder_loop.proofs.Within.{symbol_within}
use Rattle.fast_check_finder_loop.proofs.Lists.{get_value}
use Rattle.fast_check_finder_loop.proofs.finder.Finder.follow_at.Goals as goal

pub returns : goal.returns
returns c = IfOk-weaker c.files_of.result _ _
    (λ out is g r e here sound.
    let f = c.args.self.now in
    let s = demand_of c.args.at.demand in
    let x = c.in-Some.followed.now in
    let y = c.add_yields.new.followed in
    let w = c.in_ok-add_yields.ensures in
    let z : FollowedModule = record y { asked = c.ask_each.new.asked } in
    let m = c.ask_own.new.followed in
    let o = c.in_ok-ask_own.ensures in
    let b : Finder = record f { modules = with_value_at f.modules c.args.at.place m; symbols = c.ask_own.new.symbols } in
    let ds = c.in_ok-demands.demands in
    let tables = c.tables_of-tables.ensures ∙ ap (λ i. tables_in i.now) w.info in
    let t = tables_in x.found.info.now in
    let same : e.1 ≡ x = some_is e.1 x (sym (get_value f.modules.entries c.args.at.place e here) ∙ sym c.in-Some.ensures.value) in
    let here_x : slice_get f.modules.entries c.args.at.place ≡ Some (e.0, x) = here ∙ ap (λ (y : FollowedModule). Some (e.0, y)) same in
    let own = sound.modules (e.0, x) (get_in f.modules.entries c.args.at.place (e.0, x) here_x) in
    let first : AsksEach c.args.at.place ds x.asked z.asked f.symbols.items c.ask_each.new.symbols.items =
    subst (λ (a : List SymbolDemand). AsksEach c.args.at.place ds a z.asked f.symbols.items c.ask_each.new.symbols.items)
    w.kept.asked c.in_ok-ask_each.ensures in
    let info_z = ap (λ i. i.now) w.info in
    let rest = o.asks (same_aliases x z info_z (each_kept c.args.at.place ds x.asked z.asked f.symbols.items c.ask_each.new.symbols.items first)
    own.aliases w.kept.aliases) in
    let found = o.kept.found in
    subst (λ (y : FollowedModule). let t = traced_in g r y.found.info.now in
    (out ≡ files (own_tables t) s) × Goes g r (map (to_symbol (place_nv e) (own_text t)) (names (own_tables t) s))
    (public_at (place_nv e) t (ranges (own_tables t) s) ++ (implementing_at (place_nv e) t (implementations (own_tables t) s)
    ++ faults_at (place_nv e) t (faults (own_tables t) s))) f b) (sym same) (
      is ∙ ap (λ (t : Tables). files t s) tables,
      symbol_within g r f b sound c.args.at.place (e.0, x) here_x m
          (record { modules = refl; packages = refl; entered = refl; handled = refl; names = refl; entrances = refl; dependencies = refl; untyped = refl })
          place_eq.eq-value.it tells_places c.get_index_mut.ensures.unique (ap (λ q. q.info.now) found ∙ info_z) s (ds ++ rest.asked)
          (all_names t s ds rest.asked
          (same_added (passed t s) ds (subst (λ (t : Tables). Adds (passed t s) [] ds) tables c.in_ok-demands.ensures))
          (subst (λ (i : AnyModuleInfo). AreSame rest.asked (asked_own (tables_in i) s s.asked)) info_z rest.are))
          (each_append c.args.at.place ds rest.asked x.asked z.asked m.asked f.symbols.items c.ask_each.new.symbols.items c.ask_own.new.symbols.items
          first rest.asks)
          (ap (λ q. q.ranges.items) found ∙ w.ranges) (ap (λ q. q.implementations.items) found ∙ w.implementations)
          (ap (λ q. map fault_seen q.faults.items) found ∙ w.faults) (o.kept.index ∙ w.kept.index) (o.kept.shows_all ∙ w.shows_all) rest.aliases,
    ))
    c.files_of.ensures
