use Rattle.std.proofs.Common.{sym, refl, subst, map, Option, Some, None, option_map, List}
use Rattle.fast_check_tables_packages.specs.Package.{nv_of}
use Rattle.fast_check_finder_lattice.specs.Traces.{handled}
use Rattle.fast_check_finder_demands.specs.name_demands.Files.{names_of}
use Rattle.fast_check_finder_demands.specs.declared.name_demands.name_demand.NameDemand.{NameDemand as Single}
use Rattle.fast_check_finder_demands.specs.asked.Demands.{Demand}
use Rattle.fast_check_finder_loop.specs.declared.demand.NamesAt.{NamesAt}
use Rattle.fast_check_finder_loop.specs.declared.finder.Finder.{Finder}
use Rattle.fast_check_finder_loop.specs.Search.{AddsNames, AsksNames}
use Rattle.fast_check_finder_loop.specs.Finder.{names_seen, seen_at, search_in, search_of}
use Rattle.fast_check_finder_loop.proofs.Waits.{names_pushed, names_asked, names_wait, names_goes}
use Rattle.fast_check_finder_loop.proofs.finder.Finder.ask_names.Goals as goal

pub returns-in_ok-push : goal.returns-in_ok-push
returns-in_ok-push c =
    let f = c.args.self.now in
    let p = nv_of c.args.owner.now in
    let url = c.args.specifier.now in
    let d = names_of c.args.names in
    let e = names_of c.in-Some.names in
    let b : Finder = record f { handled = c.ask_names.new.modules; names = c.push.new.self } in
    let new : NamesAt = record { «package» = c.in_ok-copy_of.field-0; specifier = c.in_ok-clone.field-0; names = c.in-Some.names } in
    let adds : AddsNames url d (Some e) (handled f.handled) (handled c.ask_names.new.modules) =
    subst (λ (o : Option Single). AddsNames url d (option_map names_of o) (handled f.handled) (handled c.ask_names.new.modules)) c.in-Some.is
    c.in_ok-names.ensures in
    let names = names_pushed f.names.items c.push.new.self.items new p url e c.in_ok-push.ensures.items c.in_ok-copy_of.ensures
    c.in_ok-clone.ensures.cases refl in
    record {
      goes = λ g r sound. names_goes g r f sound p url c.args.names b
          (subst (λ (ns : List Demand). AsksNames p url d (search_of f)
          (search_in (map nv_of f.packages) f.entered (handled c.ask_names.new.modules) ns f.modules.entries (map seen_at f.symbols.items)))
          (sym names)
          (names_wait (map nv_of f.packages) f.entered f.modules.entries (map seen_at f.symbols.items) p url d e (handled f.handled)
          (handled c.ask_names.new.modules) (map names_seen f.names.items) adds))
          refl (record { modules = sound.modules; symbols = sound.symbols; once = sound.once });
      enters = λ nv can. can;
    }

pub returns-in_default : goal.returns-in_default
returns-in_default c =
    let f = c.args.self.now in
    let p = nv_of c.args.owner.now in
    let url = c.args.specifier.now in
    let d = names_of c.args.names in
    let b : Finder = record f { handled = c.ask_names.new.modules } in
    let adds : AddsNames url d None (handled f.handled) (handled c.ask_names.new.modules) =
    subst (λ (o : Option Single). AddsNames url d (option_map names_of o) (handled f.handled) (handled c.ask_names.new.modules)) c.in_default.is
    c.in_ok-names.ensures in
    record {
      goes = λ g r sound. names_goes g r f sound p url c.args.names b
          (names_asked (map nv_of f.packages) f.entered f.modules.entries (map seen_at f.symbols.items) p url d (handled f.handled)
          (handled c.ask_names.new.modules) (map names_seen f.names.items) adds)
          refl (record { modules = sound.modules; symbols = sound.symbols; once = sound.once });
      enters = λ nv can. can;
    }
