use Rattle.std.proofs.Common.{subst, [], ◌∷◌, map}
use Rattle.std.specs.List.{flat_map}
use Rattle.fast_check_tables_packages.specs.Package.{Nv, nv_of}
use Rattle.fast_check_finder_demands.specs.Yields.{Joins}
use Rattle.fast_check_finder_ranges.specs.findings.Yields.{dependency}
use Rattle.fast_check_finder_loop.specs.declared.demand.Dependency.{Dependency}
use Rattle.fast_check_finder_loop.specs.Finder.{depends, entered_yields, yields_in, yields_by}
use Rattle.fast_check_finder_loop.proofs.Joins.{joins_then, joins_left, joins_right}
use Rattle.fast_check_finder_loop.proofs.Waits.{dependency_joins}
use Rattle.fast_check_finder_loop.proofs.finder.Finder.depend.Goals as goal

pub returns : goal.returns
returns c g r sound =
    let asked = c.in_ok-ask_package.ensures.goes g r sound in
    let mid = c.ask_package.new.self in
    let new : Dependency = record { «package» = c.in_ok-copy_of.field-0; on = c.args.on } in
    let found = subst (λ (p : Nv). Joins (dependency p (nv_of c.args.on) ∷ []) (map depends mid.dependencies.keys) (map depends c.insert.new.self.keys))
    c.in_ok-copy_of.ensures (dependency_joins new mid.dependencies.keys c.insert.new.self.keys c.in_ok-insert.ensures.keys) in
    let ys = dependency (nv_of c.args.owner.now) (nv_of c.args.on) ∷ [] in
    record {
      asked = asked.asked;
      are = asked.are;
      asks = asked.asks;
      found = joins_then [] ys (yields_in c.args.self.now) (yields_in mid)
          (yields_by mid.entrances.items c.insert.new.self.keys mid.modules.entries mid.untyped.items) asked.found
          (joins_right ys _ _ (flat_map entered_yields mid.entrances.items)
          (joins_left ys (map depends mid.dependencies.keys) (map depends c.insert.new.self.keys) _ found));
      sound = record { modules = asked.sound.modules; symbols = asked.sound.symbols; once = asked.sound.once };
    }
