use Rattle.std.proofs.Common.{◌≡◌, ◌∙◌, sym, ap, [], ◌∷◌, ◌++◌, map, List, rules}
use Rattle.std.proofs.lemmas.List.{append_assoc}
use Rattle.url.specs.Parts.{Parts}
use Rattle.fast_check_tables_packages.specs.Package.{nv_of}
use Rattle.fast_check_finder_loop.specs.Rules.{entry_demands}
use Rattle.fast_check_finder_loop.proofs.Steps.{goes_nowhere, goes_then}
use Rattle.fast_check_finder_loop.proofs.finder.Finder.ask_entries.Goals as goal

pub loop-url-init : goal.loop-url-init
loop-url-init c =
    let keys : c.into_iter-url-iterator.result ≡ c.args.entry_points.now.keys = search rules in
    record {
      asked = [];
      are = ap (λ (ks : List Parts). map (entry_demands (nv_of c.args.nv.now)) ks) keys;
      goes = λ g r sound. goes_nowhere g r c.args.self.now sound;
      enters = λ nv can. can;
    }

pub loop-url-preserved : goal.loop-url-preserved
loop-url-preserved c =
    let i = c.loop-url.invariant in
    let w = entry_demands (nv_of c.args.nv.now) c.in-Some.url.now ∷ [] in
    record {
      asked = i.asked ++ w;
      are = append_assoc i.asked w (map (entry_demands (nv_of c.args.nv.now)) c.next.new.self) ∙
          (ap (λ (ks : List Parts). i.asked ++ map (entry_demands (nv_of c.args.nv.now)) ks) (sym c.in-Some.ensures.steps) ∙ i.are);
      goes = λ g r sound. let s = i.goes g r sound in
          goes_then g r i.asked w [] [] c.args.self.now c.loop-url.self c.ask_names.new.self s (c.in_ok-ask_names.ensures.goes g r s.sound);
      enters = λ nv can. c.in_ok-ask_names.ensures.enters nv (i.enters nv can);
    }
