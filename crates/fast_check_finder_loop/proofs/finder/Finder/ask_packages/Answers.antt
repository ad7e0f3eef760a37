use Rattle.std.proofs.Common.{◌≡◌, ◌∙◌, sym, ap, [], ◌∷◌, ◌++◌, map, List, rules}
use Rattle.std.proofs.lemmas.List.{append_assoc}
use Rattle.fast_check_tables_packages.specs.Package.{nv_of}
use Rattle.fast_check_tables_packages.specs.declared.package.PackageNv.{PackageNv}
use Rattle.fast_check_finder_demands.specs.asked.Demands.{to_package}
use Rattle.fast_check_finder_loop.proofs.Steps.{goes_nowhere, goes_then}
use Rattle.fast_check_finder_loop.proofs.finder.Finder.ask_packages.Goals as goal

pub loop-on-init : goal.loop-on-init
loop-on-init c =
    let keys : c.into_iter-on-iterator.result ≡ c.args.packages.now.keys = search rules in
    record {
      asked = [];
      are = ap (λ (ks : List PackageNv). map to_package (map nv_of ks)) keys;
      goes = λ g r sound. goes_nowhere g r c.args.self.now sound;
      enters = λ nv can. can;
    }

pub loop-on-preserved : goal.loop-on-preserved
loop-on-preserved c =
    let i = c.loop-on.invariant in
    let p = to_package (nv_of c.in-Some.on.now) ∷ [] in
    record {
      asked = i.asked ++ p;
      are = append_assoc i.asked p (map to_package (map nv_of c.next.new.self)) ∙
          (ap (λ (ks : List PackageNv). i.asked ++ map to_package (map nv_of ks)) (sym c.in-Some.ensures.steps) ∙ i.are);
      goes = λ g r sound. let s = i.goes g r sound in
          goes_then g r i.asked p [] [] c.args.self.now c.loop-on.self c.ask_package.new.self s (c.in_ok-ask_package.ensures.goes g r s.sound);
      enters = λ nv can. c.in_ok-ask_package.ensures.enters nv (i.enters nv can);
    }
