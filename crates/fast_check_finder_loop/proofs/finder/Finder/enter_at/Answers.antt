use Rattle.std.proofs.Common.{◌==◌, length, vec_len, arith, ◌≡◌, ◌∙◌, sym, ap, refl, subst, [], ◌∷◌, ◌++◌, List, map, rules}
use Rattle.std.specs.BTreeSet.{BTreeSet}
use Rattle.std.specs.List.{flat_map}
use Rattle.std.proofs.lemmas.List.{append-nil}
use Rattle.url.specs.Parts.{Parts, serialize}
use Rattle.fast_check_tables_packages.specs.Package.{Nv, nv_of}
use Rattle.fast_check_finder_ranges.specs.entries.Entries.{all_faults}
use Rattle.fast_check_finder_ranges.specs.findings.Yields.{known_package, entry_point}
use Rattle.fast_check_finder_ranges.specs.declared.findings.found.EntryFault.{EntryFault}
use Rattle.fast_check_finder_ranges.specs.declared.findings.found.Entrance.TheVariants.{Entered}
use Rattle.fast_check_finder_demands.specs.asked.Demands.{DemandSet}
use Rattle.fast_check_finder_loop.specs.declared.finder.Finder.{Finder}
use Rattle.fast_check_finder_loop.specs.Finder.{CanEnter, Goes}
use Rattle.fast_check_finder_loop.specs.Rules.{entry_demands, unless_faulty}
use Rattle.fast_check_finder_loop.specs.Yields.{entry_fault_yields}
use Rattle.fast_check_finder_loop.proofs.Reported.{entrance_goes}
use Rattle.fast_check_finder_loop.proofs.Entered.{none_faulty, some_faulty}
use Rattle.fast_check_finder_loop.proofs.Steps.{goes_then}
use Rattle.fast_check_tables_symbols.proofs.Witness.{nil_of}
use Rattle.fast_check_finder_loop.proofs.finder.Finder.enter_at.Goals.{then-is_empty+in_ok-ask_entries, else-is_empty}
use Rattle.fast_check_finder_loop.proofs.finder.Finder.enter_at.Goals as goal

pub returns : goal.returns
returns c g r sound can =
    let mid = c.if-is_empty.self in
    let b : Finder = record mid { entrances = c.push.new.self } in
    let nv = nv_of c.args.nv.now in
    let p = c.in_ok-package.package in
    let graph = c.args.graph.now in
    let urls = c.args.entry_points.value.keys in
    let keys : c.deref.result.now ≡ c.args.entry_points.value = search rules in
    let faults : c.in_ok-faults.faults.items ≡ all_faults graph urls =
    c.in_ok-faults.ensures ∙ ap (λ (s : BTreeSet Parts). all_faults graph s.keys) keys in
    let len : length c.in_ok-faults.faults.items ≡ vec_len c.in_ok-faults.faults = omega arith in
    let all = map (entry_demands nv) urls in
    let ws = unless_faulty (all_faults graph urls) all in
    let asked : Goes g r ws [] c.args.self.now mid × CanEnter nv mid = elim c.if-is_empty.branch [
      | then-is_empty+in_ok-ask_entries w ↦
          let none = nil_of c.in_ok-faults.faults.items (ap (λ n. n == 0) len ∙ (sym c.is_empty.ensures ∙ w.if-is_empty.true)) in
          let same : w.deref-then-is_empty.result.now ≡ c.args.entry_points.value = search rules in
          let goes = subst (λ (s : BTreeSet Parts). Goes g r (map (entry_demands nv) s.keys) [] c.args.self.now w.ask_entries.new.self) same
          (w.in_ok-ask_entries.ensures.goes g r sound) in
          subst (λ (x : Finder). Goes g r ws [] c.args.self.now x × CanEnter nv x) (sym w.self-is)
          (none_faulty g r c.args.self.now all (all_faults graph urls) w.ask_entries.new.self (sym faults ∙ none) goes, w.in_ok-ask_entries.ensures.enters nv can)
      | else-is_empty w ↦
          let some = ap (λ n. n == 0) len ∙ (sym c.is_empty.ensures ∙ w.if-is_empty.false) in
          subst (λ (x : Finder). Goes g r ws [] c.args.self.now x × CanEnter nv x) (sym w.self-is)
          (some_faulty g r c.args.self.now all (all_faults graph urls) (ap (λ (fs : List (Parts × EntryFault)). length fs == 0) (sym faults) ∙ some) sound, can)
    ] in
    let first = asked.0 in
    let last = entrance_goes mid b
    (record { packages = refl; entered = refl; handled = refl; names = refl; modules = refl; symbols = refl; dependencies = refl }) g r first.sound
    p (Entered c.args.entry_points c.in_ok-faults.faults)
    (subst (λ (n : Nv). CanEnter n mid) (sym c.in_ok-package.ensures) asked.1) c.in_ok-push.ensures.items refl in
    subst (λ (vs : List DemandSet). Goes g r vs (known_package nv ∷ (map (λ url. entry_point nv (serialize url)) urls ++
    flat_map (entry_fault_yields nv) (all_faults graph urls))) c.args.self.now b) (append-nil ws)
    (subst (λ (fs : List (Parts × EntryFault)). Goes g r (ws ++ []) (known_package nv ∷ (map (λ url. entry_point nv (serialize url)) urls ++
    flat_map (entry_fault_yields nv) fs)) c.args.self.now b) faults
    (subst (λ (n : Nv). Goes g r (ws ++ []) (known_package n ∷ (map (λ url. entry_point n (serialize url)) urls ++
    flat_map (entry_fault_yields n) c.in_ok-faults.faults.items)) c.args.self.now b) c.in_ok-package.ensures
    (goes_then g r ws [] [] (known_package (nv_of p) ∷ (map (λ url. entry_point (nv_of p) (serialize url)) urls ++
    flat_map (entry_fault_yields (nv_of p)) c.in_ok-faults.faults.items)) c.args.self.now mid b first last)))
