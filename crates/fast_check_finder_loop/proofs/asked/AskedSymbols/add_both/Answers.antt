use Rattle.std.proofs.Common.{◌≡◌, ◌∙◌, sym, ap, subst, Bool, true, false, Option, Some}
use Rattle.std.specs.Prelude.{option_map}
use Rattle.fast_check_finder_demands.specs.symbol_demands.Demands.{Demand, demand_of}
use Rattle.fast_check_finder_loop.specs.Asked.{AddsSymbol, AddsDemand}
use Rattle.fast_check_finder_loop.proofs.Parts.{both_new, adds_both}
use Rattle.fast_check_finder_loop.proofs.asked.AskedSymbols.add_both.Goals as goal
use Rattle.fast_check_finder_loop.proofs.asked.AskedSymbols.add_both.Goals.{in-true-true, in-true-false, in-false-true, in-false-false}

pub returns : goal.returns
returns c =
    let d = demand_of c.args.demand in
    let old = c.args.self.now in
    let mid = c.add_one.new.self in
    let new = c.add_one-2.new.self in
    let a = c.in_ok-is_value_new.is_value_new in
    let b = c.in_ok-is_type_new.is_type_new in
    let both : AddsDemand d (both_new d a b) old new = adds_both d c.requires a b old mid new
    (subst (λ (x : Demand). AddsSymbol x a old mid) c.narrowed-value.ensures c.in_ok-is_value_new.ensures)
    (subst (λ (x : Demand). AddsSymbol x b mid new) c.narrowed-type_.ensures c.in_ok-is_type_new.ensures) in
    let told = λ (o : Option Demand) (x y : Bool) (e : a ≡ x) (f : b ≡ y) (is : both_new d x y ≡ o).
    subst (λ (n : Option Demand). AddsDemand d n old new) (ap (λ z. both_new d z b) e ∙ (ap (both_new d x) f ∙ is)) both in
    elim c.if-is_value_new.branch [
      | in-true-true w ↦ told _ true true w.in-true-true.is-0 w.in-true-true.is-1 (sym (ap (option_map demand_of) w.result-is))
      | in-true-false w ↦ told _ true false w.in-true-false.is-0 w.in-true-false.is-1
          (ap Some (sym c.narrowed-value.ensures) ∙ sym (ap (option_map demand_of) w.result-is))
      | in-false-true w ↦ told _ false true w.in-false-true.is-0 w.in-false-true.is-1
          (ap Some (sym c.narrowed-type_.ensures) ∙ sym (ap (option_map demand_of) w.result-is))
      | in-false-false w ↦ told _ false false w.in-false-false.is-0 w.in-false-false.is-1 (sym (ap (option_map demand_of) w.result-is))
    ]
