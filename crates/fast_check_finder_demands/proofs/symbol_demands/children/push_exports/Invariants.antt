use Rattle.std.proofs.Common.{◌≡◌, [], ◌∷◌, ◌++◌, take, length}
use Rattle.std.specs.List.{flat_map}
use Rattle.fast_check_finder_demands.specs.symbol_demands.Rules.{child}
use Rattle.fast_check_finder_demands.proofs.symbol_demands.children.push_exports.Given as goal

abbrev pub invariant-loop-place : goal.invariant-loop-place
invariant-loop-place l = record {
  end : l.place-end ≡ length l.exports;
  items : l.out ≡ l.initial.out ++ flat_map (λ e. child e.1 l.demand.symbol ∷ []) (take l.place l.exports);
}
