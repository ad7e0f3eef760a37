use Rattle.std.proofs.Common.{◌≡◌, ◌++◌, List, ℕ, Some, All}
use Rattle.std.specs.Map.{keys_of}
use Rattle.fast_check_tables_packages.specs.Texts.{AreFirsts, HasTextPlaces, keys_in, place_of}
use Rattle.fast_check_tables_packages.proofs.texts.TextPlaces.indexed.Given as goal

abbrev pub invariant-loop-text : goal.invariant-loop-text
invariant-loop-text l = (keys_in l.index.entries.items ++ keys_of l.text-iterator ≡ keys_of l.fn.self.places.entries)
    × All (λ e. place_of e.0.items l.fn.self.places ≡ Some e.1) l.text-iterator
    × ((texts : List (List ℕ)) → HasTextPlaces texts l.fn.self → AreFirsts texts l.index.entries.items)
