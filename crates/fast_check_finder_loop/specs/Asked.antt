-- Inner: no contract of a public call cites what stands here.
-- The demands of a module's symbols that were asked for.
use Rattle.std.specs.Prelude.{◌≡◌, Bool, true, false, List, Option, Some, None, ◌⊎◌}
use Rattle.std.specs.List.{list_any, Contains}
use Rattle.fast_check_finder_lattice.specs.Names.{path_of}
use Rattle.fast_check_tables_symbols.specs.declared.symbol_id.SymbolId.{SymbolId}
use Rattle.fast_check_finder_demands.specs.symbol_demands.Demands.{Demand, Asked, by_reference, as_child, by_path}
use Rattle.fast_check_finder_demands.specs.Account.{essence, parts}
pub use Rattle.fast_check_finder_loop.specs.Account.{covers}
use Rattle.fast_check_finder_loop.specs.declared.asked.AskedAs.{AskedAs}
use Rattle.fast_check_finder_loop.specs.declared.asked.AskedAs.TheVariants as kinds
use Rattle.fast_check_finder_loop.specs.declared.asked.AskedSymbol.{AskedSymbol}

-- the demand that a key stands for

abbrev pub asked_at : AskedAs → Asked
asked_at (kinds.Reference n) = by_reference n
asked_at (kinds.Child n) = as_child n
asked_at (kinds.Path names x referrer) = by_path (path_of names.names.now) x

abbrev pub asker_at : AskedAs → SymbolId → SymbolId
asker_at (kinds.Reference n) symbol = symbol
asker_at (kinds.Child n) symbol = symbol
asker_at (kinds.Path names x referrer) symbol = referrer

abbrev pub demand_at : AskedSymbol → Demand
demand_at k = record { symbol = k.symbol; asked = asked_at k.asked; referrer = asker_at k.asked k.symbol }

-- one demand more was asked for
pub record IsOneMore (d : Demand) (old new : List Demand) : Type 0 where
  pub was : list_any (covers d) old ≡ false
  pub here : Contains new (essence d)
  pub kept : (e : Demand) → Contains old e → Contains new e
  pub only : (e : Demand) → Contains new e → Contains old e ⊎ (e ≡ essence d)

abbrev pub AddsSymbol : Demand → Bool → List Demand → List Demand → Type 0
AddsSymbol d true old new = IsOneMore d old new
AddsSymbol d false old new = (list_any (covers d) old ≡ true) × (new ≡ old)

-- of a demand that is asked for, e is all that was not asked for before
pub record IsNew (d e : Demand) (old new : List Demand) : Type 0 where
  pub within : (e ≡ d) ⊎ Contains (parts d) e
  pub was : (x : Demand) → Contains (parts e) x → list_any (covers x) old ≡ false
  pub now : (x : Demand) → Contains (parts d) x → list_any (covers x) new ≡ true
  pub kept : (x : Demand) → Contains old x → Contains new x
  pub only : (x : Demand) → Contains new x → Contains old x ⊎ ((y : Demand) × Contains (parts e) y × (x ≡ essence y))

abbrev pub AddsDemand : Demand → Option Demand → List Demand → List Demand → Type 0
AddsDemand d None old new = ((x : Demand) → Contains (parts d) x → list_any (covers x) old ≡ true) × (new ≡ old)
AddsDemand d (Some e) old new = IsNew d e old new
