-- Hidden edits: two inputs with the same demands, but for the ids of symbols and the positions of declarations.
use Rattle.std.specs.Prelude.{◌≡◌, ◌⊎◌, Bool, List, IsTrue}
use Rattle.std.specs.List.{Contains}
use Rattle.fast_check_tables_packages.specs.Package.{Nv}
use Rattle.fast_check_tables_symbols.specs.declared.symbol_id.SymbolId.{SymbolId}
use Rattle.fast_check_finder_demands.specs.symbol_demands.Demands.{Demand as SymbolDemand}
use Rattle.fast_check_finder_demands.specs.Account.{parts}
use Rattle.fast_check_finder_demands.specs.asked.Demands.{Text, Demand, of_package, of_module, of_symbol, Followers, Follows}
use Rattle.fast_check_finder_demands.specs.facts.GraphFacts.{Known}
use Rattle.fast_check_finder_ranges.specs.findings.Yields.{Yield}
use Rattle.fast_check_finder_loop.specs.Account.{Account, IsAccount, IsYield, Chained}
use Rattle.fast_check_finder_loop.specs.Rules.{followers}
use Rattle.fast_check_finder_loop.specs.Yields.{demand_yields}
use Rattle.fast_check_finder_unique.specs.Settled.{AreSettled}

-- by module, which symbol ids of the second input correspond to one of the first
abbrev pub SymbolRenaming : Type 0
SymbolRenaming = Text → SymbolId → SymbolId → Bool

pub record IsRenamedSymbol (renames : SymbolId → SymbolId → Bool) (d e : SymbolDemand) : Type 0 where
  pub symbol : IsTrue (renames d.symbol e.symbol)
  pub asked : d.asked ≡ e.asked
  pub referrer : IsTrue (renames d.referrer e.referrer)

-- the same demand, but for the ids of symbols
abbrev pub IsRenamed : SymbolRenaming → Demand → Demand → Type 0
IsRenamed renames (of_package p) (of_package q) = p ≡ q
IsRenamed renames (of_package p) (of_module q u e) = ⊥
IsRenamed renames (of_package p) (of_symbol q u e) = ⊥
IsRenamed renames (of_module p t d) (of_package q) = ⊥
IsRenamed renames (of_module p t d) (of_module q u e) = (p ≡ q) × (t ≡ u) × (d ≡ e)
IsRenamed renames (of_module p t d) (of_symbol q u e) = ⊥
IsRenamed renames (of_symbol p t d) (of_package q) = ⊥
IsRenamed renames (of_symbol p t d) (of_module q u e) = ⊥
IsRenamed renames (of_symbol p t d) (of_symbol q u e) = (p ≡ q) × (t ≡ u) × IsRenamedSymbol (renames t) d e

-- nothing follows from the demand, and it yields nothing that the test picks
pub record HasNoEffect {Y : Type 0} (followers : Followers) (demand_yields : Demand → List Y) (picks : Y → Bool) (d : Demand) : Type 0 where
  pub follows : (e : Demand) → Follows followers d e → ⊥
  pub yields : (y : Y) → Contains (demand_yields d) y → IsTrue (picks y) → ⊥

-- An idle demand is one of a symbol that has no effect in any of its namespaces. A class demands each member that it
-- lists, and a second private method of one name is idle.
abbrev pub IsIdle : {Y : Type 0} → Followers → (Demand → List Y) → (Y → Bool) → Demand → Type 0
IsIdle followers demand_yields picks (of_package p) = ⊥
IsIdle followers demand_yields picks (of_module p t d) = ⊥
IsIdle followers demand_yields picks (of_symbol p t d) = (x : SymbolDemand) → (x ≡ d) ⊎ Contains (parts d) x →
    HasNoEffect followers demand_yields picks (of_symbol p t x)

-- Each demand that follows from the packages passed in corresponds to one of the second input: the same demands follow
-- from both, idle ones aside, and what the first yields corresponds, by the test `shows`, to a yield of the second. Code
-- that no demand reaches may differ in any way.
pub record IsHiddenEdit {Y : Type 0} (first second : Followers) (first_yields second_yields : Demand → List Y) (roots : List Nv)
    (renames : SymbolRenaming) (shows : Y → Y → Bool) (picks : Y → Bool) : Type 0 where
  pub follows : (d e f : Demand) → Chained first roots d → IsRenamed renames d f → Follows first d e →
      ((g : Demand) × IsRenamed renames e g × Follows second f g) ⊎ IsIdle first first_yields picks e
  pub yields : (d f : Demand) (y : Y) → Chained first roots d → IsRenamed renames d f → Contains (first_yields d) y →
      IsTrue (picks y) → (z : Y) × IsTrue (shows y z) × Contains (second_yields f) z × IsTrue (picks z)

-- what any account of the first yields, each account of the second yields
abbrev pub ShowsAll : {Y : Type 0} → Followers → Followers → (Demand → List Y) → (Demand → List Y) → List Nv → (Y → Y → Bool) →
    (Y → Bool) → Type 0
ShowsAll {Y} first second first_yields second_yields roots shows picks = (a b : Account) (found_a found_b : List Y) →
    IsAccount first roots a → IsAccount second roots b → IsYield first_yields a found_a → IsYield second_yields b found_b →
    (y : Y) → IsTrue (picks y) → Contains found_a y → (z : Y) × IsTrue (shows y z) × Contains found_b z

-- a hidden edit to a settled input removes nothing from the public API
abbrev pub KeepsApi : Type 0
KeepsApi = (k l : Known) (roots : List Nv) (renames : SymbolRenaming) (shows : Yield → Yield → Bool) (picks : Yield → Bool) →
    IsHiddenEdit (followers k) (followers l) (demand_yields k) (demand_yields l) roots renames shows picks →
    AreSettled (followers l) (demand_yields l) roots picks →
    ShowsAll (followers k) (followers l) (demand_yields k) (demand_yields l) roots shows picks
