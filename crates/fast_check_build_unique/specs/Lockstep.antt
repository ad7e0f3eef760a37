-- Two inputs in lockstep: each demand of one corresponds to a demand of the other.
use Rattle.std.specs.Prelude.{Bool, true, List}
use Rattle.fast_check_tree_syntax.specs.Moves.{IsRenaming}
use Rattle.fast_check_tables_packages.specs.Package.{Nv}
use Rattle.fast_check_finder_demands.specs.asked.Demands.{Text}
use Rattle.fast_check_finder_ranges.specs.findings.Yields.{Yield}
use Rattle.fast_check_finder_loop.specs.demands.facts.GraphFacts.{Known}
use Rattle.fast_check_finder_loop.specs.Rules.{followers}
use Rattle.fast_check_finder_loop.specs.Yields.{demand_yields}
use Rattle.fast_check_finder_unique.specs.Edits.{SymbolRenaming, IsHiddenEdit}
use Rattle.fast_check_finder_unique.specs.Settled.{AreSettled}
use Rattle.fast_check_build_unique.specs.Moved.{Renamings, corresponds}

-- every yield counts
abbrev pub every : Yield → Bool
every y = true

-- from each input to the other
pub record AreInLockstep (k l : Known) (roots : List Nv) (renames : SymbolRenaming) (moves : Renamings) : Type 0 where
  pub forth : IsHiddenEdit (followers k) (followers l) (demand_yields k) (demand_yields l) roots renames
      (corresponds moves) every
  pub back : IsHiddenEdit (followers l) (followers k) (demand_yields l) (demand_yields k) roots
      (λ t a b. renames t b a) (λ y z. corresponds moves z y) every
  pub renaming : (t : Text) → IsRenaming (moves t)

-- all yields of both are settled
pub record AreBothSettled (k l : Known) (roots : List Nv) : Type 0 where
  pub first : AreSettled (followers k) (demand_yields k) roots every
  pub second : AreSettled (followers l) (demand_yields l) roots every
