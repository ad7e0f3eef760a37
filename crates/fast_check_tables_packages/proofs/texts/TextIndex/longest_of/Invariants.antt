use Rattle.fast_check_tables_packages.specs.declared.texts.Entry.{Entry}
use Rattle.fast_check_tables_packages.specs.Texts.{IsAscending, AreNoted}
use Rattle.fast_check_tables_packages.proofs.Longest.{IsOnWay}
use Rattle.fast_check_tables_packages.proofs.texts.TextIndex.longest_of.Given as goal

abbrev pub invariant-loop-entry : goal.invariant-loop-entry
invariant-loop-entry l = IsAscending l.self.entries.items → AreNoted l.self.entries.items
    → (e : Entry) × IsOnWay l.text l.self.entries.items l.common l.place e

abbrev pub decreases-loop-entry : goal.decreases-loop-entry
decreases-loop-entry l = l.place
