use Rattle.std.proofs.Common.{take}
use Rattle.fast_check_tables_packages.specs.Members.{bases_of}
use Rattle.fast_check_tables_packages.specs.Texts.{HasTextPlaces}
use Rattle.fast_check_tables_packages.proofs.members.base_index.Given as goal

abbrev pub invariant-loop-place : goal.invariant-loop-place
invariant-loop-place l = HasTextPlaces (bases_of (take l.place l.members)) l.texts
