use Rattle.std.proofs.Common.{take}
use Rattle.fast_check_tables_packages.specs.Packages.{texts_of}
use Rattle.fast_check_tables_packages.specs.Texts.{HasTextPlaces}
use Rattle.fast_check_tables_packages.proofs.packages.url_index.Given as goal

abbrev pub invariant-loop-place : goal.invariant-loop-place
invariant-loop-place l = HasTextPlaces (texts_of (take l.place l.rows)) l.texts
