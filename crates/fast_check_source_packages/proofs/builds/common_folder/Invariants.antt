-- The folder is a text at each turn.
use denote.Text.{Utf8}
use denote.Shadow.{shadow}
use Rattle.fast_check_source_packages.proofs.builds.common_folder.Given as goal

abbrev pub invariant-loop-source : goal.invariant-loop-source
invariant-loop-source l =
    (goal.iterator-loop-source).can_next l.source-iterator ×
    (goal.iterator-loop-source).is_finite l.source-iterator ×
    shadow (Utf8 l.common)
