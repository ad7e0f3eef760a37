use Rattle.std.proofs.Common.{◌++◌, drop, map}
use Rattle.fast_check_transform_expressions.specs.nodes.Bindings.{names_of}
use Rattle.fast_check_tree_syntax.specs.Part.{seen}
use Rattle.fast_check_tables_modules.specs.diagnostics.PublicRanges.{is_implementation}
use Rattle.fast_check_meaning_signatures.specs.Answers.{made}
use Rattle.fast_check_transform_expressions.proofs.Behind.{Behind}
use Rattle.fast_check_transform_classes.specs.Parts.{kept_answer}
use Rattle.fast_check_transform_classes.proofs.members.transform_kept.Given as goal

abbrev pub invariant-loop-member : goal.invariant-loop-member
invariant-loop-member l =
    Behind (λ ts. l.items ++ ts)
    (made (λ ts. l.initial.items ++ ts) (kept_answer (names_of l.bindings) (is_implementation l.public_ranges) (map seen l.kept)))
    (kept_answer (names_of l.bindings) (is_implementation l.public_ranges)
    (map seen (drop l.member-index l.kept))) l.initial.faults.items l.faults.items
