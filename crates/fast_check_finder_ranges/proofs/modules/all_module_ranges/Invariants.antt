use Rattle.fast_check_finder_ranges.specs.Parts.{is_text, IsAnswerOf}
use Rattle.fast_check_finder_ranges.proofs.Converted.{IsConverted}
use Rattle.fast_check_finder_ranges.proofs.Maps.{text_one, text_total}
use Rattle.fast_check_finder_ranges.proofs.modules.all_module_ranges.Given as goal

abbrev pub invariant-loop-specifier : goal.invariant-loop-specifier
invariant-loop-specifier l = IsConverted text_total is_text text_one IsAnswerOf l.fn.modules.entries l.yielded l.made.entries
