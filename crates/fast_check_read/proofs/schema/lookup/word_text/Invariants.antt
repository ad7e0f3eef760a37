use Rattle.std.proofs.Common.{◌≡◌, drop, map}
use Rattle.fast_check_read.specs.schema.Lookup.{row_of_word}
use Rattle.fast_check_read.specs.schema.Rows.{word_row}
use Rattle.fast_check_read.proofs.schema.lookup.word_text.Given as goal

-- no row so far is the word's
abbrev pub invariant-loop-named : goal.invariant-loop-named
invariant-loop-named l =
    row_of_word l.word (map word_row l.named-items) ≡ row_of_word l.word (map word_row (drop l.named-index l.named-items))
