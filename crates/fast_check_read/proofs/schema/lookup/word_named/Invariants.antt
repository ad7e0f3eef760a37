use Rattle.std.proofs.Common.{◌≡◌, drop, map}
use Rattle.fast_check_read.specs.schema.Lookup.{word_by_text}
use Rattle.fast_check_read.specs.schema.Rows.{word_row}
use Rattle.fast_check_read.proofs.schema.lookup.word_named.Given as goal

-- no word so far has the text
abbrev pub invariant-loop-named : goal.invariant-loop-named
invariant-loop-named l =
    word_by_text l.text (map word_row l.named-items) ≡ word_by_text l.text (map word_row (drop l.named-index l.named-items))
