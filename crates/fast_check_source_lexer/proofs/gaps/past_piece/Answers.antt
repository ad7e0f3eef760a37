use Rattle.std.proofs.Common.{sym, ◌∙◌}
use Rattle.fast_check_source_lexer.proofs.Pieces.{block_alone}
use Rattle.fast_check_source_lexer.proofs.gaps.past_piece.Goals as goal

-- A comment that is not closed is none.
pub returns-in-None-clause-whole : goal.returns-in-None-clause-whole
returns-in-None-clause-whole c _ b lt piece =
    c.in-None.ensures.whole (search) b (block_alone c.args.z.now c.args.at b (sym c.byte.ensures.value ∙ c.in-47.is) (sym c.byte-in-47.ensures.value ∙ c.in-42.is) lt piece)
