use Rattle.std.proofs.Common.{arith, ◌<◌, ◌∷◌}
use Rattle.fast_check_source_lexer.proofs.Pieces.{end_alone, lines_kept, lines_joined}
use Rattle.fast_check_source_lexer.proofs.gaps.past_gap.Goals as goal

-- The piece joins the pieces before it.
pub loop-end-preserved-then-newline : goal.loop-end-preserved-then-newline
loop-end-preserved-then-newline c =
    let lt : c.loop-end.end < c.past_piece-piece.result.end = omega (arith, c.if-piece-end.false) in (
      omega arith,
      omega arith,
      (c.loop-end.end ∷ c.loop-end.invariant.2.0, (c.loop-end.invariant.2.1, lt, c.past_piece-piece.ensures.piece lt)),
      lines_kept c.args.z.now c.args.at c.loop-end.end _ c.loop-end.newline (omega arith) c.loop-end.invariant.3 c.if-newline.true,
    )

pub loop-end-preserved : goal.loop-end-preserved
loop-end-preserved c =
    let lt : c.loop-end.end < c.past_piece-piece.result.end = omega (arith, c.if-piece-end.false) in (
      omega arith,
      omega arith,
      (c.loop-end.end ∷ c.loop-end.invariant.2.0, (c.loop-end.invariant.2.1, lt, c.past_piece-piece.ensures.piece lt)),
      lines_joined c.args.z.now c.args.at c.loop-end.end _ c.loop-end.newline _ (omega arith) c.loop-end.invariant.3 c.past_piece-piece.ensures.lines
          (λ t. cc),
    )

pub returns-then-piece-end-clause-whole : goal.returns-then-piece-end-clause-whole
returns-then-piece-end-clause-whole c b lt piece = c.past_piece-piece.ensures.whole c.if-piece-end.true b lt piece

pub returns-after-loop-end-clause-whole : goal.returns-after-loop-end-clause-whole
returns-after-loop-end-clause-whole c b lt piece = end_alone c.args.z.now c.loop-end.end b (omega arith) lt piece
