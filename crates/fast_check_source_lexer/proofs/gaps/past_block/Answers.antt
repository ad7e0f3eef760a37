use Rattle.std.proofs.Common.{arith, ◌≡◌, ◌≢◌, ◌≤◌, ◌<◌, ◌+◌, ◌↔◌, ℕ, IsTrue, get_or, subst, true}
use Rattle.std.proofs.lemmas.Grind.{common_steps}
use Rattle.fast_check_source_lexer.specs.Gaps.{IsLineEnd, HoldsLineEnd}
use Rattle.fast_check_source_lexer.proofs.Pieces.{lines_one, lines_kept, lines_joined}
use Rattle.fast_check_source_lexer.proofs.gaps.past_block.Goals as goal
use Rattle.fast_check_source_lexer.proofs.gaps.past_block.Goals.{then-newline, else-newline}

-- The next byte ends no comment, and may end a line.
pub loop-end-preserved : goal.loop-end-preserved
loop-end-preserved c =
    let open_still : (k : ℕ) → c.args.at + 2 ≤ k → k < c.loop-end.end + 1 → get_or c.args.z.now k 0 ≡ 42 → get_or c.args.z.now (k + 1) 0 ≢ 47 =
    grind (arith, common_steps) in
    let lines : IsTrue c.if-newline.newline ↔ HoldsLineEnd c.args.z.now c.args.at (c.loop-end.end + 1) =
    elim c.if-newline.branch [
      | then-newline w ↦
          let e : c.loop-end.newline ≡ c.if-newline.newline = cc in
          let before : IsTrue c.if-newline.newline ↔ HoldsLineEnd c.args.z.now c.args.at c.loop-end.end =
          subst (λ n. IsTrue n ↔ HoldsLineEnd c.args.z.now c.args.at c.loop-end.end) e c.loop-end.invariant.3 in
          let on : c.if-newline.newline ≡ true = cc in
          lines_kept c.args.z.now c.args.at c.loop-end.end _ c.if-newline.newline (omega arith) before on
      | else-newline w ↦
          let e : w.is_line_end-newline.result ≡ c.if-newline.newline = cc in
          let here : IsTrue c.if-newline.newline ↔ IsLineEnd c.args.z.now c.loop-end.end =
          subst (λ n. IsTrue n ↔ IsLineEnd c.args.z.now c.loop-end.end) e w.is_line_end-newline.ensures in
          lines_joined c.args.z.now c.args.at c.loop-end.end _ c.loop-end.newline c.if-newline.newline (omega arith) c.loop-end.invariant.3
          (lines_one c.args.z.now c.loop-end.end c.if-newline.newline here) (λ t. cc)
    ] in
    (omega arith, omega arith, open_still, lines)
