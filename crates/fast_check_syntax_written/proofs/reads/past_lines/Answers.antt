use Rattle.fast_check_syntax_written.proofs.Lines.{left_step}
use Rattle.fast_check_syntax_written.proofs.reads.past_lines.Goals as goal

pub loop-c-preserved : goal.loop-c-preserved
loop-c-preserved c = record {
  within = c.in-Some.ensures.within;
  left = left_step c.args.z.now c.args.s.now c.args.at c.loop-c.c-index 0 c.loop-c.end c.in-Some.next c.loop-c-test.true c.loop-c.invariant.left
      c.in-Some.ensures.within c.in-Some.ensures.byte;
}
