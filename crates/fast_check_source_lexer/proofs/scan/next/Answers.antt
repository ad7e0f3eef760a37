use Rattle.std.proofs.Common.{arith, rules}
use Rattle.fast_check_source_lexer.proofs.scan.next.Goals as goal

-- Behind the last gap the text has ended.
pub returns-then-start-z : goal.returns-then-start-z
returns-then-start-z c = record {
  gap = c.past_gap-gap.ensures.gap;
  whole = c.past_gap-gap.ensures.whole;
  lines = c.past_gap-gap.ensures.lines;
  begins = omega arith;
  ends = omega arith;
  within = omega arith;
  takes = search rules;
  last = λ _. omega arith;
}

pub returns : goal.returns
returns c = record {
  gap = c.past_gap-gap.ensures.gap;
  whole = c.past_gap-gap.ensures.whole;
  lines = c.past_gap-gap.ensures.lines;
  begins = omega arith;
  ends = omega arith;
  within = omega arith;
  takes = λ _. c.cut-kind.ensures.within.0;
  last = λ e. absurd (c.cut-kind.ensures.kind e);
}
