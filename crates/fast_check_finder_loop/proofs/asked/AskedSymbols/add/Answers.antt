use Rattle.std.proofs.Common.{◌∙◌, sym, true, false}
use Rattle.fast_check_finder_demands.specs.symbol_demands.Demands.{demand_of}
use Rattle.fast_check_finder_loop.proofs.Parts.{adds_single}
use Rattle.fast_check_finder_loop.proofs.asked.AskedSymbols.add.Goals as goal

pub returns-then-branch : goal.returns-then-branch
returns-then-branch c = adds_single (demand_of c.args.demand) true _ _ (sym c.is_both.ensures ∙ c.if-is_both.false)
    (rw c.if-branch.true at c.in_ok-add_one.ensures)

pub returns : goal.returns
returns c = adds_single (demand_of c.args.demand) false _ _ (sym c.is_both.ensures ∙ c.if-is_both.false)
    (rw c.if-branch.false at c.in_ok-add_one.ensures)
