use Rattle.std.proofs.Common.{arith, ◌≡◌, ◌∙◌, ap, length, vec_len}
use Rattle.fast_check_finder_lattice.specs.Pairs.{numbered}
use Rattle.fast_check_finder_lattice.proofs.lattice.joins.push_both.Goals as goal

pub returns : goal.returns
returns c =
    let long : vec_len c.args.queue.now ≡ length c.args.queue.now.items = omega (arith, c.args.queue.now.ok.0) in
    record {
      last = (c.in_ok-clone.field-0, c.in_ok-below.below);
      listed = c.in_ok-push.ensures.items;
      name_is = c.in_ok-clone.ensures.cases;
      below_is = c.in_ok-below.ensures.below ∙ ap (λ k. numbered k c.args.both) long;
      queued = c.in_ok-below.ensures.queue;
    }
