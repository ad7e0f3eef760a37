use Rattle.std.proofs.Common.{◌∙◌, ◌&&◌, sym, ap}
use Rattle.fast_check_finder_lattice.specs.Equality.{is_within}
use Rattle.fast_check_finder_lattice.specs.EqualityProof.{same_decides}
use Rattle.fast_check_finder_lattice.proofs.Alike.{within_value}
use Rattle.fast_check_finder_lattice.proofs.lattice.equality.NamedSubsetPartialEq.eq.Goals as goal

pub returns-then-is_within-clause-value : goal.returns-then-is_within-clause-value
returns-then-is_within-clause-value c =
    let s = c.args.self.now in
    let t = c.args.other.now in
    let first = within_value s t c.is_within.result (rw (c.as_slice-nodes.ensures.value, c.as_slice-others.ensures.value) at c.is_within.ensures) in
    let second = within_value t s c.is_within-then-is_within.result (rw (c.as_slice-nodes.ensures.value, c.as_slice-others.ensures.value) at c.is_within-then-is_within.ensures) in
    second ∙ sym (ap (λ b. b && is_within t s) (sym first ∙ c.if-is_within.true))

pub returns-else-is_within-clause-value : goal.returns-else-is_within-clause-value
returns-else-is_within-clause-value c =
    let s = c.args.self.now in
    let t = c.args.other.now in
    let first = within_value s t c.is_within.result (rw (c.as_slice-nodes.ensures.value, c.as_slice-others.ensures.value) at c.is_within.ensures) in
    c.if-is_within.false ∙ sym (ap (λ b. b && is_within t s) (sym first ∙ c.if-is_within.false))

pub returns-then-is_within-clause-same : goal.returns-then-is_within-clause-same
returns-then-is_within-clause-same c = rw (returns-then-is_within-clause-value c) (same_decides c.args.self.now c.args.other.now)

pub returns-else-is_within-clause-same : goal.returns-else-is_within-clause-same
returns-else-is_within-clause-same c = rw (returns-else-is_within-clause-value c) (same_decides c.args.self.now c.args.other.now)
