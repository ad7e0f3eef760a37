use Rattle.std.proofs.Common.{arith, ap, ◌∙◌, ◌≡◌, ◌<◌, ◌++◌, length, get_or, set, take, drop, List}
use Rattle.fast_check_finder_lattice.specs.declared.lattice.node.Below.{Below}
use Rattle.fast_check_finder_lattice.specs.Order.{Entry}
use Rattle.fast_check_finder_lattice.specs.Graph.{moved_below}
use Rattle.fast_check_finder_lattice.specs.Numbers.{number, moved_entries}
use Rattle.fast_check_finder_lattice.proofs.Lists.{still, one_more}
use Rattle.fast_check_finder_lattice.proofs.lattice.numbers.renumber_names.Goals as goal

pub loop-i-preserved : goal.loop-i-preserved
loop-i-preserved c =
    let es = c.args.names.now.items in
    let d : Entry = c.index_mut-listed.result.now in
    let i = c.loop-i.i in
    let f : Entry → Entry = λ e. (e.0, moved_below (number c.args.numbers.now) e.1) in
    let within : i < length es = omega (arith, c.args.names.now.ok.0, c.len-i-end.ensures) in
    let is : d ≡ get_or es i d = c.index_mut-listed.ensures.value ∙
    (ap (λ (xs : List Entry). get_or xs i d) c.loop-i.invariant ∙ still f es i d within) in
    let wrote : (let x : Entry = (d.0, c.renumbered-listed.result) in x) ≡ f (get_or es i d) =
    ap (λ (b : Below). let x : Entry = (d.0, b) in x) c.renumbered-listed.ensures ∙ ap f is in
    ap (λ (xs : List Entry). set xs i (d.0, c.renumbered-listed.result)) c.loop-i.invariant ∙
    (ap (λ (x : Entry). set (moved_entries (number c.args.numbers.now) (take i es) ++ drop i es) i x) wrote ∙ one_more f es i d within)
