use Rattle.std.proofs.Common.{rules, arith, ◌≡◌, ◌<◌, ◌≤◌, refl, subst, length, get_or, ℕ}
use Rattle.fast_check_finder_lattice.specs.Order.{Entry}
use Rattle.fast_check_finder_lattice.specs.Graph.{entry, IsForest}
use Rattle.fast_check_finder_lattice.specs.Names.{paths}
use Rattle.fast_check_finder_lattice.proofs.Sorted.{order_places}
use Rattle.fast_check_finder_lattice.proofs.Walks.{forest_of}
use Rattle.fast_check_finder_lattice.proofs.Copies.{past_nothing}
use Rattle.fast_check_finder_lattice.proofs.Listed.{none_yet, listed_none, listed_more, listed_all}
use Rattle.fast_check_finder_lattice.proofs.lattice.named_subset.NamedSubset.into_names.Goals as goal

pub returns-in_default : goal.returns-in_default
returns-in_default c =
    let nodes = c.args.self.nodes.items in
    let none : length c.as_slice-nodes.result.now ≤ 0 = search rules in
    listed_none (paths c.args.self)
    (past_nothing nodes 0 (rw c.as_slice-nodes.ensures.value at none)) c.new-names.result.items c.new-names.ensures.items

pub loop-place-init : goal.loop-place-init
loop-place-init c =
    none_yet (entry c.as_slice-nodes.result.now) c.as_slice-listed.result.now c.new-names.result.items c.new-names.ensures.items

pub bounds-listed-place : goal.bounds-listed-place
bounds-listed-place c =
    let root = c.in-Some.root.now in
    let places = order_places root.names.items root.sorted.items root.order in
    let at : c.loop-place.place-index < length root.sorted.items = rw c.as_slice-place-items.ensures.value at c.loop-place-test.true in
    rw (c.as_slice-place-items.ensures.value, c.as_slice-listed.ensures.value) (places.within c.loop-place.place-index at)

pub copy_below-requires : goal.copy_below-requires
copy_below-requires c =
    let nodes = c.args.self.nodes.items in
    let n : c.args.self.nodes.len ≡ length nodes = omega (arith, c.args.self.nodes.ok.0) in
    let forest : IsForest (entry nodes) (length nodes) =
    subst (λ (m : ℕ). IsForest (entry nodes) m) n (forest_of (entry nodes) c.args.self.nodes.len c.args.self.tree) in
    rw c.as_slice-nodes.ensures.value forest

pub loop-place-preserved : goal.loop-place-preserved
loop-place-preserved c =
    let root = c.in-Some.root.now in
    let es = root.names.items in
    let ks = root.sorted.items in
    let i = c.loop-place.place-index in
    let d : Entry = c.index-listed-place.result in
    let at : i < length ks = rw c.as_slice-place-items.ensures.value at c.loop-place-test.true in
    let places = order_places es ks root.order in
    let this : d ≡ get_or es (get_or ks i 0) d =
    rw (c.as_slice-listed.ensures.value, c.as_slice-place-items.ensures.value) at c.index-listed-place.is in
    rw (c.as_slice-listed.ensures.value, c.as_slice-place-items.ensures.value, c.in_ok-push.ensures.items)
    (listed_more (entry c.as_slice-nodes.result.now) es ks c.loop-place.names.items i (get_or ks i 0) d
    (c.in_ok-clone.field-0, c.in_ok-below.below) at refl (places.within i at) this
    (rw (c.as_slice-listed.ensures.value, c.as_slice-place-items.ensures.value) at c.loop-place.invariant) c.in_ok-clone.ensures.cases
    c.in_ok-below.ensures)

pub returns : goal.returns
returns c =
    let nodes = c.args.self.nodes.items in
    let root = c.in-Some.root.now in
    let within : 0 < length nodes =
    (let w : 0 < length c.as_slice-nodes.result.now = search rules in rw c.as_slice-nodes.ensures.value at w) in
    let is : root ≡ get_or nodes 0 root =
    (let e : root ≡ get_or c.as_slice-nodes.result.now 0 root = search rules in rw c.as_slice-nodes.ensures.value at e) in
    listed_all nodes root root.sorted.items c.loop-place.place-index c.loop-place.names.items within is
    (order_places root.names.items root.sorted.items root.order)
    (rw c.as_slice-place-items.ensures.value at c.loop-place-test.false)
    (rw (c.as_slice-listed.ensures.value, c.as_slice-place-items.ensures.value, c.as_slice-nodes.ensures.value) at c.loop-place.invariant)
