use Rattle.std.proofs.Common.{◌≡◌, ◌∙◌, ap, sym, cond, Some, None, [], ◌∷◌, string_bytes, arith}
use Rattle.std.specs.Str.{bytes_eq}
use Rattle.fast_check_finder_lattice.specs.declared.lattice.node.Below.{Below}
use Rattle.fast_check_finder_lattice.specs.declared.lattice.node.Below.TheVariants.{All}
use Rattle.fast_check_finder_lattice.specs.Order.{Name}
use Rattle.fast_check_finder_lattice.specs.Graph.{entry, IsPut}
use Rattle.fast_check_finder_lattice.specs.Names.{whole_below, paths_below, IsAdded}
use Rattle.fast_check_finder_lattice.proofs.Puts.{on_ok_from}
use Rattle.fast_check_finder_lattice.proofs.Extends.{root_gains, covered_joint, put_joint, found_alone}
use Rattle.fast_check_finder_lattice.proofs.lattice.named_subset.NamedSubset.join.Goals as goal

pub returns-in-Some-Subset-All-clause-joined : goal.returns-in-Some-Subset-All-clause-joined
returns-in-Some-Subset-All-clause-joined c =
    let g = entry c.args.self.now.nodes.items in
    let h = entry c.args.more.now.nodes.items in
    let w = entry c.cover.new.nodes.items in
    let at = c.in-Some.at in
    let other = c.in-Some.other in
    let listed = c.in-Some-alone.listed.now in
    let joint = rw (c.as_slice-old.ensures.value, c.as_slice-more_nodes.ensures.value) at c.in-Some.ensures in
    let only = rw c.as_slice-more_nodes.ensures.value at c.in-Some-alone.ensures in
    let name = c.as_str-in-Some-Subset-All.result.now in
    let alone : (n : Name) → h other n ≡ cond (bytes_eq name n) (Some All) None =
    λ n. found_alone _ listed only n ∙ (ap (λ (m : Name). cond (bytes_eq m n) (Some listed.1) None) (sym c.as_str-in-Some-Subset-All.ensures.value) ∙
    ap (λ (b : Below). cond (bytes_eq name n) (Some b) None) c.in-Some-Subset-All.is-1) in
    on_ok_from c.cover.result
    (λ (added : IsAdded g at (whole_below (name ∷ [])) w). root_gains g h w
    (joint.enough w (covered_joint g h w at other name alone added)))
    c.cover.ensures.added

pub returns-in_ok-clone-in-None-default-clause-joined : goal.returns-in_ok-clone-in-None-default-clause-joined
returns-in_ok-clone-in-None-default-clause-joined c =
    let self = c.args.self.now in
    let g = entry self.nodes.items in
    let h = entry c.args.more.now.nodes.items in
    let w = entry c.put_below.new.nodes.items in
    let at = c.in-Some.at in
    let other = c.in-Some.other in
    let listed = c.in-Some-alone.listed.now in
    let name = string_bytes c.in_ok-clone-in-None-default.field-0 in
    let below = c.in_ok-below-in-None-default.below in
    let joint = rw (c.as_slice-old.ensures.value, c.as_slice-more_nodes.ensures.value) at c.in-Some.ensures in
    let only = rw c.as_slice-more_nodes.ensures.value at c.in-Some-alone.ensures in
    let alone : (n : Name) → h other n ≡ cond (bytes_eq name n) (Some listed.1) None =
    λ n. found_alone _ listed only n ∙
    ap (λ (m : Name). cond (bytes_eq m n) (Some listed.1) None) (sym c.in_ok-clone-in-None-default.ensures.cases) in
    on_ok_from c.put_below.result
    (λ (put : IsPut g self.nodes.len at name (paths_below below) w). root_gains g h w
    (joint.enough w (put_joint g h w self.nodes.len at other name listed.1 (paths_below below) self.tree
    (omega (arith, joint.within, self.nodes.ok.0)) alone (rw c.as_slice-more_nodes.ensures.value at c.in_ok-below-in-None-default.ensures) put)))
    c.put_below.ensures.put
