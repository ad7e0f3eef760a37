use Rattle.std.proofs.Common.{sym, ap, ◌∙◌, length, cond, string_bytes, Some, None}
use Rattle.std.specs.Str.{bytes_eq}
use Rattle.fast_check_finder_lattice.specs.declared.lattice.node.Below.{Below}
use Rattle.fast_check_finder_lattice.specs.Order.{Name}
use Rattle.fast_check_finder_lattice.specs.Graph.{entry}
use Rattle.fast_check_finder_lattice.proofs.Extends.{found_alone, joint_down}
use Rattle.fast_check_finder_lattice.proofs.lattice.extends.next_joint.Goals as goal

pub returns : goal.returns
returns c =
    let g = entry c.args.nodes.now in
    let listed = c.in_ok-name.field-0.now in
    let name = string_bytes listed.0 in
    let found = c.in-Some-Subset in
    joint_down g (length c.args.nodes.now) c.args.at (entry c.args.others.now) c.args.other name found.no c.in-Subset.next c.requires
    (ap (λ (n : Name). g c.args.at n) (sym c.as_str.ensures.value) ∙ (sym found.ensures ∙ ap (λ (b : Below). Some b) found.field-0-is))
    (λ n. found_alone _ listed c.in_ok-name.ensures n ∙ ap (λ (b : Below). cond (bytes_eq name n) (Some b) None) c.in-Subset.is)
