use Rattle.std.proofs.Common.{◌≡◌, ◌∙◌, sym, refl, subst, ◌+◌, string_bytes, Some}
use Rattle.std.specs.Prelude.{Vec}
use Rattle.std.specs.declared.alloc.Global.{Global}
use Rattle.fast_check_finder_lattice.specs.declared.lattice.node.Node.{Node}
use Rattle.fast_check_finder_lattice.specs.declared.lattice.node.NodeNo.{NodeNo}
use Rattle.fast_check_finder_lattice.specs.declared.lattice.node.Below.TheVariants.{All}
use Rattle.fast_check_finder_lattice.specs.Graph.{entry, rooted, subset_of, IsTree, IsWritten, IsGraft}
use Rattle.fast_check_finder_lattice.specs.Names.{paths}
use Rattle.fast_check_finder_lattice.proofs.Grafts.{tree_all}
use Rattle.fast_check_finder_lattice.proofs.Puts.{put_all, put_tree, put_keeps, tree_along, rooted_same, subset_along, on_ok_from}
use Rattle.fast_check_finder_lattice.proofs.Puts.{on_err_from, on_ok_both, either_way}
use Rattle.fast_check_finder_lattice.proofs.lattice.calls.put_below.Goals as goal
use Rattle.fast_check_finder_lattice.proofs.Walks.{none_no_subset}

pub returns-in-All-clause-put : goal.returns-in-All-clause-put
returns-in-All-clause-put c = rw c.in-All.is
    (on_ok_from c.put_name.result
    (λ (now : IsWritten (entry c.args.nodes.now.items) c.args.at (string_bytes c.args.name) (Some All) (entry c.put_name.new.nodes.items)).
    put_all (entry c.args.nodes.now.items) (entry c.put_name.new.nodes.items) c.args.nodes.now.len c.args.at (string_bytes c.args.name) now)
    c.put_name.ensures.written)

pub returns-in-All-clause-tree : goal.returns-in-All-clause-tree
returns-in-All-clause-tree c =
    let g = entry c.args.nodes.now.items in
    let w = entry c.put_name.new.nodes.items in
    let name = string_bytes c.args.name in
    either_way c.put_name.result
    (on_ok_from c.put_name.result
    (λ (now : IsWritten g c.args.at name (Some All) w).
    let kept : IsTree w c.args.nodes.now.len = tree_all g w c.args.nodes.now.len c.args.at name c.requires.tree now
    (λ (j : NodeNo) e. none_no_subset j (sym c.requires.free ∙ e)) in
    tree_along c.put_name.new.nodes.items c.put_name.new.nodes.items c.args.nodes.now.len c.put_name.new.nodes.len refl
    c.put_name.ensures.len kept)
    c.put_name.ensures.written)
    (on_err_from c.put_name.result
    (λ (e : c.put_name.new.nodes ≡ c.args.nodes.now). subst (λ (v : Vec Node Global). IsTree (entry v.items) v.len) (sym e) c.requires.tree)
    c.put_name.ensures.err)

pub returns-in_ok-put_root-in-Subset-clause-put : goal.returns-in_ok-put_root-in-Subset-clause-put
returns-in_ok-put_root-in-Subset-clause-put c =
    let root = c.put_root.new.nodes in
    let made = c.in_ok-put_root-in-Subset.ensures in
    rw c.in-Subset.is
    (on_ok_from c.graft.result
    (λ (graft : IsGraft (entry c.args.nodes.now.items) c.args.nodes.now.len c.args.at (string_bytes c.args.name) (entry root.items)
    (entry c.graft.new.nodes.items)).
    put_tree (entry c.args.nodes.now.items) (entry root.items) (entry c.graft.new.nodes.items) c.args.nodes.now.len root.len c.args.at
    (string_bytes c.args.name)
    c.requires.tree made.tree made.some c.requires.within c.requires.free graft (subset_of (paths c.in-Subset.names))
    (subset_along (rooted (entry root.items)) (paths c.in-Subset.names)
    (rooted_same (entry c.in-Subset.names.nodes.items) (entry root.items) made.same)))
    c.graft.ensures.graft)

pub returns-in_ok-put_root-in-Subset-clause-tree :
    goal.returns-in_ok-put_root-in-Subset-clause-tree
returns-in_ok-put_root-in-Subset-clause-tree c =
    let root = c.put_root.new.nodes in
    let made = c.in_ok-put_root-in-Subset.ensures in
    let g = entry c.args.nodes.now.items in
    let w = entry c.graft.new.nodes.items in
    either_way c.graft.result
    (on_ok_both c.graft.result
    (λ (graft : IsGraft g c.args.nodes.now.len c.args.at (string_bytes c.args.name) (entry root.items) w)
    (len : c.graft.new.nodes.len ≡ c.args.nodes.now.len + root.len).
    let kept : IsTree w (c.args.nodes.now.len + root.len) = put_keeps g (entry root.items) w c.args.nodes.now.len root.len c.args.at
    (string_bytes c.args.name)
    c.requires.tree made.tree made.some c.requires.within c.requires.free graft in
    tree_along c.graft.new.nodes.items c.graft.new.nodes.items (c.args.nodes.now.len + root.len) c.graft.new.nodes.len refl len kept)
    c.graft.ensures.graft c.graft.ensures.len)
    (on_err_from c.graft.result
    (λ (e : c.graft.new.nodes ≡ c.args.nodes.now). subst (λ (v : Vec Node Global). IsTree (entry v.items) v.len) (sym e) c.requires.tree)
    c.graft.ensures.err)
