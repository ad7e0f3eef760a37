use Rattle.std.proofs.Common.{◌≡◌, ◌∙◌, sym, subst, length, string_bytes, String, ℕ, arith}
use Rattle.std.specs.declared.alloc.Global.{Global}
use Rattle.std.proofs.lemmas.List.{length-map}
use Rattle.fast_check_finder_lattice.specs.Graph.{entry, IsTree, IsLine}
use Rattle.fast_check_finder_lattice.specs.Names.{path_of}
use Rattle.fast_check_finder_lattice.proofs.Copies.{past_none}
use Rattle.fast_check_finder_lattice.proofs.Lines.{tree_line, line_whole}
use Rattle.fast_check_finder_lattice.proofs.lattice.named_subset.NamedSubset.from_parts.Goals as goal

pub invariant_of-result : goal.invariant_of-result
invariant_of-result c =
    let nodes = c.in_ok-nodes.nodes in
    let p = path_of c.args.parts.now in
    let long : length c.args.parts.now ≡ length p = sym (length-map c.args.parts.now (λ (s : String Global). string_bytes s)) in
    let line = subst (λ (m : ℕ). IsLine p m (entry nodes.items)) long c.in_ok-nodes.ensures.line in
    let size : length p ≡ nodes.len = sym (c.in_ok-nodes.ensures.len ∙ long) in
    record {
      tree = subst (λ (m : ℕ). IsTree (entry nodes.items) m) size (tree_line (entry nodes.items) p line
          (λ k n l. past_none nodes.items k (omega (arith, l, size, nodes.ok.0)) n));
    }

pub returns : goal.returns
returns c =
    let nodes = c.in_ok-nodes.nodes in
    let p = path_of c.args.parts.now in
    let long : length c.args.parts.now ≡ length p = sym (length-map c.args.parts.now (λ (s : String Global). string_bytes s)) in
    let line = subst (λ (m : ℕ). IsLine p m (entry nodes.items)) long c.in_ok-nodes.ensures.line in
    line_whole (entry nodes.items) p line (λ k n l. past_none nodes.items k (omega (arith, l, long, c.in_ok-nodes.ensures.len, nodes.ok.0)) n)
