use Rattle.std.proofs.Common.{rules, arith, ◌≡◌, ◌∙◌, ◌<◌, ap, sym, cond, length, get_or, string_bytes, Some, None, String, [], subst, ℕ}
use Rattle.std.specs.declared.alloc.Global.{Global}
use Rattle.std.specs.Str.{bytes_eq}
use Rattle.std.proofs.lemmas.List.{length-map, get_or-map}
use Rattle.fast_check_finder_lattice.specs.Graph.{entry, link_at, IsLine}
use Rattle.fast_check_finder_lattice.specs.Order.{Name}
use Rattle.fast_check_finder_lattice.specs.Names.{path_of}
use Rattle.fast_check_finder_lattice.proofs.Lines.{line_more}
use Rattle.fast_check_finder_lattice.proofs.lattice.path.nodes_of.Goals as goal

pub loop-place-preserved : goal.loop-place-preserved
loop-place-preserved c =
    let parts = c.args.parts.now in
    let p = path_of parts in
    let i = c.loop-place.place in
    let f : String Global → Name = λ s. string_bytes s in
    let within : i < length parts = search rules in
    let name : string_bytes c.index-parts-place.result ≡ get_or p i [] = ap f c.index-parts-place.is ∙
    sym (get_or-map f parts i c.index-parts-place.result [] within) in
    rw c.in_ok-push.ensures.items
    (line_more p c.loop-place.nodes.items i c.in_ok-node_of_name.field-0 c.loop-place.invariant
    (λ n. c.in_ok-node_of_name.ensures n ∙ (ap (λ m. cond (bytes_eq m n) (Some c.below_place-below.result) None) name ∙
    (ap (λ b. cond (bytes_eq (get_or p i []) n) (Some b) None) c.below_place-below.ensures ∙
    ap (λ m. cond (bytes_eq (get_or p i []) n) (Some (link_at m i)) None) (sym (length-map parts f))))))

pub returns-clause-line : goal.returns-clause-line
returns-clause-line c =
    let end : c.loop-place.place ≡ length c.args.parts.now = omega (arith, c.loop-place-test.false, c.loop-place.auto.place-end) in
    subst (λ (m : ℕ). IsLine (path_of c.args.parts.now) m (entry c.loop-place.nodes.items)) end c.loop-place.invariant.1
