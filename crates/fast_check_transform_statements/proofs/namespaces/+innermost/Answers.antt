use Rattle.std.proofs.Common.{arith, ◌≡◌, true, false, ap, sym, ◌∙◌}
use Rattle.fast_check_tree_syntax.specs.declared.kind.Kind.{Kind}
use Rattle.fast_check_tree_syntax.specs.declared.kind.Kind.TheVariants.{TsNamespaceDecl}
use Rattle.fast_check_tree_syntax.specs.Part.{seen}
use Rattle.fast_check_tree_syntax.specs.Shape.{◌is◌, kind_of}
use Rattle.fast_check_tree_syntax.specs.Height.{height}
use Rattle.fast_check_transform_imports.specs.skeleton.Namespaces.{innermost}
use Rattle.fast_check_transform_imports.proofs.skeleton_proofs.Namespaces.{innermost_block, innermost_inner}
use Rattle.fast_check_transform_statements.proofs.Blocks.{follows_lower}
use Rattle.fast_check_transform_statements.proofs.namespaces.+innermost.Goals as goal

pub innermost-requires : goal.innermost-requires
innermost-requires t c =
    let inner : kind_of (seen c.args.body) is TsNamespaceDecl ≡ true =
    ap (λ (k : Kind). k is TsNamespaceDecl) (sym c.kind.ensures) ∙ (sym c.eq.ensures ∙ c.if-eq.true) in
    (omega (arith, c.decreases, follows_lower (seen c.args.body) inner, ap height c.of.ensures.body), tt)

pub returns-then-eq : goal.returns-then-eq
returns-then-eq t c =
    let inner : kind_of (seen c.args.body) is TsNamespaceDecl ≡ true =
    ap (λ (k : Kind). k is TsNamespaceDecl) (sym c.kind.ensures) ∙ (sym c.eq.ensures ∙ c.if-eq.true) in
    c.innermost.ensures ∙ (ap innermost c.of.ensures.body ∙ sym (innermost_inner (seen c.args.body) inner))

pub returns : goal.returns
returns t c =
    let block : kind_of (seen c.args.body) is TsNamespaceDecl ≡ false =
    ap (λ (k : Kind). k is TsNamespaceDecl) (sym c.kind.ensures) ∙ (sym c.eq.ensures ∙ c.if-eq.false) in
    sym (innermost_block (seen c.args.body) block)
