use Rattle.std.proofs.Common.{arith, ◌≡◌, true, false, ap, sym, ◌∙◌}
use Rattle.std.proofs.lemmas.Result.{IfOk-weaker}
use Rattle.fast_check_tree_syntax.specs.declared.kind.Kind.{Kind}
use Rattle.fast_check_tree_syntax.specs.declared.kind.Kind.TheVariants.{TsNamespaceDecl}
use Rattle.fast_check_tree_syntax.specs.Part.{seen}
use Rattle.fast_check_tree_syntax.specs.Shape.{◌is◌, kind_of}
use Rattle.fast_check_tree_syntax.specs.Height.{height}
use Rattle.fast_check_tree_forms_statements.specs.TsDeclarations.{ts_module_block}
use Rattle.fast_check_transform_imports.specs.skeleton.Namespaces.{inner_namespace, body_with}
use Rattle.fast_check_transform_statements.proofs.Blocks.{follows_lower, inner_made, block_made}
use Rattle.fast_check_transform_statements.proofs.namespaces.+body_with.Goals as goal

pub body_with-requires : goal.body_with-requires
body_with-requires t c =
    let inner : kind_of (seen c.args.body) is TsNamespaceDecl ≡ true =
    ap (λ (k : Kind). k is TsNamespaceDecl) (sym c.kind.ensures) ∙ (sym c.eq.ensures ∙ c.if-eq.true) in
    (omega (arith, c.decreases, follows_lower (seen c.args.body) inner, ap height c.of-form.ensures.body), tt)

pub returns-then-eq : goal.returns-then-eq
returns-then-eq t c =
    let f = c.of-form.ensures in
    let inner : kind_of (seen c.args.body) is TsNamespaceDecl ≡ true =
    ap (λ (k : Kind). k is TsNamespaceDecl) (sym c.kind.ensures) ∙ (sym c.eq.ensures ∙ c.if-eq.true) in
    IfOk-weaker c.inner_namespace.result _ _ (λ tree e. e ∙ ((λ i. inner_namespace (f.span i) (f.declare i) (f.global i)
    ((c.in_ok-to_tree.ensures ∙ f.id) i) ((c.in_ok-body.ensures ∙ ap (body_with c.args.items) f.body) i))
    ∙ sym (inner_made c.args.items (seen c.args.body) inner))) c.inner_namespace.ensures

pub returns : goal.returns
returns t c =
    let block : kind_of (seen c.args.body) is TsNamespaceDecl ≡ false =
    ap (λ (k : Kind). k is TsNamespaceDecl) (sym c.kind.ensures) ∙ (sym c.eq.ensures ∙ c.if-eq.false) in
    IfOk-weaker c.into_tree.result _ _ (λ tree e. e ∙ ((λ i. ts_module_block (c.of.ensures.span i) (c.list.ensures i))
    ∙ sym (block_made c.args.items (seen c.args.body) block))) c.into_tree.ensures
