use Rattle.std.proofs.Common.{ap, ◌∙◌, sym, refl, ◌++◌, List}
use Rattle.std.proofs.lemmas.Result.{IfOk-weaker}
use Rattle.fast_check_tree_syntax.specs.declared.tree.Tree.{Tree}
use Rattle.fast_check_tree_syntax.specs.Part.{seen}
use Rattle.fast_check_tree_syntax.specs.Shape.{parts}
use Rattle.fast_check_transform_classes.proofs.MembersKept.{unchanged, declares_none, declares_at_fault, declares_params}
use Rattle.fast_check_transform_classes.proofs.members.declare_by_params.Goals as goal

pub returns-then-not-is_constructor : goal.returns-then-not-is_constructor
returns-then-not-is_constructor c =
    unchanged c.args.unresolved (seen c.args.member)
    (declares_none c.args.unresolved (seen c.args.member)
    (sym c.is_constructor.ensures ∙ c.if-not-is_constructor.true)) refl c.args.items.now

pub returns-in-Some : goal.returns-in-Some
returns-in-Some c =
    unchanged c.args.unresolved (seen c.args.member)
    (declares_at_fault c.args.unresolved (seen c.args.member) (sym c.is_constructor.ensures ∙ c.if-not-is_constructor.false)
    c.parts-params.result.now (c.parts-params.ensures ∙ ap parts c.of.ensures.params) c.in-Some.field-0
    (sym c.pattern_among.ensures ∙ c.in-Some.is)) refl
    c.args.items.now

pub returns-in-None : goal.returns-in-None
returns-in-None c =
    let none = declares_params c.args.unresolved (seen c.args.member) (sym c.is_constructor.ensures ∙ c.if-not-is_constructor.false)
    c.parts-params.result.now (c.parts-params.ensures ∙ ap parts c.of.ensures.params) (sym c.pattern_among.ensures ∙ c.in-None.is) in
    IfOk-weaker c.declare_params.result _ _ (λ x e. e ∙ ap (λ (ds : List Tree). c.args.items.now ++ ds) (sym none)) c.declare_params.ensures
