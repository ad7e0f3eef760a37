use Rattle.std.proofs.Common.{ap, ◌∙◌, false}
use Rattle.fast_check_tree_syntax.specs.declared.tree.Tree.{Tree}
use Rattle.fast_check_transform_classes.proofs.class_nodes.properties.private_method_head.Goals as goal

pub returns : goal.returns
returns c =
    let of = c.of-method.ensures in
    let key = ap (λ (p : Tree × Tree). p.0) c.in_ok-key.ensures ∙ of.key in
    let accessibility = ap (λ (p : Tree × Tree). p.1) c.in_ok-key.ensures ∙ of.accessibility in
    λ i. record {
      span = of.span i;
      key = key i;
      is_static = of.is_static i;
      accessibility = accessibility i;
      is_abstract = of.is_abstract i;
      is_optional = of.is_optional i;
      is_override = false;
      readonly = false;
    }
