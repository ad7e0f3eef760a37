use Rattle.std.proofs.Common.{ap, ◌∙◌, ◌∷◌, []}
use Rattle.fast_check_tree_syntax.specs.Part.{seen}
use Rattle.fast_check_tree_syntax.specs.Shape.{node}
use Rattle.fast_check_tree_syntax.specs.declared.kind.Kind.TheVariants.{ClassExpr}
use Rattle.fast_check_transform_imports.specs.module_facts.ModuleFacts.{facts_of}
use Rattle.fast_check_transform_statements.proofs.transform_declarations.DefaultCases.{made_class}
use Rattle.fast_check_meaning_signatures.proofs.Adding.{some_of}
use Rattle.fast_check_transform_statements.proofs.transform_declarations.defaults.transform_class_decl.Goals as goal

pub returns : goal.returns
returns c =
    some_of c.into_tree.result c.into_tree.ensures
    (made_class (facts_of c.args.facts) (seen c.args.decl) c.in_ok-transform_class.ensures c.of.ensures.class)
    (ap (λ ident. node ClassExpr (ident ∷ c.in_ok-transform_class.field-0 ∷ [])) (c.in_ok-to_tree.ensures ∙ c.of.ensures.ident))
