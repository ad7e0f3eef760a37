use Rattle.std.proofs.Common.{refl, ap, sym, ◌∙◌, Some}
use Rattle.fast_check_tree_forms_expressions.specs.Expressions.{fn_expr}
use Rattle.fast_check_tree_syntax.specs.Part.{seen}
use Rattle.fast_check_meaning_signatures.specs.Answers.{Adds, answer_to}
use Rattle.fast_check_transform_imports.specs.skeleton.Defaults.{default_signature}
use Rattle.fast_check_transform_imports.specs.module_facts.ModuleFacts.{facts_of}
use Rattle.fast_check_transform_statements.proofs.transform_declarations.DefaultCases.{implementation, signature, ambient_function, made_function}
use Rattle.fast_check_meaning_signatures.proofs.Adding.{some_of}
use Rattle.fast_check_transform_statements.proofs.Joined.{adds_joined_way}
use Rattle.fast_check_transform_statements.proofs.transform_declarations.defaults.transform_default_function.Goals as goal
use Rattle.fast_check_transform_statements.proofs.transform_declarations.defaults.transform_default_function.Goals.{then-is_impl_with_overloads+in_ok-function}
use Rattle.fast_check_transform_statements.proofs.transform_declarations.defaults.transform_default_function.Goals.{else-is_impl_with_overloads+in_ok-function-2}

pub returns-then-facts : goal.returns-then-facts
returns-then-facts c =
    some_of c.to_tree.result c.to_tree.ensures
    (ambient_function (facts_of c.args.facts) c.args.place (seen c.args.decl) c.if-facts.true c.args.faults.now.items) refl

pub returns : goal.returns
returns c =
    let facts = facts_of c.args.facts in
    let place = c.args.place in
    let decl = seen c.args.decl in
    let function = c.if-is_impl_with_overloads.function in
    let signed : Adds (answer_to (default_signature facts place decl)) (Some function) c.args.faults.now.items
    c.if-is_impl_with_overloads.faults.items =
    elim c.if-is_impl_with_overloads.branch [
      | then-is_impl_with_overloads+in_ok-function w ↦
          adds_joined_way w.function-is (ap (λ v. v.items) w.faults-is)
          (implementation facts place decl (sym c.is_impl_with_overloads.ensures ∙ w.if-is_impl_with_overloads.true) c.of.ensures.function
          w.in_ok-function.ensures c.args.faults.now.items)
      | else-is_impl_with_overloads+in_ok-function-2 w ↦
          adds_joined_way w.function-is (ap (λ v. v.items) w.faults-is)
          (signature facts place decl (sym c.is_impl_with_overloads.ensures ∙ w.if-is_impl_with_overloads.false)
          w.in_ok-function-2.ensures w.default_place-name.ensures c.of.ensures.function)
    ] in
    some_of c.into_tree.result c.into_tree.ensures (made_function facts place decl c.if-facts.false signed)
    (ap (λ ident. fn_expr ident function) (c.in_ok-to_tree.ensures ∙ c.of.ensures.ident))
