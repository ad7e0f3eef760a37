use Rattle.std.proofs.Common.{ap, sym, ◌∙◌, Some}
use Rattle.fast_check_tree_forms_programs.specs.Names.{Ident-span}
use Rattle.fast_check_tree_forms_statements.specs.Declarations.{fn_decl}
use Rattle.fast_check_tree_syntax.specs.Part.{seen}
use Rattle.fast_check_meaning_signatures.specs.Answers.{Adds, answer_to}
use Rattle.fast_check_transform_imports.specs.skeleton.Visible.{signature_of}
use Rattle.fast_check_transform_imports.specs.module_facts.ModuleFacts.{facts_of}
use Rattle.fast_check_transform_statements.proofs.Declared.{implementation, signature, ambient_function, made_function}
use Rattle.fast_check_transform_statements.proofs.Joined.{adds_joined_way}
use Rattle.fast_check_transform_statements.proofs.PublicCases.{function_stays, function_goes}
use Rattle.fast_check_transform_statements.proofs.functions.transform_public_function.Goals as goal
use Rattle.fast_check_transform_statements.proofs.functions.transform_public_function.Goals.{then-is_impl_with_overloads+in_ok-function}
use Rattle.fast_check_transform_statements.proofs.functions.transform_public_function.Goals.{else-is_impl_with_overloads+in_ok-function-2}

pub returns-then-not-contains : goal.returns-then-not-contains
returns-then-not-contains c =
    function_goes (facts_of c.args.facts) c.args.place (seen c.args.decl)
    (sym c.contains.ensures ∙ c.if-not-contains.true) c.args.faults.now.items

pub returns-then-facts : goal.returns-then-facts
returns-then-facts c =
    function_stays (facts_of c.args.facts) c.args.place (seen c.args.decl) (sym c.contains.ensures ∙ c.if-not-contains.false)
    (ambient_function (facts_of c.args.facts) c.args.place (seen c.args.decl) c.if-facts.true c.in_ok-to_tree.ensures
    c.args.faults.now.items)

pub returns : goal.returns
returns c =
    let facts = facts_of c.args.facts in
    let place = c.args.place in
    let decl = seen c.args.decl in
    let of = c.of-declare.ensures in
    let function = c.if-is_impl_with_overloads.function in
    let signed : Adds (answer_to (signature_of facts place decl)) (Some function) c.args.faults.now.items
    c.if-is_impl_with_overloads.faults.items =
    elim c.if-is_impl_with_overloads.branch [
      | then-is_impl_with_overloads+in_ok-function w ↦
          adds_joined_way w.function-is (ap (λ v. v.items) w.faults-is)
          (implementation facts place decl (sym c.is_impl_with_overloads.ensures ∙ w.if-is_impl_with_overloads.true) of.function
          w.in_ok-function.ensures c.args.faults.now.items)
      | else-is_impl_with_overloads+in_ok-function-2 w ↦
          adds_joined_way w.function-is (ap (λ v. v.items) w.faults-is)
          (signature facts place decl (sym c.is_impl_with_overloads.ensures ∙ w.if-is_impl_with_overloads.false)
          w.in_ok-function-2.ensures (c.of.ensures.span ∙ ap Ident-span of.ident) of.function)
    ] in
    function_stays facts place decl (sym c.contains.ensures ∙ c.if-not-contains.false)
    (made_function facts place decl c.if-facts.false signed
    (c.in_ok-into_tree.ensures ∙ (λ i. fn_decl ((c.in_ok-to_tree-2.ensures ∙ of.ident) i) (of.declare i) function)))
