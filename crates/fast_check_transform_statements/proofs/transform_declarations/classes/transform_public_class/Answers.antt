use Rattle.std.proofs.Common.{ap, sym, ◌∙◌, Some}
use Rattle.fast_check_tree_forms_statements.specs.Declarations.{class_decl}
use Rattle.fast_check_tree_syntax.specs.Part.{seen}
use Rattle.fast_check_meaning_signatures.specs.Answers.{Adds, answer_to}
use Rattle.fast_check_transform_imports.specs.skeleton.Visible.{class_in}
use Rattle.fast_check_transform_imports.specs.module_facts.ModuleFacts.{facts_of}
use Rattle.fast_check_transform_statements.proofs.transform_declarations.ClassCases.{ambient_class_stays, plain_class_stays, made_class}
use Rattle.fast_check_transform_statements.proofs.transform_declarations.PublicClasses.{class_stays, class_goes}
use Rattle.fast_check_transform_statements.proofs.Joined.{adds_joined_way}
use Rattle.fast_check_transform_statements.proofs.transform_declarations.classes.transform_public_class.Goals as goal
use Rattle.fast_check_transform_statements.proofs.transform_declarations.classes.transform_public_class.Goals.{then-is_ambient_class+in_ok-class, else-is_ambient_class+in_ok-class-2}

pub returns-then-not-contains : goal.returns-then-not-contains
returns-then-not-contains c =
    class_goes (facts_of c.args.facts) c.args.place (seen c.args.decl)
    (sym c.contains.ensures ∙ c.if-not-contains.true) c.args.faults.now.items

pub returns : goal.returns
returns c =
    let facts = facts_of c.args.facts in
    let decl = seen c.args.decl in
    let of = c.of-declare.ensures in
    let class = c.if-is_ambient_class.class in
    let made : Adds (answer_to (class_in facts decl)) (Some class) c.args.faults.now.items c.if-is_ambient_class.faults.items =
    elim c.if-is_ambient_class.branch [
      | then-is_ambient_class+in_ok-class w ↦
          adds_joined_way w.class-is (ap (λ v. v.items) w.faults-is)
          (ambient_class_stays facts decl (sym c.is_ambient_class.ensures ∙ w.if-is_ambient_class.true) w.in_ok-class.ensures of.class
          c.args.faults.now.items)
      | else-is_ambient_class+in_ok-class-2 w ↦
          adds_joined_way w.class-is (ap (λ v. v.items) w.faults-is)
          (plain_class_stays facts decl (sym c.is_ambient_class.ensures ∙ w.if-is_ambient_class.false) w.in_ok-class-2.ensures of.class)
    ] in
    class_stays facts c.args.place decl (sym c.contains.ensures ∙ c.if-not-contains.false)
    (made_class facts decl made
    (c.in_ok-into_tree.ensures ∙ (λ i. class_decl ((c.in_ok-to_tree.ensures ∙ of.ident) i) (of.declare i) class)))
