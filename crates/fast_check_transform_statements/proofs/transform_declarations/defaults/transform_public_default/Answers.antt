use Rattle.std.proofs.Common.{ap, ◌∙◌}
use Rattle.std.proofs.lemmas.Result.{IfOk-weaker}
use Rattle.fast_check_tree_forms_programs.specs.ModuleDecls.{export_default_decl}
use Rattle.fast_check_tree_syntax.specs.Part.{seen}
use Rattle.fast_check_transform_imports.specs.module_facts.ModuleFacts.{facts_of}
use Rattle.fast_check_transform_statements.proofs.transform_declarations.DefaultCases.{value_decl, class_decl, function_decl, interface_decl}
use Rattle.fast_check_meaning_signatures.proofs.Adding.{some_of}
use Rattle.fast_check_transform_statements.proofs.transform_declarations.defaults.transform_public_default.Goals as goal

pub returns-in-Value : goal.returns-in-Value
returns-in-Value c =
    IfOk-weaker c.transform_default_value.result _ _
    (λ tree h. value_decl (facts_of c.args.facts) (seen c.args.item) c.in-Value.is h) c.transform_default_value.ensures

pub returns-in_ok-decl-in-Class : goal.returns-in_ok-decl-in-Class
returns-in_ok-decl-in-Class c =
    some_of c.into_tree.result c.into_tree.ensures
    (class_decl (facts_of c.args.facts) (seen c.args.item) c.in-Class.is c.in_ok-decl-in-Class.ensures c.of.ensures.decl)
    (ap (λ s. export_default_decl s c.in_ok-decl-in-Class.decl) c.of.ensures.span)

pub returns-in_ok-decl-in-Function : goal.returns-in_ok-decl-in-Function
returns-in_ok-decl-in-Function c =
    some_of c.into_tree-in-Function.result c.into_tree-in-Function.ensures
    (function_decl (facts_of c.args.facts) (seen c.args.item) c.in-Function.is c.in_ok-decl-in-Function.ensures c.of.ensures.span
    c.of.ensures.decl)
    (ap (λ s. export_default_decl s c.in_ok-decl-in-Function.decl) c.of.ensures.span)

pub returns-in_ok-decl-in-Interface : goal.returns-in_ok-decl-in-Interface
returns-in_ok-decl-in-Interface c =
    some_of c.into_tree-in-Interface.result c.into_tree-in-Interface.ensures
    (interface_decl (facts_of c.args.facts) (seen c.args.item) c.in-Interface.is (c.in_ok-decl-in-Interface.ensures ∙ c.of.ensures.decl)
    c.args.faults.now.items)
    (ap (λ s. export_default_decl s c.in_ok-decl-in-Interface.decl) c.of.ensures.span)
