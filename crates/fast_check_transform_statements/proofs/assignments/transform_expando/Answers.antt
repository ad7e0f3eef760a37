use Rattle.std.proofs.Common.{◌∙◌, sym, ap, refl, [], ◌∷◌, ◌++◌, append-nil}
use Rattle.std.specs.Prelude.{if◌then◌else◌}
use Rattle.std.specs.Option.{option_copied}
use Rattle.fast_check_meaning_expandos.specs.Objects.{exports_name}
use Rattle.std.proofs.lemmas.Result.{on_ok_weaker}
use Rattle.fast_check_tree_syntax.specs.Part.{seen}
use Rattle.fast_check_tree_forms_expressions.specs.Calls.{MemberExpr-span}
use Rattle.fast_check_tree_forms_expressions.specs.Operators.{AssignExpr-span, AssignExpr-left}
use Rattle.fast_check_tables_modules.specs.symbols.Tables.{symbol_of_swc}
use Rattle.fast_check_meaning_signatures.specs.declared.fault.FaultKind.TheVariants.{MissingExplicitType}
use Rattle.fast_check_meaning_signatures.specs.Answers.{fault_at}
use Rattle.fast_check_meaning_expandos.specs.Assignments.{missing_place, kept_property}
use Rattle.fast_check_meaning_expandos.specs.Expandos.{object_of, property_name, property_of}
use Rattle.fast_check_meaning_expandos.specs.ModuleObjects.{objects_of}
use Rattle.fast_check_transform_statements.specs.Assigned.{missing_at}
use Rattle.fast_check_transform_statements.proofs.AssignmentCases.{exports_are, keyword_is, missing_is, none_missing}
use Rattle.fast_check_transform_statements.proofs.assignments.transform_expando.Goals as goal

pub returns-in_ok-push-in-Some-clause-properties : goal.returns-in_ok-push-in-Some-clause-properties
returns-in_ok-push-in-Some-clause-properties c =
    let info = c.args.facts.es_module_info.now in
    let a = seen c.args.assignment in
    let s = c.in_ok-symbol.ensures ∙ ap (λ t. symbol_of_swc info.tables (object_of t)) c.of.ensures.left in
    let old = c.args.properties.now.items in
    c.in_ok-push-in-Some.ensures.items
    ∙ (ap (λ p. old ++ p ∷ []) (c.in_ok-property-in-Some.ensures
    ∙ (λ i. property_of (exports_are info (AssignExpr-left a) s refl i) (keyword_is info (AssignExpr-left a) s refl i) (AssignExpr-span a)
    (AssignExpr-left a) c.in-Some.value))
    ∙ ap (λ v. old ++ kept_property (objects_of info) (AssignExpr-span a) (AssignExpr-left a) v) (sym c.in-Some.is))

pub returns-in_ok-push-in-Some-clause-faults : goal.returns-in_ok-push-in-Some-clause-faults
returns-in_ok-push-in-Some-clause-faults c =
    let place = missing_place (objects_of c.args.facts.es_module_info.now) (seen c.args.assignment) in
    none_missing place c.in-Some.value c.args.faults.now.items ∙ ap (λ v. c.args.faults.now.items ++ missing_at place v) (sym c.in-Some.is)

pub returns-in-None-clause-properties : goal.returns-in-None-clause-properties
returns-in-None-clause-properties c =
    let a = seen c.args.assignment in
    let old = c.args.properties.now.items in
    on_ok_weaker c.push_missing.result
    (λ f. sym (append-nil old)
    ∙ ap (λ v. old ++ kept_property (objects_of c.args.facts.es_module_info.now) (AssignExpr-span a) (AssignExpr-left a) v)
    (sym c.in-None.is))
    c.push_missing.ensures

pub returns-in-None-clause-faults : goal.returns-in-None-clause-faults
returns-in-None-clause-faults c =
    let info = c.args.facts.es_module_info.now in
    let a = seen c.args.assignment in
    let s = c.in_ok-symbol.ensures ∙ ap (λ t. symbol_of_swc info.tables (object_of t)) c.of.ensures.left in
    let old = c.args.faults.now.items in
    on_ok_weaker c.push_missing.result
    (λ f. f ∙
    (ap (λ t. old ++ (if exports_name (option_copied c.in_ok-symbol.symbol) (property_name t) then [] else fault_at MissingExplicitType
    (MemberExpr-span t) ∷ [])) c.of.ensures.left
    ∙ (ap (λ fs. old ++ fs) (missing_is (objects_of info) a c.requires
    (ap (λ g. g (property_name (AssignExpr-left a))) (exports_are info (AssignExpr-left a) s refl)))
    ∙ ap (λ v. old ++ missing_at (missing_place (objects_of info) a) v) (sym c.in-None.is))))
    c.push_missing.ensures
