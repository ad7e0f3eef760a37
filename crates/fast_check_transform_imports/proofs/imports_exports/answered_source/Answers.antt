use Rattle.std.proofs.Common.{sym, ◌∙◌, Some, None}
use Rattle.std.proofs.lemmas.Result.{IfOk-weaker}
use Rattle.fast_check_tree_syntax.specs.Part.{seen}
use Rattle.fast_check_tree_syntax.specs.declared.tree.Tree.{Absent}
use Rattle.fast_check_tree_forms_programs.specs.Literals.{str}
use Rattle.fast_check_transform_imports.specs.module_facts.ModuleFacts.{facts_of}
use Rattle.fast_check_transform_imports.proofs.ImportExportCases.{own_source, present_source}
use Rattle.fast_check_transform_imports.proofs.imports_exports.answered_source.Goals as goal

pub returns-then-is_absent : goal.returns-then-is_absent
returns-then-is_absent c =
    IfOk-weaker c.to_tree.result _ _
    (λ tree p kept. (
      p ∙ own_source (facts_of c.args.facts) (seen c.args.src)
          (sym c.is_absent.ensures ∙ c.if-is_absent.true),
      kept,
    )) c.to_tree.ensures

pub returns-in-Some : goal.returns-in-Some
returns-in-Some c =
    IfOk-weaker c.into_tree.result _ _
    (λ tree made kept. (
      made ∙ ((λ i. str (c.of.ensures.span i) c.in-Some.value Absent)
          ∙ present_source (facts_of c.args.facts) (seen c.args.src) (sym c.is_absent.ensures ∙ c.if-is_absent.false)
          {text = Some c.in-Some.value} (sym c.in-Some.is ∙ (c.in_ok-value.ensures kept).0) c.of.ensures.value),
      (c.in_ok-value.ensures kept).1,
    ))
    c.into_tree.ensures

pub returns-in-None : goal.returns-in-None
returns-in-None c =
    IfOk-weaker c.to_tree-in-None.result _ _
    (λ tree same kept. (
      same ∙ present_source (facts_of c.args.facts) (seen c.args.src)
          (sym c.is_absent.ensures ∙ c.if-is_absent.false)
          {text = None} (sym c.in-None.is ∙ (c.in_ok-value.ensures kept).0) c.of.ensures.value,
      (c.in_ok-value.ensures kept).1,
    ))
    c.to_tree-in-None.ensures
