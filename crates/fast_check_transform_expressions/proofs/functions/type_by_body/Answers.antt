use Rattle.std.proofs.Common.{ap, ◌∙◌, sym}
use Rattle.std.proofs.lemmas.Result.{IfOk-weaker}
use Rattle.fast_check_tree_syntax.specs.Part.{seen}
use Rattle.fast_check_tree_helpers.specs.Builders.{type_ann}
use Rattle.fast_check_meaning_signatures.specs.Answers.{answer_to}
use Rattle.fast_check_meaning_signatures.specs.Functions.{class_seen}
use Rattle.fast_check_meaning_signatures.proofs.Adding.{adds_same}
use Rattle.fast_check_transform_expressions.proofs.Arrows.{body_named, body_classed}
use Rattle.fast_check_transform_expressions.proofs.functions.type_by_body.Goals as goal

pub returns-in_ok-ty-in-Some : goal.returns-in_ok-ty-in-Some
returns-in_ok-ty-in-Some c =
    let body = c.args.body in
    IfOk-weaker c.type_ann.result _ _
    (λ tree e. body_named c.args.unresolved c.args.kind body.is_async body.is_generator c.args.place
    (seen body.block) (sym c.in_ok-ty.ensures ∙ c.in-Some.is)
    (e ∙ ap type_ann c.in_ok-ty-in-Some.ensures)) c.type_ann.ensures

pub returns-in-None : goal.returns-in-None
returns-in-None c =
    let body = c.args.body in
    IfOk-weaker c.type_by_class.result _ _
    (λ tree h. body_classed c.args.unresolved c.args.kind body.is_async body.is_generator c.args.place
    (seen body.block) (sym c.in_ok-ty.ensures ∙ c.in-None.is)
    (adds_same
    (ap (λ k. answer_to (class_seen c.args.kind body.is_async c.args.place k))
    (sym c.analyze_return_stmts_in_function_body-class.ensures)) h))
    c.type_by_class.ensures
