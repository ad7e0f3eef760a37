use Rattle.std.proofs.Common.{◌∙◌, sym, ap}
use Rattle.std.proofs.lemmas.Result.{IfOk-weaker}
use Rattle.std.specs.Option.{option_copied}
use Rattle.fast_check_transform_imports.specs.module_facts.ModuleFacts.{facts_of}
use Rattle.fast_check_transform_imports.proofs.relative.RelativeSources.of_text.Goals as goal

pub returns-in-Some : goal.returns-in-Some
returns-in-Some c =
    IfOk-weaker c.shared.result _ _
    (λ copy same kept. (same ∙ kept c.args.text.now c.in-Some.other.now (sym c.get.ensures.value ∙ ap option_copied c.in-Some.is), kept))
    c.shared.ensures

pub returns : goal.returns
returns c = λ kept.
    (c.in_ok-other.ensures, c.in_ok-keep.ensures (facts_of c.args.facts) (c.in_ok-copy.ensures ∙ c.in_ok-other.ensures) kept)
