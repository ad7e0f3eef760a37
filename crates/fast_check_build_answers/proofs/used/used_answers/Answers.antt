use Rattle.std.proofs.Common.{◌∙◌, sym, ap, subst, append_assoc, ◌++◌}
use Rattle.std.specs.List.{AllZip}
use Rattle.std.proofs.lemmas.Slice.Zip.{all_zipped_more}
use Rattle.fast_check_build_answers.specs.PackageAnswer.{IsUsedAnswer}
use Rattle.fast_check_build_answers.proofs.used.used_answers.Goals as goal

pub loop-specifier-preserved : goal.loop-specifier-preserved
loop-specifier-preserved c = record {
  all = append_assoc c.loop-specifier.yielded _ _
      ∙ (sym (ap (λ items. c.loop-specifier.yielded ++ items) c.in-Some.ensures.steps.0) ∙ c.loop-specifier.invariant.all);
  answered = subst (AllZip IsUsedAnswer _) (sym c.in_ok-push.ensures.items)
      (all_zipped_more IsUsedAnswer c.loop-specifier.yielded c.loop-specifier.answers.items (c.in-Some.specifier, c.in-Some.kept)
      c.in_ok-used_answer.field-0 c.loop-specifier.invariant.answered c.in_ok-used_answer.ensures);
}
