use Rattle.std.proofs.Common.{sym, subst}
use Rattle.std.specs.List.{AllZip}
use Rattle.std.proofs.lemmas.Slice.Zip.{all_zipped_more}
use Rattle.fast_check_build_answers.specs.PackageAnswer.{IsRefused}
use Rattle.fast_check_build_answers.proofs.answer.refuse.Goals as goal

pub loop-entrypoint-preserved : goal.loop-entrypoint-preserved
loop-entrypoint-preserved c =
    subst (AllZip (IsRefused c.args.diagnostics.now) _) (sym c.in_ok-push.ensures.items)
    (all_zipped_more (IsRefused c.args.diagnostics.now) c.loop-entrypoint.yielded c.loop-entrypoint.answers.items c.in-Some.entrypoint
    c.in_ok-refused.field-0 c.loop-entrypoint.invariant c.in_ok-refused.ensures)
