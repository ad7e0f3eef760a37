use Rattle.std.proofs.Common.{◌∙◌, sym, map}
use Rattle.fast_check_tables_packages.specs.Package.{nv_of}
use Rattle.fast_check_finder_ranges.proofs.Answered.{is_passed, is_put}
use Rattle.fast_check_finder_ranges.proofs.ranges.add_answer.Goals as goal

pub returns-then-not-is_known : goal.returns-then-not-is_known
returns-then-not-is_known c = is_passed (map nv_of c.args.packages.now) (c.args.package, c.args.found) c.args.answers.now.entries
    (λ q. sym (c.is_known.ensures q) ∙ c.if-not-is_known.true)

pub returns : goal.returns
returns c = is_put (map nv_of c.args.packages.now) (c.args.package, c.args.found) c.args.answers.now c.insert.new.self c.in_ok-answer.answer
    (λ q. sym (c.is_known.ensures q) ∙ c.if-not-is_known.false) c.in_ok-answer.ensures c.in_ok-insert.ensures.updates
