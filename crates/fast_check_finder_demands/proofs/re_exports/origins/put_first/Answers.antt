use Rattle.std.proofs.Common.{◌∙◌, sym}
use Rattle.fast_check_finder_demands.proofs.re_exports.Names.{put_new, put_kept}
use Rattle.fast_check_finder_demands.proofs.re_exports.origins.put_first.Goals as goal

pub returns-then-contains_key : goal.returns-then-contains_key
returns-then-contains_key c = λ asked.
    put_kept c.args.name.now asked c.args.origin c.args.names.now (sym c.contains_key.ensures ∙ c.if-contains_key.true)

pub returns : goal.returns
returns c = λ asked.
    put_new c.args.name.now asked c.args.origin c.args.names.now c.insert.new.self c.in_ok-insert.ensures.updates
    (sym c.contains_key.ensures ∙ c.if-contains_key.false)
