use Rattle.std.proofs.Common.{◌∙◌, sym}
use Rattle.fast_check_finder_ranges.proofs.entries.Once.{joined_again, joined_new}
use Rattle.fast_check_finder_ranges.proofs.entries.joined.push_once.Goals as goal

pub returns-then-contains-clause-joined : goal.returns-then-contains-clause-joined
returns-then-contains-clause-joined c = λ done h.
    joined_again c.args.base.now done c.args.text.now c.args.texts.now c.args.urls.now (sym c.contains.ensures ∙ c.if-contains.true) h

pub returns-clause-joined : goal.returns-clause-joined
returns-clause-joined c = λ done h.
    joined_new c.args.base.now done c.args.text.now c.args.texts.now c.insert.new.self c.args.urls.now c.push_joined.new.urls
    c.in_ok-push_joined.ensures.joins c.in_ok-push_joined.ensures.put c.in_ok-insert.ensures.updates.0 h
