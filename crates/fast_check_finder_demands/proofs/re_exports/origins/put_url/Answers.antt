use Rattle.std.proofs.Common.{◌∙◌, sym, ap, List, ℕ, Some, None}
use Rattle.std.specs.BTreeSet.{contains_by}
use Rattle.std.specs.Cmp.Lexicographic.{slice_cmp}
use Rattle.std.specs.Ordering.{nat_cmp}
use Rattle.std.proofs.lemmas.Result.{on_ok_weaker}
use Rattle.fast_check_finder_demands.specs.re_exports.Origins.{indexed}
use Rattle.fast_check_finder_demands.proofs.re_exports.Behind.{met_before, met_now}
use Rattle.fast_check_finder_demands.proofs.re_exports.origins.put_url.Goals as goal
use Rattle.fast_check_tables_symbols.proofs.Last.{or_none}

pub returns-then-contains : goal.returns-then-contains
returns-then-contains c = met_before c.args.traced c.args.node.now c.args.url.now c.args.met.now c.args.names.now
    (ap (λ (t : List ℕ). contains_by (λ k. slice_cmp nat_cmp t k.now) c.args.met.now) (sym c.as_str-text.ensures.value)
    ∙ (sym c.contains.ensures ∙ c.if-contains.true)) c.requires

pub returns-in-None : goal.returns-in-None
returns-in-None c = met_now c.args.traced c.args.node.now c.args.url.now c.args.met.now c.insert.new.self c.args.names.now c.args.names.now
    c.as_str-text.result.now c.as_str-text.ensures.value (λ q. c.in_ok-insert.ensures.updates.0 q) c.requires None c.in-None.ensures
    (λ name. sym (or_none (indexed name c.args.names.now)))

pub returns-in-Some : goal.returns-in-Some
returns-in-Some c = on_ok_weaker c.put_names.result
    (λ put. met_now c.args.traced c.args.node.now c.args.url.now c.args.met.now c.insert.new.self c.args.names.now c.put_names.new.names
    c.as_str-text.result.now c.as_str-text.ensures.value (λ q. c.in_ok-insert.ensures.updates.0 q) c.requires
    (Some c.in-Some.info.now) c.in-Some.ensures put)
    (rw c.tables_of.ensures at c.put_names.ensures)
