use Rattle.std.proofs.Common.{◌∙◌, sym, ap, Some, rules}
use Rattle.std.specs.Prelude.{unwrap_or}
use Rattle.std.specs.BTreeMap.Entry.{map_with_value}
use Rattle.fast_check_json_tables.proofs.graph.Given.{map_some}
use Rattle.fast_check_json_tables.proofs.graph.Graphs.{put_resolved, resolved_in}
use Rattle.fast_check_json_tables.proofs.graph.graph.BTreeMapUrlBTreeMapStringUrlGather.gather.Goals as goal

pub returns : goal.returns
returns c =
    let old = c.args.self.now in
    let more = c.insert.new.self in
    let new = map_with_value c.in_ok-self.field-0 more in
    let put = put_resolved c.in_ok-referrer.referrer c.in_ok-referrer.url c.in_ok-referrer.text
    old new c.or_insert-texts.result.now c.new.result more
    (c.or_insert-texts.ensures.value ∙ ap (λ o. unwrap_or o c.new.result) c.in_ok-self.ensures.value) c.new.ensures.empty
    c.in_ok-insert.ensures.updates (c.in_ok-self.ensures.update.0 more) in
    map_some _ c.in_ok-referrer.ensures ∙ ap Some (sym (ap resolved_in (search rules) ∙ put))
