use Rattle.std.proofs.Common.{ap}
use Rattle.std.specs.Map.{lookup}
use Rattle.std.specs.Ordering.{is_eq}
use Rattle.fast_check_tables_symbols.proofs.Last.{map_more}
use Rattle.fast_check_tables_symbols.proofs.entries.map_of.Goals as goal

pub loop-key-init : goal.loop-key-init
loop-key-init g c = record {
  got = λ key. ap (λ es. lookup (λ k. is_eq (g.K.Ord.cmp key k)) es) c.new-map.ensures.empty;
  ordered = c.new-map.ensures.ordered;
}

pub loop-key-preserved-in_ok-insert : goal.loop-key-preserved-in_ok-insert
loop-key-preserved-in_ok-insert g c = record {
  got = map_more g.K.Ord.cmp c.loop-key.map c.insert.new.self c.loop-key.yielded (c.in-Some.key, c.in-Some.value) c.loop-key.invariant.got
      c.in_ok-insert.ensures.updates.0;
  ordered = c.in_ok-insert.ensures.ordered;
}

pub loop-key-preserved : goal.loop-key-preserved
loop-key-preserved g c = record {
  got = map_more g.K.Ord.cmp c.loop-key.map c.insert.new.self c.loop-key.yielded (c.in-Some.key, c.in-Some.value) c.loop-key.invariant.got
      c.in_ok-insert.ensures.updates.0;
  ordered = c.in_ok-insert.ensures.ordered;
}
