use Rattle.fast_check_cases_cache.proofs.Inserted.{inserted}
use Rattle.fast_check_cases_cache.proofs.items.Items.set.Goals as goal

pub returns-clause-kept : goal.returns-clause-kept
returns-clause-kept c =
    inserted c.args.self.now
    (record {
      by_hash =
          c.insert.new.self;
    }) c.as_u64-hash.result c.args.key c.args.item c.as_u64-hash.ensures c.in_ok-insert.ensures.updates.0
