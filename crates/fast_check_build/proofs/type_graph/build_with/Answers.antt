use Rattle.std.proofs.Common.{map}
use Rattle.fast_check_tables_packages.specs.Package.{nv_of}
use Rattle.fast_check_tables_cache.specs.CachedPackages.{used_item}
use Rattle.fast_check_finder_loop.specs.demands.facts.GraphFacts.{with_used}
use Rattle.fast_check_build.specs.Found.{known_of}
use Rattle.fast_check_build.proofs.Built.{all_owned}
use Rattle.fast_check_build.proofs.type_graph.build_with.Goals as goal

pub answer_and_set_all-requires : goal.answer_and_set_all-requires
answer_and_set_all-requires g c =
    let m = goal.JsrUrlProvider-dyn g c.args.jsr_url_provider.now in
    let n = goal.FastCheckCache-dyn g c.args.cache.now in
    let d = c.args.cache.now.1 in
    let used = used_item (n.hash_of d (n.seed_text d)) (n.stored d) c.args.input.graph.now in
    all_owned (with_used used (known_of c.args.input.graph.now c.args.input.root_symbol.now c.args.input.options.now.workspace_members.items
    (m.url_of c.args.jsr_url_provider.now.1) (m.nv_at c.args.jsr_url_provider.now.1)))
    (map nv_of c.args.pending_nvs.items) c.in_ok-ranges.ranges
    (rw c.as_slice.ensures.value at c.in_ok-ranges.ensures) c.len.ensures.ordered

pub returns-clause-built : goal.returns-clause-built
returns-clause-built g c = record {
  built = record {
    ranges = c.in_ok-ranges.ranges;
    found = rw c.as_slice.ensures.value at c.in_ok-ranges.ensures;
    packages_in_order = c.len.ensures.ordered;
    answered = c.in_ok-answers.ensures.answered;
  };
  set = rw c.hash_seed-seed.ensures at c.in_ok-answers.ensures.set;
}
