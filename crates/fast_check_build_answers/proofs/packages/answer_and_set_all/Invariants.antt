use Rattle.std.proofs.Common.{◌≡◌, ◌++◌}
use Rattle.fast_check_build_answers.specs.Answered.{AreAnswered, sets}
use Rattle.fast_check_build_answers.proofs.packages.answer_and_set_all.Given as goal

abbrev pub invariant-loop-nv : goal.invariant-loop-nv
invariant-loop-nv g l =
    let m = goal.FastCheckCache-dyn g l.cache.now in
    let n = goal.FastCheckCache-dyn g l.initial.cache.now in
    let now = l.cache.now.1 in
    let old = l.initial.cache.now.1 in
    let first = l.input.options.now.should_error_on_first_diagnostic in record {
      all : l.yielded ++ l.nv-iterator ≡ l.fn.ranges.entries;
      answered : AreAnswered l.input.graph.now l.input.root_symbol.now first l.yielded l.answers.items;
      set : m.stored now ≡ sets (n.hash_of old l.seed) first l.input.graph.now l.input.root_symbol.now l.yielded (n.stored old);
      seed : m.seed_text now ≡ n.seed_text old;
      hash : m.hash_of now ≡ n.hash_of old;
    }
