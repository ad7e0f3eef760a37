use Rattle.std.proofs.Common.{◌∙◌, sym, ap, refl, append_assoc, [], ◌∷◌, ◌++◌}
use Rattle.fast_check_tables_packages.specs.Package.{nv_of}
use Rattle.fast_check_tables_packages.specs.declared.package.PackageNv.{PackageNv}
use Rattle.fast_check_tables_cache.specs.declared.package_ranges.PackagePublicRanges.{PackagePublicRanges}
use Rattle.fast_check_build_answers.proofs.MorePackages.{owned_next, turned, set_more, set_first}
use Rattle.fast_check_build_answers.proofs.packages.answer_and_set_all.Goals as goal

pub answer_and_set_one-requires : goal.answer_and_set_one-requires
answer_and_set_one-requires g c =
    owned_next c.args.input.root_symbol.now c.loop-nv.yielded (c.in-Some.nv, c.in-Some.package_ranges) c.next.new.self c.args.ranges.entries
    (sym (ap (λ es. c.loop-nv.yielded ++ es) c.in-Some.ensures.steps) ∙ c.loop-nv.invariant.all) c.requires

pub returns-in_err-more-clause-err : goal.returns-in_err-more-clause-err
returns-in_err-more-clause-err g c =
    let m = goal.FastCheckCache-dyn g c.args.cache.now in
    let d = c.args.cache.now.1 in
    set_first c.from_residual.result
    (m.hash_of d c.args.seed.now) c.args.input.options.now.should_error_on_first_diagnostic c.args.input.graph.now
    c.args.input.root_symbol.now c.loop-nv.yielded
    c.loop-nv.nv-iterator c.args.ranges.entries (m.stored d) _ c.loop-nv.invariant.all (c.in_err-more.ensures.err ∙ c.loop-nv.invariant.set)

pub returns-in_err-append-clause-err : goal.returns-in_err-append-clause-err
returns-in_err-append-clause-err g c =
    let m = goal.FastCheckCache-dyn g c.args.cache.now in
    let d = c.args.cache.now.1 in
    let p : PackageNv × PackagePublicRanges = (c.in-Some.nv, c.in-Some.package_ranges) in
    let first = c.args.input.options.now.should_error_on_first_diagnostic in
    set_first c.from_residual-in_err-append.result (m.hash_of d c.args.seed.now) first c.args.input.graph.now c.args.input.root_symbol.now
    (c.loop-nv.yielded ++ p ∷ []) c.next.new.self
    c.args.ranges.entries (m.stored d) _
    (append_assoc c.loop-nv.yielded (p ∷ []) c.next.new.self ∙
    (sym (ap (λ es. c.loop-nv.yielded ++ es) c.in-Some.ensures.steps) ∙ c.loop-nv.invariant.all))
    (set_more (m.hash_of d c.args.seed.now) _ first c.args.input.graph.now c.args.input.root_symbol.now c.loop-nv.yielded p
    (nv_of c.in-Some.nv) (m.stored d) _ _
    (ap (λ h. h c.args.seed.now) c.loop-nv.invariant.hash) refl c.loop-nv.invariant.set c.in_ok-more.ensures.set)

pub loop-nv-preserved-in_ok-append : goal.loop-nv-preserved-in_ok-append
loop-nv-preserved-in_ok-append g c =
    let m = goal.FastCheckCache-dyn g c.args.cache.now in
    let d = c.args.cache.now.1 in
    let p : PackageNv × PackagePublicRanges = (c.in-Some.nv, c.in-Some.package_ranges) in
    let first = c.args.input.options.now.should_error_on_first_diagnostic in
    let t = turned c.args.input.graph.now c.args.input.root_symbol.now first c.loop-nv.yielded p _ c.next.new.self c.args.ranges.entries
    c.loop-nv.answers.items
    c.in_ok-more.more.items c.append.new.self.items c.loop-nv.invariant.all c.in-Some.ensures.steps c.loop-nv.invariant.answered
    c.in_ok-more.ensures.answered c.in_ok-append.ensures.items in record {
      all = t.0;
      answered = t.1;
      set = set_more (m.hash_of d c.args.seed.now) _ first c.args.input.graph.now c.args.input.root_symbol.now c.loop-nv.yielded p
          (nv_of c.in-Some.nv) (m.stored d) _ _
          (ap (λ h. h c.args.seed.now) c.loop-nv.invariant.hash) refl c.loop-nv.invariant.set c.in_ok-more.ensures.set;
      seed = c.in_ok-more.ensures.keys.seed ∙ c.loop-nv.invariant.seed;
      hash = c.in_ok-more.ensures.keys.hash ∙ c.loop-nv.invariant.hash;
    }

pub loop-nv-preserved : goal.loop-nv-preserved
loop-nv-preserved g c =
    let m = goal.FastCheckCache-dyn g c.args.cache.now in
    let d = c.args.cache.now.1 in
    let p : PackageNv × PackagePublicRanges = (c.in-Some.nv, c.in-Some.package_ranges) in
    let first = c.args.input.options.now.should_error_on_first_diagnostic in
    let t = turned c.args.input.graph.now c.args.input.root_symbol.now first c.loop-nv.yielded p _ c.next.new.self c.args.ranges.entries
    c.loop-nv.answers.items
    c.in_ok-more.more.items c.append.new.self.items c.loop-nv.invariant.all c.in-Some.ensures.steps c.loop-nv.invariant.answered
    c.in_ok-more.ensures.answered c.in_ok-append.ensures.items in record {
      all = t.0;
      answered = t.1;
      set = set_more (m.hash_of d c.args.seed.now) _ first c.args.input.graph.now c.args.input.root_symbol.now c.loop-nv.yielded p
          (nv_of c.in-Some.nv) (m.stored d) _ _
          (ap (λ h. h c.args.seed.now) c.loop-nv.invariant.hash) refl c.loop-nv.invariant.set c.in_ok-more.ensures.set;
      seed = c.in_ok-more.ensures.keys.seed ∙ c.loop-nv.invariant.seed;
      hash = c.in_ok-more.ensures.keys.hash ∙ c.loop-nv.invariant.hash;
    }
