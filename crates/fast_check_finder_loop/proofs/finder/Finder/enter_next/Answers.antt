use Rattle.std.proofs.Common.{◌≡◌, ◌∙◌, ◌+◌, ◌<◌, sym, ap, refl, Some, map, length, arith}
use Rattle.std.specs.Prelude.{slice_get}
use Rattle.std.proofs.lemmas.List.{length-map, get_or-map}
use Rattle.std.proofs.lemmas.Option.{slice_get_read}
use Rattle.fast_check_tables_packages.specs.Package.{nv_of}
use Rattle.fast_check_tables_cache.specs.CachedPackages.{used_item}
use Rattle.fast_check_finder_lattice.specs.Traces.{handled}
use Rattle.fast_check_finder_demands.specs.asked.Demands.{of_package}
use Rattle.fast_check_finder_demands.specs.facts.GraphFacts.{known, with_used}
use Rattle.fast_check_finder_loop.specs.declared.finder.Finder.{Finder}
use Rattle.fast_check_finder_loop.specs.Finder.{names_seen, seen_at, entered_nv}
use Rattle.fast_check_finder_loop.specs.Lent.{used_of}
use Rattle.fast_check_finder_loop.specs.Refusals.{IsRefusedOf}
use Rattle.fast_check_finder_loop.proofs.Once.{once_passed, once_entered}
use Rattle.fast_check_finder_loop.proofs.Refused.{refused_of, refused_on}
use Rattle.fast_check_finder_loop.proofs.Taken.{package_taken, turns_by}
use Rattle.fast_check_finder_loop.proofs.finder.Finder.enter_next.Goals as goal

pub returns-in_err-enter : goal.returns-in_err-enter
returns-in_err-enter g c =
    let m = goal.JsrUrlProvider-dyn g c.args.lent.provider.now in
    let used = used_of c.args.lent.cache (λ x. let n = goal.FastCheckCache-dyn g x.now in
    used_item (n.hash_of x.now.1 c.args.lent.seed.now) (n.stored x.now.1) c.args.lent.facts.graph.now) in
    let k = with_used used (known c.args.lent.facts (m.url_of c.args.lent.provider.now.1) (m.nv_at c.args.lent.provider.now.1)) in
    let f = c.in_err-enter.field-0.0 in
    refused_on c.from_residual-in_err-enter.result f _ (IsRefusedOf k (map nv_of c.args.self.now.packages)) c.from_residual-in_err-enter.ensures.1
    (refused_of k c.args.self.now.packages c.args.self.now.entered c.at.result.now (nv_of c.in_ok-nv.nv)
    (omega (arith, c.if-self-len.false, c.len.ensures)) c.at.ensures c.in_ok-nv.ensures f c.in_err-enter.ensures.refused)

pub returns : goal.returns
returns g c mine =
    let m = goal.JsrUrlProvider-dyn g c.args.lent.provider.now in
    let used = used_of c.args.lent.cache (λ x. let n = goal.FastCheckCache-dyn g x.now in
    used_item (n.hash_of x.now.1 c.args.lent.seed.now) (n.stored x.now.1) c.args.lent.facts.graph.now) in
    let k = with_used used (known c.args.lent.facts (m.url_of c.args.lent.provider.now.1) (m.nv_at c.args.lent.provider.now.1)) in
    let f = c.args.self.now in
    let n = f.entered in
    let ps = map nv_of f.packages in
    let nv = nv_of c.in_ok-nv.nv in
    let mid : Finder = record f { entered = n + 1 } in
    let below : n < length f.packages = omega (arith, c.if-self-len.false, c.len.ensures) in
    let within : n < length ps = omega (arith, below, length-map f.packages nv_of) in
    let here : slice_get ps n ≡ Some nv =
    slice_get_read ps (length ps) n nv refl within
    (sym (get_or-map nv_of f.packages n c.at.result.now nv below ∙ (ap nv_of (sym c.at.ensures) ∙ sym c.in_ok-nv.ensures))) in
    let once = c.requires.sound.once in
    let entered = c.in_ok-enter.ensures.entered mine in (
      turns_by k (of_package nv) f mid c.enter.new.self
          (package_taken ps n (handled f.handled) f.modules.entries (map names_seen f.names.items) (map seen_at f.symbols.items) nv here) refl
          (entered.1
          (record {
            modules = c.requires.sound.modules;
            symbols = c.requires.sound.symbols;
            once = once_passed ps n (map entered_nv f.entrances.items) once within;
          })
          (once_entered ps n (map entered_nv f.entrances.items) once nv here)),
      entered.0,
    )
