use Rattle.std.proofs.Common.{◌≡◌, ◌∙◌, sym, ap, subst, [], ◌∷◌, ◌++◌, append_assoc, append-nil}
use Rattle.std.specs.List.{flat_map}
use Rattle.std.proofs.lemmas.Map.Iter.{rest_more, rest_all}
use Rattle.fast_check_finder_loop.specs.declared.demand.Place.{Place}
use Rattle.fast_check_finder_loop.specs.declared.finder.FollowedModule.{FollowedModule}
use Rattle.fast_check_finder_loop.specs.Finder.{Modules, followed_yields}
use Rattle.fast_check_finder_loop.specs.Packages.{Adds}
use Rattle.fast_check_finder_loop.proofs.Collected.{adds_none, adds_more}
use Rattle.fast_check_finder_loop.proofs.packages.add_modules.Goals as goal

pub loop-place-init : goal.loop-place-init
loop-place-init c = ([], c.into_iter-place-iterator.ensures.into_iter_gives.0, adds_none c.args.found.now.entries)

pub loop-place-preserved-in_ok-add_module : goal.loop-place-preserved-in_ok-add_module
loop-place-preserved-in_ok-add_module c =
    let x : Place × FollowedModule = (c.in-Some.place, c.in-Some.module) in
    let front = c.loop-place.invariant.0 in
    let rest : Modules = c.next.new.self in (
      front ++ x ∷ [],
      append_assoc front (x ∷ []) rest
          ∙ (ap (λ (ys : Modules). front ++ ys)
          (sym (rest_more (λ p. p) c.loop-place.place-iterator rest c.next.result x c.in-Some.is c.next.ensures.steps))
          ∙ c.loop-place.invariant.1),
      adds_more followed_yields front x c.args.found.now.entries c.loop-place.found.entries c.add_module.new.found.entries
          c.loop-place.invariant.2 c.in_ok-add_module.ensures,
    )

pub loop-place-preserved : goal.loop-place-preserved
loop-place-preserved c =
    let x : Place × FollowedModule = (c.in-Some.place, c.in-Some.module) in
    let front = c.loop-place.invariant.0 in
    let rest : Modules = c.next.new.self in (
      front ++ x ∷ [],
      append_assoc front (x ∷ []) rest
          ∙ (ap (λ (ys : Modules). front ++ ys)
          (sym (rest_more (λ p. p) c.loop-place.place-iterator rest c.next.result x c.in-Some.is c.next.ensures.steps))
          ∙ c.loop-place.invariant.1),
      adds_more followed_yields front x c.args.found.now.entries c.loop-place.found.entries c.add_module.new.found.entries
          c.loop-place.invariant.2 c.in_ok-add_module.ensures,
    )

pub returns : goal.returns
returns c =
    let front = c.loop-place.invariant.0 in
    let all : front ≡ c.args.modules.entries =
    sym (append-nil front) ∙ (ap (λ (ys : Modules). front ++ ys)
    (sym (rest_all (λ p. p) c.loop-place.place-iterator c.next.new.self c.next.result c.in-None.is c.next.ensures.steps))
    ∙ c.loop-place.invariant.1) in
    subst (λ (xs : Modules). Adds (flat_map followed_yields xs) c.args.found.now.entries c.loop-place.found.entries) all
    c.loop-place.invariant.2
