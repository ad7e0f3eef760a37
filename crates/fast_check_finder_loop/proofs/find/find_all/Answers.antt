use Rattle.std.proofs.Common.{refl, sym, subst, map, true, false, List, [], ◌∷◌, ◌++◌}
use Rattle.std.specs.List.{Contains}
use Rattle.fast_check_tables_packages.specs.Package.{nv_of}
use Rattle.fast_check_finder_demands.proofs.asked.Maps.{first_in}
use Rattle.fast_check_tables_packages.specs.MembersIn.{members_in}
use Rattle.fast_check_finder_loop.specs.declared.demand.SymbolAt.{SymbolAt}
use Rattle.fast_check_finder_loop.specs.declared.finder.Finder.{Finder}
use Rattle.fast_check_finder_loop.specs.Finder.{search_of}
use Rattle.fast_check_finder_loop.specs.Lent.{known_with}
use Rattle.fast_check_finder_loop.specs.Refusals.{IsRefusal}
use Rattle.fast_check_finder_loop.proofs.Loop.{packages_chained, on_begun, on_ended}
use Rattle.fast_check_finder_loop.proofs.Popped.{after_symbol, after_names, after_package, turned_on, less_left}
use Rattle.fast_check_finder_loop.proofs.Refused.{refusal, refused_on}
use Rattle.fast_check_finder_loop.proofs.Stored.{has_lent}
use Rattle.fast_check_finder_loop.proofs.find.find_all.Goals as goal

pub turns-init : goal.turns-init
turns-init g c =
    let m = goal.JsrUrlProvider-dyn g c.args.lent.provider.now in
    let k = known_with c.args.lent.facts c.args.lent.seed.now (m.url_of c.args.lent.provider.now.1) (m.nv_at c.args.lent.provider.now.1) c.args.lent.cache
    (λ x. (goal.FastCheckCache-dyn g x.now).hash_of x.now.1) (λ x. (goal.FastCheckCache-dyn g x.now).stored x.now.1) in
    record {
      done = [];
      on = on_begun k (map nv_of c.args.roots.now) c.in_ok-finder.finder (c.in_ok-finder.ensures k.graph k.root_symbol);
      members = c.new-members.ensures (members_in c.args.lent.facts.workspace_members.now);
    }

pub follow_symbol-requires : goal.follow_symbol-requires
follow_symbol-requires g c = c.turns.invariant.on.sound.symbols c.in-Some.at
    (subst (λ (xs : List SymbolAt). Contains xs c.in-Some.at) (sym c.in-Some.ensures.items) (first_in c.in-Some.at c.pop_front.new.self.items))

pub turns-smaller-in_ok-follow_symbol-in-Some : goal.turns-smaller-in_ok-follow_symbol-in-Some
turns-smaller-in_ok-follow_symbol-in-Some g c =
    let i = c.turns.invariant in
    let mid : Finder = record c.turns.finder { symbols = c.pop_front.new.self } in
    let has = has_lent c.args.lent.cache (λ x. (goal.FastCheckCache-dyn g x.now).hash_of x.now.1 c.args.lent.seed.now)
    (λ x. (goal.FastCheckCache-dyn g x.now).stored x.now.1) c.args.lent.facts.graph.now in
    less_left i.on (after_symbol i.on mid c.follow_symbol.new.self refl c.in-Some.at c.in-Some.ensures.items c.in_ok-follow_symbol-in-Some.ensures)
    _ has

pub turns-preserved-in_ok-follow_symbol-in-Some : goal.turns-preserved-in_ok-follow_symbol-in-Some
turns-preserved-in_ok-follow_symbol-in-Some g c =
    let i = c.turns.invariant in
    let mid : Finder = record c.turns.finder { symbols = c.pop_front.new.self } in
    let t = after_symbol i.on mid c.follow_symbol.new.self refl c.in-Some.at c.in-Some.ensures.items c.in_ok-follow_symbol-in-Some.ensures in
    record { done = i.done ++ t.turn.demand ∷ []; on = turned_on i.on t; members = i.members }

pub turns-smaller-in_ok-follow_names-in-Some-pop : goal.turns-smaller-in_ok-follow_names-in-Some-pop
turns-smaller-in_ok-follow_names-in-Some-pop g c =
    let i = c.turns.invariant in
    let one : Finder = record c.turns.finder { symbols = c.pop_front.new.self } in
    let two : Finder = record one { names = c.pop.new.self } in
    let has = has_lent c.args.lent.cache (λ x. (goal.FastCheckCache-dyn g x.now).hash_of x.now.1 c.args.lent.seed.now)
    (λ x. (goal.FastCheckCache-dyn g x.now).stored x.now.1) c.args.lent.facts.graph.now in
    less_left i.on (after_names i.on one two c.follow_names.new.self refl c.in-None.ensures.items refl c.in-Some-pop.at c.in-Some-pop.ensures.items
    c.in_ok-follow_names-in-Some-pop.ensures) _ has

pub turns-preserved-in_ok-follow_names-in-Some-pop : goal.turns-preserved-in_ok-follow_names-in-Some-pop
turns-preserved-in_ok-follow_names-in-Some-pop g c =
    let i = c.turns.invariant in
    let one : Finder = record c.turns.finder { symbols = c.pop_front.new.self } in
    let two : Finder = record one { names = c.pop.new.self } in
    let t = after_names i.on one two c.follow_names.new.self refl c.in-None.ensures.items refl c.in-Some-pop.at c.in-Some-pop.ensures.items
    c.in_ok-follow_names-in-Some-pop.ensures in
    record { done = i.done ++ t.turn.demand ∷ []; on = turned_on i.on t; members = i.members }

pub turns-smaller : goal.turns-smaller
turns-smaller g c =
    let i = c.turns.invariant in
    let one : Finder = record c.turns.finder { symbols = c.pop_front.new.self } in
    let two : Finder = record one { names = c.pop.new.self } in
    let has = has_lent c.args.lent.cache (λ x. (goal.FastCheckCache-dyn g x.now).hash_of x.now.1 c.args.lent.seed.now)
    (λ x. (goal.FastCheckCache-dyn g x.now).stored x.now.1) c.args.lent.facts.graph.now in
    less_left i.on (after_package i.on one two c.enter_next.new.self refl c.in-None.ensures.items refl c.in-None-pop.ensures.items true
    (rw c.if-not-branch.false at (c.in_ok-enter_next-in-None-pop.ensures i.members).0)) _ has

pub turns-preserved : goal.turns-preserved
turns-preserved g c =
    let i = c.turns.invariant in
    let one : Finder = record c.turns.finder { symbols = c.pop_front.new.self } in
    let two : Finder = record one { names = c.pop.new.self } in
    let next = c.in_ok-enter_next-in-None-pop.ensures i.members in
    let t = after_package i.on one two c.enter_next.new.self refl c.in-None.ensures.items refl c.in-None-pop.ensures.items true
    (rw c.if-not-branch.false at next.0) in
    record { done = i.done ++ t.turn.demand ∷ []; on = turned_on i.on t; members = next.1 }

pub returns : goal.returns
returns g c =
    let i = c.turns.invariant in
    let one : Finder = record c.turns.finder { symbols = c.pop_front.new.self } in
    let two : Finder = record one { names = c.pop.new.self } in
    let t = after_package i.on one two c.enter_next.new.self refl c.in-None.ensures.items refl c.in-None-pop.ensures.items false
    (rw c.if-not-branch.true at (c.in_ok-enter_next-in-None-pop.ensures i.members).0) in
    on_ended _ _ i.done _ _ i.on t c.in_ok-into_found.field-0.entries (c.in_ok-into_found.ensures t.sound.once.apart)

pub returns-in_err-enter_next-in-None-pop : goal.returns-in_err-enter_next-in-None-pop
returns-in_err-enter_next-in-None-pop g c =
    let m = goal.JsrUrlProvider-dyn g c.args.lent.provider.now in
    let k = known_with c.args.lent.facts c.args.lent.seed.now (m.url_of c.args.lent.provider.now.1) (m.nv_at c.args.lent.provider.now.1) c.args.lent.cache
    (λ x. (goal.FastCheckCache-dyn g x.now).hash_of x.now.1) (λ x. (goal.FastCheckCache-dyn g x.now).stored x.now.1) in
    let rs = map nv_of c.args.roots.now in
    let f = c.in_err-enter_next-in-None-pop.field-0.0 in
    let i = c.turns.invariant in
    refused_on c.from_residual-in_err-enter_next-in-None-pop.result f _ (IsRefusal k rs) c.from_residual-in_err-enter_next-in-None-pop.ensures.1
    (refusal k rs (map nv_of c.turns.finder.packages) (packages_chained k rs i.done (search_of c.turns.finder) i.on.way.accounted) f
    c.in_err-enter_next-in-None-pop.ensures)
