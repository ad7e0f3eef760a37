use Rattle.std.proofs.Common.{refl, [], ◌∷◌}
use Rattle.fast_check_tables_packages.specs.Package.{nv_of}
use Rattle.fast_check_finder_ranges.specs.declared.findings.found.FoundPackage.{FoundPackage}
use Rattle.fast_check_finder_loop.specs.Finder.{depends}
use Rattle.fast_check_finder_loop.proofs.Collected.{not_there, still_there, add_dependency, adds_then, adds_numbered}
use Rattle.fast_check_finder_loop.proofs.packages.add_dependency.Goals as goal

pub returns-in_ok-push : goal.returns-in_ok-push
returns-in_ok-push c =
    let old = c.args.found.now.entries in
    let mid = c.number_of.new.found.entries in
    let new = c.number_of-2.new.found.entries in
    let nv = nv_of c.args.dependency.package in
    let on = nv_of c.args.dependency.on in
    let place = c.in_ok-on.on in
    let p : FoundPackage = c.in-Some.package.now in
    let w : FoundPackage = record p { dependencies = c.push.new.self } in
    let s = still_there nv on c.in_ok-number.number place old mid new c.in_ok-on.ensures c.in_ok-number.ensures in
    adds_then [] (depends c.args.dependency ∷ []) old mid _ (adds_numbered on place old mid c.in_ok-on.ensures)
    (add_dependency nv c.in_ok-number.number mid new c.in_ok-number.ensures p w c.in-Some.ensures.value place on s.0 s.1 refl
    c.in_ok-push.ensures.items refl refl)

pub returns-in_default : goal.returns-in_default
returns-in_default c =
    let n = c.in_ok-number.ensures in
    absurd (not_there c.number_of-2.new.found.entries c.in_ok-number.number n.entry n.here c.in_default.ensures.value)
