use Rattle.std.proofs.Common.{refl}
use Rattle.fast_check_tables_packages.specs.Package.{nv_of}
use Rattle.fast_check_finder_ranges.specs.declared.findings.found.FoundPackage.{FoundPackage}
use Rattle.fast_check_finder_loop.proofs.Collected.{not_there, add_untyped}
use Rattle.fast_check_finder_loop.proofs.packages.add_untyped.Goals as goal

pub returns-in_ok-push : goal.returns-in_ok-push
returns-in_ok-push c =
    let p : FoundPackage = c.in-Some.package.now in
    let w : FoundPackage = record p { untyped = c.push.new.self } in
    add_untyped (nv_of c.args.nv) c.in_ok-number.number c.args.found.now.entries c.number_of.new.found.entries c.in_ok-number.ensures p w
    c.in-Some.ensures.value c.args.url refl refl refl c.in_ok-push.ensures.items

pub returns-in_default : goal.returns-in_default
returns-in_default c =
    let n = c.in_ok-number.ensures in
    absurd (not_there c.number_of.new.found.entries c.in_ok-number.number n.entry n.here c.in_default.ensures.value)
