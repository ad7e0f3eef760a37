use Rattle.std.proofs.Common.{refl, Some}
use Rattle.fast_check_finder_ranges.specs.declared.findings.found.FoundPackage.{FoundPackage}
use Rattle.fast_check_finder_loop.proofs.Collected.{not_there, entered_more}
use Rattle.fast_check_finder_loop.proofs.packages.add_entrance.Goals as goal

pub returns-in-Some : goal.returns-in-Some
returns-in-Some c = λ front apart is.
    let p : FoundPackage = c.in-Some.package.now in
    let w : FoundPackage = record p { entrance = Some c.args.entrance } in
    entered_more front (c.args.nv, c.args.entrance) c.in_ok-number.number c.args.found.now.entries c.number_of.new.found.entries
    c.in_ok-number.ensures p w c.in-Some.ensures.value apart is refl refl refl refl

pub returns-in_default : goal.returns-in_default
returns-in_default c =
    let n = c.in_ok-number.ensures in
    absurd (not_there c.number_of.new.found.entries c.in_ok-number.number n.entry n.here c.in_default.ensures.value)
