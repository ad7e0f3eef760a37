use Rattle.std.proofs.Common.{◌∙◌}
use Rattle.indexmap.proofs.CallerLemmas.{insert_entry-new}
use Rattle.fast_check_tables_packages.specs.contracts.package.PackageNvPartialEq.TheImpl as package_eq
use Rattle.fast_check_finder_loop.proofs.Collected.{no_such, numbered_here, numbered_last}
use Rattle.fast_check_finder_loop.proofs.packages.number_of.Goals as goal

pub returns-in-Some : goal.returns-in-Some
returns-in-Some c = numbered_here c.args.nv c.in-Some.number c.args.found.now.entries c.in-Some.ensures.index

pub returns : goal.returns
returns c =
    let found = c.args.found.now in
    let made = c.new.result in
    let none = no_such _ c.in_default.ensures.found in
    numbered_last c.args.nv made c.len-number.result found.entries c.insert.new.self.entries c.len-number.ensures.len
    (record { entrance = c.new.ensures.entrance; dependencies = c.new.ensures.dependencies; modules = c.new.ensures.modules; untyped = c.new.ensures.untyped })
    (c.in_ok-insert.ensures.entries ∙ insert_entry-new package_eq.eq-value.it found c.args.nv made none)
