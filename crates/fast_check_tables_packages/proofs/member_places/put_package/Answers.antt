use Rattle.std.proofs.Common.{◌∙◌, sym}
use Rattle.fast_check_tables_packages.proofs.MembersFound.{package_new, package_kept}
use Rattle.fast_check_tables_packages.proofs.member_places.put_package.Goals as goal

pub returns-then-contains_key : goal.returns-then-contains_key
returns-then-contains_key c = λ asked.
    package_kept c.args.nv asked c.args.place c.args.places.now (sym c.contains_key.ensures ∙ c.if-contains_key.true)

pub returns : goal.returns
returns c = λ asked.
    package_new c.args.nv asked c.args.place c.args.places.now c.insert.new.self c.in_ok-insert.ensures.updates
    (sym c.contains_key.ensures ∙ c.if-contains_key.false)
