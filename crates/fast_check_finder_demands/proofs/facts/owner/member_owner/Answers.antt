use Rattle.std.proofs.Common.{◌∙◌, ap, None, Some}
use Rattle.fast_check_tables_packages.specs.Package.{nv_of}
use Rattle.fast_check_tables_packages.specs.MembersIn.{members_in}
use Rattle.fast_check_finder_demands.proofs.facts.Placed.{member_placed}
use Rattle.fast_check_finder_demands.proofs.facts.owner.member_owner.Goals as goal

pub returns-in_default : goal.returns-in_default
returns-in_default c = member_placed (members_in c.args.members.now) c.args.text.now None c.in_default.ensures

pub returns-in_default-package_at : goal.returns-in_default-package_at
returns-in_default-package_at c = c.in_default-package_at.ensures ∙
    member_placed (members_in c.args.members.now) c.args.text.now (Some c.in-Some.place) c.in-Some.ensures

pub returns : goal.returns
returns c = ap Some (c.in_ok-copy_of.ensures ∙ ap nv_of c.deref.ensures) ∙
    (c.in-Some-package_at.ensures ∙ member_placed (members_in c.args.members.now) c.args.text.now (Some c.in-Some.place) c.in-Some.ensures)
