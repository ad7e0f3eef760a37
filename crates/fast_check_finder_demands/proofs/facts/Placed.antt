-- A file belongs to the member at the place of its base.
use Rattle.std.proofs.Common.{◌≡◌, ◌∙◌, sym, ap, ℕ, List, Option, option_map, option_and_then, slice_get}
use Rattle.fast_check_tables_packages.specs.declared.package.WorkspaceMember.{WorkspaceMember}
use Rattle.fast_check_tables_packages.specs.Members.{member_nv, member_of, place_around}
use Rattle.fast_check_tables_packages.proofs.MembersFound.{member_there}
use Rattle.fast_check_finder_demands.specs.asked.Demands.{Text}

pub member_placed : (members : List WorkspaceMember) (t : Text) (place : Option ℕ) → place ≡ place_around members t →
    option_map member_nv (option_and_then (slice_get members) place) ≡ option_map member_nv (member_of members t)
member_placed members t place is =
    ap (option_map member_nv) (ap (option_and_then (slice_get members)) is ∙ sym (member_there members t))
