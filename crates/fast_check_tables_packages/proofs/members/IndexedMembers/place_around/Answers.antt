use Rattle.std.proofs.Common.{◌∙◌, ap}
use Rattle.fast_check_tables_packages.specs.Members.{bases_of, place_around}
use Rattle.fast_check_tables_packages.proofs.MembersFound.{base_place}
use Rattle.fast_check_tables_packages.proofs.members.IndexedMembers.place_around.Goals as goal

pub returns : goal.returns
returns c =
    let members = c.args.self.now.members.now in
    c.first_within.ensures (bases_of members) c.args.self.now.indexed.bases
    ∙ (base_place members c.as_bytes.result.now ∙ ap (place_around members) c.as_bytes.ensures.value)
