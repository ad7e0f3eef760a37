use Rattle.std.proofs.Common.{◌≡◌, ◌∙◌, ap, List, ℕ, string_bytes}
use Rattle.fast_check_tables_packages.specs.First.{earlier}
use Rattle.fast_check_tables_packages.specs.Texts.{place_of}
use Rattle.fast_check_tables_packages.proofs.MembersFound.{first_member}
use Rattle.fast_check_tables_packages.proofs.member_places.MemberPlaces.first.Goals as goal

pub returns : goal.returns
returns c = λ members h.
    let places = c.args.self.now in
    let name = string_bytes c.args.nv.now.name in
    let same : c.as_bytes.result.now ≡ name = c.as_bytes.ensures.value ∙ c.as_str.ensures.value in
    c.earlier.ensures
    ∙ (ap (λ o. earlier o c.copied-versioned.result)
    (c.copied-named.ensures ∙ (c.get.ensures.value ∙ ap (λ (t : List ℕ). place_of t places.by_name) same))
    ∙ (ap (λ o. earlier (place_of name places.by_name) o) (c.copied-versioned.ensures ∙ c.get-2.ensures.value)
    ∙ first_member members places c.args.nv.now h))
