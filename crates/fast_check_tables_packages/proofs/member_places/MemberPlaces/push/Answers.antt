use Rattle.std.proofs.Common.{◌≡◌, ◌∙◌, refl, List, ℕ, cond, Some, None, bytes_eq}
use Rattle.std.specs.BTreeMap.{get}
use Rattle.std.specs.Option.{option_or}
use Rattle.std.specs.Ordering.{is_eq}
use Rattle.std.proofs.lemmas.Result.{IfOk-weaker}
use Rattle.fast_check_tables_packages.specs.declared.package.PackageNv.{PackageNv}
use Rattle.fast_check_tables_packages.specs.Packages.{package_cmp}
use Rattle.fast_check_tables_packages.specs.Texts.{place_of}
use Rattle.fast_check_tables_packages.proofs.MembersFound.{members_more, named_put, package_put}
use Rattle.fast_check_tables_packages.proofs.member_places.MemberPlaces.push.Goals as goal

pub returns-in-None : goal.returns-in-None
returns-in-None c =
    let old = c.args.self.now in
    let text = c.as_bytes.result.now in
    IfOk-weaker c.put_first.result
    (λ _. (asked : List ℕ) → place_of asked c.put_first.new.places
    ≡ option_or (place_of asked old.by_name) (cond (bytes_eq text asked) (Some c.args.place) None))
    _
    (λ _ put members at h. members_more members c.args.member.now c.args.place old
    (record { by_name = c.put_first.new.places; by_package = old.by_package }) at
    (named_put c.args.member.now c.args.place text old
    (record { by_name = c.put_first.new.places; by_package = old.by_package }) c.in-None.is
    (c.as_bytes.ensures.value ∙ c.as_str.ensures.value) put refl) h)
    c.put_first.ensures

pub returns-in_ok-as_nv-in-Some : goal.returns-in_ok-as_nv-in-Some
returns-in_ok-as_nv-in-Some c =
    let old = c.args.self.now in
    let nv = c.in_ok-as_nv-in-Some.field-0 in
    IfOk-weaker c.put_package.result
    (λ _. (asked : PackageNv) → get package_cmp c.put_package.new.places asked
    ≡ option_or (get package_cmp old.by_package asked) (cond (is_eq (package_cmp asked nv)) (Some c.args.place) None))
    _
    (λ _ put members at h. members_more members c.args.member.now c.args.place old
    (record { by_name = old.by_name; by_package = c.put_package.new.places }) at
    (package_put c.args.member.now c.args.place c.in-Some.field-0 nv old
    (record { by_name = old.by_name; by_package = c.put_package.new.places })
    c.in-Some.is c.in_ok-as_nv-in-Some.ensures put refl) h)
    c.put_package.ensures
