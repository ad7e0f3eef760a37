use Rattle.std.proofs.Common.{◌≡◌, ◌∙◌, ap, subst, List, ℕ, cond, Some, None, unwrap_or, bytes_eq, nat_cmp, rules}
use Rattle.std.specs.Option.{option_or}
use Rattle.std.specs.BTreeMap as map
use Rattle.std.specs.BTreeMap.Entry.{map_with_value}
use Rattle.std.specs.Cmp.Lexicographic.{slice_cmp}
use Rattle.fast_check_tables_packages.specs.Texts.{place_of}
use Rattle.fast_check_tables_packages.proofs.Beginnings.{put_or, place_in}
use Rattle.fast_check_tables_packages.proofs.texts.put_first.Goals as goal

pub returns : goal.returns
returns c = λ asked.
    let old = c.args.places.now in
    let key = c.in_ok-to_vec.field-0.items in
    let first = c.or_insert.result.now in
    let new = map_with_value c.in_ok-places.field-0 first in
    let is_first = c.or_insert.ensures.value ∙ ap (λ o. unwrap_or o c.args.place) c.in_ok-places.ensures.value in
    let put = put_or key asked c.args.place old new
    (subst (λ (v : ℕ). map.UpdatesBy (λ a b. slice_cmp nat_cmp a.items b.items) (λ k. slice_cmp nat_cmp key k.items) old new (Some v))
    is_first (c.in_ok-places.ensures.update.0 first)) in
    let same : key ≡ c.args.text.now = c.in_ok-to_vec.ensures.items_if_clones_equal (λ x y e. e) in
    ap (place_in asked) (search rules)
    ∙ subst (λ (t : List ℕ). place_of asked new ≡ option_or (place_of asked old) (cond (bytes_eq t asked) (Some c.args.place) None)) same put
