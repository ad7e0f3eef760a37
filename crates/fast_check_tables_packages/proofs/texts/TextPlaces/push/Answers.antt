use Rattle.std.proofs.Common.{◌≡◌, List, ℕ, cond, Some, None, bytes_eq}
use Rattle.std.specs.Option.{option_or}
use Rattle.std.proofs.lemmas.Result.{IfOk-weaker}
use Rattle.fast_check_tables_packages.specs.Texts.{place_of}
use Rattle.fast_check_tables_packages.proofs.Beginnings.{texts_more}
use Rattle.fast_check_tables_packages.proofs.texts.TextPlaces.push.Goals as goal

pub returns : goal.returns
returns c =
    let text = c.args.text.now in
    IfOk-weaker c.put_first.result
    (λ _. (asked : List ℕ) → place_of asked c.put_first.new.places
    ≡ option_or (place_of asked c.args.self.now.places) (cond (bytes_eq text asked) (Some c.args.place) None))
    _
    (λ _ put texts at h. texts_more texts text c.args.place c.args.self.now (record { places = c.put_first.new.places }) at put h)
    c.put_first.ensures
