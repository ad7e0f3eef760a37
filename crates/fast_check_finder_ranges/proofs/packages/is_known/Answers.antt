use Rattle.std.proofs.Common.{◌∙◌, sym, ap, ◌||◌, map, ℕ, length, List}
use Rattle.std.specs.Prelude.{nat_lt}
use Rattle.std.specs.List.{list_any}
use Rattle.std.specs.Option.{is_some}
use Rattle.std.proofs.lemmas.List.{length-map}
use Rattle.fast_check_tables_packages.specs.Package.{nv_of}
use Rattle.fast_check_finder_ranges.specs.Answers.{is_filled}
use Rattle.fast_check_finder_ranges.proofs.Known.{known}
use Rattle.fast_check_finder_ranges.proofs.packages.is_known.Goals as goal

pub returns : goal.returns
returns c = λ nv.
    let found = c.args.found.now in
    c.either-2.ensures
    ∙ (ap (λ b. b || c.either.result) c.is_some-is_entered.ensures
    ∙ (ap (λ b. is_some found.entrance || b) (c.either.ensures
    ∙ (ap (λ b. b || c.has_found.result) (c.any_within-depends.ensures
    ∙ ap (λ (ks : List ℕ). list_any (λ place. nat_lt place (length c.args.packages.now)) ks) c.as_slice.ensures.value)
    ∙ (ap (λ b. list_any (λ place. nat_lt place (length c.args.packages.now)) found.dependencies.items || b) c.has_found.ensures
    ∙ ap (λ (n : ℕ). list_any (λ place. nat_lt place n) found.dependencies.items ||
    (is_filled found.modules.items || is_filled found.untyped.items)) (sym (length-map c.args.packages.now nv_of)))))
    ∙ sym (known (map nv_of c.args.packages.now) nv found)))
