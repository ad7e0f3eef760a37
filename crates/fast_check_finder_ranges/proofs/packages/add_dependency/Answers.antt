use Rattle.std.proofs.Common.{◌≡◌, ◌∙◌, sym, ap, ◌||◌, Option, Some}
use Rattle.std.specs.Prelude.{option_map, option_to_list, slice_get}
use Rattle.std.specs.List.{list_any}
use Rattle.std.proofs.lemmas.Option.{slice_get-map}
use Rattle.fast_check_tables_packages.specs.Package.{Nv, nv_of}
use Rattle.fast_check_tables_packages.specs.declared.package.PackageNv.{PackageNv}
use Rattle.fast_check_tables_packages.proofs.Rows.{item_at}
use Rattle.fast_check_tables_packages.proofs.Found.{or_none}
use Rattle.fast_check_finder_demands.specs.asked.Demands.{same_nv}
use Rattle.fast_check_finder_ranges.specs.Parts.{is_package}
use Rattle.fast_check_finder_ranges.proofs.Dependencies.{has_more}
use Rattle.fast_check_finder_ranges.proofs.packages.add_dependency.Goals as goal

pub returns-in_ok-insert-in-Some : goal.returns-in_ok-insert-in-Some
returns-in_ok-insert-in-Some c = λ nv.
    let packages = c.args.packages.now in
    let found : slice_get packages c.args.place ≡ Some c.in-Some.package.now =
    sym (item_at packages c.args.place (Some c.in-Some.package) c.in-Some.ensures.lookup) in
    has_more c.args.dependencies.now c.insert.new.self c.in_ok-copy-in-Some.copy c.in_ok-insert-in-Some.ensures.updates nv
    ∙ ap (λ b. list_any (is_package nv) c.args.dependencies.now.keys || b)
    (ap (same_nv nv) c.in_ok-copy-in-Some.ensures ∙ (sym (or_none (is_package nv c.in-Some.package.now))
    ∙ ap (λ (o : Option Nv). list_any (same_nv nv) (option_to_list o))
    (sym (slice_get-map nv_of packages c.args.place ∙ ap (λ (o : Option PackageNv). option_map nv_of o) found))))
