use Rattle.std.proofs.Common.{◌∙◌, sym, ap, List, Some}
use Rattle.url.specs.Parts.{Parts}
use Rattle.fast_check_tables_packages.specs.Package.{Nv}
use Rattle.fast_check_json_tables.proofs.graph.Given.{given_some, map_some}
use Rattle.fast_check_program_requests.specs.build_requests.Provider.{SeenProvider}
use Rattle.fast_check_program_requests.proofs.build_requests.provider.read_listed_packages.Goals as goal

abbrev seen : Parts → List (Nv × Parts) → SeenProvider
seen fallback packages = record { packages = packages; fallback = fallback }

pub returns : goal.returns
returns c =
    given_some _ c.in_ok-read_list.ensures ∙ (map_some _ c.in_ok-read_member.ensures
    ∙ ap (λ packages. Some (seen c.in_ok-read_member.field-0 packages)) (sym c.in_ok-last_rows.ensures))
