-- Packages that are listed with their URLs.
use Rattle.std.specs.Prelude.{ℕ, Bool, ◌==◌, List, reverse, Option, Some, None}
use Rattle.std.specs.List.{find, starts_with}
use Rattle.std.specs.Ordering.{is_eq}
use Rattle.url.specs.Parts.{Parts, serialize}
use Rattle.fast_check_tables_packages.specs.declared.package.PackageNv.{PackageNv}
use Rattle.fast_check_tables_packages.specs.Package.{Nv, nv_of, nv_cmp}

abbrev pub Row : Type 0
Row = PackageNv × Parts

-- the text begins with the other
abbrev pub begins_with : List ℕ → List ℕ → Bool
begins_with beginning text = starts_with ◌==◌ text beginning

-- the last entry of a package
abbrev pub row_of : List Row → Nv → Option Row
row_of rows nv = find (λ e. is_eq (nv_cmp nv (nv_of e.0))) (reverse rows)

-- the first entry whose URL begins the text of a URL
abbrev pub row_at : List Row → List ℕ → Option Row
row_at rows text = find (λ e. begins_with (serialize e.1) text) rows

-- the URL of an entry
abbrev pub url_in : Parts → Option Row → Parts
url_in fallback None = fallback
url_in fallback (Some e) = e.1

-- the package of an entry
abbrev pub nv_in : Option Row → Option Nv
nv_in None = None
nv_in (Some e) = Some (nv_of e.0)
