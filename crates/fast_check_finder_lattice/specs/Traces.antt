-- What is demanded of each module, kept in the order in which the modules came.
use Rattle.std.specs.Prelude.{◌≡◌, Bool, List, [], ◌∷◌, ◌++◌, Option, Some, None}
use Rattle.std.specs.Map.{lookup, set_value}
use Rattle.std.specs.Str.{bytes_eq}
use Rattle.url.specs.Parts.{Parts, serialize}
use Rattle.fast_check_tables_packages.specs.declared.package.PackageNv.{PackageNv}
use Rattle.fast_check_finder_lattice.specs.declared.lattice.imported_exports.ImportedExports.{ImportedExports}
use Rattle.fast_check_finder_lattice.specs.declared.module_maps.HandledExports.{HandledExports}
use Rattle.fast_check_finder_lattice.specs.declared.module_maps.PendingTraces.{PendingTraces}
use Rattle.fast_check_finder_lattice.specs.declared.module_maps.PendingTrace.{PendingTrace}
use Rattle.fast_check_finder_lattice.specs.Imports.{IsCopy, IsAdded}

-- a specifier is told by its text
abbrev pub is_module : Parts → Parts → Bool
is_module url k = bytes_eq (serialize url) (serialize k)

-- the modules with what was demanded of each
abbrev pub handled : HandledExports → List (Parts × ImportedExports)
handled h = h

-- the modules with the package that asked first and what is demanded of each
abbrev pub pending : PendingTraces → List (Parts × (PackageNv × ImportedExports))
pending t = t

-- the entry of a trace
abbrev pub entry_of : PendingTrace → Parts × (PackageNv × ImportedExports)
entry_of t = (t.specifier, (t.package_nv, t.exports_to_trace))

-- A new module goes last, with a copy of what is demanded of it, which is answered whole.
-- To a module that is there what is demanded is added, in its place.
abbrev pub HandlesAt : Option ImportedExports → List (Parts × ImportedExports) → Parts → ImportedExports →
    Option ImportedExports →
    List (Parts × ImportedExports) → Type 0
HandlesAt None old url traced answer new = (answer ≡ Some traced) × (copy : ImportedExports) × IsCopy traced copy ×
    (new ≡ old ++ (url, copy) ∷ [])
HandlesAt (Some held) old url traced answer new = (state : ImportedExports) × IsAdded held traced answer state ×
    (new ≡ set_value (is_module url) old state)

abbrev pub Handles : List (Parts × ImportedExports) → Parts → ImportedExports → Option ImportedExports →
    List (Parts × ImportedExports) → Type 0
Handles old url traced answer new = HandlesAt (lookup (is_module url) old) old url traced answer new

-- A new module goes last, with its package and what is demanded of it.
-- A module that is there keeps its place and the package that asked first, and what is demanded is added.
abbrev pub WaitsAt : Option (PackageNv × ImportedExports) → List (Parts × (PackageNv × ImportedExports)) → PackageNv →
    Parts → ImportedExports →
    List (Parts × (PackageNv × ImportedExports)) → Type 0
WaitsAt None old nv url traced new = new ≡ old ++ (url, (nv, traced)) ∷ []
WaitsAt (Some held) old nv url traced new =
    (state : ImportedExports) × (answer : Option ImportedExports) × IsAdded held.1 traced answer state ×
    (new ≡ set_value (is_module url) old (held.0, state))

abbrev pub Waits : List (Parts × (PackageNv × ImportedExports)) → PackageNv → Parts → ImportedExports →
    List (Parts × (PackageNv × ImportedExports)) → Type 0
Waits old nv url traced new = WaitsAt (lookup (is_module url) old) old nv url traced new
