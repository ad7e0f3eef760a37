-- Maps of modules, in the order in which they came.
use Rattle.std.proofs.Common.{◌≡◌, refl, subst, List, [], ◌∷◌, ◌++◌, Option, Some, None}
use Rattle.std.specs.Map.{lookup, set_value}
use Rattle.url.specs.Parts.{Parts}
use Rattle.fast_check_tables_packages.specs.declared.package.PackageNv.{PackageNv}
use Rattle.fast_check_finder_lattice.specs.declared.lattice.imported_exports.ImportedExports.{ImportedExports}
use Rattle.fast_check_finder_lattice.specs.Imports.{IsCopy, IsAdded}
use Rattle.fast_check_finder_lattice.specs.Traces.{is_module, Handles, HandlesAt, Waits, WaitsAt}

pub handles_new : (old new : List (Parts × ImportedExports)) (url : Parts) (traced copy : ImportedExports) →
    None ≡ lookup (is_module url) old →
    IsCopy traced copy → new ≡ old ++ (url, copy) ∷ [] → Handles old url traced (Some traced) new
handles_new old new url traced copy none same is =
    subst (λ (o : Option ImportedExports). HandlesAt o old url traced (Some traced) new) none (refl, copy, same, is)

pub handles_held : (old new : List (Parts × ImportedExports)) (url : Parts) (traced held state : ImportedExports) (answer : Option ImportedExports) →
    Some held ≡ lookup (is_module url) old → IsAdded held traced answer state → new ≡ set_value (is_module url) old state →
    Handles old url traced answer new
handles_held old new url traced held state answer found added is =
    subst (λ (o : Option ImportedExports). HandlesAt o old url traced answer new) found (state, added, is)

pub waits_new : (old new : List (Parts × (PackageNv × ImportedExports))) (nv : PackageNv) (url : Parts) (traced : ImportedExports) →
    None ≡ lookup (is_module url) old → new ≡ old ++ (url, (nv, traced)) ∷ [] → Waits old nv url traced new
waits_new old new nv url traced none is = subst (λ (o : Option (PackageNv × ImportedExports)). WaitsAt o old nv url traced new) none is

pub waits_held : (old new : List (Parts × (PackageNv × ImportedExports))) (nv : PackageNv) (url : Parts) (traced state : ImportedExports)
    (answer : Option ImportedExports) (held : PackageNv × ImportedExports) → Some held ≡ lookup (is_module url) old →
    IsAdded held.1 traced answer state →
    new ≡ set_value (is_module url) old (held.0, state) → Waits old nv url traced new
waits_held old new nv url traced state answer held found added is =
    subst (λ (o : Option (PackageNv × ImportedExports)). WaitsAt o old nv url traced new) found (state, answer, added, is)
