-- What contracts see of a package: its name by its bytes, and its version's numbers and texts.
use Rattle.std.specs.Prelude.{ℕ, List, [], ◌∷◌, ◌++◌, Option, Some, None, string_bytes}
use Rattle.std.specs.Ordering.{nat_cmp, on, then_cmp}
use Rattle.std.specs.Cmp.Lexicographic.{slice_cmp}
use Rattle.std.specs.declared.cmp.Ordering.{Ordering}
use Rattle.semver.specs.Order.{pre_cmp, build_cmp}
use Rattle.semver.specs.Identifiers.{parts_of, parts_text}
use Rattle.semver.specs.declared.Version.{Version}
use Rattle.fast_check_tables_packages.specs.declared.package.PackageNv.{PackageNv}

-- the numbers of a version, and the texts of its pre-release and its build
abbrev pub VersionParts : Type 0
VersionParts = ℕ × ℕ × ℕ × List ℕ × List ℕ

-- the bytes of a name, and a version
abbrev pub Nv : Type 0
Nv = List ℕ × VersionParts

-- the name and version that a value holds
abbrev pub nv_of : PackageNv → Nv
nv_of p = (string_bytes p.name, parts_of p.version)

-- the version of a workspace member: 0.0.0 where it has none
abbrev pub version_or_zero : Option Version → VersionParts
version_or_zero None = (0, 0, 0, [], [])
version_or_zero (Some v) = parts_of v

-- versions by their numbers, then by pre-release and by build as Cargo orders them
abbrev pub version_cmp : VersionParts → VersionParts → Ordering
version_cmp = then_cmp (on (λ v. v.0) nat_cmp)
    (then_cmp (on (λ v. v.1) nat_cmp)
    (then_cmp (on (λ v. v.2) nat_cmp) (then_cmp (on (λ v. v.3) pre_cmp) (on (λ v. v.4) build_cmp))))

-- packages by the bytes of their names, and then by their versions
abbrev pub nv_cmp : Nv → Nv → Ordering
nv_cmp = then_cmp (on (λ p. p.0) (slice_cmp nat_cmp)) (on (λ p. p.1) version_cmp)

-- `name@version`
abbrev pub nv_text : Nv → List ℕ
nv_text p = p.0 ++ (64 ∷ parts_text p.1)
