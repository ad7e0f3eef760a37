-- Inner: no contract of a public call cites what stands here.
-- The hash that the caches of the example keep the item of a package under.
use Rattle.std.specs.Prelude.{ℕ, Bool, true, false, List, ◌+◌, ◌*◌, ◌%◌, ◌^◌, fold}
use Rattle.fast_check_tables_packages.specs.Package.{Nv, VersionParts}

-- a hash with one number more
unfoldable pub hash_more : ℕ → ℕ → ℕ
hash_more hash number = (hash * 1099511628211 % 2 ^ 64 + number) % 2 ^ 64

-- a hash with a text more: its bytes, and 255, which no text has
abbrev pub hash_text : ℕ → List ℕ → ℕ
hash_text hash text = hash_more (fold hash_more hash text) 255

-- a hash with the numbers and the texts of a version more
abbrev pub hash_version : ℕ → VersionParts → ℕ
hash_version hash v = hash_text (hash_text (hash_more (hash_more (hash_more hash v.0) v.1) v.2) v.3) v.4

-- the hash of a seed, a package and the texts of its entry points
abbrev pub hash_package : List ℕ → Nv → List (List ℕ) → ℕ
hash_package seed nv entrypoints =
    fold hash_text (hash_version (hash_text (hash_text 14695981039346656037 seed) nv.0) nv.1) entrypoints

-- one key for all packages, or that of the package
abbrev pub hash_in : Bool → List ℕ → Nv → List (List ℕ) → ℕ
hash_in true _ _ _ = 7
hash_in false seed nv entrypoints = hash_package seed nv entrypoints
