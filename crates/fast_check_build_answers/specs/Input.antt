-- What a build answers modules by, and what it leaves of a cache.
use Rattle.std.specs.Prelude.{◌≡◌, ℕ, Bool, List}
use Rattle.fast_check_tables_packages.specs.Package.{Nv}
use Rattle.fast_check_build_answers.specs.declared.input.BuildInput.{BuildInput}

-- the option under which the first thing that is wrong is reported alone
abbrev pub first_alone : BuildInput → Bool
first_alone input = input.options.now.should_error_on_first_diagnostic

-- a cache has the keys that it had: the same seed, and the same hashes
pub record KeepsKeys (old_seed new_seed : List ℕ) (old_hash new_hash : List ℕ → Nv → List (List ℕ) → ℕ) : Type 0 where
  pub seed : new_seed ≡ old_seed
  pub hash : new_hash ≡ old_hash
