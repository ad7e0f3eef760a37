-- Inner: no contract of a public call cites what stands here.
-- Each package is entered once.
use Rattle.std.specs.Prelude.{◌≡◌, ℕ, ◌≤◌, List, ◌∷◌, ◌++◌, length, take}
use Rattle.std.specs.List.{Contains}
use Rattle.fast_check_tables_packages.specs.Package.{Nv}

-- each stands once
abbrev pub AreApart : {X : Type 0} → List X → Type 0
AreApart {X} xs = (front back : List X) (x : X) → xs ≡ front ++ x ∷ back → Contains front x → ⊥

-- each package was entered once, of the first that were asked for, each of which stands once
pub record AreOnce (packages : List Nv) (entered : ℕ) (entrances : List Nv) : Type 0 where
  pub within : entered ≤ length packages
  pub among : (p : Nv) → Contains entrances p → Contains (take entered packages) p
  pub packages_apart : AreApart packages
  pub apart : AreApart entrances
