-- Inner: no contract of a public call cites what stands here.
-- Which folder a path lies in, as bytes.
use Rattle.std.specs.Prelude.{◌≡◌, ℕ, List}
use Rattle.fast_check_source_configs.specs.Paths.{path_inside}

-- a path lies in a folder
abbrev pub LiesIn : List ℕ → List ℕ → Type 0
LiesIn folder path = (rest : List ℕ) × (path ≡ path_inside folder rest)
