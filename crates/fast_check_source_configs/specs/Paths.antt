-- Inner: no contract of a public call cites what stands here.
-- Paths below folders, and texts with one `*`, as bytes.
use Rattle.std.specs.Prelude.{ℕ, ◌==◌, Bool, List, ◌∷◌, ◌++◌, length, if◌then◌else◌}
use Rattle.std.specs.List.{position_or_len, before_first, after_first}

-- a path below a folder: below none it is the path itself
abbrev pub path_inside : List ℕ → List ℕ → List ℕ
path_inside folder path = if length folder == 0 then path else folder ++ 47 ∷ path

abbrev pub is_star : ℕ → Bool
is_star b = b == 42

-- a text in which another one stands for its first `*`, if it has one
abbrev pub with_star : List ℕ → List ℕ → List ℕ
with_star text rest = if position_or_len is_star text == length text then text else before_first is_star text ++ rest ++ after_first is_star text
