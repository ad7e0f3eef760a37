-- Inner: no contract of a public call cites what stands here.
-- A program of the one command.
use Rattle.std.specs.Prelude.{ℕ, List, codes, if◌then◌else◌, Option, Some, None}
use Rattle.std.specs.Str.{bytes_eq}
use Rattle.fast_check_program_transform.specs.declared.only.Transform.{Transform}

-- it is named `transform`
abbrev pub transform_named : List ℕ → Option Transform
transform_named name = if bytes_eq name (codes "transform") then Some (record {}) else None
