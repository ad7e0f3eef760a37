-- What it means that URLs stand in order.
use Rattle.std.specs.Prelude.{◌≡◌, IsTrue, List, AllPairs}
use Rattle.std.specs.List.{All, Contains, list_any}
use Rattle.std.specs.Str.{bytes_eq}
use Rattle.std.specs.Ordering.{nat_cmp}
use Rattle.std.specs.Cmp.Lexicographic.{slice_cmp}
use Rattle.std.specs.declared.cmp.Ordering.TheVariants.{Less}
use Rattle.url.specs.Parts.{Parts, serialize}

-- the text of each is below those of all later ones, each is one of these URLs, and each of these has one with its text
pub record AreInOrder (urls ordered : List Parts) : Type 0 where
  pub rise : AllPairs (λ a b. slice_cmp nat_cmp (serialize a) (serialize b) ≡ Less) ordered
  pub only : All (Contains urls) ordered
  pub all : All (λ url. IsTrue (list_any (λ other. bytes_eq (serialize url) (serialize other)) ordered)) urls
