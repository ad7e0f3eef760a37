-- Inner: no contract of a public call cites what stands here.
-- How far the export texts of a package were joined.
use Rattle.std.specs.Prelude.{◌≡◌, ℕ, List, None}
use Rattle.std.specs.Borrow.{Bor}
use Rattle.std.specs.BTreeSet.{BTreeSet, contains_by}
use Rattle.std.specs.Cmp.Lexicographic.{slice_cmp}
use Rattle.std.specs.List.{list_any}
use Rattle.std.specs.Ordering.{nat_cmp}
use Rattle.std.specs.Str.{bytes_eq}
use Rattle.url.specs.Parts.{Parts}
use Rattle.fast_check_finder_ranges.specs.entries.Entries.{all_joined, first_refused, in_order}

-- each of these texts joins, they are noted, and what they are joined to is there
pub record AreJoined (base : Parts) (done : List (List ℕ)) (texts : BTreeSet (Bor (List ℕ)))
    (urls : BTreeSet Parts) : Type 0 where
  pub all : first_refused base done ≡ None
  pub noted : (t : List ℕ) → contains_by (λ k. slice_cmp nat_cmp t k.now) texts ≡ list_any (bytes_eq t) done
  pub are : urls.keys ≡ in_order (all_joined base done)
