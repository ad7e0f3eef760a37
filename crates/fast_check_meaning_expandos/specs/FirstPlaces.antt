-- Inner: no contract of a public call cites what stands here.
-- The places at which keys stand first, as an index has them.
use Rattle.std.specs.Prelude.{◌≡◌, ℕ, suc, Bool, cond, List, [], ◌∷◌, Option, Some, None, option_map, if◌then◌else◌}
use Rattle.std.specs.BTreeMap.{BTreeMap, get}
use Rattle.std.specs.Cmp.Lexicographic.{slice_cmp}
use Rattle.std.specs.Ordering.{nat_cmp}
use Rattle.std.specs.Str.{bytes_eq}
use Rattle.std.specs.declared.cmp.Ordering.{Ordering}
use Rattle.fast_check_tree_syntax.specs.contracts.atom.IdOrd.TheImpl as order
use Rattle.fast_check_tree_syntax.specs.declared.atom.Id.{Id}
use Rattle.fast_check_tree_syntax.specs.declared.source.SourceRange.{SourceRange}
use Rattle.fast_check_tables_modules.specs.symbols.Tables.{same_id}
use Rattle.fast_check_meaning_expandos.specs.declared.namespaces.Namespace.{Namespace}
use Rattle.fast_check_meaning_expandos.specs.declared.references.Reference.{Reference}

-- the place of a key
abbrev pub place_of : {K N : Type 0} → (K → K → Bool) → K → List (K × N) → Option ℕ
place_of same k [] = None
place_of same k (e ∷ es) = cond (same k e.0) (Some 0) (option_map suc (place_of same k es))

-- the index has this place of each key, and no other
pub record HasPlaces {K N : Type 0} (same : K → K → Bool) (cmp : K → K → Ordering) (places : BTreeMap K ℕ)
    (entries : List (K × N)) : Type 0 where
  pub says : (k : K) → get cmp places k ≡ place_of same k entries

-- of names with their ranges
abbrev pub HasNames : BTreeMap (List ℕ) ℕ → List (List ℕ × SourceRange) → Type 0
HasNames = HasPlaces bytes_eq (slice_cmp nat_cmp)

-- of objects with their namespaces
abbrev pub HasObjects : BTreeMap Id ℕ → List (Id × Namespace) → Type 0
HasObjects = HasPlaces same_id order.cmp-value.it

-- the ranges with one reference more: at its name, or else at a last one
abbrev pub placed_reference : Reference → List (List ℕ × SourceRange) → List (List ℕ × SourceRange)
placed_reference r [] = (r.name, r.range) ∷ []
placed_reference r (e ∷ es) = if bytes_eq r.name e.0 then (e.0, r.range) ∷ es else e ∷ placed_reference r es
