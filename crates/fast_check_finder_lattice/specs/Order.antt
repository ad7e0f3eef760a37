-- Lists of names, and the order by which a name is found.
use Rattle.std.specs.Prelude.{ℕ, ◌≡◌, ◌<◌, ◌≤◌, List, [], map, Option, String, string_bytes, get_or, length}
use Rattle.std.specs.Map.{lookup}
use Rattle.std.specs.Str.{bytes_eq}
use Rattle.std.specs.Option.{MatchOption}
use Rattle.std.specs.Cmp.Lexicographic.{slice_cmp}
use Rattle.std.specs.Ordering.{nat_cmp}
use Rattle.std.specs.declared.cmp.Ordering.TheVariants.{Less, Greater}
use Rattle.std.specs.declared.alloc.Global.{Global}
use Rattle.fast_check_finder_lattice.specs.declared.lattice.node.Below.{Below}

-- a name, by its bytes
abbrev pub Name : Type 0
Name = List ℕ

-- what a node lists
abbrev pub Entry : Type 0
Entry = String Global × Below

-- what a list of names has under a name
abbrev pub found : List Entry → Name → Option Below
found es n = lookup (λ k. bytes_eq (string_bytes k) n) es

-- the names of a list
abbrev pub names_in : List Entry → List Name
names_in es = map (λ (e : Entry). string_bytes e.0) es

-- the name at a place
abbrev pub name_at : List Entry → ℕ → Name
name_at es i = get_or (names_in es) i []

-- each name stands once
abbrev pub IsOnce : List Entry → Type 0
IsOnce es = (i j : ℕ) → i < j → j < length es → name_at es i ≡ name_at es j → ⊥

-- a name stands at none of the first places
abbrev pub IsAbsentBefore : List Entry → Name → ℕ → Type 0
IsAbsentBefore es n i = (k : ℕ) → k < i → name_at es k ≡ n → ⊥

-- no name of a list is this one
abbrev pub IsAbsent : List Entry → Name → Type 0
IsAbsent es n = IsAbsentBefore es n (length es)

-- where a name stands: nowhere, or at a place
abbrev pub IsPlace : List Entry → Name → Option ℕ → Type 0
IsPlace es n r = MatchOption r (IsAbsent es n) (λ i. (i < length es) × (name_at es i ≡ n))

-- the names of some numbers
abbrev pub keys : List Name → List ℕ → List Name
keys ns ks = map (λ k. get_or ns k []) ks

-- each name is below those after it
abbrev pub IsRising : List Name → Type 0
IsRising ns = (i j : ℕ) → i < j → j < length ns → slice_cmp nat_cmp (get_or ns i []) (get_or ns j []) ≡ Less

-- the places of the names, all of them, sorted by name, so that each name stands once
pub record IsSorted (ns : List Name) (ks : List ℕ) : Type 0 where
  pub rising : IsRising (keys ns ks)
  pub within : (p : ℕ) → p < length ks → get_or ks p 0 < length ns
  pub each : (k : ℕ) → k < length ns → ((p : ℕ) → p < length ks → get_or ks p 0 ≡ k → ⊥) → ⊥

-- the names before a place are below the name, and those from it on are above it
pub record IsGap (ns : List Name) (n : Name) (i : ℕ) : Type 0 where
  pub within : i ≤ length ns
  pub before : (k : ℕ) → k < i → slice_cmp nat_cmp (get_or ns k []) n ≡ Less
  pub behind : (k : ℕ) → i ≤ k → k < length ns → slice_cmp nat_cmp (get_or ns k []) n ≡ Greater

-- the numbers below a count, in their order
abbrev pub IsCount : List ℕ → ℕ → Type 0
IsCount ks count = (length ks ≡ count) × ((p : ℕ) → p < count → get_or ks p 0 ≡ p)

-- the places of a list, each once
pub record ArePlaces (es : List Entry) (ks : List ℕ) : Type 0 where
  pub within : (p : ℕ) → p < length ks → get_or ks p 0 < length es
  pub each : (k : ℕ) → k < length es → ((p : ℕ) → p < length ks → get_or ks p 0 ≡ k → ⊥) → ⊥
  pub once : (p q : ℕ) → p < q → q < length ks → get_or ks p 0 ≡ get_or ks q 0 → ⊥
