-- Renamings: three lists of pairs, of positions as starts, of positions as ends and of scope numbers.
-- In proofs a renaming is a function on numbers (`partners`), so that equality under it is an equation of one tree.
use Rattle.std.specs.Prelude.{◌≡◌, ℕ, ◌+◌, ◌*◌, eqb, List, [], ◌∷◌, if◌then◌else◌, ◌↔◌, ◌⊎◌}
use Rattle.fast_check_tree_syntax.specs.declared.source.SourceRange.{SourceRange}
use Rattle.fast_check_tree_syntax.specs.declared.tree.Tree.{Tree, roll-Tree}
use Rattle.fast_check_tree_syntax.specs.declared.tree.Tree.TheOpen.{Tree-F}
use Rattle.fast_check_tree_syntax.specs.declared.tree.Tree.TheFolds.{fold-Tree}

-- what becomes of each start, end and scope number
pub record Moves : Type 0 where
  pub starts : ℕ → ℕ
  pub ends : ℕ → ℕ
  pub scopes : ℕ → ℕ

abbrev pub moved_range : Moves → SourceRange → SourceRange
moved_range m r = record { start = record { 0 = m.starts r.start.0 }; end = record { 0 = m.ends r.end.0 } }

abbrev pub moved_level : Moves → Tree-F Tree → Tree-F Tree
moved_level m (Tree-F.Range r) = Tree-F.Range (moved_range m r)
moved_level m (Tree-F.Context c) = Tree-F.Context (record { 0 = m.scopes c.0 })
moved_level m l = l

unfoldable pub moved : Moves → Tree → Tree
moved m = fold-Tree Tree (λ l. roll-Tree (moved_level m l))

-- new nodes stay new, and scope numbers stay apart
pub record Keeps (m : Moves) : Type 0 where
  pub start_zero : m.starts 0 ≡ 0
  pub end_zero : m.ends 0 ≡ 0
  pub scope_zero : m.scopes 0 ≡ 0
  pub scopes_apart : (a b : ℕ) → m.scopes a ≡ m.scopes b → a ≡ b

-- numbers, each with its partner
abbrev pub Pairs : Type 0
Pairs = List (ℕ × ℕ)

-- three lists of pairs
pub record Renaming : Type 0 where
  pub starts : Pairs
  pub ends : Pairs
  pub scopes : Pairs

-- b is a partner of a
abbrev pub IsPair : Pairs → ℕ → ℕ → Type 0
IsPair [] a b = ⊥
IsPair (p ∷ ps) a b = ((p.0 ≡ a) × (p.1 ≡ b)) ⊎ IsPair ps a b

-- no two pairs share a number on one side alone, and 0 goes with 0
pub record OneToOne (ps : Pairs) : Type 0 where
  pub zero : IsPair ps 0 0
  pub same : (a b x y : ℕ) → IsPair ps a x → IsPair ps b y → (a ≡ b) ↔ (x ≡ y)

pub record IsRenaming (r : Renaming) : Type 0 where
  pub starts : OneToOne r.starts
  pub ends : OneToOne r.ends
  pub scopes : OneToOne r.scopes

-- twice the partner of a number, or an odd number where it has none: so what has no partner equals nothing that is
-- twice a number
abbrev pub partner : Pairs → ℕ → ℕ
partner [] a = 2 * a + 1
partner (p ∷ ps) a = if eqb p.0 a then 2 * p.1 else partner ps a

abbrev pub partners : Renaming → Moves
partners r = record { starts = partner r.starts; ends = partner r.ends; scopes = partner r.scopes }

abbrev pub twice : Moves
twice = record { starts = λ a. 2 * a; ends = λ a. 2 * a; scopes = λ a. 2 * a }
