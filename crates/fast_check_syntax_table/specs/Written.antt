-- The syntax that a tree writes.
use Rattle.std.specs.Prelude.{ℕ, Bool, false, ◌&&◌, List, [], ◌∷◌, map, length, codes, if◌then◌else◌}
use Rattle.fast_check_tree_syntax.specs.Shape.{◌is◌, kind_of, parts, part, text_of, is_absent}
use Rattle.fast_check_tree_syntax.specs.Recursion.{by_form}
use Rattle.fast_check_tree_syntax.specs.declared.kind.Kind.{Kind}
use Rattle.fast_check_tree_syntax.specs.declared.kind.Kind.TheVariants as kinds
use Rattle.fast_check_tree_syntax.specs.declared.tree.Tree.{Tree}
use Rattle.fast_check_syntax_table.specs.declared.piece.What.{What}
use Rattle.fast_check_syntax_table.specs.declared.piece.What.TheVariants as whats
use Rattle.fast_check_syntax_table.specs.declared.piece.Slot.{Slot}
use Rattle.fast_check_syntax_table.specs.declared.piece.Slot.TheVariants as slots
use Rattle.fast_check_syntax_table.specs.Guards.{holds, is_nil}
use Rattle.fast_check_syntax_table.specs.Rows.{Row}
use Rattle.fast_check_syntax_table.specs.Table.{table}
use Rattle.fast_check_syntax_table.specs.Spelled.{Syntax, Nothing, Never, Gap, Lines, Then, Either, Spelled, token, may, name, private_name, number, raw, regex, semicolon}
use Rattle.fast_check_syntax_table.specs.Lists.{each, joined, listed, members, holes, names, clause, template, parenthesized}

-- How a part is written: in each way, and its items if it is a list.
pub record Ways : Type 0 where
  pub way : Slot → Syntax
  pub items : List Syntax

abbrev pub export : List ℕ → Syntax
export text = if is_nil text then token (codes "export") else Then (token (codes "export")) (token text)

-- a declaration that is exported; the decorators of a class stand before `export` or after it, which the tree does not hold
abbrev pub exported : List ℕ → Ways → Syntax
exported text w = Either (Then (w.way slots.Decorators) (Then (export text) (w.way slots.Bare))) (Then (export text) (w.way slots.Whole))

-- one name without a type
abbrev pub is_lone : List Tree → Bool
is_lone (t ∷ []) = (kind_of t is kinds.BindingIdent) && is_absent (part 1 t)
is_lone _ = false

-- the parameters of an arrow function; around one name parentheses may be left out, which the tree does not hold
abbrev pub arrow : Bool → List Syntax → Syntax
arrow lone xs = if lone then Either (parenthesized xs) (each xs) else parenthesized xs

abbrev pub piece : What → List ℕ → Tree → (ℕ → Ways) → Syntax
piece whats.Mark text t at = token text
piece whats.May text t at = may text
piece (whats.Text place) text t at = token (text_of (part place t))
piece (whats.Name place) text t at = name (text_of (part place t))
piece (whats.Private place) text t at = private_name (text_of (part place t))
piece (whats.Number place) text t at = number (text_of (part place t))
piece (whats.Raw place) text t at = raw (text_of (part place t))
piece (whats.Quasi place) text t at = Lines (text_of (part place t))
piece (whats.Regex exp flags) text t at = regex (text_of (part exp t)) (text_of (part flags t))
piece (whats.Template quasis exprs) text t at = template (at quasis).items (at exprs).items
piece (whats.Listed place) text t at = listed (at place).items
piece (whats.Joined place) text t at = joined text (at place).items
piece (whats.Members place) text t at = members (at place).items
piece (whats.Holes place) text t at = holes (parts (part place t)) (at place).items
piece (whats.Clause place) text t at = clause (parts (part place t)) (at place).items
piece (whats.Names place) text t at = names (parts (part place t)) (at place).items
piece (whats.Exported place) text t at = exported text (at place)
piece (whats.Arrow params result) text t at = arrow (is_lone (parts (part params t)) && is_absent (part result t)) (at params).items
piece whats.Attributes text t at = Either (token (codes "with")) (token (codes "assert"))
piece whats.Semicolon text t at = semicolon
piece (whats.Part place slot) text t at = (at place).way slot
piece whats.Never text t at = Never

abbrev pub row_syntax : Row → Tree → (ℕ → Ways) → Syntax
row_syntax row t at = if holds row.when t then piece row.what row.text t at else Nothing

abbrev pub rows_syntax : List Row → Tree → (ℕ → Ways) → Syntax
rows_syntax [] t at = Nothing
rows_syntax (row ∷ rows) t at = Then (row_syntax row t at) (rows_syntax rows t at)

abbrev pub whole : Ways → Syntax
whole w = w.way slots.Whole

abbrev pub level : Kind → Tree → (ℕ → Ways) → List Ways → Slot → Syntax
level kind t at items slot = if kind is kinds.List then each (map (λ w. w.way slot) items) else rows_syntax (table kind slot) t at

abbrev pub form_ways : Tree → (ℕ → Ways) → List Ways → Ways
form_ways t at items = record { way = level (kind_of t) t at items; items = map whole items }

abbrev pub nothing : Ways
nothing = record { way = λ slot. Nothing; items = [] }

-- how a tree is written
unfoldable pub ways : Tree → Ways
ways = by_form nothing form_ways

-- what a tree writes, in a way
abbrev pub written : Tree → Slot → Syntax
written t slot = (ways t).way slot

-- the text is what the tree writes, with white space and comments between its tokens and at its ends
abbrev pub IsWritten : List ℕ → Tree → Type 0
IsWritten z t = Spelled z (Then (written t slots.Whole) Gap) 0 (length z)
