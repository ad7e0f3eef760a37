use Rattle.std.proofs.Common.{◌≡◌, ℕ, sym, get_or, map, List, []}
use Rattle.std.proofs.Math.ListN.{get_or-map}
use Rattle.std.specs.Borrow.{Bor}
use denote.Enum.Declared.{tag_of}
use borrow.Author.Rules.{rules}
use Rattle.fast_check_tree_syntax.specs.declared.kind.Kind.{Kind}
use Rattle.fast_check_tree_syntax.specs.contracts.kind.Kind.{the_type}
use Rattle.fast_check_read.specs.declared.schema.order.TheConstants.{WRITTEN_ORDERS}
use Rattle.fast_check_read.specs.schema.Order.{written_places}

-- what an entry of a table of slices holds
pub now_at : (rows : List (Bor (List ℕ))) (at : ℕ) (other : Bor (List ℕ)) →
    (get_or rows at other).now ≡ get_or (map (λ row. row.now) rows) at other.now
now_at rows at other = sym (get_or-map (λ (row : Bor (List ℕ)). row.now) rows at other)

-- the row of a kind is its order
pub row_of_kind : (kind : Kind) → get_or (map (λ row. row.now) WRITTEN_ORDERS) (tag_of the_type kind) [] ≡ written_places kind
row_of_kind kind = search rules
