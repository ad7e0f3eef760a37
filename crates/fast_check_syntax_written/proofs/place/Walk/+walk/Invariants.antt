use Rattle.std.proofs.Common.{◌+◌, ◌*◌, map, drop, max}
use Rattle.fast_check_tree_syntax.specs.Height.{height, highest}
use Rattle.fast_check_tree_syntax.specs.Part.{seen}
use Rattle.fast_check_tree_syntax.specs.Shape.{part as part_of}
use Rattle.fast_check_syntax_table.specs.Rows.{row as row_of}
use Rattle.fast_check_syntax_table.specs.Lists.{each, rest as rest_of, members as members_of, holes as holes_of, texts as texts_of}
use Rattle.fast_check_syntax_table.specs.Written.{ways, rows_syntax}
use Rattle.fast_check_syntax_written.specs.Passes.{wholes, in_way}
use Rattle.fast_check_syntax_written.proofs.Passing.{Remains}
use Rattle.fast_check_syntax_written.proofs.place.Walk.+walk.Given as goal

abbrev pub decreases-part : goal.decreases-part
decreases-part l = 20 * height (seen l.tree) + 4

abbrev pub decreases-rows : goal.decreases-rows
decreases-rows l = 20 * height (seen l.tree) + 3

abbrev pub decreases-row : goal.decreases-row
decreases-row l = 20 * height (seen l.tree) + 2

abbrev pub decreases-piece : goal.decreases-piece
decreases-piece l = 20 * height (seen l.tree) + 1

abbrev pub decreases-exported : goal.decreases-exported
decreases-exported l = 20 * height (seen l.decl) + 5

abbrev pub decreases-all : goal.decreases-all
decreases-all l = 20 * highest (map height l.items.now) + 6

abbrev pub decreases-rest : goal.decreases-rest
decreases-rest l = 20 * highest (map height l.items.now) + 6

abbrev pub decreases-members : goal.decreases-members
decreases-members l = 20 * highest (map height l.items.now) + 6

abbrev pub decreases-holes : goal.decreases-holes
decreases-holes l = 20 * highest (map height l.items.now) + 6

abbrev pub decreases-texts : goal.decreases-texts
decreases-texts l = 20 * max (highest (map height l.quasis.now)) (highest (map height l.exprs.now)) + 6

abbrev pub decreases-joined : goal.decreases-joined
decreases-joined l = 20 * highest (map height l.items.now) + 7

abbrev pub decreases-template : goal.decreases-template
decreases-template l = 20 * max (highest (map height l.quasis.now)) (highest (map height l.exprs.now)) + 7

abbrev pub decreases-listed : goal.decreases-listed
decreases-listed l = 20 * highest (map height l.items.now) + 8

abbrev pub decreases-braces : goal.decreases-braces
decreases-braces l = 20 * highest (map height l.items.now) + 10

abbrev pub decreases-parenthesized : goal.decreases-parenthesized
decreases-parenthesized l = 20 * highest (map height l.items.now) + 10

abbrev pub decreases-names : goal.decreases-names
decreases-names l = 20 * highest (map height l.items.now) + 11

abbrev pub decreases-arrow : goal.decreases-arrow
decreases-arrow l = 20 * highest (map height l.params.now) + 11

abbrev pub decreases-after_default : goal.decreases-after_default
decreases-after_default l = 20 * highest (map height l.items.now) + 12

abbrev pub decreases-clause : goal.decreases-clause
decreases-clause l = 20 * highest (map height l.items.now) + 15

abbrev pub invariant-all-loop-item : goal.invariant-all-loop-item
invariant-all-loop-item l = Remains (each (in_way l.slot l.fn.items)) l.fn.self l.self (each (in_way l.slot (drop l.item-index l.items)))

abbrev pub invariant-members-loop-item : goal.invariant-members-loop-item
invariant-members-loop-item l = Remains (members_of (wholes l.fn.items)) l.fn.self l.self (members_of (wholes (drop l.item-index l.items)))

abbrev pub invariant-rest-loop-item : goal.invariant-rest-loop-item
invariant-rest-loop-item l = Remains (rest_of l.sign (wholes l.fn.items)) l.fn.self l.self (rest_of l.sign (wholes (drop l.item-index l.items)))

abbrev pub invariant-rows-loop-row : goal.invariant-rows-loop-row
invariant-rows-loop-row l =
    Remains (rows_syntax (map row_of l.fn.rows) (seen l.fn.tree) (λ i. ways (part_of i (seen l.fn.tree)))) l.fn.self l.self
    (rows_syntax (map row_of (drop l.row-index l.rows)) (seen l.fn.tree) (λ i. ways (part_of i (seen l.fn.tree))))

abbrev pub invariant-holes-loop-k : goal.invariant-holes-loop-k
invariant-holes-loop-k l =
    Remains (holes_of l.fn.items (wholes l.fn.items)) l.fn.self l.self (holes_of (drop l.k l.items) (wholes (drop l.k l.items)))

abbrev pub invariant-texts-loop-k : goal.invariant-texts-loop-k
invariant-texts-loop-k l = Remains (texts_of (wholes l.fn.quasis) (wholes l.fn.exprs)) l.fn.self l.self
    (texts_of (wholes (drop l.k l.quasis)) (wholes (drop l.k l.exprs)))

abbrev pub decreases-closed : goal.decreases-closed
decreases-closed l = 20 * highest (map height l.items.now) + 9

abbrev pub decreases-with_default : goal.decreases-with_default
decreases-with_default l = 20 * highest (map height l.items.now) + 13

abbrev pub decreases-bindings : goal.decreases-bindings
decreases-bindings l = 20 * highest (map height l.items.now) + 14

abbrev pub decreases-opened : goal.decreases-opened
decreases-opened l = 20 * height l.quasi.now + 5

abbrev pub decreases-substituted : goal.decreases-substituted
decreases-substituted l = 20 * height l.expr.now + 5

abbrev pub decreases-ending : goal.decreases-ending
decreases-ending l = 20 * height l.quasi.now + 5
