-- Inner: no contract of a public call cites what stands here.
-- The answers to what is seen of the items of a module, and of a namespace.
use Rattle.std.specs.Prelude.{List, [], ◌∷◌}
use Rattle.fast_check_tree_syntax.specs.declared.source.SourceRange.{SourceRange}
use Rattle.fast_check_tree_syntax.specs.declared.tree.Tree.{Tree}
use Rattle.fast_check_tree_helpers.specs.ranges.Ranges.{range_of_node}
use Rattle.fast_check_meaning_signatures.specs.declared.fault.FaultKind.{FaultKind}
use Rattle.fast_check_meaning_signatures.specs.Seen.{faulty}
use Rattle.fast_check_meaning_signatures.specs.Answers.{Answer, answer_of}
use Rattle.fast_check_transform_statements.specs.skeleton.declared.rules.DeclRule.{DeclRule}
use Rattle.fast_check_transform_statements.specs.skeleton.ModuleFacts.{ModuleFacts}
use Rattle.fast_check_transform_statements.specs.skeleton.Visible.{item_look, body_seen, namespace_seen, decl_seen}
use Rattle.fast_check_transform_statements.specs.skeleton.Visible.{item_seen}

-- to a namespace, which is public by `place`
unfoldable pub namespace_answer : ModuleFacts → SourceRange → Tree → Answer (List Tree)
namespace_answer facts place decl = answer_of (namespace_seen item_look facts place decl)

-- to a declaration, by what is done with it; it is public by the range of its export, or else by its own
unfoldable pub decl_answer : ModuleFacts → SourceRange → Tree → DeclRule → Answer (List Tree)
decl_answer facts place decl rule = answer_of (decl_seen facts place decl rule)

-- to an item that no skeleton has
unfoldable pub refused_answer : Tree → FaultKind → Answer (List Tree)
refused_answer item kind = answer_of (faulty kind (range_of_node item) ∷ [])

-- to an item
unfoldable pub item_answer : ModuleFacts → Tree → Answer (List Tree)
item_answer facts item = answer_of (item_seen facts item)

-- to the items of a body, with the namespaces behind them
unfoldable pub items_answer : ModuleFacts → List Tree → Answer (List Tree)
items_answer facts items = answer_of (body_seen item_look facts items)
