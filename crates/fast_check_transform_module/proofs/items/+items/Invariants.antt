use Rattle.std.proofs.Common.{◌≡◌, ◌+◌, ◌*◌, take}
use Rattle.fast_check_tree_syntax.specs.Part.{seen}
use Rattle.fast_check_tree_syntax.specs.Height.{height}
use Rattle.fast_check_meaning_signatures.specs.Answers.{Adds}
use Rattle.fast_check_transform_statements.specs.skeleton.KeptComments.{removed_from, without_all_leading}
use Rattle.std.specs.List.{flat_map}
use Rattle.fast_check_transform_statements.specs.skeleton.Visible.{item_properties}
use Rattle.fast_check_transform_imports.specs.module_facts.ModuleFacts.{facts_of}
use Rattle.fast_check_transform_imports.specs.Relative.{AreRelative}
use Rattle.fast_check_transform_module.proofs.ByRule.{each_answer}
use Rattle.fast_check_transform_module.proofs.items.+items.Given as goal

abbrev pub decreases-transform_items : goal.decreases-transform_items
decreases-transform_items l = 4 * height (seen l.body)

abbrev pub decreases-transform_namespace : goal.decreases-transform_namespace
decreases-transform_namespace l = 4 * height (seen l.decl) + 1

abbrev pub decreases-transform_decl : goal.decreases-transform_decl
decreases-transform_decl l = 4 * height (seen l.decl) + 2

abbrev pub decreases-transform_item : goal.decreases-transform_item
decreases-transform_item l = 4 * height (seen l.item) + 3

abbrev pub invariant-transform_items-loop-item : goal.invariant-transform_items-loop-item
invariant-transform_items-loop-item l = record {
  answer : Adds (each_answer (facts_of l.facts) (take l.item-index l.item-items)) l.items
      l.initial.context.faults.items l.context.faults.items;
  properties : l.properties.items ≡ flat_map (item_properties (facts_of l.facts)) (take l.item-index l.item-items);
  comments : l.context.comments ≡ without_all_leading (removed_from (facts_of l.facts) (take l.item-index l.item-items))
      l.initial.context.comments;
  sources : AreRelative (facts_of l.facts) l.context.sources;
}
