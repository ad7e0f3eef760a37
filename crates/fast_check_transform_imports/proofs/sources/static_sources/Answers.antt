use Rattle.std.proofs.Common.{rules, ap, sym, ◌∙◌, append-nil}
use Rattle.fast_check_tree_syntax.specs.Part.{seen}
use Rattle.fast_check_tree_syntax.specs.Shape.{parts}
use Rattle.fast_check_transform_imports.specs.StaticSources.{as_sources}
use Rattle.fast_check_transform_imports.proofs.SourceCases.{one_more, whole}
use Rattle.fast_check_transform_imports.proofs.sources.static_sources.Goals as goal

pub loop-item-preserved : goal.loop-item-preserved
loop-item-preserved c =
    one_more c.parts-item-items.result.now c.loop-item.item-index (seen c.read.result) c.loop-item-test.true
    (search rules) c.loop-item.invariant
    (sym (ap as_sources c.in-Some.is) ∙ c.in_ok-item_source.ensures) c.in_ok-push-in-Some.ensures.items

pub loop-item-preserved-in-None : goal.loop-item-preserved-in-None
loop-item-preserved-in-None c =
    one_more c.parts-item-items.result.now c.loop-item.item-index (seen c.read.result) c.loop-item-test.true
    (search rules) c.loop-item.invariant
    (sym (ap as_sources c.in-None.is) ∙ c.in_ok-item_source.ensures) (sym (append-nil c.loop-item.sources.items))

pub returns : goal.returns
returns c =
    whole c.loop-item.item-index c.loop-item-test.false (c.parts-item-items.ensures ∙ ap parts c.of.ensures.body) c.loop-item.invariant
