use Rattle.std.proofs.Common.{◌≡◌, take}
use Rattle.std.specs.List.{flat_map}
use Rattle.fast_check_transform_imports.specs.StaticSources.{item_source}
use Rattle.fast_check_transform_imports.proofs.sources.static_sources.Given as goal

abbrev pub invariant-loop-item : goal.invariant-loop-item
invariant-loop-item l = l.sources.items ≡ flat_map item_source (take l.item-index l.item-items)
