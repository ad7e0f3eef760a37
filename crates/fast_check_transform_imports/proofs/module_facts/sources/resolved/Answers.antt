use Rattle.std.proofs.Common.{◌∙◌, sym, ap, Option}
use Rattle.std.specs.Prelude.{String}
use Rattle.std.specs.Option.{option_copied, option_and_then}
use Rattle.std.specs.BTreeMap.{BTreeMap}
use Rattle.std.specs.Borrow.{Bor}
use Rattle.std.specs.declared.alloc.Global.{Global}
use Rattle.url.specs.Parts.{Parts}
use Rattle.fast_check_tables_graph.specs.Resolutions.{text_resolved}
use Rattle.fast_check_tables_graph.proofs.Tied.{at_text}
use Rattle.fast_check_transform_imports.proofs.module_facts.sources.resolved.Goals as goal

pub returns : goal.returns
returns c =
    c.get.ensures.value
    ∙ (at_text c.args.text.now c.in_ok-resolutions.field-0.now.entries
    ∙ sym (ap (λ (o : Option (Bor (BTreeMap (String Global) Parts))). option_and_then (text_resolved c.args.text.now) (option_copied o))
    c.in_ok-resolutions.was))
