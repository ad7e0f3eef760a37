use Rattle.std.proofs.Common.{◌∙◌, sym, ap, Option}
use Rattle.std.specs.Prelude.{String}
use Rattle.std.specs.Option.{option_copied, option_and_then}
use Rattle.std.specs.BTreeMap.{BTreeMap}
use Rattle.std.specs.declared.alloc.Global.{Global}
use Rattle.url.specs.Parts.{Parts}
use Rattle.fast_check_tables_graph.specs.Resolutions.{text_resolved}
use Rattle.fast_check_tables_graph.proofs.Tied.{at_text}
use Rattle.fast_check_tables_graph.proofs.graph.ModuleGraph.resolve_dependency.Goals as goal

pub returns-in_err-resolutions_of : goal.returns-in_err-resolutions_of
returns-in_err-resolutions_of c =
    rw c.from_residual.ensures
    (sym (ap (λ (o : Option (BTreeMap (String Global) Parts)). option_and_then (text_resolved c.args.specifier_text.now) o)
    (sym c.resolutions_of.ensures ∙ ap option_copied c.in_err-resolutions_of.was)))

pub returns : goal.returns
returns c =
    c.get.ensures.value
    ∙ (at_text c.args.specifier_text.now c.in_ok-resolutions_of.field-0.now.entries
    ∙ sym (ap (λ (o : Option (BTreeMap (String Global) Parts)). option_and_then (text_resolved c.args.specifier_text.now) o)
    (sym c.resolutions_of.ensures ∙ ap option_copied c.in_ok-resolutions_of.was)))
