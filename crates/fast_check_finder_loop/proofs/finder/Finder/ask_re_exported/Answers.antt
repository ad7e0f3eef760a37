use Rattle.std.proofs.Common.{◌∙◌, sym, ap, subst}
use Rattle.std.specs.Option.{option_copied}
use Rattle.url.specs.Parts.{Parts, serialize}
use Rattle.fast_check_tables_packages.specs.Package.{nv_of}
use Rattle.fast_check_tables_graph.specs.Graph.{resolved_to}
use Rattle.fast_check_finder_lattice.specs.Imports.{names_but_default}
use Rattle.fast_check_finder_demands.specs.declared.re_exports.list.ReExportDemand.{ReExportDemand}
use Rattle.fast_check_finder_demands.specs.re_exports.ReExports.{module_demand_of}
use Rattle.fast_check_finder_demands.specs.asked.Demands.{asked_by}
use Rattle.fast_check_finder_demands.specs.facts.GraphFacts.{known, traced_as}
use Rattle.fast_check_finder_demands.specs.facts.Followers.{behind, resolved, re_export_followers}
use Rattle.fast_check_finder_loop.proofs.Owners.{AsksFor, asks_none}
use Rattle.fast_check_finder_loop.proofs.finder.Finder.ask_re_exported.Goals as goal

pub returns-in-None : goal.returns-in-None
returns-in-None g c sound =
    let m = goal.JsrUrlProvider-dyn g c.args.lent.provider.now in
    let k = known c.args.lent.facts (m.url_of c.args.lent.provider.now.1) (m.nv_at c.args.lent.provider.now.1) in
    let nv = nv_of c.args.nv.now in
    subst (λ (w : ReExportDemand). AsksFor k.graph k.root_symbol nv (re_export_followers k nv (traced_as k c.args.info.now) (module_demand_of w)) c.args.self.now c.args.self.now)
    (sym c.in-ReExported.is)
    (asks_none k.graph k.root_symbol nv (λ (url : Parts). behind nv (serialize url) (asked_by names_but_default) (k.owner (serialize url)))
    (resolved (traced_as k c.args.info.now) c.in-ReExported.text.now) c.args.self.now sound
    (ap (resolved_to k.graph c.in-ReExported.text.now) (sym c.specifier.ensures) ∙ (sym c.resolve_dependency.ensures ∙ ap option_copied c.in-None.is)))
