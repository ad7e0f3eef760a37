use Rattle.std.proofs.Common.{◌∙◌, sym, ap, subst, Option, OnOk}
use Rattle.std.specs.Option.{option_copied}
use Rattle.url.specs.Parts.{Parts, serialize}
use Rattle.fast_check_tables_packages.specs.Package.{nv_of}
use Rattle.fast_check_tables_graph.specs.Graph.{resolved_to}
use Rattle.fast_check_finder_demands.specs.symbol_demands.Rules.{each_of}
use Rattle.fast_check_finder_demands.specs.name_demands.Files.{names_of}
use Rattle.fast_check_finder_demands.specs.asked.Demands.{asked_by}
use Rattle.fast_check_finder_demands.specs.facts.GraphFacts.{known, traced_as}
use Rattle.fast_check_finder_demands.specs.facts.Followers.{file_at, resolved}
use Rattle.fast_check_finder_loop.specs.Finder.{AsksFor}
use Rattle.fast_check_finder_loop.proofs.Owners.{asks_none}
use Rattle.fast_check_finder_loop.proofs.finder.Finder.ask_dependency.Goals as goal

pub returns-in-None : goal.returns-in-None
returns-in-None g c sound =
    let m = goal.JsrUrlProvider-dyn g c.args.lent.provider.now in
    let k = known c.args.lent.facts (m.url_of c.args.lent.provider.now.1) (m.nv_at c.args.lent.provider.now.1) in
    let nv = nv_of c.args.nv.now in
    let w = c.args.dependency in
    asks_none k.graph k.root_symbol nv (λ (url : Parts). file_at nv (serialize url) (asked_by (names_of w.names)) (k.owner (serialize url)))
    (resolved (traced_as k c.args.info.now) w.specifier.now) c.args.self.now sound
    (ap (resolved_to k.graph w.specifier.now) (sym c.specifier.ensures) ∙ (sym c.resolve_dependency.ensures ∙ ap option_copied c.in-None.is))

pub returns-in-Some : goal.returns-in-Some
returns-in-Some g c =
    let m = goal.JsrUrlProvider-dyn g c.args.lent.provider.now in
    let k = known c.args.lent.facts (m.url_of c.args.lent.provider.now.1) (m.nv_at c.args.lent.provider.now.1) in
    let nv = nv_of c.args.nv.now in
    let w = c.args.dependency in
    subst (λ (o : Option Parts). OnOk c.ask_file.result (AsksFor k nv
    (each_of (λ (url : Parts). file_at nv (serialize url) (asked_by (names_of w.names)) (k.owner (serialize url))) o)
    c.args.self.now c.ask_file.new.self))
    (sym (ap (resolved_to k.graph w.specifier.now) (sym c.specifier.ensures) ∙ (sym c.resolve_dependency.ensures ∙ ap option_copied c.in-Some.is)))
    c.ask_file.ensures
