use Rattle.std.proofs.Common.{◌∙◌, sym, ap, [], ◌∷◌, option_map}
use Rattle.std.proofs.lemmas.Result.{on_ok_weaker}
use Rattle.url.specs.Parts.{serialize}
use Rattle.fast_check_tables_packages.specs.Package.{nv_of}
use Rattle.fast_check_finder_ranges.specs.findings.Yields.{dependency}
use Rattle.fast_check_finder_demands.specs.name_demands.Files.{names_of}
use Rattle.fast_check_finder_demands.specs.asked.Demands.{asked_by, to_package, to_module}
use Rattle.fast_check_finder_demands.specs.facts.GraphFacts.{known}
use Rattle.fast_check_finder_loop.proofs.Owners.{behind_none, behind_other}
use Rattle.fast_check_finder_loop.proofs.Steps.{goes_then}
use Rattle.fast_check_finder_loop.proofs.finder.Finder.ask_behind.Goals as goal

pub returns-in-None : goal.returns-in-None
returns-in-None g c sound =
    behind_none _ _ (nv_of c.args.nv.now) (serialize c.args.url.now) (asked_by (names_of c.args.names)) _ c.args.self.now sound
    (sym c.in_ok-owner_of.ensures ∙ ap (option_map nv_of) c.in-None.is)

pub returns-else-is_same_package : goal.returns-else-is_same_package
returns-else-is_same_package g c =
    let m = goal.JsrUrlProvider-dyn g c.args.lent.provider.now in
    let k = known c.args.lent.facts (m.url_of c.args.lent.provider.now.1) (m.nv_at c.args.lent.provider.now.1) in
    let t = serialize c.args.url.now in
    let w = asked_by (names_of c.args.names) in
    let nv = nv_of c.args.nv.now in
    let p = nv_of c.in-Some.owner in
    on_ok_weaker c.depend.result
    (λ next sound.
    let first = c.in_ok-ask_names-in-Some.ensures.goes k.graph k.root_symbol sound in
    behind_other k.graph k.root_symbol nv t w (k.owner t) p c.args.self.now c.depend.new.self
    (sym c.in_ok-owner_of.ensures ∙ ap (option_map nv_of) c.in-Some.is) (sym c.is_same_package.ensures ∙ c.if-is_same_package.false)
    (goes_then k.graph k.root_symbol (to_module p t w ∷ []) (to_package p ∷ []) [] (dependency nv p ∷ []) c.args.self.now c.ask_names.new.self
    c.depend.new.self first (next k.graph k.root_symbol first.sound)))
    c.depend.ensures
