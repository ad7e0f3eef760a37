use Rattle.std.proofs.Common.{◌∙◌, sym, ap, refl, subst, Bool, cond, []}
use Rattle.std.specs.Option.{option_copied}
use Rattle.std.proofs.lemmas.Result.{on_ok_weaker}
use Rattle.url.specs.Parts.{serialize}
use Rattle.fast_check_tables_packages.specs.Package.{nv_of}
use Rattle.fast_check_finder_demands.specs.name_demands.Files.{names_of}
use Rattle.fast_check_finder_ranges.specs.findings.Findings.{faulty_module}
use Rattle.fast_check_finder_ranges.specs.findings.Yields.{untyped_module}
use Rattle.fast_check_finder_demands.specs.facts.GraphFacts.{known}
use Rattle.fast_check_finder_loop.specs.declared.finder.Finder.{Finder}
use Rattle.fast_check_finder_loop.specs.Finder.{Goes}
use Rattle.fast_check_finder_loop.proofs.Reported.{untyped_goes}
use Rattle.fast_check_finder_loop.proofs.OwnYields.{named_own}
use Rattle.fast_check_finder_loop.proofs.Steps.{goes_nowhere}
use Rattle.fast_check_finder_loop.proofs.Whole.{names_of_module, names_of_none}
use Rattle.fast_check_finder_loop.proofs.finder.Finder.follow_names.Goals as goal

pub follow_module-requires-clause-own : goal.follow_module-requires-clause-own
follow_module-requires-clause-own g c =
    let m = goal.JsrUrlProvider-dyn g c.args.lent.provider.now in
    let k = known c.args.lent.facts (m.url_of c.args.lent.provider.now.1) (m.nv_at c.args.lent.provider.now.1) in
    named_own k c.own_names_find.ensures (serialize c.args.at.specifier) c.in-Some.info.now (sym c.info_of.ensures ∙ ap option_copied c.in-Some.is)

pub returns-in-Some : goal.returns-in-Some
returns-in-Some g c =
    let m = goal.JsrUrlProvider-dyn g c.args.lent.provider.now in
    let k = known c.args.lent.facts (m.url_of c.args.lent.provider.now.1) (m.nv_at c.args.lent.provider.now.1) in
    on_ok_weaker c.follow_module.result
    (λ goes. names_of_module k c.args.self.now c.follow_module.new.self (nv_of c.args.at.package) (serialize c.args.at.specifier)
    (names_of c.args.at.names) c.in-Some.info.now (sym c.info_of.ensures ∙ ap option_copied c.in-Some.is) goes)
    c.follow_module.ensures

pub returns-in_ok-push-in-None : goal.returns-in_ok-push-in-None
returns-in_ok-push-in-None g c =
    let m = goal.JsrUrlProvider-dyn g c.args.lent.provider.now in
    let k = known c.args.lent.facts (m.url_of c.args.lent.provider.now.1) (m.nv_at c.args.lent.provider.now.1) in
    let f = c.args.self.now in
    let b : Finder = record f { untyped = c.push.new.self } in
    let nv = nv_of c.args.at.package in
    let t = serialize c.args.at.specifier in
    names_of_none k f b nv t (names_of c.args.at.names) (sym c.info_of.ensures ∙ ap option_copied c.in-None.is)
    (subst (λ (u : Bool). Goes k.graph k.root_symbol [] (cond u (faulty_module nv t untyped_module) []) f b)
    (sym c.if-is_untyped.true ∙ c.is_untyped.ensures)
    (untyped_goes f b (record { packages = refl; entered = refl; handled = refl; names = refl; modules = refl; symbols = refl; dependencies = refl })
    k.graph k.root_symbol c.requires c.args.at.package c.args.at.specifier refl c.in_ok-push-in-None.ensures.items))

pub returns-else-is_untyped : goal.returns-else-is_untyped
returns-else-is_untyped g c =
    let m = goal.JsrUrlProvider-dyn g c.args.lent.provider.now in
    let k = known c.args.lent.facts (m.url_of c.args.lent.provider.now.1) (m.nv_at c.args.lent.provider.now.1) in
    let f = c.args.self.now in
    let nv = nv_of c.args.at.package in
    let t = serialize c.args.at.specifier in
    names_of_none k f f nv t (names_of c.args.at.names) (sym c.info_of.ensures ∙ ap option_copied c.in-None.is)
    (subst (λ (u : Bool). Goes k.graph k.root_symbol [] (cond u (faulty_module nv t untyped_module) []) f f)
    (sym c.if-is_untyped.false ∙ c.is_untyped.ensures) (goes_nowhere k.graph k.root_symbol f c.requires))
