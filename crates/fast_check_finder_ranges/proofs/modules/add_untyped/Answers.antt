use Rattle.std.proofs.Common.{◌∙◌, refl, sym, ap, subst, unwrap_or, List, rules}
use Rattle.std.specs.BTreeMap.Entry.{map_with_value}
use Rattle.url.specs.Parts.{Parts, serialize}
use Rattle.fast_check_finder_ranges.specs.findings.Found.{untyped_yields}
use Rattle.fast_check_finder_ranges.specs.findings.Yields.{untyped_module}
use Rattle.fast_check_finder_ranges.specs.declared.modules.ModuleParts.{ModuleParts}
use Rattle.fast_check_finder_ranges.specs.Parts.{AreParts, Joins}
use Rattle.fast_check_finder_ranges.proofs.About.{faulty_of}
use Rattle.fast_check_finder_ranges.proofs.Joined.{joins}
use Rattle.fast_check_finder_ranges.proofs.modules.add_untyped.Goals as goal

pub returns : goal.returns
returns c = λ nv.
    let old = c.args.modules.now in
    let none = c.new.result in
    let parts = c.ask.new.self in
    let new = map_with_value c.in_ok-modules.field-0 parts in
    let more = untyped_yields nv c.args.specifier in
    let joined : Joins more old.entries new.entries =
    joins c.args.specifier more refl (faulty_of nv c.args.specifier untyped_module) none parts c.new.ensures old new
    (c.in_ok-modules.ensures.update.0 parts)
    (λ ys a. c.ask.ensures nv (serialize c.args.specifier) ys (subst (λ (m : ModuleParts). AreParts ys m)
    (sym (c.or_insert-parts.ensures.value ∙ ap (λ o. unwrap_or o none) c.in_ok-modules.ensures.value)) a)) in
    subst (λ (es : List (Parts × ModuleParts)). Joins more old.entries es) (search rules) joined
