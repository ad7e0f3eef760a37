use Rattle.std.proofs.Common.{◌∙◌, refl, sym, ap, subst, unwrap_or, List, rules}
use Rattle.std.proofs.lemmas.Result.{on_ok_weaker}
use Rattle.std.specs.BTreeMap.Entry.{map_with_value}
use Rattle.url.specs.Parts.{Parts}
use Rattle.fast_check_finder_ranges.specs.findings.Found.{module_yields}
use Rattle.fast_check_finder_ranges.specs.declared.modules.ModuleParts.{ModuleParts}
use Rattle.fast_check_finder_ranges.specs.Parts.{AreParts, Joins}
use Rattle.fast_check_finder_ranges.proofs.About.{followed_of}
use Rattle.fast_check_finder_ranges.proofs.Joined.{joins}
use Rattle.fast_check_finder_ranges.proofs.modules.add_followed.Goals as goal

pub returns : goal.returns
returns c =
    let old = c.args.modules.now in
    let none = c.new.result in
    let parts = c.follow.new.self in
    let new = map_with_value c.in_ok-modules.field-0 parts in
    on_ok_weaker c.follow.result (λ adds nv.
    let joined : Joins (module_yields nv c.args.found) old.entries new.entries =
    joins c.in_ok-specifier.specifier (module_yields nv c.args.found) refl
    (followed_of nv c.args.found c.in_ok-specifier.specifier (c.in_ok-specifier.ensures.cases ∙ c.specifier.ensures)) none parts c.new.ensures old new
    (c.in_ok-modules.ensures.update.0 parts)
    (λ ys a. adds nv ys (subst (λ (m : ModuleParts). AreParts ys m)
    (sym (c.or_insert-parts.ensures.value ∙ ap (λ o. unwrap_or o none) c.in_ok-modules.ensures.value)) a)) in
    subst (λ (es : List (Parts × ModuleParts)). Joins (module_yields nv c.args.found) old.entries es) (search rules) joined)
    c.follow.ensures
