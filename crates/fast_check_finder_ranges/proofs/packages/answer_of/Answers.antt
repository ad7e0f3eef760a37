use Rattle.std.proofs.Common.{◌≡◌, ◌==◌, length, vec_len, arith, ◌∙◌, refl, sym, ap, subst, List, [], ◌++◌, map, ℕ, ◌||◌}
use Rattle.std.specs.List.{flat_map, list_any}
use Rattle.url.specs.Parts.{Parts}
use Rattle.fast_check_tables_packages.specs.Package.{nv_of}
use Rattle.fast_check_finder_demands.specs.asked.Demands.{same_nv}
use Rattle.fast_check_tables_symbols.proofs.Witness.{nil_of}
use Rattle.fast_check_finder_ranges.specs.findings.Found.{module_yields, entrance_yields, dependency_yields, untyped_yields, package_yields}
use Rattle.fast_check_finder_ranges.specs.declared.modules.ModuleParts.{ModuleParts}
use Rattle.fast_check_finder_ranges.specs.Answers.{is_filled}
use Rattle.fast_check_finder_ranges.specs.Parts.{is_package, named_at, AreModules}
use Rattle.fast_check_finder_ranges.proofs.Answered.{by_item, by_parts}
use Rattle.fast_check_finder_ranges.proofs.Followed.{silent_of_modules}
use Rattle.fast_check_finder_ranges.proofs.Joined.{joined_none, joins_then, joins_silent}
use Rattle.fast_check_finder_ranges.proofs.Lists.{filled_from}
use Rattle.fast_check_finder_ranges.proofs.packages.answer_of.Goals as goal

pub returns-then-not-is_empty : goal.returns-then-not-is_empty
returns-then-not-is_empty c = λ nv.
    let items = c.in_ok-answer.answer.cache_items in
    let len : length items.items ≡ vec_len items = omega arith in
    by_item (map nv_of c.args.packages.now) nv c.args.found c.in_ok-answer.answer c.in_ok-answer.ensures.answer
    (filled_from items.items (ap (λ n. n == 0) len ∙ (sym c.is_empty.ensures ∙ c.if-not-is_empty.true)))

pub returns : goal.returns
returns c = λ nv.
    let packages = map nv_of c.args.packages.now in
    let items = c.in_ok-answer.answer.cache_items in
    let len : length items.items ≡ vec_len items = omega arith in
    let found = c.args.found in
    let e = entrance_yields nv found.entrance in
    let d = flat_map (dependency_yields packages nv) found.dependencies.items in
    let m = flat_map (module_yields nv) found.modules.items in
    let u = flat_map (untyped_yields nv) found.untyped.items in
    let m0 = c.new-modules.result.entries in
    let m1 = c.entered_answer.new.modules.entries in
    let m2 = c.add_all_followed.new.modules.entries in
    let m3 = c.add_all_untyped.new.modules.entries in
    let modules : AreModules (package_yields packages nv found) m3 =
    joins_then e (d ++ (m ++ u)) m0 m1 m3 (c.in_ok-answer.ensures.modules nv)
    (joins_then d (m ++ u) m1 m1 m3 (joins_silent d (silent_of_modules packages nv found) m1)
    (joins_then m u m1 m2 m3 (c.in_ok-add_all_followed.ensures nv) (c.in_ok-add_all_untyped.ensures nv)))
    [] (subst (λ (es : List (Parts × ModuleParts)). AreModules [] es) (sym c.new-modules.ensures.empty) joined_none) in
    by_parts packages nv found c.in_ok-answer.answer _ c.in_ok-answer.ensures.answer
    (ap is_filled (nil_of items.items (ap (λ n. n == 0) len ∙ (sym c.is_empty.ensures ∙ c.if-not-is_empty.false))))
    refl refl
    (λ d. c.in_ok-add_dependencies.ensures d
    ∙ ap (λ (ks : List ℕ). list_any (is_package d) c.in_ok-answer.answer.dependencies.keys || list_any (same_nv d) (named_at packages ks))
    c.as_slice.ensures.value)
    (c.in_ok-answer-2.ensures (package_yields packages nv found) modules)
