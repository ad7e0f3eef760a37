use Rattle.std.proofs.Common.{◌≡◌, ◌∙◌, sym, ap, subst, List, ◌++◌, ◌∷◌, []}
use Rattle.fast_check_tables_packages.specs.declared.package.PackageNv.{PackageNv}
use Rattle.fast_check_finder_demands.specs.asked.Places.{HasPackages}
use Rattle.fast_check_finder_demands.proofs.asked.Asks.{adds_new, package_more}
use Rattle.fast_check_finder_demands.proofs.asked.asked_packages.AskedPackages.add.Goals as goal

pushed : (c : goal.In_ok-push) → c.push.new.self.items ≡ c.self.inside.packages.items ++ c.in_ok-package_nv.package_nv ∷ []
pushed c = c.in_ok-push.ensures.items ∙ ap (λ (xs : List PackageNv). xs ++ c.in_ok-package_nv.package_nv ∷ []) c.in_ok-reserve.ensures.items

pub invariant_of-self-2 : goal.invariant_of-self-2
invariant_of-self-2 c =
    subst (λ (xs : List PackageNv). HasPackages xs c.insert.new.self) (sym (pushed c))
    (package_more c.args.nv.now c.in_ok-package_nv.package_nv c.in_ok-key.key c.self.inside.packages.items c.self.inside.known
    c.insert.new.self c.in_ok-package_nv.ensures c.in_ok-key.ensures c.in_ok-insert.ensures.updates c.self.invariant)

pub returns-clause-added : goal.returns-clause-added
returns-clause-added c =
    rw (← c.self.view_is) (adds_new c.args.nv.now c.in_ok-package_nv.package_nv c.self.inside.packages.items c.push.new.self.items
    c.in_ok-package_nv.ensures (sym (c.self.invariant.says c.args.nv.now) ∙ (sym c.contains.ensures ∙ c.if-contains.false)) (pushed c))
