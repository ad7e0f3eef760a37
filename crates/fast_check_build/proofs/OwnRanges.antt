-- What answers say is public in a module is declared in it.
use Rattle.std.proofs.Common.{◌∙◌, sym, List, Option, Some, None}
use Rattle.std.specs.Prelude.{IfSome}
use Rattle.std.specs.List.{Contains}
use Rattle.std.specs.BTreeMap.{BTreeMap}
use Rattle.fast_check_tables_packages.specs.Package.{Nv}
use Rattle.fast_check_tables_packages.specs.declared.package.PackageNv.{PackageNv}
use Rattle.fast_check_tables_cache.specs.declared.package_ranges.PackagePublicRanges.{PackagePublicRanges}
use Rattle.fast_check_tables_modules.specs.diagnostics.PublicRanges.{PublicRanges}
use Rattle.fast_check_tables_graph.specs.Root.{AreFoundByOwnNames}
use Rattle.fast_check_finder_demands.specs.asked.Demands.{Text}
use Rattle.fast_check_finder_ranges.specs.findings.Yields.{Yield}
use Rattle.fast_check_finder_ranges.specs.Answers.{about, about_module, IsModuleAnswer, AreAnswers, module_answer}
use Rattle.fast_check_finder_ranges.proofs.Shown.{shown, implemented, module_stands}
use Rattle.fast_check_finder_loop.specs.demands.facts.GraphFacts.{Known}
use Rattle.fast_check_finder_loop.specs.Account.{Account, IsYield}
use Rattle.fast_check_finder_loop.specs.Yields.{demand_yields}
use Rattle.fast_check_finder_loop.specs.Own.{IsOwnYield}
use Rattle.fast_check_finder_loop.proofs.OwnYields.{own_yields}
use Rattle.fast_check_build.specs.Found.{OwnsRanges}

module _ (k : Known) (account : Account) (yields : List Yield) (of_account : IsYield (demand_yields k) account yields)
    (found : AreFoundByOwnNames k.root_symbol) where
  own : (y : Yield) → Contains yields y → IsOwnYield k.root_symbol y
  own y h = let s = of_account.sound y h in own_yields k found s.0 y s.2

  own_module : (nv : Nv) (t : Text) (o : Option PublicRanges) → IfSome o (IsModuleAnswer t (about_module t (about nv yields))) →
      IfSome o (OwnsRanges k.root_symbol t)
  own_module nv t None a = tt
  own_module nv t (Some m) a = record {
    public = λ r h. let y = shown yields nv t r (sym (a.ranges r) ∙ h) in own _ y.1;
    implementing = λ r h. let y = implemented yields nv t r (sym (a.implementations r) ∙ h) in own _ y.1;
  }

  pub own_answers : (answers : BTreeMap PackageNv PackagePublicRanges) → AreAnswers yields answers →
      (nv : Nv) (t : Text) → IfSome (module_answer answers nv t) (OwnsRanges k.root_symbol t)
  own_answers answers says nv t = own_module nv t (module_answer answers nv t) (module_stands yields answers says nv t)
