-- What is public in the modules of packages is declared in them.
use Rattle.std.specs.Prelude.{List}
use Rattle.std.specs.List.{AllByRecursion}
use Rattle.std.specs.BTreeMap.{IsOrdered}
use Rattle.fast_check_tables_packages.specs.declared.package.PackageNv.{PackageNv}
use Rattle.fast_check_tables_graph.specs.declared.root_symbol.RootSymbol.{RootSymbol}
use Rattle.fast_check_tables_cache.specs.declared.package_ranges.PackagePublicRanges.{PackagePublicRanges}
use Rattle.fast_check_build_answers.specs.PackageAnswer.{OwnsAll}
use Rattle.fast_check_build_answers.specs.Answered.{by_text}

-- of a package, whose modules stand in order
abbrev pub IsOwned : RootSymbol → PackagePublicRanges → Type 0
IsOwned root p = IsOrdered by_text p.module_ranges → OwnsAll root p.module_ranges.entries

abbrev pub AreOwned : RootSymbol → List (PackageNv × PackagePublicRanges) → Type 0
AreOwned root packages = AllByRecursion (λ e. IsOwned root e.1) packages
