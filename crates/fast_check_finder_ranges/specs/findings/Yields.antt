-- What a demand yields.
use Rattle.std.specs.Prelude.{List}
use Rattle.url.specs.Parts.{Parts}
use Rattle.fast_check_tree_syntax.specs.declared.source.SourceRange.{SourceRange}
use Rattle.fast_check_tables_packages.specs.Package.{Nv}
use Rattle.fast_check_tables_cache.specs.Cache.{ItemView}
use Rattle.fast_check_finder_ranges.specs.findings.Faults.{PlacedFault}
use Rattle.fast_check_finder_demands.specs.asked.Demands.{Text}

-- What is wrong with a module: an entry point that the graph does not have, one whose types are not known, another
-- module whose types are not known, or something that was demanded of it.
pub data ModuleFault : Type 0 where
  missing_entry : ModuleFault
  untyped_entry : ModuleFault
  untyped_module : ModuleFault
  of_demand : PlacedFault → ModuleFault

-- A package whose exports are known; an entry point of a package; an export text of a package that cannot be joined to
-- its URL; a package on which another depends; and by package and module: that the module is recorded, a public range,
-- a public range of an implementation of overloads, and what is wrong. Of a package whose item in a cache is used: its
-- entry points, in order and each once, and the item.
pub data Yield : Type 0 where
  known_package : Nv → Yield
  entry_point : Nv → Text → Yield
  refused_export : Nv → Text → Yield
  dependency : Nv → Nv → Yield
  recorded : Nv → Text → Yield
  public : Nv → Text → SourceRange → Yield
  implementing : Nv → Text → SourceRange → Yield
  faulty : Nv → Text → ModuleFault → Yield
  cached : Nv → List Parts → ItemView → Yield

-- the package that a yield is about
abbrev pub package_of : Yield → Nv
package_of (known_package nv) = nv
package_of (entry_point nv t) = nv
package_of (refused_export nv t) = nv
package_of (dependency nv d) = nv
package_of (recorded nv t) = nv
package_of (public nv t r) = nv
package_of (implementing nv t r) = nv
package_of (faulty nv t f) = nv
package_of (cached nv entry_points item) = nv
