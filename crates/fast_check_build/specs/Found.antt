-- What is found of packages that are handed in.
use Rattle.std.specs.Prelude.{◌≡◌, true, List, Option, Result, IfSome, MatchResult}
use Rattle.std.specs.List.{Contains}
use Rattle.std.specs.BTreeMap.{BTreeMap}
use Rattle.fast_check_tree_syntax.specs.declared.source.SourceRange.{SourceRange}
use Rattle.fast_check_tables_packages.specs.Package.{Nv}
use Rattle.fast_check_tables_packages.specs.declared.package.PackageNv.{PackageNv}
use Rattle.fast_check_tables_packages.specs.declared.fault.BuildFault.{BuildFault}
use Rattle.url.specs.Parts.{Parts}
use Rattle.fast_check_tables_packages.specs.declared.package.WorkspaceMember.{WorkspaceMember}
use Rattle.fast_check_tables_graph.specs.declared.graph.ModuleGraph.{ModuleGraph}
use Rattle.fast_check_tables_graph.specs.declared.root_symbol.RootSymbol.{RootSymbol}
use Rattle.fast_check_tables_cache.specs.declared.package_ranges.PackagePublicRanges.{PackagePublicRanges}
use Rattle.fast_check_tables_modules.specs.diagnostics.PublicRanges.{PublicRanges, is_public, is_implementation}
use Rattle.fast_check_finder_demands.specs.asked.Demands.{Text, of_package}
use Rattle.fast_check_finder_ranges.specs.findings.Yields.{Yield}
use Rattle.fast_check_finder_ranges.specs.Answers.{AreAnswers, lookup_package, module_answer}
use Rattle.fast_check_finder_loop.specs.demands.facts.GraphFacts.{none_used, Known, owner_by, named_at}
use Rattle.fast_check_finder_loop.specs.Account.{Account, IsAccount, IsYield}
use Rattle.fast_check_finder_loop.specs.Rules.{followers}
use Rattle.fast_check_finder_loop.specs.Yields.{demand_yields}
use Rattle.fast_check_finder_loop.specs.Own.{IsOwnRange}
use Rattle.fast_check_finder_loop.specs.Refusals.{JoinAll, IsRefusal}

-- what is known of modules and packages, where a provider is lent, and no cache
abbrev pub known_of : ModuleGraph → RootSymbol → List WorkspaceMember → (Nv → Parts) → (Text → Option Nv) → Known
known_of graph root_symbol members url_of nv_at = record {
  graph = graph;
  root_symbol = root_symbol;
  workspace_members = members;
  url_of = url_of;
  owner = owner_by members nv_at;
  used = none_used;
}

-- what is public in a module, or implements overloads, is declared in it
pub record OwnsRanges (root : RootSymbol) (t : Text) (m : PublicRanges) : Type 0 where
  pub public : (r : SourceRange) → is_public m r ≡ true → IsOwnRange (named_at root t) r
  pub implementing : (r : SourceRange) → is_implementation m r ≡ true → IsOwnRange (named_at root t) r

-- There is an account of demands, from the packages that are handed in, whose export texts all join; and the answers
-- say what its demands give, and nothing else, each of a package of the account. A package whose item is used demands
-- what the item depends on, and gives the item. What is public in a module is declared in it, so that the module admits it.
pub record IsFound (k : Known) (roots : List Nv) (answers : BTreeMap PackageNv PackagePublicRanges) : Type 0 where
  pub account : Account
  pub yields : List Yield
  pub is_account : IsAccount (followers k) roots account
  pub is_yield : IsYield (demand_yields k) account yields
  pub join : JoinAll k account
  pub says : AreAnswers yields answers
  pub packages : (nv : Nv) → IfSome (lookup_package nv answers.entries) (λ p. Contains account (of_package nv))
  pub own : (nv : Nv) (t : Text) → IfSome (module_answer answers nv t) (OwnsRanges k.root_symbol t)

-- a search answers what is found, or is refused
abbrev pub Finds : Known → List Nv → Result (BTreeMap PackageNv PackagePublicRanges) BuildFault → Type 0
Finds k roots result = MatchResult result (IsFound k roots) (IsRefusal k roots)
