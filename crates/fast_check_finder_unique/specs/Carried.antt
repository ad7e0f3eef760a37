-- Demands that are followed wherever they are covered: an account that covers them covers what follows from them.
use Rattle.std.specs.Prelude.{◌≡◌, List}
use Rattle.fast_check_tables_packages.specs.Package.{Nv}
use Rattle.fast_check_finder_lattice.specs.Imports.{NameDemand, names_but_default}
use Rattle.fast_check_tables_symbols.specs.declared.symbol_id.SymbolId.{SymbolId}
use Rattle.fast_check_finder_lattice.specs.Names.{Path}
use Rattle.fast_check_finder_demands.specs.declared.symbol_demands.demand.Extent.{Extent}
use Rattle.fast_check_finder_demands.specs.symbol_demands.Rules.{qualified}
use Rattle.fast_check_finder_demands.specs.asked.Demands.{Text, Demand, of_package, of_module, of_symbol, Followers, Follows}
use Rattle.fast_check_finder_demands.specs.facts.GraphFacts.{Known}
use Rattle.fast_check_finder_loop.specs.Account.{Account, IsAccount, IsCovered, Chained}
use Rattle.fast_check_finder_loop.specs.Rules.{followers}

-- no module is demanded for two packages
abbrev pub HaveOnePackage : Followers → List Nv → Type 0
HaveOnePackage followers roots = (p q : Nv) (t : Text) (a b : NameDemand) → Chained followers roots (of_module p t a) →
    Chained followers roots (of_module q t b) → p ≡ q

-- an account that covers the demand covers what follows from it
abbrev pub IsCarried : Followers → List Nv → Account → Demand → Type 0
IsCarried followers roots account d = Chained followers roots d → IsCovered account d → (e : Demand) → Follows followers d e →
    IsCovered account e

-- all names but `default` of a module, as `export *` demands them
abbrev pub AreStarsCarried : Type 0
AreStarsCarried = (k : Known) (roots : List Nv) (account : Account) → IsAccount (followers k) roots account →
    HaveOnePackage (followers k) roots → (p : Nv) (t : Text) → IsCarried (followers k) roots account (of_module p t names_but_default)

-- packages, and paths of names below a symbol
abbrev pub ArePackagesCarried : Type 0
ArePackagesCarried = (k : Known) (roots : List Nv) (account : Account) → IsAccount (followers k) roots account → (p : Nv) →
    IsCarried (followers k) roots account (of_package p)

abbrev pub ArePathsCarried : Type 0
ArePathsCarried = (k : Known) (roots : List Nv) (account : Account) → IsAccount (followers k) roots account → (p : Nv) (t : Text)
    (symbol : SymbolId) (path : Path) (extent : Extent) (referrer : SymbolId) →
    IsCarried (followers k) roots account (of_symbol p t (qualified symbol path extent referrer))
