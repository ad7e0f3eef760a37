-- A settled input: a package whose only module exports one function that refers to no other declaration.
use Rattle.std.specs.Prelude.{◌≡◌, true, [], ◌∷◌, Some, None}
use Rattle.url.specs.Parts.{Parts, serialize}
use Rattle.fast_check_tables_packages.specs.Package.{Nv}
use Rattle.fast_check_tables_symbols.specs.declared.symbol.Symbol.{Symbol}
use Rattle.fast_check_tables_symbols.specs.declared.symbol_id.SymbolId.{SymbolId}
use Rattle.fast_check_tables_symbols.specs.Symbols.{symbol_of}
use Rattle.fast_check_finder_lattice.specs.Names.{Name}
use Rattle.fast_check_finder_lattice.specs.Imports.{default_name}
use Rattle.fast_check_finder_demands.specs.declared.re_exports.modules.GraphModule.{GraphModule}
use Rattle.fast_check_finder_demands.specs.declared.symbol_demands.demand.Namespaces.TheVariants.{Value}
use Rattle.fast_check_finder_demands.specs.symbol_demands.Demands.{Demand as SymbolDemand}
use Rattle.fast_check_finder_demands.specs.symbol_demands.Rules.{reference, names}
use Rattle.fast_check_finder_demands.specs.name_demands.Files.{files}
use Rattle.fast_check_finder_demands.specs.re_exports.Modules.{own_tables}
use Rattle.fast_check_finder_demands.specs.re_exports.Roots.{exported_in}
use Rattle.fast_check_finder_demands.specs.facts.GraphFacts.{Known, module_at}
use Rattle.fast_check_finder_ranges.specs.entries.Entries.{entered, all_faults}
use Rattle.fast_check_finder_ranges.specs.findings.Yields.{Yield}
use Rattle.fast_check_finder_loop.specs.Rules.{own_text, module_of, entrance_at, followers}
use Rattle.fast_check_finder_loop.specs.Yields.{demand_yields}
use Rattle.fast_check_finder_unique.specs.Settled.{AreSettled}

-- the module refers to its export as a value
abbrev pub export_demand : GraphModule → SymbolId → SymbolDemand
export_demand m x = reference x Value (own_tables m).module_symbol

pub record ExportsOneFunction (k : Known) (p : Nv) (url : Parts) (m : GraphModule) (root : Symbol) (name : Name) (x : SymbolId) :
    Type 0 where
  -- the package has one entry point, a typed module that stands under its own name; no cache is used
  pub entrance : entrance_at k p ≡ entered (url ∷ [])
  pub uncached : k.used p (url ∷ []) ≡ None
  pub typed : all_faults k.graph (url ∷ []) ≡ []
  pub followed : module_at k (serialize url) ≡ Some m
  pub named : module_of k (serialize url) ≡ Some m
  pub own_name : own_text m ≡ serialize url
  -- the module exports the function alone, under another name than `default`, and re-exports nothing
  pub root_symbol : symbol_of (own_tables m).module_symbol (own_tables m).symbols ≡ Some root
  pub exports : root.exports ≡ (name, x) ∷ []
  pub no_default : default_name ≡ name → ⊥
  pub re_exports : (own_tables m).re_exports ≡ []
  pub value : exported_in (symbol_of x (own_tables m).symbols) ≡ Value
  -- the function refers to nothing, in its module or in another file
  pub no_names : names (own_tables m) (export_demand m x) ≡ []
  pub no_files : files (own_tables m) (export_demand m x) ≡ []

-- each yield of such a package is settled, the public range of the function among them
abbrev pub OneExport : Type 0
OneExport = (k : Known) (p : Nv) (url : Parts) (m : GraphModule) (root : Symbol) (name : Name) (x : SymbolId) →
    ExportsOneFunction k p url m root name x → AreSettled (followers k) (demand_yields k) (p ∷ []) (λ (y : Yield). true)
