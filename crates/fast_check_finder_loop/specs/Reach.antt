-- Inner: no contract of a public call cites what stands here.
-- All that can be demanded.
use Rattle.std.specs.Prelude.{ℕ, zero, suc, ◌^◌, List, [], ◌∷◌, ◌++◌, map, length, Option, Some, None, option_to_list}
use Rattle.std.specs.Prelude.{string_bytes}
use Rattle.std.specs.List.{flat_map}
use Rattle.url.specs.Parts.{Parts, serialize}
use Rattle.fast_check_tables_packages.specs.Package.{Nv}
use Rattle.fast_check_tables_cache.specs.Cache.{ItemView}
use Rattle.fast_check_finder_lattice.specs.Names.{Name, Path, path_of}
use Rattle.fast_check_finder_lattice.specs.Imports.{default_name}
use Rattle.fast_check_tables_symbols.specs.declared.file_dep_name.FileDepName.{FileDepName}
use Rattle.fast_check_tables_symbols.specs.declared.file_dep_name.FileDepName.TheVariants.{Star, Name as Named}
use Rattle.fast_check_tables_symbols.specs.declared.symbol_id.SymbolId.{SymbolId}
use Rattle.fast_check_tables_symbols.specs.declared.symbol.Symbol.{Symbol}
use Rattle.fast_check_tables_symbols.specs.declared.decl.SymbolDeclKind.{SymbolDeclKind}
use Rattle.fast_check_tables_symbols.specs.declared.decl.SymbolDeclKind.TheVariants.{Target, QualifiedTarget, FileRef}
use Rattle.fast_check_tables_symbols.specs.declared.decl.SymbolDeclKind.TheVariants.{Definition}
use Rattle.fast_check_tables_symbols.specs.declared.node.SymbolDep.{SymbolDep}
use Rattle.fast_check_tables_symbols.specs.declared.node.SymbolDep.TheVariants as deps
use Rattle.fast_check_tables_symbols.specs.Tables.{Tables}
use Rattle.fast_check_tables_graph.specs.Root.{specifier_of}
use Rattle.fast_check_finder_demands.specs.re_exports.Modules.{tables_in}
use Rattle.fast_check_finder_demands.specs.asked.Demands.{Text}
use Rattle.fast_check_finder_loop.specs.Measure.{Universe}
use Rattle.fast_check_finder_loop.specs.Universe.{table_ids, demands_among}
use Rattle.fast_check_finder_ranges.specs.entries.Entries.{Entrance, passed_over, refused, entered}
use Rattle.fast_check_finder_demands.specs.facts.GraphFacts.{Known}
use Rattle.fast_check_finder_loop.specs.Rules.{entrance_at}

-- the names that the tables of a module write

abbrev pub dep_names : SymbolDep → List Name
dep_names (deps.Id id) = []
dep_names (deps.QualifiedId id parts) = path_of parts.items
dep_names (deps.ImportType specifier parts) = path_of parts.items

abbrev pub file_names : FileDepName → List Name
file_names Star = []
file_names (Named name) = string_bytes name ∷ []

abbrev pub kind_names : SymbolDeclKind → List Name
kind_names (Target id) = []
kind_names (QualifiedTarget id parts) = path_of parts.items
kind_names (FileRef specifier name) = file_names name
kind_names (Definition None) = []
kind_names (Definition (Some node)) = flat_map (λ x. dep_names x.dep) node.deps.items

abbrev pub symbol_names : Symbol → List Name
symbol_names s = flat_map (λ x. kind_names x.kind) s.decls.items

abbrev pub table_names : Tables → List Name
table_names t = flat_map symbol_names t.symbols

abbrev pub all_names : Known → List Name
all_names k = default_name ∷ flat_map (λ e. table_names (tables_in e.1)) k.root_symbol.modules.entries

-- the paths of these names, up to a length
abbrev pub paths_up_to : ℕ → List Name → List Path
paths_up_to zero ns = [] ∷ []
paths_up_to (suc n) ns = [] ∷ flat_map (λ m. map (λ p. m ∷ p) (paths_up_to n ns)) ns

-- those that are asked of a symbol: of a module they may have one name more
abbrev pub symbol_paths : Known → List Path
symbol_paths k = paths_up_to (length (all_names k)) (all_names k)

-- the ids that the tables of modules mention, and the modules' own names
abbrev pub all_ids : Known → List SymbolId
all_ids k = flat_map (λ e. table_ids (tables_in e.1)) k.root_symbol.modules.entries

abbrev pub own_texts : Known → List Text
own_texts k = map (λ e. serialize (specifier_of e.1)) k.root_symbol.modules.entries

-- what the texts of modules resolve to, and the modules that answer exports
abbrev pub targets : Known → List Text
targets k = flat_map (λ e. map (λ x. serialize x.1) e.1.entries) k.graph.resolutions.entries

abbrev pub answers : Known → List Text
answers k = flat_map (λ e. map (λ x. serialize x.1) (tables_in e.1).resolved) k.root_symbol.modules.entries

abbrev pub outer_texts : Known → List Text
outer_texts k = targets k ++ answers k

-- the dependencies of the items under all keys below a number, and so of all that a cache has
abbrev pub dependencies_in : Option ItemView → List Nv
dependencies_in None = []
dependencies_in (Some item) = item.0

unfoldable pub dependencies_below : (ℕ → Option ItemView) → ℕ → List Nv
dependencies_below stored zero = []
dependencies_below stored (suc n) = dependencies_in (stored n) ++ dependencies_below stored n

abbrev pub lent_dependencies : {C : Type 0} → Option C → (C → ℕ → Option ItemView) → List Nv
lent_dependencies None stored = []
lent_dependencies (Some c) stored = dependencies_below (stored c) (2 ^ 64)

-- the packages that are handed in, those that the modules of others belong to, and those on which items of a cache
-- depend
abbrev pub all_packages : Known → List Nv → List Nv → List Nv
all_packages k stored roots = roots ++ (flat_map (λ t. option_to_list (k.owner t)) (outer_texts k) ++ stored)

abbrev pub urls_in : Entrance → List Parts
urls_in passed_over = []
urls_in (refused text) = []
urls_in (entered urls) = urls

abbrev pub entry_texts : Known → List Nv → List Text
entry_texts k packages = flat_map (λ p. map serialize (urls_in (entrance_at k p))) packages

abbrev pub reach : Known → List Nv → List Nv → Universe
reach k stored roots = record {
  packages = all_packages k stored roots;
  texts = outer_texts k ++ entry_texts k (all_packages k stored roots);
  paths = paths_up_to (suc (length (all_names k))) (all_names k);
  own_texts = own_texts k;
  symbols = demands_among (all_ids k) (symbol_paths k);
}
