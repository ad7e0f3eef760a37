-- What a demand asks of other files.
use Rattle.std.specs.Prelude.{ℕ, not, ◌&&◌, cond, List, [], ◌∷◌, Some, None, string_bytes}
use Rattle.std.specs.List.{flat_map}
use Rattle.fast_check_finder_lattice.specs.Names.{Path, path_of}
use Rattle.fast_check_finder_lattice.specs.Imports.{NameDemand, names_but_default, each_name, subset_at, whole_at}
use Rattle.fast_check_tables_symbols.specs.declared.file_dep_name.FileDepName.{FileDepName}
use Rattle.fast_check_tables_symbols.specs.declared.file_dep_name.FileDepName.TheVariants.{Star, Name as Named}
use Rattle.fast_check_tables_symbols.specs.declared.symbol.Symbol.{Symbol}
use Rattle.fast_check_tables_symbols.specs.declared.decl.SymbolDecl.{SymbolDecl}
use Rattle.fast_check_tables_symbols.specs.declared.decl.SymbolDeclKind.{SymbolDeclKind}
use Rattle.fast_check_tables_symbols.specs.declared.decl.SymbolDeclKind.TheVariants.{Target, QualifiedTarget, FileRef}
use Rattle.fast_check_tables_symbols.specs.declared.decl.SymbolDeclKind.TheVariants.{Definition}
use Rattle.fast_check_tables_symbols.specs.declared.node.SymbolDep.{SymbolDep}
use Rattle.fast_check_tables_symbols.specs.declared.node.SymbolDep.TheVariants as deps
use Rattle.fast_check_tables_symbols.specs.declared.node.SymbolNodeDep.{SymbolNodeDep}
use Rattle.fast_check_tables_symbols.specs.Symbols.{symbol_of}
use Rattle.fast_check_tables_symbols.specs.Tables.{Tables}
use Rattle.fast_check_finder_demands.specs.declared.symbol_demands.demand.Namespaces.{Namespaces}
use Rattle.fast_check_finder_demands.specs.declared.symbol_demands.demand.Extent.{Extent}
use Rattle.fast_check_finder_demands.specs.declared.symbol_demands.demand.Extent.TheVariants.{Touched, Whole}
use Rattle.fast_check_finder_demands.specs.symbol_demands.Demands.{Demand, Asked, by_reference, as_child, by_path}
use Rattle.fast_check_finder_demands.specs.symbol_demands.Decls.{binds, is_implementation}
use Rattle.fast_check_finder_demands.specs.symbol_demands.Rules.{each_of}
use Rattle.fast_check_finder_demands.specs.declared.name_demands.name_demand.NameDemand.{NameDemand as Single}
use Rattle.fast_check_finder_demands.specs.declared.name_demands.name_demand.NameDemand.TheVariants as singles
use Rattle.fast_check_finder_demands.specs.declared.name_demands.name_demand.FileDependency.{FileDependency}

-- what is asked of the file that a text names
pub record FileDemand : Type 0 where
  pub text : List ℕ
  pub names : NameDemand

abbrev pub file_demand : List ℕ → NameDemand → FileDemand
file_demand text names = record { text = text; names = names }

-- what a path asks of a module; without names, that the module is there
abbrev pub path_demand : Path → Extent → NameDemand
path_demand [] x = subset_at []
path_demand (n ∷ p) Touched = subset_at (n ∷ p)
path_demand (n ∷ p) Whole = whole_at (n ∷ p)

-- what a value of the code stands for
abbrev pub names_of : Single → NameDemand
names_of singles.AllButDefault = names_but_default
names_of singles.All = each_name
names_of singles.There = subset_at []
names_of (singles.Path first rest extent) = path_demand (first.now ∷ path_of rest.now) extent

abbrev pub file_demand_of : FileDependency → FileDemand
file_demand_of w = file_demand w.specifier.now (names_of w.names)

-- an alias of a file's export asks for the export whole, and one of all of a file's exports for all but `default`
abbrev pub reference_demand : FileDepName → NameDemand
reference_demand Star = names_but_default
reference_demand (Named name) = whole_at (string_bytes name ∷ [])

-- a path below such an alias goes on below the export, and below all exports it begins with one of them
abbrev pub path_in_file : FileDepName → Path → Extent → NameDemand
path_in_file Star p x = path_demand p x
path_in_file (Named name) p x = path_demand (string_bytes name ∷ p) x

-- `import("file")` asks for each export, and `import("file").a.b` for the path of its names
abbrev pub import_demand : Path → NameDemand
import_demand [] = each_name
import_demand (n ∷ p) = whole_at (n ∷ p)

-- a symbol in a set of namespaces

abbrev pub dep_files : SymbolDep → List FileDemand
dep_files (deps.Id id) = []
dep_files (deps.QualifiedId id parts) = []
dep_files (deps.ImportType specifier parts) = file_demand (string_bytes specifier) (import_demand (path_of parts.items)) ∷ []

abbrev pub deps_files : List SymbolNodeDep → List FileDemand
deps_files listed = flat_map (λ x. dep_files x.dep) listed

abbrev pub kind_files : SymbolDeclKind → List FileDemand
kind_files (Target id) = []
kind_files (QualifiedTarget id parts) = []
kind_files (FileRef specifier name) = file_demand (string_bytes specifier) (reference_demand name) ∷ []
kind_files (Definition None) = []
kind_files (Definition (Some node)) = deps_files node.deps.items

-- only a declaration that binds the name in one of the namespaces counts, and the implementation of overloads asks for nothing
abbrev pub decl_files : Namespaces → SymbolDecl → List FileDemand
decl_files n x = cond (binds x n && not (is_implementation x)) (kind_files x.kind) []

-- nor does a private member
abbrev pub symbol_files : Namespaces → Symbol → List FileDemand
symbol_files n s = cond s.is_private_member [] (flat_map (decl_files n) s.decls.items)

-- a path below a symbol

abbrev pub alias_files : Path → Extent → SymbolDeclKind → List FileDemand
alias_files p x (Target id) = []
alias_files p x (QualifiedTarget id parts) = []
alias_files p x (FileRef specifier name) = file_demand (string_bytes specifier) (path_in_file name p x) ∷ []
alias_files p x (Definition _) = []

-- all

abbrev pub asked_files : Asked → Symbol → List FileDemand
asked_files (by_reference n) s = symbol_files n s
asked_files (as_child n) s = symbol_files n s
asked_files (by_path p x) s = flat_map (λ d. alias_files p x d.kind) s.decls.items

-- what a demand asks of other files
abbrev pub files : Tables → Demand → List FileDemand
files t d = each_of (asked_files d.asked) (symbol_of d.symbol t.symbols)
