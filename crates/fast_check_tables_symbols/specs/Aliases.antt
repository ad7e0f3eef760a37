-- What aliases stand for, and at which places it is found.
use Rattle.std.specs.Prelude.{◌≡◌, ◌≢◌, ℕ, IsTrue, is_some, List, map, slice_get, AllPairs}
use Rattle.std.specs.Prelude.{Option, Some, None, option_to_list, string_bytes}
use Rattle.std.specs.List.{Contains, flat_map}
use Rattle.std.specs.Option.{option_and_then}
use Rattle.fast_check_tree_syntax.specs.declared.atom.Id.{Id}
use Rattle.fast_check_tables_symbols.specs.declared.decl.SymbolDecl.{SymbolDecl}
use Rattle.fast_check_tables_symbols.specs.declared.decl.SymbolDeclKind.{SymbolDeclKind}
use Rattle.fast_check_tables_symbols.specs.declared.decl.SymbolDeclKind.TheVariants.{Target, QualifiedTarget, FileRef}
use Rattle.fast_check_tables_symbols.specs.declared.decl.SymbolDeclKind.TheVariants.{Definition}
use Rattle.fast_check_tables_symbols.specs.declared.file_dep_name.FileDepName.{FileDepName}
use Rattle.fast_check_tables_symbols.specs.declared.file_dep_name.FileDepName.TheVariants.{Star, Name}

-- another symbol, a part of one, all that a file exports, or what it exports by a name
pub data Alias : Type 0 where
  symbol : Id → Alias
  part : Id → List (List ℕ) → Alias
  file : List ℕ → Alias
  export : List ℕ → List ℕ → Alias

abbrev pub file_alias : List ℕ → FileDepName → Alias
file_alias text Star = file text
file_alias text (Name name) = export text (string_bytes name)

-- what a declaration stands for, if it is an alias
abbrev pub alias_of : SymbolDeclKind → Option Alias
alias_of (Target id) = Some (symbol id)
alias_of (QualifiedTarget id parts) = Some (part id (map string_bytes parts.items))
alias_of (FileRef specifier name) = Some (file_alias (string_bytes specifier) name)
alias_of (Definition _) = None

-- what the aliases among declarations stand for
abbrev pub aliases : List SymbolDecl → List Alias
aliases decls = flat_map (λ x. option_to_list (alias_of x.kind)) decls

-- what the declaration at a place stands for
abbrev pub alias_at : List SymbolDecl → ℕ → Option Alias
alias_at decls place = option_and_then (λ x. alias_of x.kind) (slice_get decls place)

-- one of the declarations at these places stands for it
abbrev pub IsAt : List SymbolDecl → List ℕ → Alias → Type 0
IsAt decls places a = (place : ℕ) × Contains places place × (alias_at decls place ≡ Some a)

-- at each of these places stands an alias, whatever an alias stands for, one of these does, and no two stand for the same
pub record AreAliases (decls : List SymbolDecl) (places : List ℕ) : Type 0 where
  pub each : (place : ℕ) → Contains places place → IsTrue (is_some (alias_at decls place))
  pub all : (a : Alias) → Contains (aliases decls) a → IsAt decls places a
  pub once : AllPairs (λ p q. alias_at decls p ≢ alias_at decls q) places
