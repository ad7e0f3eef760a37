-- Inner: no contract of a public call cites what stands here.
-- What aliases stand for, as a set has it.
use Rattle.std.specs.Prelude.{◌≡◌, ◌≢◌, ℕ, true, List, map, take, is_some, IsTrue, string_bytes, AllPairs}
use Rattle.std.specs.List.{Contains}
use Rattle.std.specs.BTreeSet.{BTreeSet, contains}
use Rattle.fast_check_tables_symbols.specs.contracts.aliases.AliasOrd.TheImpl as order
use Rattle.fast_check_tables_symbols.specs.declared.aliases.Alias.{Alias as Key}
use Rattle.fast_check_tables_symbols.specs.declared.aliases.Alias.TheVariants as keys
use Rattle.fast_check_tables_symbols.specs.declared.decl.SymbolDecl.{SymbolDecl}
use Rattle.fast_check_tables_symbols.specs.Aliases.{Alias, symbol, part, file, export, aliases, alias_at, IsAt}

-- what a value of the code stands for
abbrev pub alias_seen : Key → Alias
alias_seen (keys.Symbol id) = symbol id.now
alias_seen (keys.Part id parts) = part id.now (map string_bytes parts.now)
alias_seen (keys.File text) = file text.now
alias_seen (keys.Export text name) = export text.now name.now

-- of the declarations before a place: what is met is found at these places, and nothing else, where aliases stand, each once
pub record AreMet (decls : List SymbolDecl) (place : ℕ) (met : BTreeSet Key) (places : List ℕ) : Type 0 where
  pub there : (k : Key) → contains order.cmp-value.it met k ≡ true → IsAt decls places (alias_seen k)
  pub noted : (k : Key) → IsAt decls places (alias_seen k) → contains order.cmp-value.it met k ≡ true
  pub each : (p : ℕ) → Contains places p → IsTrue (is_some (alias_at decls p))
  pub all : (a : Alias) → Contains (aliases (take place decls)) a → IsAt decls places a
  pub once : AllPairs (λ p q. alias_at decls p ≢ alias_at decls q) places
