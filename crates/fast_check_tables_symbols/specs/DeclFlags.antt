-- What declarations say together, noted.
use Rattle.std.specs.Prelude.{◌≡◌, ℕ, List}
use Rattle.std.specs.List.{list_any}
use Rattle.fast_check_tables_symbols.specs.declared.decl.SymbolDecl.{SymbolDecl}
use Rattle.fast_check_tables_symbols.specs.declared.decls.DeclFlags.{DeclFlags}
use Rattle.fast_check_tables_symbols.specs.Decls.{decl_has_export_keyword, decl_is_plain_class, is_exported_value}
use Rattle.fast_check_tables_symbols.specs.Decls.{is_exported_type, has_alias, has_class, is_closed, has_implementation}
use Rattle.fast_check_tables_symbols.specs.Aliases.{AreAliases}

-- each flag says whether one of the declarations is so
abbrev pub flags_of : List SymbolDecl → DeclFlags
flags_of decls = record {
  has_export_keyword = list_any decl_has_export_keyword decls;
  is_plain_class = list_any decl_is_plain_class decls;
  is_exported_value = list_any is_exported_value decls;
  is_exported_type = list_any is_exported_type decls;
  has_alias = has_alias decls;
  has_class = has_class decls;
  is_closed = is_closed decls;
  has_implementation = has_implementation decls;
}

-- the flags of these declarations, and the places of aliases among them
pub record AreNoted (decls : List SymbolDecl) (flags : DeclFlags) (places : List ℕ) : Type 0 where
  pub flags_are : flags ≡ flags_of decls
  pub aliases : AreAliases decls places
