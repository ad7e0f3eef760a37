-- What a module knows of the objects of its expando properties: what its symbols say.
use Rattle.fast_check_tables_modules.specs.EsModule.{EsModule}
use Rattle.fast_check_tables_modules.specs.symbols.Tables.{symbol_of_swc}
use Rattle.fast_check_meaning_expandos.specs.Objects.{Objects, exports_name, stands_exported}

unfoldable pub objects_of : EsModule → Objects
objects_of info = record {
  exports = λ id name. exports_name (symbol_of_swc info.tables id) name;
  has_export_keyword = λ id. stands_exported (symbol_of_swc info.tables id);
}
