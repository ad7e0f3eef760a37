-- A module that is followed, and where its names come from.
use Rattle.std.specs.Prelude.{List, Option, is_some, string_bytes}
use Rattle.std.specs.List.{find}
use Rattle.std.specs.Option.{option_and_then}
use Rattle.url.specs.Parts.{Parts}
use Rattle.fast_check_finder_lattice.specs.Names.{Name}
use Rattle.fast_check_tables_symbols.specs.declared.symbol_id.SymbolId.{SymbolId}
use Rattle.fast_check_tables_symbols.specs.Symbols.{symbol_of}
use Rattle.fast_check_tables_symbols.specs.Exports.{export_named}
use Rattle.fast_check_tables_modules.specs.symbols.declared.tables.ReExportAllNode.{ReExportAllNode}
use Rattle.fast_check_tables_modules.specs.symbols.Tables.{Tables, resolved_export}
use Rattle.fast_check_tables_graph.specs.declared.root_symbol.AnyModuleInfo.{AnyModuleInfo}
use Rattle.fast_check_tables_graph.specs.declared.root_symbol.AnyModuleInfo.TheVariants.{Esm, Json}
use Rattle.fast_check_tables_graph.specs.Graph.{resolved_to}
use Rattle.fast_check_tables_graph.specs.Root.{specifier_of, found_module}
use Rattle.fast_check_finder_demands.specs.declared.re_exports.modules.GraphModule.{GraphModule}

abbrev pub tables_in : AnyModuleInfo → Tables
tables_in (Esm info) = info.tables
tables_in (Json info) = info.tables

-- the tables of the module that is followed
abbrev pub own_tables : GraphModule → Tables
own_tables m = tables_in m.info.now

-- the symbol of an export of the module itself
abbrev pub own_export : Tables → Name → Option SymbolId
own_export t name = option_and_then (λ s. export_named name s.exports) (symbol_of t.module_symbol t.symbols)

-- the module that a re-export of all leads to
abbrev pub led_to : GraphModule → ReExportAllNode → Option AnyModuleInfo
led_to m x = option_and_then (found_module m.root_symbol.now)
    (resolved_to m.graph.now (string_bytes x.specifier) (specifier_of m.info.now))

-- the module that answers a name behind a re-export of all
abbrev pub answer_of : GraphModule → Name → ReExportAllNode → Option Parts
answer_of m name x = option_and_then (λ other. resolved_export (tables_in other) name) (led_to m x)

-- the first re-export of all behind which a name is
abbrev pub first_with : GraphModule → Name → List ReExportAllNode → Option ReExportAllNode
first_with m name nodes = find (λ x. is_some (answer_of m name x)) nodes

-- the module that answers a name behind it
abbrev pub answer_to : GraphModule → Name → Option Parts
answer_to m name = option_and_then (answer_of m name) (first_with m name (own_tables m).re_exports)
