-- A fault of a demand at its place in a module.
use Rattle.std.specs.Prelude.{ℕ, List, [], ◌∷◌, ◌++◌, Option, Some, None, option_map, option_to_list, codes}
use Rattle.std.specs.Prelude.{String, string_bytes}
use Rattle.std.specs.List.{flat_map}
use Rattle.std.specs.Option.{option_and_then}
use Rattle.std.specs.Rc.{rc_str_bytes}
use Rattle.std.specs.declared.alloc.Global.{Global}
use Rattle.std.specs.declared.rc.RcStr.{RcStr}
use Rattle.url.specs.Parts.{Parts}
use Rattle.fast_check_tree_syntax.specs.declared.source.SourceRange.{SourceRange}
use Rattle.fast_check_finder_lattice.specs.Names.{Path}
use Rattle.fast_check_tables_symbols.specs.declared.symbol.Symbol.{Symbol}
use Rattle.fast_check_tables_symbols.specs.declared.decl.SymbolDecl.{SymbolDecl}
use Rattle.fast_check_tables_symbols.specs.Symbols.{symbol_of}
use Rattle.fast_check_tables_diagnostics.specs.declared.diagnostics.range.FastCheckDiagnosticRange.{FastCheckDiagnosticRange}
use Rattle.fast_check_tables_diagnostics.specs.declared.diagnostics.FastCheckDiagnostic.{FastCheckDiagnostic}
use Rattle.fast_check_tables_diagnostics.specs.declared.diagnostics.FastCheckDiagnostic.TheVariants.{
  NotFoundReference,
  UnsupportedComplexReference,
  UnsupportedPrivateMemberReference,
}
use Rattle.fast_check_finder_demands.specs.declared.fault.DemandFaultKind.{DemandFaultKind}
use Rattle.fast_check_finder_demands.specs.declared.fault.DemandFaultKind.TheVariants.{PrivateMember, NotFound, TooComplex}
use Rattle.fast_check_finder_demands.specs.declared.fault.SymbolFault.{SymbolFault}
use Rattle.fast_check_finder_demands.specs.Yields.{Fault, fault_seen}
use Rattle.fast_check_finder_ranges.specs.declared.findings.demand_fault.DemandFault.{DemandFault}
use Rattle.fast_check_finder_ranges.specs.declared.findings.faulty_module.FaultyModule.{FaultyModule}

-- of which kind, in which module and source text, at which place in it, the name that was asked for, and who asked
pub record PlacedFault : Type 0 where
  pub kind : DemandFaultKind
  pub specifier : Parts
  pub text : List ℕ
  pub range : SourceRange
  pub name : List ℕ
  pub referrer : List ℕ

abbrev pub placed_of : DemandFaultKind → FastCheckDiagnosticRange → List ℕ → List ℕ → PlacedFault
placed_of kind place name referrer =
    record {
      kind = kind;
      specifier = place.specifier;
      text = rc_str_bytes place.text_info;
      range = place.range;
      name =
          name;
      referrer = referrer;
    }

-- a fault of the code, with the source text
abbrev pub placed_with : DemandFault → List ℕ → PlacedFault
placed_with f text = record {
  kind = f.kind;
  specifier = f.specifier;
  text = text;
  range = f.range;
  name = string_bytes f.name;
  referrer = string_bytes f.referrer;
}

-- the fault of a demand that a diagnostic is of, if it is of one
unfoldable pub demand_fault : FastCheckDiagnostic → Option PlacedFault
demand_fault (UnsupportedPrivateMemberReference place name referrer) =
    Some (placed_of PrivateMember place (string_bytes name) (string_bytes referrer))
demand_fault (NotFoundReference place name referrer) = Some
    (placed_of NotFound place (string_bytes name) (string_bytes referrer))
demand_fault (UnsupportedComplexReference place name referrer) =
    Some (placed_of TooComplex place (string_bytes name) (string_bytes referrer))
demand_fault _ = None

-- the name that a symbol is known by: the names from the module down to it, where they are known
abbrev pub name_or_unknown : Option (String Global) → List ℕ
name_or_unknown None = codes "<unknown>"
name_or_unknown (Some name) = string_bytes name

abbrev pub name_of : Option Symbol → List ℕ
name_of None = codes "<unknown>"
name_of (Some s) = name_or_unknown s.qualified_name

-- and a name below it, as `C.prototype.m`
abbrev pub below : Path → List ℕ
below path = flat_map (λ n. codes "." ++ n) path

abbrev pub full_name : List ℕ → Path → List ℕ
full_name name path = name ++ below path

-- the range of the first declaration
abbrev pub first_of : List SymbolDecl → Option SourceRange
first_of [] = None
first_of (x ∷ xs) = Some x.range

abbrev pub first_range : Option Symbol → Option SourceRange
first_range s = option_and_then (λ x. first_of x.decls.items) s

-- a module, by what its faults have of it
pub record FaultSource : Type 0 where
  pub specifier : Parts
  pub text : List ℕ
  pub symbols : List Symbol

abbrev pub source_of : FaultyModule → FaultSource
source_of m = record { specifier = m.specifier.now; text = rc_str_bytes m.text.now; symbols = m.tables.now.symbols }

abbrev pub placed_at : FaultSource → Fault → SourceRange → PlacedFault
placed_at m f range = record {
  kind = f.kind;
  specifier = m.specifier;
  text = m.text;
  range = range;
  name = full_name (name_of (symbol_of f.symbol m.symbols)) f.names;
  referrer = name_of (symbol_of f.referrer m.symbols);
}

-- a fault stands at the first declaration of its symbol
abbrev pub placed : FaultSource → Fault → Option PlacedFault
placed m f = option_map (placed_at m f) (first_range (symbol_of f.symbol m.symbols))

-- of a fault as the code has it
abbrev pub placed_seen : FaultSource → SymbolFault → List PlacedFault
placed_seen m f = option_to_list (placed m (fault_seen f))
