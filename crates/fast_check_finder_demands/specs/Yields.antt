-- What a demand makes public, and what is wrong with it.
use Rattle.std.specs.Prelude.{◌≡◌, Bool, false, cond, not, ◌&&◌, List, [], ◌∷◌, ◌++◌, map, Option, Some, None, length}
use Rattle.std.specs.Prelude.{take, option_to_list, leb, ◌⊎◌}
use Rattle.std.specs.List.{Contains, flat_map, filter, list_any}
use Rattle.fast_check_finder_lattice.specs.Names.{Name, Path, path_of}
use Rattle.fast_check_tree_syntax.specs.declared.source.SourceRange.{SourceRange}
use Rattle.fast_check_tables_symbols.specs.declared.symbol_id.SymbolId.{SymbolId}
use Rattle.fast_check_tables_symbols.specs.declared.symbol.Symbol.{Symbol}
use Rattle.fast_check_tables_symbols.specs.declared.decl.SymbolDecl.{SymbolDecl}
use Rattle.fast_check_tables_symbols.specs.Symbols.{symbol_of}
use Rattle.fast_check_tables_symbols.specs.Exports.{export_named}
use Rattle.fast_check_tables_symbols.specs.Tables.{Tables, table_ranges}
use Rattle.fast_check_finder_demands.specs.declared.symbol_demands.demand.Namespaces.{Namespaces}
use Rattle.fast_check_finder_demands.specs.declared.fault.DemandFaultKind.{DemandFaultKind}
use Rattle.fast_check_finder_demands.specs.declared.fault.DemandFaultKind.TheVariants.{PrivateMember, NotFound, TooComplex}
use Rattle.fast_check_finder_demands.specs.declared.fault.SymbolFault.{SymbolFault}
use Rattle.fast_check_finder_demands.specs.symbol_demands.Demands.{Demand, Asked, by_reference, as_child, by_path, same_symbol}
use Rattle.fast_check_finder_demands.specs.symbol_demands.Decls.{binds, is_implementation, is_function, has_alias, is_closed}
use Rattle.fast_check_finder_demands.specs.symbol_demands.Rules.{each_of, is_prototype, member_named}

-- ranges

abbrev pub decl_ranges : List SymbolDecl → List SourceRange
decl_ranges decls = map (λ x. x.range) decls

-- a range lies within another: it starts not before it, and ends not after it
abbrev pub is_within : SourceRange → SourceRange → Bool
is_within r inner = leb r.start.0 inner.start.0 && leb inner.end.0 r.end.0

-- outside of a range; not so where there is none
abbrev pub is_outside : Option SourceRange → SourceRange → Bool
is_outside None r = false
is_outside (Some range) r = not (is_within range r)

-- properties are assigned to a function that is bound in the namespace and does not implement overloads
abbrev pub has_properties : Namespaces → SymbolDecl → Bool
has_properties n x = binds x n && (is_function x && not (is_implementation x))

-- the properties of a function stand outside of one of its declarations
abbrev pub stands_outside : Namespaces → List SymbolDecl → SourceRange → Bool
stands_outside n decls r = list_any (λ x. has_properties n x && not (is_within x.range r)) decls

-- the declarations of what a symbol exports
abbrev pub ranges_at : Tables → SymbolId → List SourceRange
ranges_at t id = each_of (λ s. decl_ranges s.decls.items) (symbol_of id t.symbols)

abbrev pub export_ranges : Tables → List (Name × SymbolId) → List SourceRange
export_ranges t exports = flat_map (λ e. ranges_at t e.1) exports

-- they are among these
abbrev pub property_ranges : Tables → Namespaces → Symbol → List SourceRange
property_ranges t n s = filter (stands_outside n s.decls.items) (export_ranges t s.exports)

-- each declaration that binds the name is public by its range, and a function with its properties; a private member
-- makes nothing public
abbrev pub symbol_ranges : Tables → Namespaces → Symbol → List SourceRange
symbol_ranges t n s = cond s.is_private_member []
    (decl_ranges (filter (λ x. binds x n) s.decls.items) ++ property_ranges t n s)

-- by a path each declaration is public
abbrev pub asked_ranges : Tables → Asked → Symbol → List SourceRange
asked_ranges t (by_reference n) s = symbol_ranges t n s
asked_ranges t (as_child n) s = symbol_ranges t n s
asked_ranges t (by_path path extent) s = decl_ranges s.decls.items

-- the ranges that a demand makes public
abbrev pub ranges : Tables → Demand → List SourceRange
ranges t d = each_of (asked_ranges t d.asked) (symbol_of d.symbol t.symbols)

-- these are ranges of the module's own tables
abbrev pub AreTableRanges : Tables → List SourceRange → Type 0
AreTableRanges t found = (r : SourceRange) → Contains found r → Contains (table_ranges t.symbols t.re_exports) r

-- what comes behind is of these, and all of these are there
pub record Adds {X : Type 0} (these old new : List X) : Type 0 where
  pub more : List X
  pub is : new ≡ old ++ more
  pub parts : (x : X) → Contains more x → Contains these x
  pub whole : (x : X) → Contains these x → Contains new x

-- the new ones are the old ones and these
pub record Joins {X : Type 0} (these old new : List X) : Type 0 where
  pub sound : (x : X) → Contains new x → Contains old x ⊎ Contains these x
  pub kept : (x : X) → Contains old x → Contains new x
  pub whole : (x : X) → Contains these x → Contains new x

-- implementations of overloads

abbrev pub symbol_implementations : Namespaces → Symbol → List SourceRange
symbol_implementations n s = cond s.is_private_member []
    (decl_ranges (filter (λ x. binds x n && is_implementation x) s.decls.items))

abbrev pub asked_implementations : Asked → Symbol → List SourceRange
asked_implementations (by_reference n) s = symbol_implementations n s
asked_implementations (as_child n) s = symbol_implementations n s
asked_implementations (by_path path extent) s = []

-- the ranges that it makes public as implementations of overloads
abbrev pub implementations : Tables → Demand → List SourceRange
implementations t d = each_of (asked_implementations d.asked) (symbol_of d.symbol t.symbols)

-- faults

-- what is wrong with a demand: of which kind, at which symbol, with the names below it that were asked for, and who
-- asked
pub record Fault : Type 0 where
  pub kind : DemandFaultKind
  pub symbol : SymbolId
  pub names : Path
  pub referrer : SymbolId

abbrev pub fault_seen : SymbolFault → Fault
fault_seen f = record { kind = f.kind; symbol = f.symbol; names = path_of f.names.now; referrer = f.referrer }

abbrev pub fault_at : DemandFaultKind → Path → Demand → Fault
fault_at kind path d = record { kind = kind; symbol = d.symbol; names = path; referrer = d.referrer }

abbrev pub is_parent : SymbolId → Option SymbolId → Bool
is_parent id None = false
is_parent id (Some parent) = same_symbol parent id

-- a private member may be demanded by the symbol that lists it alone
abbrev pub private_fault : Demand → Symbol → Option Fault
private_fault d s = cond (s.is_private_member && not (is_parent d.referrer s.parent_id))
    (Some (fault_at PrivateMember [] d)) None

-- a class has no such member (`C.prototype.m`), or something below a member is asked for (`C.prototype.m.x`)
abbrev pub member_fault : Demand → Path → Option SymbolId → Option Fault
member_fault d path None = Some (fault_at NotFound (take 2 path) d)
member_fault d path (Some member) = cond (leb (length path) 2) None (Some (fault_at TooComplex (take 3 path) d))

abbrev pub prototype_fault : Tables → Demand → Path → Path → Symbol → Option Fault
prototype_fault t d path [] s = None
prototype_fault t d path (name ∷ below) s = member_fault d path (member_named t name s.members.items)

-- a class or a namespace has no such export (`C.n`)
abbrev pub export_fault : Demand → Path → Bool → Option SymbolId → Option Fault
export_fault d path closed None = cond closed (Some (fault_at NotFound (take 1 path) d)) None
export_fault d path closed (Some x) = None

abbrev pub first_fault : Tables → Demand → Path → Path → Symbol → Option Fault
first_fault t d path [] s = None
first_fault t d path (first ∷ below) s = cond (is_prototype first s.decls.items) (prototype_fault t d path below s)
    (export_fault d path (is_closed s.decls.items) (export_named first s.exports))

abbrev pub path_fault : Tables → Demand → Path → Symbol → Option Fault
path_fault t d path s = cond (has_alias s.decls.items) None (first_fault t d path path s)

abbrev pub asked_fault : Tables → Demand → Asked → Symbol → Option Fault
asked_fault t d (by_reference n) s = private_fault d s
asked_fault t d (as_child n) s = private_fault d s
asked_fault t d (by_path path extent) s = path_fault t d path s

abbrev pub fault_in : Tables → Demand → Option Symbol → Option Fault
fault_in t d None = None
fault_in t d (Some s) = asked_fault t d d.asked s

-- the fault of a demand, if it has one
abbrev pub faults : Tables → Demand → List Fault
faults t d = option_to_list (fault_in t d (symbol_of d.symbol t.symbols))
