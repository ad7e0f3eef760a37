-- What follows from a demand, within the module.
--
-- A demand names the demands of a list. An identifier that no symbol of the module is bound to names nothing. What a
-- declaration refers to in another file follows from the demand in that file, and is no matter of the module.
use Rattle.std.specs.Prelude.{Bool, cond, not, ◌&&◌, List, [], ◌∷◌, ◌++◌, map, Option, Some, None, option_map}
use Rattle.std.specs.Prelude.{codes, String, string_bytes}
use Rattle.std.specs.List.{flat_map}
use Rattle.std.specs.Str.{bytes_eq}
use Rattle.std.specs.declared.alloc.Global.{Global}
use Rattle.fast_check_finder_lattice.specs.Names.{Name, Path, path_of}
use Rattle.fast_check_tree_syntax.specs.declared.atom.Id.{Id}
use Rattle.fast_check_tables_symbols.specs.declared.symbol_id.SymbolId.{SymbolId}
use Rattle.fast_check_tables_symbols.specs.declared.symbol.Symbol.{Symbol}
use Rattle.fast_check_tables_symbols.specs.declared.decl.SymbolDecl.{SymbolDecl}
use Rattle.fast_check_tables_symbols.specs.declared.decl.SymbolDeclKind.{SymbolDeclKind}
use Rattle.fast_check_tables_symbols.specs.declared.decl.SymbolDeclKind.TheVariants.{Target, QualifiedTarget, FileRef}
use Rattle.fast_check_tables_symbols.specs.declared.decl.SymbolDeclKind.TheVariants.{Definition}
use Rattle.fast_check_tables_symbols.specs.declared.node.ReferenceNamespace.{ReferenceNamespace}
use Rattle.fast_check_tables_symbols.specs.declared.node.ReferenceNamespace.TheVariants as refs
use Rattle.fast_check_tables_symbols.specs.declared.node.SymbolDep.{SymbolDep}
use Rattle.fast_check_tables_symbols.specs.declared.node.SymbolDep.TheVariants as deps
use Rattle.fast_check_tables_symbols.specs.declared.node.SymbolNodeDep.{SymbolNodeDep}
use Rattle.fast_check_tables_symbols.specs.Symbols.{symbol_of}
use Rattle.fast_check_tables_symbols.specs.Exports.{export_named}
use Rattle.fast_check_tables_symbols.specs.Members.{first_named}
pub use Rattle.fast_check_tables_symbols.specs.Members.{symbol_is_named}
use Rattle.fast_check_tables_symbols.specs.Tables.{Tables, symbol_of_swc}
use Rattle.fast_check_finder_demands.specs.declared.symbol_demands.demand.Namespaces.{Namespaces}
use Rattle.fast_check_finder_demands.specs.declared.symbol_demands.demand.Namespaces.TheVariants.{Value, Type_, Both}
use Rattle.fast_check_finder_demands.specs.declared.symbol_demands.demand.Extent.{Extent}
use Rattle.fast_check_finder_demands.specs.declared.symbol_demands.demand.Extent.TheVariants.{Touched, Whole}
use Rattle.fast_check_finder_demands.specs.symbol_demands.Demands.{Demand, Asked, by_reference, as_child, by_path, same_symbol}
use Rattle.fast_check_finder_demands.specs.symbol_demands.Decls.{binds, is_implementation, has_alias, has_class, is_closed}

-- the forms of demands

abbrev pub reference : SymbolId → Namespaces → SymbolId → Demand
reference symbol namespaces referrer = record { symbol = symbol; asked = by_reference namespaces; referrer = referrer }

abbrev pub child : SymbolId → SymbolId → Demand
child symbol parent = record { symbol = symbol; asked = as_child Both; referrer = parent }

abbrev pub qualified : SymbolId → Path → Extent → SymbolId → Demand
qualified symbol path extent referrer = record { symbol = symbol; asked = by_path path extent; referrer = referrer }

-- the namespaces that a reference is looked up in
abbrev pub namespaces_of : ReferenceNamespace → Namespaces
namespaces_of refs.Value = Value
namespaces_of refs.Type_ = Type_
namespaces_of refs.Both = Both

-- by a qualified name: all of what its names lead to; without names, that the symbol is there
abbrev pub named : SymbolId → Path → SymbolId → Demand
named symbol [] referrer = qualified symbol [] Touched referrer
named symbol (first ∷ more) referrer = qualified symbol (first ∷ more) Whole referrer

-- of what there is
abbrev pub each_of : {X Y : Type 0} → (X → List Y) → Option X → List Y
each_of f None = []
each_of f (Some x) = f x

-- the symbol that an identifier is bound to
abbrev pub bound : Tables → Id → Option SymbolId
bound t id = option_map (λ s. s.id) (symbol_of_swc t id)

-- a symbol in a set of namespaces

-- a member demands the symbol that lists it, unless that one asked
abbrev pub parent_at : Demand → Option SymbolId → List Demand
parent_at d None = []
parent_at d (Some parent) = cond (same_symbol parent d.referrer) [] (reference parent Both d.symbol ∷ [])

abbrev pub parent_names : Demand → Bool → Option SymbolId → List Demand
parent_names d is_member parent = cond is_member (parent_at d parent) []

-- a definition demands what its text refers to
abbrev pub dep_names : Tables → SymbolId → ReferenceNamespace → SymbolDep → List Demand
dep_names t referrer namespace (deps.Id id) = each_of (λ x. reference x (namespaces_of namespace) referrer ∷ []) (bound t id)
dep_names t referrer namespace (deps.QualifiedId id parts) =
    each_of (λ x. named x (path_of parts.items) referrer ∷ []) (bound t id)
dep_names t referrer namespace (deps.ImportType specifier parts) = []

abbrev pub deps_names : Tables → SymbolId → List SymbolNodeDep → List Demand
deps_names t referrer listed = flat_map (λ x. dep_names t referrer x.namespace x.dep) listed

-- an alias demands its target in the same namespaces, or the part of its target that it names; a member its parent, and
-- a definition what it refers to
abbrev pub kind_names : Tables → Demand → Namespaces → Option SymbolId → SymbolDeclKind → List Demand
kind_names t d n parent (Target id) = each_of (λ x. reference x n d.symbol ∷ []) (bound t id)
kind_names t d n parent (QualifiedTarget id parts) = each_of (λ x. named x (path_of parts.items) d.symbol ∷ [])
    (bound t id)
kind_names t d n parent (FileRef specifier name) = []
kind_names t d n parent (Definition None) = []
kind_names t d n parent (Definition (Some node)) = parent_names d node.is_member parent ++
    deps_names t d.symbol node.deps.items

-- only a declaration that binds the name in one of the namespaces counts, and the implementation of overloads names nothing
abbrev pub decl_names : Tables → Demand → Namespaces → Option SymbolId → SymbolDecl → List Demand
decl_names t d n parent x = cond (binds x n && not (is_implementation x)) (kind_names t d n parent x.kind) []

-- a symbol demands its exports and its members as children, in both namespaces
abbrev pub exports_names : Demand → List (Name × SymbolId) → List Demand
exports_names d exports = map (λ e. child e.1 d.symbol) exports

abbrev pub members_names : Demand → List SymbolId → List Demand
members_names d members = map (λ m. child m d.symbol) members

-- a private member names nothing
abbrev pub symbol_names : Tables → Demand → Namespaces → Symbol → List Demand
symbol_names t d n s = cond s.is_private_member []
    (flat_map (decl_names t d n s.parent_id) s.decls.items ++ exports_names d s.exports ++
    members_names d s.members.items)

-- a path below a symbol

-- an alias passes the path on, and demands each name of its own target whole beside it
abbrev pub parts_names : Demand → SymbolId → List (String Global) → List Demand
parts_names d symbol parts = map (λ part. qualified symbol (string_bytes part ∷ []) Whole d.referrer) parts

abbrev pub alias_names : Tables → Demand → Path → Extent → SymbolDeclKind → List Demand
alias_names t d path extent (Target id) = each_of (λ x. qualified x path extent d.referrer ∷ []) (bound t id)
alias_names t d path extent (QualifiedTarget id parts) =
    each_of (λ x. qualified x path extent d.referrer ∷ parts_names d x parts.items) (bound t id)
alias_names t d path extent (FileRef specifier name) = []
alias_names t d path extent (Definition _) = []

-- the member of a name: the first among the members that has it
abbrev pub member_named : Tables → Name → List SymbolId → Option SymbolId
member_named t name members = first_named t.symbols name members

-- `prototype` of a class is the class, seen by its members; what goes below a member is too deep to be followed
abbrev pub member_names : Demand → Path → Extent → Option SymbolId → List Demand
member_names d [] Whole (Some member) = reference member Both d.referrer ∷ []
member_names d _ _ _ = []

abbrev pub whole_names : Demand → Extent → List Demand
whole_names d Touched = []
whole_names d Whole = reference d.symbol Both d.referrer ∷ []

abbrev pub prototype_names : Tables → Demand → Path → Extent → Symbol → List Demand
prototype_names t d [] extent s = whole_names d extent
prototype_names t d (name ∷ below) extent s = member_names d below extent (member_named t name s.members.items)

-- an export is demanded whole, or by the rest of the path. A name that is no export demands the symbol itself, unless
-- the symbol has no more names than it lists
abbrev pub export_part_names : Demand → Path → Extent → SymbolId → List Demand
export_part_names d [] Whole x = reference x Both d.referrer ∷ []
export_part_names d [] Touched x = qualified x [] Touched d.referrer ∷ []
export_part_names d (name ∷ below) extent x = qualified x (name ∷ below) extent d.referrer ∷ []

abbrev pub export_names : Demand → Path → Extent → Bool → Option SymbolId → List Demand
export_names d below extent closed None = cond closed [] (reference d.symbol Both d.referrer ∷ [])
export_names d below extent closed (Some x) = export_part_names d below extent x

abbrev pub is_prototype : Name → List SymbolDecl → Bool
is_prototype name decls = bytes_eq name (codes "prototype") && has_class decls

abbrev pub first_names : Tables → Demand → Path → Extent → Symbol → List Demand
first_names t d [] extent s = []
first_names t d (name ∷ below) extent s = cond (is_prototype name s.decls.items) (prototype_names t d below extent s)
    (export_names d below extent (is_closed s.decls.items) (export_named name s.exports))

-- where the symbol stands for something else, its aliases are followed, else the path's first name
abbrev pub path_names : Tables → Demand → Path → Extent → Symbol → List Demand
path_names t d path extent s = cond (has_alias s.decls.items)
    (flat_map (λ x. alias_names t d path extent x.kind) s.decls.items)
    (first_names t d path extent s)

-- all

abbrev pub asked_names : Tables → Demand → Asked → Symbol → List Demand
asked_names t d (by_reference n) s = symbol_names t d n s
asked_names t d (as_child n) s = symbol_names t d n s
asked_names t d (by_path path extent) s = path_names t d path extent s

-- what a demand names; an id without symbol names nothing
abbrev pub names : Tables → Demand → List Demand
names t d = each_of (asked_names t d d.asked) (symbol_of d.symbol t.symbols)
