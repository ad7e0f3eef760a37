-- Assignments that are statements, and the namespaces that stand behind the items of a body for the properties that
-- they declare: of `function f() {} f.a = 1;` the skeleton is `function f(): void {} namespace f { export var a = 1;
-- }`.
use Rattle.std.specs.Prelude.{ℕ, Bool, true, false, List, [], ◌∷◌, ◌++◌, map, if◌then◌else◌}
use Rattle.std.specs.List.{flat_map, list_any}
use Rattle.fast_check_tree_syntax.specs.declared.atom.Id.{Id}
use Rattle.fast_check_tree_syntax.specs.declared.kind.Word.TheVariants as words
use Rattle.fast_check_tree_syntax.specs.declared.source.SourceRange.{SourceRange}
use Rattle.fast_check_tree_syntax.specs.declared.tree.Tree.{Tree, Absent, Word}
use Rattle.fast_check_tree_syntax.specs.Shape.{list, none_range}
use Rattle.fast_check_tree_helpers.specs.Builders.{new_ident}
use Rattle.fast_check_tree_forms_programs.specs.ModuleDecls.{export_decl}
use Rattle.fast_check_tree_forms_programs.specs.Names.{IdentName-sym, binding_ident}
use Rattle.fast_check_tree_forms_expressions.specs.Calls.{MemberExpr-obj, MemberExpr-prop}
use Rattle.fast_check_tree_forms_statements.specs.Declarations.{var_decl, var_declarator}
use Rattle.fast_check_tree_forms_statements.specs.TsDeclarations.{ts_module_decl, ts_module_block}
use Rattle.fast_check_tables_modules.specs.Expandos.{id_of}
use Rattle.fast_check_tables_modules.specs.symbols.Tables.{same_id}
use Rattle.fast_check_meaning_signatures.specs.declared.fault.Fault.{Fault}
use Rattle.fast_check_meaning_signatures.specs.declared.fault.FaultKind.TheVariants.{UnsupportedExpandoProperty}
use Rattle.fast_check_meaning_signatures.specs.Seen.{Seen, written, faulty}
use Rattle.fast_check_meaning_expandos.specs.declared.properties.ExpandoProperty.{ExpandoProperty}
use Rattle.fast_check_meaning_expandos.specs.declared.references.Reference.{Reference}
use Rattle.fast_check_meaning_expandos.specs.Groups.{grouped}
use Rattle.fast_check_meaning_expandos.specs.References.{conflicts}

-- the object of a target `object.name`, and the name
abbrev pub object_of : Tree → Id
object_of target = id_of (MemberExpr-obj target)

abbrev pub property_name : Tree → List ℕ
property_name target = IdentName-sym (MemberExpr-prop target)

-- `name = value`: the declarator of a property, at the place of its assignment; its name is a new one
abbrev pub property_declarator : SourceRange → Tree → Tree → Tree
property_declarator place target value = var_declarator place
    (binding_ident (new_ident (property_name target)) Absent) value false

-- A property whose value may stay, by the place and the target of its assignment, and the value as it stays. `exported`
-- says which names the symbol of the object exports, and `is_exported` whether a declaration of the object stands
-- behind the keyword `export`.
abbrev pub property_of : (List ℕ → Bool) → Bool → SourceRange → Tree → Tree → ExpandoProperty
property_of exported is_exported place target value = record {
  object = object_of target;
  is_exported = is_exported;
  declarator = property_declarator place target value;
  conflicts = conflicts (object_of target).1 exported value;
}

-- `export var declarators;`
abbrev pub exported_variables : List Tree → Tree
exported_variables declarators = export_decl none_range
    (var_decl none_range (record { 0 = 0 }) (Word words.Var) false (list declarators))

-- `namespace name { export var declarators; }`
abbrev pub namespace_decl : List ℕ → List Tree → Tree
namespace_decl name declarators =
    ts_module_decl none_range false false true (new_ident name)
    (ts_module_block none_range (list (exported_variables declarators ∷ [])))

-- the same, exported or not
abbrev pub namespace_item : Bool → List ℕ → List Tree → Tree
namespace_item is_exported name declarators =
    if is_exported then export_decl none_range (namespace_decl name declarators) else namespace_decl name declarators

-- an identifier in a value that has the scope of the object and a name that the object exports is not what it was
-- inside of the namespace
abbrev pub conflict_fault : Id → Reference → Fault
conflict_fault object r = record { kind = UnsupportedExpandoProperty object.0 r.name; range = r.range }

abbrev pub conflict_seen : Id → Reference → Seen
conflict_seen object r = let fault = conflict_fault object r in faulty fault.kind fault.range

-- The namespace of an object, behind what conflicts of its properties. It is exported exactly where the object is.
abbrev pub namespace_seen : Id × List ExpandoProperty → List Seen
namespace_seen (object, properties) =
    map (conflict_seen object) (flat_map (λ p. p.conflicts) properties)
    ++ written
    (namespace_item (list_any (λ p. p.is_exported) properties) object.0 (map (λ p. p.declarator) properties)) ∷ []

-- the properties of each object, told by its text and its scope number, in the order in which the objects come first
abbrev pub by_object : List ExpandoProperty → List (Id × List ExpandoProperty)
by_object = grouped same_id (λ p. p.object)

-- the namespaces of all
abbrev pub namespaces_seen : List ExpandoProperty → List Seen
namespaces_seen properties = flat_map namespace_seen (by_object properties)
