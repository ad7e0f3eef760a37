-- Stage 1 of the meaning of a transform: what is seen of a module.
-- All that is asked outside the tree is asked here. What follows sees nothing that is hidden.
use Rattle.std.specs.Prelude.{Bool, false, ◌||◌, if◌then◌else◌, Some, List, [], ◌∷◌, ◌++◌}
use Rattle.std.specs.List.{flat_map, list_any}
use Rattle.fast_check_tree_syntax.specs.declared.kind.Kind.TheVariants.{BindingIdent, VarDecl, FnDecl, ClassDecl, ExportDecl}
use Rattle.fast_check_tree_syntax.specs.declared.source.SourceRange.{SourceRange}
use Rattle.fast_check_tree_syntax.specs.declared.tree.Tree.{Tree}
use Rattle.fast_check_tree_syntax.specs.Shape.{◌is◌, kind_of, parts, is_absent}
use Rattle.fast_check_tree_syntax.specs.Descent.{by_descent}
use Rattle.fast_check_tree_helpers.specs.declared.literal_type.DeclMutabilityKind.{DeclMutabilityKind}
use Rattle.fast_check_tree_helpers.specs.Builders.{never_value}
use Rattle.fast_check_tree_helpers.specs.ranges.Ranges.{range_of_node}
use Rattle.fast_check_tree_forms_programs.specs.Names.{Ident-span, BindingIdent-id, BindingIdent-type_ann, binding_ident}
use Rattle.fast_check_tree_forms_programs.specs.Programs.{Module-body}
use Rattle.fast_check_tree_forms_programs.specs.ModuleDecls.{ExportDecl-span, ExportDecl-decl}
use Rattle.fast_check_tree_forms_statements.specs.Declarations.{ClassDecl-ident, ClassDecl-declare, ClassDecl-class}
use Rattle.fast_check_tree_forms_statements.specs.Declarations.{FnDecl-ident, FnDecl-declare, FnDecl-function, UsingDecl-span}
use Rattle.fast_check_tree_forms_statements.specs.Declarations.{UsingDecl-decls, VarDecl-span, VarDecl-ctxt, VarDecl-kind}
use Rattle.fast_check_tree_forms_statements.specs.Declarations.{VarDecl-declare, VarDecl-decls, VarDeclarator-span}
use Rattle.fast_check_tree_forms_statements.specs.Declarations.{VarDeclarator-name, VarDeclarator-init}
use Rattle.fast_check_tree_forms_statements.specs.Declarations.{VarDeclarator-definite, var_declarator}
use Rattle.fast_check_meaning_signatures.specs.declared.fault.FaultKind.TheVariants.{UnsupportedDestructuring, UnsupportedUsing}
use Rattle.fast_check_meaning_signatures.specs.declared.fault.FaultKind.TheVariants.{UnsupportedGlobalModule}
use Rattle.fast_check_meaning_signatures.specs.declared.fault.FaultKind.TheVariants.{UnsupportedAmbientModule}
use Rattle.fast_check_tree_forms_statements.specs.TsDeclarations.{TsModuleDecl-span, TsModuleDecl-global, TsModuleDecl-id}
use Rattle.fast_check_meaning_signatures.specs.declared.function_kind.FunctionKind.TheVariants.{DeclarationLike}
use Rattle.fast_check_meaning_signatures.specs.Classes.{plain_class_seen, ambient_class}
use Rattle.fast_check_meaning_signatures.specs.Expressions.{expr_seen}
use Rattle.fast_check_meaning_signatures.specs.Functions.{function_seen, implementation_seen}
use Rattle.fast_check_meaning_signatures.specs.Seen.{DeclaratorHead, Seen, written, range, scope, flag, round, listed}
use Rattle.fast_check_meaning_signatures.specs.Seen.{declarator, faulty, refused, seens}
use Rattle.fast_check_meaning_signatures.specs.Typing.{Typing, type_of, seen_by}
use Rattle.fast_check_meaning_skeleton.specs.declared.rules.DeclRule.{DeclRule}
use Rattle.fast_check_meaning_skeleton.specs.declared.rules.DeclRule.TheVariants.{Variables, Function, Class, Standing}
use Rattle.fast_check_meaning_skeleton.specs.declared.rules.DeclRule.TheVariants.{Namespace, Using, NoDeclaration}
use Rattle.fast_check_meaning_skeleton.specs.declared.rules.ItemRule.{ItemRule}
use Rattle.fast_check_meaning_skeleton.specs.declared.rules.ItemRule.TheVariants.{Declared, Exported, ImportExport, Default, Refused}
use Rattle.fast_check_meaning_skeleton.specs.declared.rules.ItemRule.TheVariants.{Assigned, Silent}
use Rattle.fast_check_meaning_expandos.specs.declared.properties.ExpandoProperty.{ExpandoProperty}
use Rattle.fast_check_meaning_expandos.specs.Assignments.{assignment_seen, declared_properties}
use Rattle.fast_check_meaning_expandos.specs.Expandos.{namespaces_seen}
use Rattle.fast_check_tree_forms_statements.specs.Statements.{ExprStmt-expr}
use Rattle.fast_check_meaning_skeleton.specs.Defaults.{default_seen}
use Rattle.fast_check_meaning_skeleton.specs.ImportsExports.{import_export_seen}
use Rattle.fast_check_meaning_skeleton.specs.Mutability.{mutability_of}
use Rattle.fast_check_meaning_skeleton.specs.Namespaces.{is_ambient_module, items_inside, namespace_round}
use Rattle.fast_check_meaning_skeleton.specs.Rules.{item_rule}
use Rattle.fast_check_meaning_skeleton.specs.ModuleFacts.{ModuleFacts, inside}

-- the identifier that a declarator declares, and its written type
abbrev pub declared_ident : Tree → Tree
declared_ident d = BindingIdent-id (VarDeclarator-name d)

abbrev pub declared_type : Tree → Tree
declared_type d = BindingIdent-type_ann (VarDeclarator-name d)

-- a declarator of an identifier, but for its value
abbrev pub declarator_head : Tree → DeclaratorHead
declarator_head d =
    record { span = VarDeclarator-span d; ident = declared_ident d; definite = VarDeclarator-definite d }

-- a declarator of this type, with `{} as never` for its value
abbrev pub typed_declarator : DeclaratorHead → Tree → Tree
typed_declarator d type = var_declarator d.span (binding_ident d.ident type) never_value d.definite

-- a value that is to give a type, and the place of the identifier that names it; where there is none, nothing gives the
-- type
abbrev pub value_seen : ModuleFacts → SourceRange → Tree → Seen
value_seen facts place value = if is_absent value then refused else expr_seen facts.bindings value (Some place)

abbrev pub declarator_typing : DeclMutabilityKind → Tree → Typing
declarator_typing mutability d =
    record { is_private = false; type = declared_type d; value = VarDeclarator-init d; mutability = mutability }

-- a declarator of an identifier, with its type, or else with its value as it may stay
abbrev pub ident_declarator_seen : ModuleFacts → DeclMutabilityKind → Tree → Seen
ident_declarator_seen facts mutability d =
    let head = declarator_head d in
    seen_by (type_of facts.bindings.unresolved (declarator_typing mutability d)) (λ type. written (typed_declarator head type))
    (declarator head (value_seen facts (Ident-span (declared_ident d)) (VarDeclarator-init d)))

-- a declarator that is not ambient; a pattern can't be one
abbrev pub declarator_seen : ModuleFacts → DeclMutabilityKind → Tree → Seen
declarator_seen facts mutability d =
    if kind_of (VarDeclarator-name d) is BindingIdent then ident_declarator_seen facts mutability d
    else faulty UnsupportedDestructuring (range_of_node (VarDeclarator-name d))

-- ambient statements stand as they are written: where all is ambient, and those that are declared
abbrev pub is_ambient_statement : ModuleFacts → Tree → Bool
is_ambient_statement facts statement = facts.is_ambient || VarDecl-declare statement

-- a declarator is public by its own range
abbrev pub is_public_declarator : ModuleFacts → Tree → Bool
is_public_declarator facts d = facts.is_public (VarDeclarator-span d)

-- a declarator of a statement
abbrev pub declarator_in : ModuleFacts → Tree → Tree → Seen
declarator_in facts statement d =
    if is_ambient_statement facts statement then written d else declarator_seen facts
    (mutability_of (VarDecl-kind statement)) d

-- a public declarator; nothing of another
abbrev pub public_declarator : ModuleFacts → Tree → Tree → List Seen
public_declarator facts statement d = if is_public_declarator facts d then declarator_in facts statement d ∷
    [] else []

abbrev pub public_declarators : ModuleFacts → Tree → List Seen
public_declarators facts statement = flat_map (public_declarator facts statement) (parts (VarDecl-decls statement))

-- a variable statement with the declarators that are seen; nothing where none is
abbrev pub statement_seen : Tree → List Seen → List Seen
statement_seen statement [] = []
statement_seen statement (d ∷ ds) =
    round VarDecl
    (seens (range (VarDecl-span statement) ∷ scope (VarDecl-ctxt statement) ∷ written (VarDecl-kind statement) ∷
    flag (VarDecl-declare statement) ∷ listed (seens (d ∷ ds)) ∷ [])) ∷ []

abbrev pub standing_seen : ModuleFacts → SourceRange → Tree → List Seen
standing_seen facts place decl = if facts.is_public place then written decl ∷ [] else []

-- a function that is not ambient, which is public by `place`: its signature, or where it is an implementation behind
-- overloads the count of its parameters
abbrev pub signature_of : ModuleFacts → SourceRange → Tree → Seen
signature_of facts place decl =
    if facts.is_implementation place then implementation_seen (FnDecl-function decl)
    else function_seen facts.bindings (expr_seen facts.bindings) DeclarationLike (Ident-span (FnDecl-ident decl))
    (FnDecl-function decl)

-- a function declaration; where all is ambient it stands as it is written
abbrev pub function_decl_seen : ModuleFacts → SourceRange → Tree → Seen
function_decl_seen facts place decl =
    if facts.is_ambient then written decl
    else round FnDecl
    (seens (written (FnDecl-ident decl) ∷ flag (FnDecl-declare decl) ∷ signature_of facts place decl ∷ []))

abbrev pub public_function : ModuleFacts → SourceRange → Tree → List Seen
public_function facts place decl = if facts.is_public place then function_decl_seen facts place decl ∷ [] else []

-- ambient classes: where all is ambient, and those that are declared
abbrev pub is_ambient_class : ModuleFacts → Tree → Bool
is_ambient_class facts decl = facts.is_ambient || ClassDecl-declare decl

-- the class of a declaration; an ambient one stands as it is written, but for private members of computed keys
abbrev pub class_in : ModuleFacts → Tree → Seen
class_in facts decl =
    if is_ambient_class facts decl then written (ambient_class (ClassDecl-class decl))
    else plain_class_seen facts.bindings facts.is_implementation (ClassDecl-class decl)

abbrev pub class_decl_seen : ModuleFacts → Tree → Seen
class_decl_seen facts decl =
    round ClassDecl (seens (written (ClassDecl-ident decl) ∷ flag (ClassDecl-declare decl) ∷ class_in facts decl ∷ []))

-- a class declaration, whose members are public by it
abbrev pub public_class : ModuleFacts → SourceRange → Tree → List Seen
public_class facts place decl = if facts.is_public place then class_decl_seen facts decl ∷ [] else []

-- where `using` is refused: at its first declarator, or at itself where it has none
abbrev pub place_of_first : SourceRange → List Tree → SourceRange
place_of_first span [] = span
place_of_first span (d ∷ ds) = VarDeclarator-span d

abbrev pub using_place : Tree → SourceRange
using_place decl = place_of_first (UsingDecl-span decl) (parts (UsingDecl-decls decl))

-- `using` is public by `place`, or by a declarator
abbrev pub is_public_using : ModuleFacts → SourceRange → Tree → Bool
is_public_using facts place decl = facts.is_public place ||
    list_any (is_public_declarator facts) (parts (UsingDecl-decls decl))

-- no skeleton has what `using` declares
abbrev pub using_seen : ModuleFacts → SourceRange → Tree → List Seen
using_seen facts place decl = if is_public_using facts place decl then faulty UnsupportedUsing (using_place decl) ∷
    [] else []

-- What is seen of a lower item inside of an item, by facts.
abbrev pub ItemLook : Type 0
ItemLook = Tree → ModuleFacts → List Seen

-- the expando properties that an item declares, by what is done with it
abbrev pub properties_by_rule : ModuleFacts → Tree → ItemRule → List ExpandoProperty
properties_by_rule facts item Assigned = declared_properties facts.is_public facts.bindings facts.objects
    (ExprStmt-expr item)
properties_by_rule facts item _ = []

abbrev pub item_properties : ModuleFacts → Tree → List ExpandoProperty
item_properties facts item = properties_by_rule facts item (item_rule item)

-- the items of a body: of a module, or of a namespace; behind them stand the namespaces for their expando properties
abbrev pub body_seen : ItemLook → ModuleFacts → List Tree → List Seen
body_seen look facts items = flat_map (λ item. look item facts) items ++ namespaces_seen
    (flat_map (item_properties facts) items)

-- a namespace, which is public by `place`, with what is seen of its items. No skeleton has `declare global`, `declare
-- module "x"` or a namespace without a body, public or not.
abbrev pub namespace_seen : ItemLook → ModuleFacts → SourceRange → Tree → List Seen
namespace_seen look facts place decl =
    if TsModuleDecl-global decl then faulty UnsupportedGlobalModule (TsModuleDecl-span decl) ∷ []
    else (if is_ambient_module decl then faulty UnsupportedAmbientModule (range_of_node (TsModuleDecl-id decl)) ∷ []
    else (if facts.is_public place then
    namespace_round (body_seen look (inside facts decl) (items_inside decl)) decl ∷ [] else []))

-- A declaration, by what is done with it. Of a variable statement the declarators are public, by their own ranges;
-- another is public by `place`, which is the range of its export, or else its own. Of what is no declaration nothing is
-- seen.
abbrev pub decl_form : ItemLook → ModuleFacts → SourceRange → Tree → DeclRule → List Seen
decl_form look facts place decl Variables = statement_seen decl (public_declarators facts decl)
decl_form look facts place decl Function = public_function facts place decl
decl_form look facts place decl Class = public_class facts place decl
decl_form look facts place decl Standing = standing_seen facts place decl
decl_form look facts place decl Namespace = namespace_seen look facts place decl
decl_form look facts place decl Using = using_seen facts place decl
decl_form look facts place decl NoDeclaration = []

-- an exported declaration; nothing where none of it is seen
abbrev pub exported_seen : Tree → List Seen → List Seen
exported_seen export [] = []
exported_seen export (d ∷ ds) = round ExportDecl (seens (range (ExportDecl-span export) ∷ d ∷ ds)) ∷ []

-- an item of a module, by what is done with it
abbrev pub form_by_rule : ItemLook → ModuleFacts → Tree → ItemRule → List Seen
form_by_rule look facts item (Declared rule) = decl_form look facts (range_of_node item) item rule
form_by_rule look facts item (Exported rule) = exported_seen item
    (decl_form look facts (ExportDecl-span item) (ExportDecl-decl item) rule)
form_by_rule look facts item (ImportExport rule) = import_export_seen facts item rule
form_by_rule look facts item (Default rule) = default_seen facts item rule
form_by_rule look facts item (Refused kind) = faulty kind (range_of_node item) ∷ []
form_by_rule look facts item Assigned = assignment_seen facts.is_public facts.bindings facts.objects
    (ExprStmt-expr item)
form_by_rule look facts item Silent = []

abbrev pub item_form : Tree → ItemLook → ModuleFacts → List Seen
item_form item look facts = form_by_rule look facts item (item_rule item)

-- an item, and with it the items of a namespace, level by level
unfoldable pub item_look : ItemLook
item_look = by_descent (λ facts. []) item_form

abbrev pub item_seen : ModuleFacts → Tree → List Seen
item_seen facts item = item_look item facts

-- a declaration, and an item, by what is done with it
abbrev pub decl_seen : ModuleFacts → SourceRange → Tree → DeclRule → List Seen
decl_seen = decl_form item_look

abbrev pub seen_by_rule : ModuleFacts → Tree → ItemRule → List Seen
seen_by_rule = form_by_rule item_look

-- the items of a module. A script is taken as a module: its fields stand in the same places.
abbrev pub items_of : Tree → List Tree
items_of program = parts (Module-body program)

-- what is seen of a module, item by item
abbrev pub visible : ModuleFacts → Tree → List Seen
visible facts program = body_seen item_look facts (items_of program)
