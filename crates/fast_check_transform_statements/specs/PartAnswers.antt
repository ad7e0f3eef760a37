-- Inner: no contract of a public call cites what stands here.
-- The answers to what is seen of statements: variables, `using`, functions and what stands as it is written.
use Rattle.std.specs.Prelude.{Option, Some, None, List, if◌then◌else◌}
use Rattle.std.specs.List.{flat_map}
use Rattle.fast_check_tree_syntax.specs.declared.source.SourceRange.{SourceRange}
use Rattle.fast_check_tree_syntax.specs.declared.tree.Tree.{Tree}
use Rattle.fast_check_tree_forms_programs.specs.Names.{Ident-span, binding_ident}
use Rattle.fast_check_tree_helpers.specs.ranges.Ranges.{range_of_node}
use Rattle.fast_check_tree_forms_statements.specs.TsDeclarations.{TsModuleDecl-span, TsModuleDecl-global, TsModuleDecl-id}
use Rattle.fast_check_tree_forms_statements.specs.Declarations.{VarDeclarator-span, VarDeclarator-init}
use Rattle.fast_check_tree_forms_statements.specs.Declarations.{VarDeclarator-definite, var_declarator}
use Rattle.fast_check_tree_helpers.specs.declared.literal_type.DeclMutabilityKind.{DeclMutabilityKind}
use Rattle.fast_check_meaning_signatures.specs.Seen.{declarator}
use Rattle.fast_check_meaning_signatures.specs.declared.fault.Fault.{Fault}
use Rattle.fast_check_meaning_signatures.specs.declared.fault.FaultKind.TheVariants.{UnsupportedGlobalModule}
use Rattle.fast_check_meaning_signatures.specs.declared.fault.FaultKind.TheVariants.{UnsupportedAmbientModule}
use Rattle.fast_check_meaning_signatures.specs.Answers.{Answer, fault_at, answer_to, answer_of}
use Rattle.fast_check_transform_imports.specs.skeleton.Namespaces.{is_ambient_module}
use Rattle.fast_check_transform_imports.specs.skeleton.ModuleFacts.{ModuleFacts}
use Rattle.fast_check_transform_imports.specs.skeleton.Visible.{declared_ident, declarator_head, value_seen}
use Rattle.fast_check_transform_imports.specs.skeleton.Visible.{ident_declarator_seen, declarator_seen, public_declarator}
use Rattle.fast_check_transform_imports.specs.skeleton.Visible.{public_declarators, statement_seen}
use Rattle.fast_check_transform_imports.specs.skeleton.Visible.{public_function, standing_seen}
use Rattle.fast_check_transform_imports.specs.skeleton.Visible.{using_seen}

-- a declarator of another type and value
abbrev pub retyped : Tree → Tree → Tree → Tree
retyped d type value = var_declarator (VarDeclarator-span d) (binding_ident (declared_ident d) type) value
    (VarDeclarator-definite d)

-- to a value that is to give a type, which the identifier at `place` names
unfoldable pub value_answer : ModuleFacts → SourceRange → Tree → Answer (Option Tree)
value_answer facts place value = answer_to (value_seen facts place value)

-- to a declarator that nothing but its value gives a type
unfoldable pub valued_answer : ModuleFacts → Tree → Answer (Option Tree)
valued_answer facts d =
    answer_to
    (declarator (declarator_head d) (value_seen facts (Ident-span (declared_ident d)) (VarDeclarator-init d)))

-- to a declarator of an identifier
unfoldable pub ident_answer : ModuleFacts → DeclMutabilityKind → Tree → Answer (Option Tree)
ident_answer facts mutability d = answer_to (ident_declarator_seen facts mutability d)

-- to a declarator that is not ambient
unfoldable pub declarator_answer : ModuleFacts → DeclMutabilityKind → Tree → Answer (Option Tree)
declarator_answer facts mutability d = answer_to (declarator_seen facts mutability d)

-- to a declarator of a statement, and to some of them
unfoldable pub public_answer : ModuleFacts → Tree → Tree → Answer (List Tree)
public_answer facts statement d = answer_of (public_declarator facts statement d)

unfoldable pub declarators_answer : ModuleFacts → Tree → List Tree → Answer (List Tree)
declarators_answer facts statement ds = answer_of (flat_map (public_declarator facts statement) ds)

-- to a variable statement
unfoldable pub statement_answer : ModuleFacts → Tree → Answer (List Tree)
statement_answer facts statement = answer_of (statement_seen statement (public_declarators facts statement))

-- to a function, which is public by `place`
unfoldable pub public_function_answer : ModuleFacts → SourceRange → Tree → Answer (List Tree)
public_function_answer facts place decl = answer_of (public_function facts place decl)

-- to what stands as it is written
unfoldable pub standing_answer : ModuleFacts → SourceRange → Tree → Answer (List Tree)
standing_answer facts place decl = answer_of (standing_seen facts place decl)

-- to `using`, which is public by `place` or by a declarator
unfoldable pub using_answer : ModuleFacts → SourceRange → Tree → Answer (List Tree)
using_answer facts place decl = answer_of (using_seen facts place decl)

-- what is wrong with a module that no skeleton has
abbrev pub module_fault : Tree → Option Fault
module_fault decl =
    if TsModuleDecl-global decl then Some (fault_at UnsupportedGlobalModule (TsModuleDecl-span decl))
    else (if is_ambient_module decl then Some
    (fault_at UnsupportedAmbientModule (range_of_node (TsModuleDecl-id decl))) else None)
