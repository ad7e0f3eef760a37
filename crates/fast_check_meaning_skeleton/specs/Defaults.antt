-- What is seen of default exports.
use Rattle.std.specs.Prelude.{Bool, ◌||◌, None, List, [], ◌∷◌, if◌then◌else◌}
use Rattle.fast_check_tree_syntax.specs.declared.kind.Kind.TheVariants.{ClassExpr, FnExpr, ExportDefaultDecl}
use Rattle.fast_check_tree_syntax.specs.declared.source.SourceRange.{SourceRange}
use Rattle.fast_check_tree_syntax.specs.declared.tree.Tree.{Tree}
use Rattle.fast_check_tree_syntax.specs.Shape.{is_absent}
use Rattle.fast_check_tree_forms_classes.specs.Functions.{Function-span}
use Rattle.fast_check_tree_forms_expressions.specs.Expressions.{ClassExpr-ident, ClassExpr-class, FnExpr-ident}
use Rattle.fast_check_tree_forms_expressions.specs.Expressions.{FnExpr-function}
use Rattle.fast_check_tree_forms_programs.specs.ModuleDecls.{ExportDefaultExpr-span, ExportDefaultExpr-expr}
use Rattle.fast_check_tree_forms_programs.specs.ModuleDecls.{ExportDefaultDecl-span, ExportDefaultDecl-decl}
use Rattle.fast_check_tree_forms_programs.specs.Names.{Ident-span}
use Rattle.fast_check_tree_helpers.specs.ranges.Ranges.{range_of_node}
use Rattle.fast_check_meaning_signatures.specs.declared.function_kind.FunctionKind.TheVariants.{DeclarationLike}
use Rattle.fast_check_meaning_signatures.specs.Classes.{plain_class_seen}
use Rattle.fast_check_meaning_signatures.specs.Expressions.{expr_seen}
use Rattle.fast_check_meaning_signatures.specs.Functions.{function_seen, implementation_seen}
use Rattle.fast_check_meaning_signatures.specs.Seen.{Seen, written, range, round, default_export, seens}
use Rattle.fast_check_meaning_skeleton.specs.declared.rules.DefaultRule.{DefaultRule}
use Rattle.fast_check_meaning_skeleton.specs.declared.rules.DefaultRule.TheVariants.{Value, Class, Function, Interface}
use Rattle.fast_check_meaning_skeleton.specs.ModuleFacts.{ModuleFacts}

-- the default export of an expression is public by its own range, or by that of the expression
abbrev pub is_public_value : ModuleFacts → Tree → Bool
is_public_value facts t = facts.is_public (ExportDefaultExpr-span t) ||
    facts.is_public (range_of_node (ExportDefaultExpr-expr t))

-- the expression has to give a type by itself
abbrev pub default_value_seen : ModuleFacts → Tree → Seen
default_value_seen facts t = default_export (ExportDefaultExpr-span t)
    (expr_seen facts.bindings (ExportDefaultExpr-expr t) None)

-- a class; it is never ambient, where all else is neither
abbrev pub default_class_seen : ModuleFacts → Tree → Seen
default_class_seen facts decl =
    round ClassExpr
    (seens (written (ClassExpr-ident decl) ∷ plain_class_seen facts.bindings facts.is_implementation
    (ClassExpr-class decl) ∷ []))

-- where the return type of a function would be missing: at its name, or else at the function
abbrev pub default_place : Tree → SourceRange
default_place decl = if is_absent (FnExpr-ident decl) then Function-span (FnExpr-function decl) else Ident-span
    (FnExpr-ident decl)

-- the signature of a function, which is public by `place`: that of an implementation behind overloads is the count of
-- its parameters
abbrev pub default_signature : ModuleFacts → SourceRange → Tree → Seen
default_signature facts place decl =
    if facts.is_implementation place then implementation_seen (FnExpr-function decl)
    else function_seen facts.bindings (expr_seen facts.bindings) DeclarationLike (default_place decl)
    (FnExpr-function decl)

-- a function; where all is ambient it stands as it is written
abbrev pub default_function_seen : ModuleFacts → SourceRange → Tree → Seen
default_function_seen facts place decl =
    if facts.is_ambient then written decl
    else round FnExpr (seens (written (FnExpr-ident decl) ∷ default_signature facts place decl ∷ []))

-- the default export of a declaration, of which this is seen; it is public by the range of the export
abbrev pub public_default : ModuleFacts → Tree → Seen → List Seen
public_default facts t decl =
    if facts.is_public (ExportDefaultDecl-span t) then round ExportDefaultDecl
    (seens (range (ExportDefaultDecl-span t) ∷ decl ∷ [])) ∷ [] else []

-- a default export, by what it exports
abbrev pub default_seen : ModuleFacts → Tree → DefaultRule → List Seen
default_seen facts t Value = if is_public_value facts t then default_value_seen facts t ∷ [] else []
default_seen facts t Class = public_default facts t (default_class_seen facts (ExportDefaultDecl-decl t))
default_seen facts t Function = public_default facts t
    (default_function_seen facts (ExportDefaultDecl-span t) (ExportDefaultDecl-decl t))
default_seen facts t Interface = public_default facts t (written (ExportDefaultDecl-decl t))
