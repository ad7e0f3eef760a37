-- Namespaces: the items of one, and what is seen of it round them.
use Rattle.std.specs.Prelude.{Bool, not, ◌&&◌, ◌||◌, List, [], ◌∷◌, if◌then◌else◌}
use Rattle.fast_check_tree_syntax.specs.declared.kind.Kind.TheVariants.{Str, TsModuleDecl, TsModuleBlock, TsNamespaceDecl}
use Rattle.fast_check_tree_syntax.specs.declared.source.SourceRange.{SourceRange}
use Rattle.fast_check_tree_syntax.specs.declared.tree.Tree.{Tree, Absent}
use Rattle.fast_check_tree_syntax.specs.declared.tree.Tree as tree
use Rattle.fast_check_tree_syntax.specs.Shape.{◌is◌, kind_of, parts, is_absent, node, list}
use Rattle.fast_check_tree_syntax.specs.Descent.{by_descent}
use Rattle.fast_check_tree_forms_statements.specs.TsDeclarations.{TsModuleDecl-span, TsModuleDecl-declare}
use Rattle.fast_check_tree_forms_statements.specs.TsDeclarations.{TsModuleDecl-global, TsModuleDecl-namespace}
use Rattle.fast_check_tree_forms_statements.specs.TsDeclarations.{TsModuleDecl-id, TsModuleDecl-body, TsModuleBlock-span}
use Rattle.fast_check_tree_forms_statements.specs.TsDeclarations.{TsModuleBlock-body, TsNamespaceDecl-span}
use Rattle.fast_check_tree_forms_statements.specs.TsDeclarations.{TsNamespaceDecl-declare, TsNamespaceDecl-global}
use Rattle.fast_check_tree_forms_statements.specs.TsDeclarations.{TsNamespaceDecl-id, TsNamespaceDecl-body, ts_module_decl}
use Rattle.fast_check_tree_forms_statements.specs.TsDeclarations.{ts_module_block}
use Rattle.fast_check_meaning_signatures.specs.Seen.{Seen, written, range, flag, round, listed, refused, seens}

-- `declare module "x" {}`, and what has no body
abbrev pub is_ambient_module : Tree → Bool
is_ambient_module decl = (kind_of (TsModuleDecl-id decl) is Str) || is_absent (TsModuleDecl-body decl)

-- a namespace: no `declare global`, and no such module
abbrev pub is_namespace : Tree → Bool
is_namespace decl = not (TsModuleDecl-global decl) && not (is_ambient_module decl)

-- the block of `A.B.C { .. }`, which is the innermost one
abbrev pub innermost_form : Tree → (Tree → Tree) → Tree
innermost_form t given = if kind_of t is TsNamespaceDecl then given (TsNamespaceDecl-body t) else t

unfoldable pub innermost : Tree → Tree
innermost = by_descent Absent innermost_form

-- the items of a block, and those of a namespace
abbrev pub block_items : Tree → List Tree
block_items block = parts (TsModuleBlock-body block)

abbrev pub items_inside : Tree → List Tree
items_inside decl = block_items (innermost (TsModuleDecl-body decl))

-- a body of a namespace: the names that are left, as they are written, and the block with this for its items
abbrev pub body_form : List Seen → Tree → (Tree → Seen) → Seen
body_form items t given =
    if kind_of t is TsNamespaceDecl then round TsNamespaceDecl
    (seens (range (TsNamespaceDecl-span t) ∷ flag (TsNamespaceDecl-declare t) ∷
    flag (TsNamespaceDecl-global t) ∷ written (TsNamespaceDecl-id t) ∷ given (TsNamespaceDecl-body t) ∷ []))
    else round TsModuleBlock (seens (range (TsModuleBlock-span t) ∷ listed (seens items) ∷ []))

unfoldable pub body_round : List Seen → Tree → Seen
body_round items = by_descent refused (body_form items)

-- a namespace with this for its items; all else of it stands as it is written
abbrev pub namespace_round : List Seen → Tree → Seen
namespace_round items decl =
    round TsModuleDecl
    (seens (range (TsModuleDecl-span decl) ∷ flag (TsModuleDecl-declare decl) ∷ flag (TsModuleDecl-global decl) ∷
    flag (TsModuleDecl-namespace decl) ∷ written (TsModuleDecl-id decl) ∷ body_round items (TsModuleDecl-body decl) ∷
    []))

-- `id body`, as it follows a name
abbrev pub inner_namespace : SourceRange → Bool → Bool → Tree → Tree → Tree
inner_namespace span declare global id body =
    node TsNamespaceDecl (tree.Range span ∷ tree.Flag declare ∷ tree.Flag global ∷ id ∷ body ∷ [])

-- a body with these items: what stands of one
abbrev pub with_form : List Tree → Tree → (Tree → Tree) → Tree
with_form items t given =
    if kind_of t is TsNamespaceDecl then inner_namespace (TsNamespaceDecl-span t) (TsNamespaceDecl-declare t)
    (TsNamespaceDecl-global t)
    (TsNamespaceDecl-id t) (given (TsNamespaceDecl-body t))
    else ts_module_block (TsModuleBlock-span t) (list items)

unfoldable pub body_with : List Tree → Tree → Tree
body_with items = by_descent Absent (with_form items)

-- a namespace with them
abbrev pub namespace_with : List Tree → Tree → Tree
namespace_with items decl =
    ts_module_decl (TsModuleDecl-span decl) (TsModuleDecl-declare decl) (TsModuleDecl-global decl)
    (TsModuleDecl-namespace decl) (TsModuleDecl-id decl)
    (body_with items (TsModuleDecl-body decl))
