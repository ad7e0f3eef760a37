-- Bodies of namespaces, by what follows the name.
use Rattle.std.specs.Prelude.{◌≡◌, ◌<◌, true, false, List, if◌then◌else◌}
use Rattle.std.proofs.Common.{ap, ◌∙◌}
use Rattle.fast_check_tree_syntax.specs.declared.kind.Kind.TheVariants.{TsNamespaceDecl}
use Rattle.fast_check_tree_syntax.specs.declared.tree.Tree.{Tree}
use Rattle.fast_check_tree_syntax.specs.Shape.{◌is◌, is_kind, kind_of, list}
use Rattle.fast_check_tree_syntax.specs.Height.{height, height_part}
use Rattle.fast_check_tree_forms_statements.specs.TsDeclarations.{TsModuleBlock-span, TsNamespaceDecl-span, TsNamespaceDecl-declare}
use Rattle.fast_check_tree_forms_statements.specs.TsDeclarations.{TsNamespaceDecl-global, TsNamespaceDecl-id, TsNamespaceDecl-body}
use Rattle.fast_check_tree_forms_statements.specs.TsDeclarations.{ts_module_block}
use Rattle.fast_check_transform_imports.specs.skeleton.Namespaces.{inner_namespace, body_with}
use Rattle.fast_check_transform_imports.proofs.skeleton_proofs.StandingNamespaces.{body_with_is}

-- what follows a name is lower
pub follows_lower : (t : Tree) → kind_of t is TsNamespaceDecl ≡ true → height (TsNamespaceDecl-body t) < height t
follows_lower t e = let k = is_kind (kind_of t) TsNamespaceDecl e in height_part t 4 (λ l. cc)

pub inner_made : (items : List Tree) (t : Tree) → kind_of t is TsNamespaceDecl ≡ true →
    body_with items t ≡ inner_namespace (TsNamespaceDecl-span t) (TsNamespaceDecl-declare t) (TsNamespaceDecl-global t)
    (TsNamespaceDecl-id t)
    (body_with items (TsNamespaceDecl-body t))
inner_made items t e = body_with_is items t ∙ ap (λ b. if b then inner_namespace (TsNamespaceDecl-span t) (TsNamespaceDecl-declare t)
    (TsNamespaceDecl-global t) (TsNamespaceDecl-id t) (body_with items (TsNamespaceDecl-body t)) else ts_module_block (TsModuleBlock-span t)
    (list items)) e

pub block_made : (items : List Tree) (t : Tree) → kind_of t is TsNamespaceDecl ≡ false →
    body_with items t ≡ ts_module_block (TsModuleBlock-span t) (list items)
block_made items t e = body_with_is items t ∙ ap (λ b. if b then inner_namespace (TsNamespaceDecl-span t) (TsNamespaceDecl-declare t)
    (TsNamespaceDecl-global t) (TsNamespaceDecl-id t) (body_with items (TsNamespaceDecl-body t)) else ts_module_block (TsModuleBlock-span t)
    (list items)) e
