-- The ranges of items: that of each form that is spoken of, and that items which agree have ranges that agree.
use Rattle.std.specs.Prelude.{◌≡◌, refl}
use Rattle.std.proofs.Common.{ap, ◌∙◌, sym}
use Rattle.fast_check_tree_syntax.specs.declared.kind.Kind.{Kind}
use Rattle.fast_check_tree_syntax.specs.declared.kind.Kind.TheVariants as kinds
use Rattle.fast_check_tree_syntax.specs.declared.tree.Tree.{Tree}
use Rattle.fast_check_tree_syntax.specs.Shape.{kind_of}
use Rattle.fast_check_tree_syntax.specs.Moves.{Renaming, IsRenaming, partners, twice}
use Rattle.fast_check_tree_syntax.specs.Same.{SameTree, SameRange}
use Rattle.fast_check_tree_syntax.proofs.Partners.{partners-keep as partners_keep, twice-keeps as twice_keeps}
use Rattle.fast_check_tree_syntax.proofs.Same.{tree_to, range_from}
use Rattle.fast_check_tree_forms_classes.specs.Classes.{Class-span, Constructor-span}
use Rattle.fast_check_tree_forms_classes.specs.Fields.{ClassProp-span, AutoAccessor-span}
use Rattle.fast_check_tree_forms_classes.specs.Functions.{Function-span}
use Rattle.fast_check_tree_forms_classes.specs.Methods.{ClassMethod-span}
use Rattle.fast_check_tree_forms_programs.specs.ModuleDecls.{ExportDecl-span, ImportDecl-span, NamedExport-span, ExportAll-span}
use Rattle.fast_check_tree_forms_programs.specs.ModuleDecls.{ExportDefaultExpr-span, ExportDefaultDecl-span}
use Rattle.fast_check_tree_forms_statements.specs.Declarations.{ClassDecl-class, FnDecl-function, UsingDecl-span, VarDecl-span}
use Rattle.fast_check_tree_forms_statements.specs.TsDeclarations.{TsModuleDecl-span}
use Rattle.fast_check_tree_helpers.specs.ranges.Ranges.{target_by_kind, expr_by_kind, without_marks, range_by_kind, range_of_form, range_of_node}
use Rattle.fast_check_tree_helpers.proofs.ranges.RangesMoved.{range_of_node_moved}

-- a form that marks no pattern
unmarked : (t : Tree) (k : Kind) → kind_of t ≡ k → target_by_kind k t ≡ t → expr_by_kind k t ≡ t → without_marks t ≡ t
unmarked t k e n m =
    ap (λ u. expr_by_kind (kind_of u) u) (ap (λ j. target_by_kind j t) e ∙ n) ∙ (ap (λ j. expr_by_kind j t) e ∙ m)

of_form : (t : Tree) (k : Kind) → kind_of t ≡ k → target_by_kind k t ≡ t → expr_by_kind k t ≡ t → range_of_node t ≡ range_by_kind k t
of_form t k e n m = ap range_of_form (unmarked t k e n m) ∙ ap (λ j. range_by_kind j t) e

pub range_of_variables : (t : Tree) → kind_of t ≡ kinds.VarDecl → range_of_node t ≡ VarDecl-span t
range_of_variables t e = of_form t kinds.VarDecl e refl refl

pub range_of_function : (t : Tree) → kind_of t ≡ kinds.FnDecl → range_of_node t ≡ Function-span (FnDecl-function t)
range_of_function t e = of_form t kinds.FnDecl e refl refl

pub range_of_export : (t : Tree) → kind_of t ≡ kinds.ExportDecl → range_of_node t ≡ ExportDecl-span t
range_of_export t e = of_form t kinds.ExportDecl e refl refl

pub range_of_class : (t : Tree) → kind_of t ≡ kinds.ClassDecl → range_of_node t ≡ Class-span (ClassDecl-class t)
range_of_class t e = of_form t kinds.ClassDecl e refl refl

pub range_of_module : (t : Tree) → kind_of t ≡ kinds.TsModuleDecl → range_of_node t ≡ TsModuleDecl-span t
range_of_module t e = of_form t kinds.TsModuleDecl e refl refl

pub range_of_using : (t : Tree) → kind_of t ≡ kinds.UsingDecl → range_of_node t ≡ UsingDecl-span t
range_of_using t e = of_form t kinds.UsingDecl e refl refl

-- imports, exports of names and default exports
pub range_of_import : (t : Tree) → kind_of t ≡ kinds.ImportDecl → range_of_node t ≡ ImportDecl-span t
range_of_import t e = of_form t kinds.ImportDecl e refl refl

pub range_of_names : (t : Tree) → kind_of t ≡ kinds.NamedExport → range_of_node t ≡ NamedExport-span t
range_of_names t e = of_form t kinds.NamedExport e refl refl

pub range_of_all : (t : Tree) → kind_of t ≡ kinds.ExportAll → range_of_node t ≡ ExportAll-span t
range_of_all t e = of_form t kinds.ExportAll e refl refl

pub range_of_default_value : (t : Tree) → kind_of t ≡ kinds.ExportDefaultExpr → range_of_node t ≡ ExportDefaultExpr-span t
range_of_default_value t e = of_form t kinds.ExportDefaultExpr e refl refl

pub range_of_default_decl : (t : Tree) → kind_of t ≡ kinds.ExportDefaultDecl → range_of_node t ≡ ExportDefaultDecl-span t
range_of_default_decl t e = of_form t kinds.ExportDefaultDecl e refl refl

-- members of classes
pub range_of_constructor : (t : Tree) → kind_of t ≡ kinds.Constructor → range_of_node t ≡ Constructor-span t
range_of_constructor t e = of_form t kinds.Constructor e refl refl

pub range_of_method : (t : Tree) → kind_of t ≡ kinds.ClassMethod → range_of_node t ≡ ClassMethod-span t
range_of_method t e = of_form t kinds.ClassMethod e refl refl

pub range_of_property : (t : Tree) → kind_of t ≡ kinds.ClassProp → range_of_node t ≡ ClassProp-span t
range_of_property t e = of_form t kinds.ClassProp e refl refl

pub range_of_accessor : (t : Tree) → kind_of t ≡ kinds.AutoAccessor → range_of_node t ≡ AutoAccessor-span t
range_of_accessor t e = of_form t kinds.AutoAccessor e refl refl

-- trees that agree begin and end at places that agree
pub range_alike : (r : Renaming) → IsRenaming r → (t u : Tree) → SameTree r t u → SameRange r (range_of_node t) (range_of_node u)
range_alike r ok t u s =
    range_from r ok (range_of_node t) (range_of_node u)
    (sym (range_of_node_moved (partners r) (partners_keep r ok) t) ∙
    (ap range_of_node (tree_to r ok s) ∙ range_of_node_moved twice twice_keeps u))
