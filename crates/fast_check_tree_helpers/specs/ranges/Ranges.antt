-- The range of a node in the source text.
use Rattle.fast_check_tree_syntax.specs.declared.kind.Kind.{Kind}
use Rattle.fast_check_tree_syntax.specs.declared.kind.Kind.TheVariants as kinds
use Rattle.fast_check_tree_syntax.specs.declared.source.SourceRange.{SourceRange}
use Rattle.fast_check_tree_syntax.specs.declared.tree.Tree.{Tree}
use Rattle.fast_check_tree_syntax.specs.Shape.{kind_of, part, range_of}
use Rattle.fast_check_tree_forms_classes.specs.Classes.{Class-span}
use Rattle.fast_check_tree_forms_classes.specs.Functions.{Function-span}
use Rattle.fast_check_tree_forms_expressions.specs.Expressions.{ClassExpr-class, FnExpr-function}
use Rattle.fast_check_tree_forms_expressions.specs.Patterns.{PatExpr-expr, TargetPat-pat}
use Rattle.fast_check_tree_forms_programs.specs.ModuleDecls.{ExportDefaultSpecifier-exported}
use Rattle.fast_check_tree_forms_programs.specs.Names.{Ident-span, BindingIdent-id}
use Rattle.fast_check_tree_forms_statements.specs.Declarations.{ClassDecl-class, FnDecl-function}

-- the pattern that is assigned to, if the node says that it is one
abbrev pub target_by_kind : Kind → Tree → Tree
target_by_kind kinds.TargetPat t = TargetPat-pat t
target_by_kind _ t = t

abbrev pub without_target : Tree → Tree
without_target t = target_by_kind (kind_of t) t

-- the expression that stands as a pattern, if the node says that it is one
abbrev pub expr_by_kind : Kind → Tree → Tree
expr_by_kind kinds.PatExpr pat = PatExpr-expr pat
expr_by_kind _ pat = pat

abbrev pub without_marks : Tree → Tree
without_marks t = let pat = without_target t in expr_by_kind (kind_of pat) pat

-- The span of a form; of a class declaration or expression the class's, of a function declaration or expression the
-- function's, of an identifier as a pattern and of a default export specifier the identifier's.
abbrev pub range_by_kind : Kind → Tree → SourceRange
range_by_kind kinds.ClassDecl t = Class-span (ClassDecl-class t)
range_by_kind kinds.ClassExpr t = Class-span (ClassExpr-class t)
range_by_kind kinds.FnDecl t = Function-span (FnDecl-function t)
range_by_kind kinds.FnExpr t = Function-span (FnExpr-function t)
range_by_kind kinds.BindingIdent t = Ident-span (BindingIdent-id t)
range_by_kind kinds.ExportDefaultSpecifier t = Ident-span (ExportDefaultSpecifier-exported t)
range_by_kind _ t = range_of (part 0 t)

abbrev pub range_of_form : Tree → SourceRange
range_of_form t = range_by_kind (kind_of t) t

abbrev pub range_of_node : Tree → SourceRange
range_of_node t = range_of_form (without_marks t)
