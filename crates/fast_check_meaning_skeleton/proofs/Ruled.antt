-- What is done with items of kinds that are known, and what is known of the kinds of items with which something is done.
use Rattle.std.specs.Prelude.{◌≡◌, Bool, true, false, not, ◌&&◌, ◌||◌, refl, if◌then◌else◌}
use Rattle.std.proofs.Common.{ap, ◌∙◌, sym}
use Rattle.std.proofs.lemmas.Bool.{false≢true}
use Rattle.fast_check_tree_syntax.specs.declared.kind.Kind.{Kind}
use Rattle.fast_check_tree_syntax.specs.declared.kind.Kind.TheVariants as kinds
use Rattle.fast_check_tree_syntax.specs.declared.tree.Tree.{Tree}
use Rattle.fast_check_tree_syntax.specs.Shape.{◌is◌, is_kind, kind_of}
use Rattle.fast_check_tree_forms_programs.specs.ModuleDecls.{ExportDecl-decl, ExportDefaultDecl-decl}
use Rattle.fast_check_tree_forms_statements.specs.Statements.{ExprStmt-expr}
use Rattle.fast_check_meaning_signatures.specs.declared.fault.FaultKind.TheVariants.{UnsupportedRequire}
use Rattle.fast_check_meaning_skeleton.specs.declared.rules.DeclRule.{DeclRule}
use Rattle.fast_check_meaning_skeleton.specs.declared.rules.DeclRule.TheVariants.{Function, Class, Standing, Namespace}
use Rattle.fast_check_meaning_skeleton.specs.declared.rules.ItemRule.{ItemRule}
use Rattle.fast_check_meaning_skeleton.specs.declared.rules.ItemRule.TheVariants.{Declared, Exported, ImportExport, Refused, Silent, Assigned}
use Rattle.fast_check_meaning_skeleton.specs.declared.rules.ImportExportRule.TheVariants.{Alias}
use Rattle.fast_check_meaning_skeleton.specs.Hidden.{is_plain_statement}
use Rattle.fast_check_meaning_skeleton.specs.Kinds.{is_standing, is_statement}
use Rattle.fast_check_meaning_skeleton.specs.Rules.{decl_rule, expr_stmt_rule, default_rule, is_require, rule_of_kind, item_rule, declares}

abbrev stands : DeclRule → Bool
stands Standing = true
stands _ = false

abbrev is_signature : DeclRule → Bool
is_signature Function = true
is_signature _ = false

abbrev is_class : DeclRule → Bool
is_class Class = true
is_class _ = false

-- by the kind

standing_by_kind : (k : Kind) → stands (decl_rule k) ≡ is_standing k
standing_by_kind kinds.TsEnumDecl = refl
standing_by_kind _ = refl

function_by_kind : (k : Kind) → is_signature (decl_rule k) ≡ k is kinds.FnDecl
function_by_kind kinds.FnDecl = refl
function_by_kind _ = refl

class_by_kind : (k : Kind) → is_class (decl_rule k) ≡ k is kinds.ClassDecl
class_by_kind kinds.ClassDecl = refl
class_by_kind _ = refl

-- by the rule

it_stands : (rule : DeclRule) → stands rule ≡ true → rule ≡ Standing
it_stands Standing e = refl
it_stands _ e = absurd (false≢true e)

pub standing_rule : (k : Kind) → is_standing k ≡ true → decl_rule k ≡ Standing
standing_rule k e = it_stands (decl_rule k) (standing_by_kind k ∙ e)

pub standing_kind : (k : Kind) → decl_rule k ≡ Standing → is_standing k ≡ true
standing_kind k e = sym (standing_by_kind k) ∙ ap stands e

pub function_kind : (k : Kind) → decl_rule k ≡ Function → k ≡ kinds.FnDecl
function_kind k e = is_kind k kinds.FnDecl (sym (function_by_kind k) ∙ ap is_signature e)

pub class_kind : (k : Kind) → decl_rule k ≡ Class → k ≡ kinds.ClassDecl
class_kind k e = is_kind k kinds.ClassDecl (sym (class_by_kind k) ∙ ap is_class e)

-- of an item, by its kind
pub rule_by_kind : (t : Tree) (k : Kind) → kind_of t ≡ k → item_rule t ≡ rule_of_kind k t
rule_by_kind t k e = ap (λ j. rule_of_kind j t) e

-- of the default export of a declaration, by the kind of this
pub default_by_kind : (t : Tree) (k : Kind) → kind_of t ≡ kinds.ExportDefaultDecl → kind_of (ExportDefaultDecl-decl t) ≡ k →
    item_rule t ≡ default_rule k
default_by_kind t k e d = rule_by_kind t kinds.ExportDefaultDecl e ∙ ap default_rule d

-- of `import A = B.C`
pub alias_rule : (t : Tree) → kind_of t ≡ kinds.TsImportEqualsDecl → is_require t ≡ false → item_rule t ≡ ImportExport Alias
alias_rule t e n = rule_by_kind t kinds.TsImportEqualsDecl e ∙ ap (λ b. if b then Refused UnsupportedRequire else ImportExport Alias) n

-- of a namespace, exported or not
pub namespace_rule : (t : Tree) → kind_of t ≡ kinds.TsModuleDecl → item_rule t ≡ Declared Namespace
namespace_rule t e = rule_by_kind t kinds.TsModuleDecl e

pub exported_namespace_rule : (t : Tree) → kind_of t ≡ kinds.ExportDecl → kind_of (ExportDecl-decl t) ≡ kinds.TsModuleDecl →
    item_rule t ≡ Exported Namespace
exported_namespace_rule t e d = rule_by_kind t kinds.ExportDecl e ∙ ap (λ k. Exported (decl_rule k)) d

-- of an assignment that is a statement
pub assigned_rule : (t : Tree) → kind_of t ≡ kinds.ExprStmt → kind_of (ExprStmt-expr t) ≡ kinds.AssignExpr → item_rule t ≡ Assigned
assigned_rule t e d = rule_by_kind t kinds.ExprStmt e ∙ ap expr_stmt_rule d

-- a declaration that is taken is an item of its own
pub declared_rule : (k : Kind) (t : Tree) → declares (decl_rule k) ≡ true → rule_of_kind k t ≡ Declared (decl_rule k)
declared_rule kinds.VarDecl t e = refl
declared_rule kinds.FnDecl t e = refl
declared_rule kinds.ClassDecl t e = refl
declared_rule kinds.TsInterfaceDecl t e = refl
declared_rule kinds.TsTypeAliasDecl t e = refl
declared_rule kinds.TsEnumDecl t e = refl
declared_rule kinds.TsModuleDecl t e = refl
declared_rule kinds.UsingDecl t e = refl
declared_rule _ t e = absurd (false≢true e)

-- a statement that declares and assigns nothing is silent

abbrev is_silent : ItemRule → Bool
is_silent Silent = true
is_silent _ = false

it_is_silent : (rule : ItemRule) → is_silent rule ≡ true → rule ≡ Silent
it_is_silent Silent e = refl
it_is_silent _ e = absurd (false≢true e)

expression_by_kind : (k : Kind) → is_silent (expr_stmt_rule k) ≡ not (k is kinds.AssignExpr)
expression_by_kind kinds.AssignExpr = refl
expression_by_kind _ = refl

silent_by_kind : (k : Kind) (t : Tree) →
    (is_statement k || ((k is kinds.ExprStmt) && not (kind_of (ExprStmt-expr t) is kinds.AssignExpr))) ≡ true →
    is_silent (rule_of_kind k t) ≡ true
silent_by_kind kinds.BlockStmt t e = refl
silent_by_kind kinds.EmptyStmt t e = refl
silent_by_kind kinds.DebuggerStmt t e = refl
silent_by_kind kinds.WithStmt t e = refl
silent_by_kind kinds.ReturnStmt t e = refl
silent_by_kind kinds.LabeledStmt t e = refl
silent_by_kind kinds.BreakStmt t e = refl
silent_by_kind kinds.ContinueStmt t e = refl
silent_by_kind kinds.IfStmt t e = refl
silent_by_kind kinds.SwitchStmt t e = refl
silent_by_kind kinds.ThrowStmt t e = refl
silent_by_kind kinds.TryStmt t e = refl
silent_by_kind kinds.WhileStmt t e = refl
silent_by_kind kinds.DoWhileStmt t e = refl
silent_by_kind kinds.ForStmt t e = refl
silent_by_kind kinds.ForInStmt t e = refl
silent_by_kind kinds.ForOfStmt t e = refl
silent_by_kind kinds.ExprStmt t e = expression_by_kind (kind_of (ExprStmt-expr t)) ∙ e
silent_by_kind _ t e = absurd (false≢true e)

pub silent_rule : (t : Tree) → is_plain_statement t ≡ true → item_rule t ≡ Silent
silent_rule t e = it_is_silent (item_rule t) (silent_by_kind (kind_of t) t e)
