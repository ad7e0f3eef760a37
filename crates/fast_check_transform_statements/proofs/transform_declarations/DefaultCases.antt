-- What is answered to default exports, case by case.
use Rattle.std.specs.Prelude.{◌≡◌, Bool, true, false, Option, Some, None, option_map, List, [], ◌∷◌, ◌++◌, refl, if◌then◌else◌}
use Rattle.std.proofs.Common.{ap, ◌∙◌, sym, subst}
use Rattle.fast_check_tree_syntax.specs.declared.kind.Kind.TheVariants.{ClassExpr, FnExpr, ExportDefaultDecl}
use Rattle.fast_check_tree_syntax.specs.declared.source.SourceRange.{SourceRange}
use Rattle.fast_check_tree_syntax.specs.declared.tree.Tree as tree
use Rattle.fast_check_tree_syntax.specs.declared.tree.Tree.{Tree, Absent}
use Rattle.fast_check_tree_syntax.specs.Shape.{node}
use Rattle.fast_check_tree_forms_expressions.specs.Expressions.{ClassExpr-ident, ClassExpr-class, FnExpr-ident, FnExpr-function, fn_expr}
use Rattle.fast_check_tree_forms_programs.specs.ModuleDecls.{ExportDefaultExpr-span, ExportDefaultExpr-expr, export_default_expr}
use Rattle.fast_check_tree_forms_programs.specs.ModuleDecls.{ExportDefaultDecl-span, ExportDefaultDecl-decl, export_default_decl}
use Rattle.fast_check_meaning_signatures.specs.declared.fault.Fault.{Fault}
use Rattle.fast_check_meaning_signatures.specs.declared.fault.FaultKind.TheVariants.{UnsupportedDefaultExportExpr}
use Rattle.fast_check_meaning_signatures.specs.declared.function_kind.FunctionKind.TheVariants.{DeclarationLike}
use Rattle.fast_check_meaning_signatures.specs.Answers.{Adds, fault_at, faultless, answer_to, answer_of}
use Rattle.fast_check_meaning_signatures.specs.Classes.{plain_class_seen}
use Rattle.fast_check_meaning_signatures.specs.Expressions.{expr_seen}
use Rattle.fast_check_meaning_signatures.specs.Functions.{function_seen, implementation_seen}
use Rattle.fast_check_meaning_signatures.specs.Seen.{Seen, written, round, seens}
use Rattle.fast_check_meaning_signatures.proofs.Adding.{adds_nothing, adds_same, adds_made, adds_demanded, adds_missing, adds_visited}
use Rattle.fast_check_transform_imports.specs.skeleton.declared.rules.DefaultRule.{DefaultRule}
use Rattle.fast_check_transform_imports.specs.skeleton.declared.rules.DefaultRule.TheVariants.{Value, Class, Function, Interface}
use Rattle.fast_check_transform_imports.specs.skeleton.Defaults.{default_value_seen, default_class_seen, default_place}
use Rattle.fast_check_transform_imports.specs.skeleton.Defaults.{default_signature, default_function_seen, default_seen}
use Rattle.fast_check_transform_imports.specs.skeleton.ModuleFacts.{ModuleFacts}
use Rattle.fast_check_transform_statements.specs.transform_declarations.ClassAnswers.{default_value_answer, default_class_answer}
use Rattle.fast_check_transform_statements.specs.transform_declarations.ClassAnswers.{default_function_answer, is_public_default, exported_default, default_decl_seen}
use Rattle.fast_check_transform_statements.specs.transform_declarations.ClassAnswers.{default_decl_answer, default_answer}
use Rattle.fast_check_transform_imports.proofs.module_facts.Listed.{alone}

-- ---- expressions

module _ (facts : ModuleFacts) (t : Tree) where
  abbrev unsupported : Fault
  unsupported = fault_at UnsupportedDefaultExportExpr (ExportDefaultExpr-span t)

  pub value_stays : {expr x : Tree} {o : Option Tree} {old new : List Fault} →
      Adds (answer_to (expr_seen facts.bindings expr None)) o old new →
      expr ≡ ExportDefaultExpr-expr t → o ≡ Some x → Adds (default_value_answer facts t)
      (Some (export_default_expr (ExportDefaultExpr-span t) x)) old new
  unfolding default_value_answer
  value_stays {old = old} {new = new} h p e =
      adds_made (λ v. Some (export_default_expr (ExportDefaultExpr-span t) v))
      (adds_demanded unsupported (subst (λ x. Adds (answer_to (expr_seen facts.bindings (ExportDefaultExpr-expr t) None)) x old new) e
      (adds_same (ap (λ v. answer_to (expr_seen facts.bindings v None)) (sym p)) h)))

  pub value_goes : {expr : Tree} {o : Option Tree} {old new : List Fault} →
      Adds (answer_to (expr_seen facts.bindings expr None)) o old new →
      expr ≡ ExportDefaultExpr-expr t → o ≡ None → {span : SourceRange} → span ≡ ExportDefaultExpr-span t → {all : List Fault} →
      all ≡ new ++ fault_at UnsupportedDefaultExportExpr span ∷ [] →
      Adds (default_value_answer facts t) (Some (export_default_expr (ExportDefaultExpr-span t) Absent)) old all
  unfolding default_value_answer
  value_goes {old = old} {new = new} h p e s f =
      subst (λ fs. Adds (answer_to (default_value_seen facts t)) (Some (export_default_expr (ExportDefaultExpr-span t) Absent)) old fs)
      (sym (f ∙ ap (λ r. new ++ fault_at UnsupportedDefaultExportExpr r ∷ []) s))
      (adds_made (λ v. Some (export_default_expr (ExportDefaultExpr-span t) v))
      (adds_missing unsupported (subst (λ x. Adds (answer_to (expr_seen facts.bindings (ExportDefaultExpr-expr t) None)) x old new) e
      (adds_same (ap (λ v. answer_to (expr_seen facts.bindings v None)) (sym p)) h))))

-- ---- classes

pub made_class : (facts : ModuleFacts) (decl : Tree) {class t : Tree} {old new : List Fault} →
    Adds (answer_to (plain_class_seen facts.bindings facts.is_implementation class)) (Some t) old new → class ≡ ClassExpr-class decl →
    Adds (default_class_answer facts decl) (Some (node ClassExpr (ClassExpr-ident decl ∷ t ∷ []))) old new
unfolding default_class_answer
made_class facts decl {new = new} h p =
    adds_made (option_map (node ClassExpr)) (adds_visited (adds_nothing (Some (ClassExpr-ident decl)) _)
    (adds_visited (adds_same (ap (λ c. answer_to (plain_class_seen facts.bindings facts.is_implementation c)) (sym p)) h)
    (adds_nothing (Some []) new)))

-- ---- functions

module _ (facts : ModuleFacts) (place : SourceRange) (decl : Tree) where
  abbrev signature_if : Bool → Seen
  signature_if b =
      if b then implementation_seen (FnExpr-function decl)
      else function_seen facts.bindings (expr_seen facts.bindings) DeclarationLike (default_place decl) (FnExpr-function decl)

  pub implementation : facts.is_implementation place ≡ true → {f t : Tree} → f ≡ FnExpr-function decl →
      answer_to (implementation_seen f) ≡ faultless (Some t) → (old : List Fault) →
      Adds (answer_to (default_signature facts place decl)) (Some t) old old
  implementation e q p old =
      adds_same (ap (λ b. answer_to (signature_if b)) e ∙ (ap (λ f. answer_to (implementation_seen f)) (sym q) ∙ p)) (adds_nothing _ old)

  pub signature : facts.is_implementation place ≡ false → {name : SourceRange} {function t : Tree} {old new : List Fault} →
      Adds (answer_to (function_seen facts.bindings (expr_seen facts.bindings) DeclarationLike name function)) (Some t) old new →
      name ≡ default_place decl → function ≡ FnExpr-function decl →
      Adds (answer_to (default_signature facts place decl)) (Some t) old new
  signature e h p q =
      adds_same (ap (λ b. answer_to (signature_if b)) e
      ∙ (λ i. answer_to (function_seen facts.bindings (expr_seen facts.bindings) DeclarationLike (sym p i) (sym q i)))) h

  abbrev decl_if : Bool → Seen
  decl_if b = if b then written decl else round FnExpr (seens (written (FnExpr-ident decl) ∷ default_signature facts place decl ∷ []))

  pub ambient_function : facts.is_ambient ≡ true → (old : List Fault) →
      Adds (default_function_answer facts place decl) (Some decl) old old
  unfolding default_function_answer
  ambient_function e old = adds_same (ap (λ b. answer_to (decl_if b)) e) (adds_nothing _ old)

  pub made_function : facts.is_ambient ≡ false → {t : Tree} {old new : List Fault} →
      Adds (answer_to (default_signature facts place decl)) (Some t) old new →
      Adds (default_function_answer facts place decl) (Some (fn_expr (FnExpr-ident decl) t)) old new
  unfolding default_function_answer
  made_function e {new = new} h =
      adds_same (ap (λ b. answer_to (decl_if b)) e)
      (adds_made (option_map (node FnExpr))
      (adds_visited (adds_nothing (Some (FnExpr-ident decl)) _) (adds_visited h (adds_nothing (Some []) new))))

-- ---- exports

module _ (facts : ModuleFacts) (t : Tree) where
  exported : (s : Seen) {x : Tree} {old new : List Fault} → Adds (answer_to s) (Some x) old new →
      Adds (answer_to (exported_default t s)) (Some (export_default_decl (ExportDefaultDecl-span t) x)) old new
  exported s {new = new} h =
      adds_made (option_map (node ExportDefaultDecl)) (adds_visited (adds_nothing (Some (tree.Range (ExportDefaultDecl-span t))) _)
      (adds_visited h (adds_nothing (Some []) new)))

  pub value_decl : {rule : DefaultRule} → rule ≡ Value → {x : Tree} {old new : List Fault} →
      Adds (default_value_answer facts t) (Some x) old new →
      Adds (default_decl_answer facts t rule) (Some x) old new
  unfolding default_decl_answer default_value_answer
  value_decl r h = adds_same (ap (λ q. answer_to (default_decl_seen facts t q)) r) h

  pub class_decl : {rule : DefaultRule} → rule ≡ Class → {decl x : Tree} {old new : List Fault} →
      Adds (default_class_answer facts decl) (Some x) old new →
      decl ≡ ExportDefaultDecl-decl t → Adds (default_decl_answer facts t rule)
      (Some (export_default_decl (ExportDefaultDecl-span t) x)) old new
  unfolding default_decl_answer default_class_answer
  class_decl r h p =
      adds_same (ap (λ q. answer_to (default_decl_seen facts t q)) r)
      (exported (default_class_seen facts (ExportDefaultDecl-decl t)) (adds_same (ap (default_class_answer facts) (sym p)) h))

  pub function_decl : {rule : DefaultRule} → rule ≡ Function → {place : SourceRange} {decl x : Tree} {old new : List Fault} →
      Adds (default_function_answer facts place decl) (Some x) old new → place ≡ ExportDefaultDecl-span t →
      decl ≡ ExportDefaultDecl-decl t →
      Adds (default_decl_answer facts t rule) (Some (export_default_decl (ExportDefaultDecl-span t) x)) old new
  unfolding default_decl_answer default_function_answer
  function_decl r h s p =
      adds_same (ap (λ q. answer_to (default_decl_seen facts t q)) r)
      (exported (default_function_seen facts (ExportDefaultDecl-span t) (ExportDefaultDecl-decl t))
      (adds_same (λ i. default_function_answer facts (sym s i) (sym p i)) h))

  pub interface_decl : {rule : DefaultRule} → rule ≡ Interface → {x : Tree} → x ≡ ExportDefaultDecl-decl t → (old : List Fault) →
      Adds (default_decl_answer facts t rule) (Some (export_default_decl (ExportDefaultDecl-span t) x)) old old
  unfolding default_decl_answer
  interface_decl {rule} r p old =
      subst (λ u. Adds (default_decl_answer facts t rule) (Some (export_default_decl (ExportDefaultDecl-span t) u)) old old) (sym p)
      (adds_same (ap (λ q. answer_to (default_decl_seen facts t q)) r)
      (exported (written (ExportDefaultDecl-decl t)) (adds_nothing _ old)))

  abbrev default_if : DefaultRule → Bool → List Seen
  default_if rule p = if p then default_decl_seen facts t rule ∷ [] else []

  default_is : (rule : DefaultRule) → default_seen facts t rule ≡ default_if rule (is_public_default facts t rule)
  default_is Value = refl
  default_is Class = refl
  default_is Function = refl
  default_is Interface = refl

  pub public_default_stays : (rule : DefaultRule) → is_public_default facts t rule ≡ true → {x : Tree} {old new : List Fault} →
      Adds (default_decl_answer facts t rule) (Some x) old new → Adds (default_answer facts t rule) (x ∷ []) old new
  unfolding default_decl_answer default_answer
  public_default_stays rule e h =
      adds_same (ap answer_of (default_is rule) ∙ ap (λ p. answer_of (default_if rule p)) e) (alone (default_decl_seen facts t rule) h)

  pub private_default : (rule : DefaultRule) → is_public_default facts t rule ≡ false → (old : List Fault) →
      Adds (default_answer facts t rule) [] old old
  unfolding default_answer
  private_default rule e old = adds_same (ap answer_of (default_is rule) ∙ ap (λ p. answer_of (default_if rule p)) e) (adds_nothing [] old)
