-- Default exports that agree are seen alike.
use Rattle.std.specs.Prelude.{◌≡◌, Bool, true, false, None, [], ◌∷◌, refl, if◌then◌else◌}
use Rattle.std.proofs.Common.{ap, ◌∙◌, sym, subst₂}
use Rattle.fast_check_tree_syntax.specs.declared.kind.Kind.{Kind}
use Rattle.fast_check_tree_syntax.specs.declared.kind.Kind.TheVariants as kinds
use Rattle.fast_check_tree_syntax.specs.declared.source.SourceRange.{SourceRange}
use Rattle.fast_check_tree_syntax.specs.declared.tree.Tree.{Tree}
use Rattle.fast_check_tree_syntax.specs.Shape.{kind_of, is_absent}
use Rattle.fast_check_tree_syntax.specs.Moves.{Renaming, IsRenaming}
use Rattle.fast_check_tree_syntax.specs.Same.{SameTree, SameRange}
use Rattle.fast_check_tree_syntax.proofs.Same.{tree_to, range_to}
use Rattle.fast_check_tree_forms_classes.specs.Functions.{Function-span}
use Rattle.fast_check_tree_forms_expressions.specs.Expressions.{ClassExpr-ident, ClassExpr-class, FnExpr-ident, FnExpr-function}
use Rattle.fast_check_tree_forms_programs.specs.ModuleDecls.{ExportDefaultExpr-span, ExportDefaultDecl-span, ExportDefaultDecl-decl}
use Rattle.fast_check_tree_forms_programs.specs.Names.{Ident-span}
use Rattle.fast_check_tree_helpers.specs.ranges.Ranges.{range_of_node}
use Rattle.fast_check_meaning_signatures.specs.declared.function_kind.FunctionKind.TheVariants.{DeclarationLike}
use Rattle.fast_check_meaning_signatures.specs.Classes.{plain_class_seen}
use Rattle.fast_check_meaning_signatures.specs.Expressions.{expr_seen}
use Rattle.fast_check_meaning_signatures.specs.Functions.{function_seen, implementation_seen}
use Rattle.fast_check_meaning_signatures.specs.Seen.{Seen, written, range, round, default_export, seens}
use Rattle.fast_check_meaning_skeleton.specs.SameValues.{SameBindings, SameFunction}
use Rattle.fast_check_meaning_skeleton.specs.SameValues as v
use Rattle.fast_check_meaning_skeleton.proofs.Alike.{expr_alike, function_alike}
use Rattle.fast_check_meaning_skeleton.proofs.AlikeClasses.{class_alike}
use Rattle.fast_check_meaning_skeleton.proofs.AlikeFunctions.{implementation_alike}
use Rattle.fast_check_meaning_skeleton.proofs.AlikeSeen.{Alike, AllAlike, same_written, range_alike, all_alike_if, round_alike}
use Rattle.fast_check_meaning_skeleton.proofs.AlikeTrees.{RangeAlike, absent_alike, range_field_alike}
use Rattle.fast_check_meaning_skeleton.specs.declared.rules.DefaultRule.{DefaultRule}
use Rattle.fast_check_meaning_skeleton.specs.declared.rules.DefaultRule.TheVariants.{Value, Class, Function, Interface}
use Rattle.fast_check_meaning_skeleton.specs.declared.rules.ItemRule.TheVariants.{Default}
use Rattle.fast_check_meaning_skeleton.specs.Defaults.{is_public_value, default_value_seen, default_class_seen, default_place, default_signature}
use Rattle.fast_check_meaning_skeleton.specs.Defaults.{default_function_seen, public_default, default_seen}
use Rattle.fast_check_meaning_skeleton.specs.Kinds.{is_default_decl}
use Rattle.fast_check_meaning_skeleton.specs.Rules.{default_rule, item_rule}
use Rattle.fast_check_meaning_skeleton.specs.SameDefaults.{IsSilentDefault, SameDefaultDecl, SameDefaultFunction, SameDefault}
use Rattle.fast_check_meaning_skeleton.specs.SameDefaults as s
use Rattle.fast_check_meaning_skeleton.specs.ModuleFacts.{ModuleFacts}
use Rattle.fast_check_meaning_skeleton.proofs.Ruled.{rule_by_kind, default_by_kind}
use Rattle.fast_check_meaning_skeleton.proofs.ItemRanges.{range_of_default_value, range_of_default_decl}

-- one that is silent is not seen
pub record IsUnseenDefault (facts : ModuleFacts) (t : Tree) : Type 0 where
  pub rule : DefaultRule
  pub is : item_rule t ≡ Default rule
  pub unseen : default_seen facts t rule ≡ []
  -- a class that is exported goes
  pub goes : rule ≡ Class → facts.is_public (ExportDefaultDecl-span t) ≡ false

pub silent_default : (facts : ModuleFacts) (t : Tree) → IsSilentDefault facts t → IsUnseenDefault facts t
silent_default facts t (s.IsSilentDefault.value k e) = record {
  rule = Value;
  is = rule_by_kind t kinds.ExportDefaultExpr k;
  unseen = ap (λ b. if b then default_value_seen facts t ∷ [] else []) e;
  goes = λ c. cc;
}
silent_default facts t (s.IsSilentDefault.decl k d e) = go (kind_of (ExportDefaultDecl-decl t)) refl d
  where
    hidden : (decl : Seen) → public_default facts t decl ≡ []
    hidden decl = ap (λ b. if b then round kinds.ExportDefaultDecl (seens (range (ExportDefaultDecl-span t) ∷ decl ∷ [])) ∷ [] else []) e

    go : (j : Kind) → kind_of (ExportDefaultDecl-decl t) ≡ j → is_default_decl j ≡ true → IsUnseenDefault facts t
    go kinds.ClassExpr q d = record { rule = Class; is = default_by_kind t kinds.ClassExpr k q; unseen = hidden _; goes = λ c. e }
    go kinds.FnExpr q d = record { rule = Function; is = default_by_kind t kinds.FnExpr k q; unseen = hidden _; goes = λ c. e }
    go kinds.TsInterfaceDecl q d =
        record { rule = Interface; is = default_by_kind t kinds.TsInterfaceDecl k q; unseen = hidden _; goes = λ c. e }
    go _ q d = cc

-- ---- what agrees is seen alike

module _ (r : Renaming) (ok : IsRenaming r) (a b : ModuleFacts) where
  -- the same is done with both, what is seen is alike, and they begin at partners
  pub record DefaultsAlike (t u : Tree) : Type 0 where
    pub rule : DefaultRule
    pub left : item_rule t ≡ Default rule
    pub right : item_rule u ≡ Default rule
    pub alike : AllAlike r ok (default_seen a t rule) (default_seen b u rule)
    pub begins : SameRange r (range_of_node t) (range_of_node u)

  decls_alike : (k : Kind) (rule : DefaultRule) → default_rule k ≡ Default rule → (t u : Tree) → SameDefaultDecl r a b k t u →
      (x y : Seen) →
      default_seen a t rule ≡ public_default a t x → default_seen b u rule ≡ public_default b u y → Alike r ok x y → DefaultsAlike t u
  decls_alike k rule q t u d x y p p' e = record {
    rule = rule;
    left = default_by_kind t k d.kinds.left d.decls.left ∙ q;
    right = default_by_kind u k d.kinds.right d.decls.right ∙ q;
    alike = subst₂ (AllAlike r ok) (sym p) (sym p')
        (all_alike_if r ok (a.is_public (ExportDefaultDecl-span t)) (b.is_public (ExportDefaultDecl-span u))
        _ _ d.is_public
        (round_alike r ok kinds.ExportDefaultDecl (range (ExportDefaultDecl-span t) ∷ x ∷ [])
        (range (ExportDefaultDecl-span u) ∷ y ∷ [])
        (λ i. range_alike r ok (ExportDefaultDecl-span t) (ExportDefaultDecl-span u) d.span i ∷ e i ∷ [])));
    begins = subst₂ (SameRange r) (sym (range_of_default_decl t d.kinds.left)) (sym (range_of_default_decl u d.kinds.right)) d.span;
  }

  -- ---- functions

  -- where the functions begin
  spans_alike : (t u : Tree) → SameFunction r a.bindings b.bindings t u → RangeAlike r ok (Function-span t) (Function-span u)
  spans_alike t u (v.SameFunction.typed_function h n w ps) = range_to r ok (Function-span t) (Function-span u) h.span
  spans_alike t u (v.SameFunction.classed_function h n f k ps) = range_to r ok (Function-span t) (Function-span u) h.span

  places_alike : (t u : Tree) → SameTree r (FnExpr-ident t) (FnExpr-ident u) →
      SameFunction r a.bindings b.bindings (FnExpr-function t) (FnExpr-function u) → RangeAlike r ok (default_place t) (default_place u)
  places_alike t u d f =
      go (is_absent (FnExpr-ident t)) (is_absent (FnExpr-ident u)) (absent_alike r ok (FnExpr-ident t) (FnExpr-ident u) (tree_to r ok d))
      (spans_alike (FnExpr-function t) (FnExpr-function u) f)
      (range_field_alike r ok Ident-span _ (λ t. refl) (FnExpr-ident t) (FnExpr-ident u) (tree_to r ok d))
    where
      go : (m n : Bool) → m ≡ n → RangeAlike r ok (Function-span (FnExpr-function t)) (Function-span (FnExpr-function u)) →
          RangeAlike r ok (Ident-span (FnExpr-ident t)) (Ident-span (FnExpr-ident u)) →
          RangeAlike r ok (if m then Function-span (FnExpr-function t) else Ident-span (FnExpr-ident t))
          (if n then Function-span (FnExpr-function u) else Ident-span (FnExpr-ident u))
      go true true e f g = f
      go false false e f g = g
      go true false e f g = cc
      go false true e f g = cc

  abbrev signature_if : ModuleFacts → Tree → Bool → Seen
  signature_if facts decl is_implementation =
      if is_implementation then implementation_seen (FnExpr-function decl)
      else function_seen facts.bindings (expr_seen facts.bindings) DeclarationLike (default_place decl) (FnExpr-function decl)

  abbrev function_form : ModuleFacts → SourceRange → Tree → Seen
  function_form facts place decl = round kinds.FnExpr (seens (written (FnExpr-ident decl) ∷ default_signature facts place decl ∷ []))

  functions_alike : a.is_ambient ≡ b.is_ambient → (t u : Tree) → SameDefaultFunction r a b t u →
      Alike r ok (default_signature a (ExportDefaultDecl-span t) (ExportDefaultDecl-decl t))
      (default_signature b (ExportDefaultDecl-span u) (ExportDefaultDecl-decl u)) → DefaultsAlike t u
  functions_alike m t u d e =
      let decl = ExportDefaultDecl-decl t in
      let decl' = ExportDefaultDecl-decl u in
      let place = ExportDefaultDecl-span t in
      let place' = ExportDefaultDecl-span u in
      let same : Alike r ok (function_form a place decl) (function_form b place' decl') =
      round_alike r ok kinds.FnExpr (written (FnExpr-ident decl) ∷ default_signature a place decl ∷ [])
      (written (FnExpr-ident decl') ∷ default_signature b place' decl' ∷ []) (λ i. same_written r ok d.ident i ∷ e i ∷ []) in
      decls_alike kinds.FnExpr Function refl t u d.head (default_function_seen a place decl)
      (default_function_seen b place' decl') refl refl
      (subst₂ (λ x y. Alike r ok (if x then written decl else function_form a place decl)
      (if y then written decl' else function_form b place' decl'))
      (sym d.is_ambient) (sym d.is_ambient ∙ m) same)

  -- ---- all

  pub defaults_alike : SameBindings r a.bindings b.bindings → a.is_ambient ≡ b.is_ambient → (t u : Tree) →
      SameDefault r a b t u → DefaultsAlike t u
  defaults_alike c m t u (s.SameDefault.value k d e f) = record {
    rule = Value;
    left = rule_by_kind t kinds.ExportDefaultExpr k.left;
    right = rule_by_kind u kinds.ExportDefaultExpr k.right;
    alike = all_alike_if r ok (is_public_value a t) (is_public_value b u) (default_value_seen a t) (default_value_seen b u) e
        (λ i. default_export (range_to r ok (ExportDefaultExpr-span t) (ExportDefaultExpr-span u) d i)
        (expr_alike r ok a.bindings b.bindings c f None None refl i));
    begins = subst₂ (SameRange r) (sym (range_of_default_value t k.left)) (sym (range_of_default_value u k.right)) d;
  }
  defaults_alike c m t u (s.SameDefault.class d n e) =
      let decl = ExportDefaultDecl-decl t in
      let decl' = ExportDefaultDecl-decl u in
      decls_alike kinds.ClassExpr Class refl t u d (default_class_seen a decl) (default_class_seen b decl') refl refl
      (round_alike r ok kinds.ClassExpr
      (written (ClassExpr-ident decl) ∷ plain_class_seen a.bindings a.is_implementation (ClassExpr-class decl) ∷ [])
      (written (ClassExpr-ident decl') ∷ plain_class_seen b.bindings b.is_implementation (ClassExpr-class decl') ∷ [])
      (λ i. same_written r ok n i ∷
      class_alike r ok a.bindings b.bindings a.is_implementation b.is_implementation c (ClassExpr-class decl) (ClassExpr-class decl') e i ∷
      []))
  defaults_alike c m t u (s.SameDefault.function d e f g) =
      let decl = ExportDefaultDecl-decl t in
      let decl' = ExportDefaultDecl-decl u in
      functions_alike m t u d (subst₂ (λ x y. Alike r ok (signature_if a decl x) (signature_if b decl' y)) (sym e) (sym f)
      (function_alike r ok a.bindings b.bindings c g DeclarationLike (default_place decl) (default_place decl')
      (places_alike decl decl' d.ident g)))
  defaults_alike c m t u (s.SameDefault.implementation d e f g) =
      let decl = ExportDefaultDecl-decl t in
      let decl' = ExportDefaultDecl-decl u in
      functions_alike m t u d (subst₂ (λ x y. Alike r ok (signature_if a decl x) (signature_if b decl' y)) (sym e) (sym f)
      (implementation_alike r ok a.bindings b.bindings (FnExpr-function decl) (FnExpr-function decl') g))
  defaults_alike c m t u (s.SameDefault.ambient_function d e f) =
      let decl = ExportDefaultDecl-decl t in
      let decl' = ExportDefaultDecl-decl u in
      let place = ExportDefaultDecl-span t in
      let place' = ExportDefaultDecl-span u in
      decls_alike kinds.FnExpr Function refl t u d (default_function_seen a place decl) (default_function_seen b place' decl') refl refl
      (subst₂ (λ x y. Alike r ok (if x then written decl else function_form a place decl)
      (if y then written decl' else function_form b place' decl'))
      (sym e) (sym e ∙ m) (same_written r ok f))
  defaults_alike c m t u (s.SameDefault.interface d f) =
      decls_alike kinds.TsInterfaceDecl Interface refl t u d (written (ExportDefaultDecl-decl t))
      (written (ExportDefaultDecl-decl u)) refl refl
      (same_written r ok f)
