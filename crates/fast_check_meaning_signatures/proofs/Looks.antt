-- The equation of `expr_seen`.
use Rattle.std.specs.Prelude.{◌≡◌, ℕ, zero, suc, ◌<◌, Bool, true, false, Option, Some, None, List, [], ◌∷◌, map, slice_get, refl}
use Rattle.std.specs.Prelude.{if◌then◌else◌}
use Rattle.std.specs.List.{list_all}
use Rattle.std.proofs.Common.{arith, ap, ap₂, ◌∙◌, sym, subst}
use Rattle.fast_check_tree_syntax.specs.declared.kind.Kind.{Kind}
use Rattle.fast_check_tree_syntax.specs.declared.kind.Kind.TheVariants.{Leaf}
use Rattle.fast_check_tree_syntax.specs.declared.kind.Kind.TheVariants as kinds
use Rattle.fast_check_tree_syntax.specs.declared.source.SourceRange.{SourceRange}
use Rattle.fast_check_tree_syntax.specs.declared.tree.Tree.{Tree}
use Rattle.fast_check_tree_syntax.specs.Shape.{◌is◌, kind_of, part, parts, is_absent, OfAll}
use Rattle.fast_check_tree_syntax.specs.Descent.{by_descent_is, given, given_lower}
use Rattle.fast_check_tree_syntax.specs.Height.{height, height_part, height_at_most, height_one}
use Rattle.fast_check_tree_forms_classes.specs.Functions.{Function-span, Function-params, Param-pat}
use Rattle.fast_check_tree_forms_expressions.specs.Expressions.{ArrowExpr-span, ArrowExpr-params, ArrowExpr-body, ArrowExpr-return_type}
use Rattle.fast_check_tree_forms_expressions.specs.Patterns.{ArrayPat-span, ArrayPat-type_ann, ObjectPat-span, ObjectPat-type_ann, AssignPat-span}
use Rattle.fast_check_tree_forms_expressions.specs.Patterns.{AssignPat-left, AssignPat-right}
use Rattle.fast_check_tree_forms_programs.specs.Names.{Ident-span, BindingIdent-id}
use Rattle.fast_check_tree_helpers.specs.declared.literal_type.DeclMutabilityKind.TheVariants.{Mutable}
use Rattle.fast_check_tree_helpers.specs.Builders.{never_value}
use Rattle.fast_check_tree_helpers.specs.InferredType.{inferred_type}
use Rattle.fast_check_tree_helpers.specs.OptionalParams.{is_optional_param}
use Rattle.fast_check_meaning_signatures.specs.declared.function_kind.FunctionKind.{FunctionKind}
use Rattle.fast_check_meaning_signatures.specs.declared.function_kind.FunctionKind.TheVariants.{ExpressionLike}
use Rattle.fast_check_meaning_signatures.specs.declared.rules.Slot.{Slot}
use Rattle.fast_check_meaning_signatures.specs.declared.rules.Slot.TheVariants as slots
use Rattle.fast_check_meaning_signatures.specs.Bindings.{Bindings}
use Rattle.fast_check_meaning_signatures.specs.Seen.{Seen, written, round, refused, seens}
use Rattle.fast_check_meaning_signatures.specs.NewNodes.{never_array}
use Rattle.fast_check_meaning_signatures.specs.Parameters.{Look, default_seen, emptied_array, emptied_object, default_typing, ident_default_seen}
use Rattle.fast_check_meaning_signatures.specs.Parameters.{without_default}
use Rattle.fast_check_meaning_signatures.specs.Typing.{type_of, seen_by}
use Rattle.fast_check_meaning_signatures.specs.Parameters.{pattern_default_seen, assign_by_left, pat_by_kind, pat_seen, pats_seen}
use Rattle.fast_check_meaning_signatures.specs.Functions.{or_own, signature_seen, return_type_seen, params_seen, function_seen, valued_arrow_seen}
use Rattle.fast_check_meaning_signatures.specs.Functions.{by_value, arrow_by_type, arrow_seen}
use Rattle.fast_check_meaning_signatures.specs.Expressions.{is_known, Rule, whole, parted, slotted, arrow, rule, expr_rule, slot_seen, slots_seen}
use Rattle.fast_check_meaning_signatures.specs.Expressions.{by_rule, expr_form, expr_seen}

-- ---- trees that are lower than a number says

abbrev Below : ℕ → List Tree → Type 0
Below limit ts = OfAll (λ u. height u < limit) ts

all_below : (limit : ℕ) (ts : List Tree) → ((i : ℕ) (u : Tree) → slice_get ts i ≡ Some u → height u < limit) → Below limit ts
all_below limit [] below = tt
all_below limit (t ∷ ts) below = (below zero t refl, all_below limit ts (λ i. below (suc i)))

parts_below : (limit : ℕ) (t : Tree) → height t < suc limit → Below limit (parts t)
parts_below limit t h = all_below limit (parts t) (λ i u e. omega (arith, height_one t i u e, h))

-- a field is lower than a number where its tree is at most as high
field_below : (field : Tree → Tree) (n : ℕ) → ((t : Tree) → field t ≡ part n t) → (limit : ℕ) (t : Tree) → height t < limit →
    height (field t) < limit
field_below field n reads limit t h = subst (λ u. height u < limit) (sym (reads t)) (omega (arith, height_at_most t n, h))

patterns_below : (limit : ℕ) (params : List Tree) → Below limit params → Below limit (map (λ p. Param-pat p) params)
patterns_below limit [] below = tt
patterns_below limit (p ∷ ps) below = (field_below Param-pat _ (λ t. refl) limit p below.0, patterns_below limit ps below.1)

choose : {A : Type 0} (b : Bool) (x x' y y' : A) → (b ≡ true → x ≡ x') → y ≡ y' → (if b then x else y) ≡ (if b then x' else y')
choose true x x' y y' p q = p refl
choose false x x' y y' p q = q

-- ---- two looks that are the same at the trees that are lower than a number says

module _ (bindings : Bindings) (look other : Look) (limit : ℕ) (same : (u : Tree) → height u < limit → look u ≡ other u) where
  default_same : (pat : Tree) → height pat < limit → look (AssignPat-right pat) ≡ other (AssignPat-right pat)
  default_same pat h = same (AssignPat-right pat) (field_below AssignPat-right _ (λ t. refl) limit pat h)

  pattern_default_same : (type : Tree) (place : SourceRange) (emptied never pat : Tree) → height pat < limit →
      pattern_default_seen bindings look type place emptied never pat ≡ pattern_default_seen bindings other type place emptied never pat
  pattern_default_same type place emptied never pat h =
      choose (is_absent type) _ _ _ _ (λ e. ap (λ f. default_seen (AssignPat-span pat) place emptied (f None)) (default_same pat h)) refl

  ident_default_same : (b : Bool) (pat : Tree) → height pat < limit →
      ident_default_seen bindings look b pat ≡ ident_default_seen bindings other b pat
  ident_default_same b pat h =
      let id = BindingIdent-id (AssignPat-left pat) in
      ap (λ f. seen_by (type_of bindings.unresolved (default_typing pat)) (λ type. written (without_default b id type))
      (default_seen (AssignPat-span pat) (Ident-span id) (AssignPat-left pat) (f (Some (Ident-span id))))) (default_same pat h)

  by_left_same : (kind : Kind) (b : Bool) (pat : Tree) → height pat < limit →
      assign_by_left bindings look kind b pat ≡ assign_by_left bindings other kind b pat
  by_left_same kinds.BindingIdent b pat h = ident_default_same b pat h
  by_left_same kinds.ArrayPat b pat h =
      let left = AssignPat-left pat in pattern_default_same (ArrayPat-type_ann left) (ArrayPat-span left)
      (emptied_array left) never_array pat h
  by_left_same kinds.ObjectPat b pat h =
      let left = AssignPat-left pat in pattern_default_same (ObjectPat-type_ann left) (ObjectPat-span left)
      (emptied_object left) never_value pat h
  by_left_same _ b pat h = refl

  by_kind_same : (kind : Kind) (b : Bool) (pat : Tree) → height pat < limit →
      pat_by_kind bindings look kind b pat ≡ pat_by_kind bindings other kind b pat
  by_kind_same kinds.AssignPat b pat h = by_left_same (kind_of (AssignPat-left pat)) b pat h
  by_kind_same _ b pat h = refl

  pat_same : (b : Bool) (pat : Tree) → height pat < limit → pat_seen bindings look b pat ≡ pat_seen bindings other b pat
  pat_same b pat h = by_kind_same (kind_of pat) b pat h

  pats_same : (pats : List Tree) → Below limit pats → pats_seen bindings look pats ≡ pats_seen bindings other pats
  pats_same [] below = refl
  pats_same (pat ∷ pats) below = λ i. pat_same (list_all is_optional_param (pat ∷ pats)) pat below.0 i ∷ pats_same pats below.1 i

  pub function_same : (kind : FunctionKind) (place : SourceRange) (t : Tree) → height t < suc limit →
      function_seen bindings look kind place t ≡ function_seen bindings other kind place t
  function_same kind place t h = let params = parts (Function-params t) in
      let below : Below limit params = parts_below limit (Function-params t) (field_below Function-params _ (λ t. refl) (suc limit) t h) in
      ap (λ pats. signature_seen t (return_type_seen bindings.unresolved kind place t) (params_seen params pats))
      (pats_same (map (λ p. Param-pat p) params) (patterns_below limit params below))

  by_value_same : (t : Tree) (place : SourceRange) (pats : List Seen) → look (ArrowExpr-body t) ≡ other (ArrowExpr-body t) →
      (shown : Option Tree) →
      by_value bindings look t place pats shown ≡ by_value bindings other t place pats shown
  by_value_same t place pats e (Some type) = refl
  by_value_same t place pats e None = ap (λ f. valued_arrow_seen t place pats (f None)) e

  arrow_by_type_same : (t : Tree) (place : SourceRange) (pats : List Seen) → look (ArrowExpr-body t) ≡ other (ArrowExpr-body t) →
      arrow_by_type bindings look t place pats ≡ arrow_by_type bindings other t place pats
  arrow_by_type_same t place pats e =
      choose (is_absent (ArrowExpr-return_type t)) _ _ _ _ (λ absent.
      choose (kind_of (ArrowExpr-body t) is kinds.BlockStmt) _ _ _ _ (λ block. refl)
      (by_value_same t place pats e (inferred_type Mutable bindings.unresolved (ArrowExpr-body t)))) refl

  arrow_same : (place : Option SourceRange) (t : Tree) → height t < suc limit → look (ArrowExpr-body t) ≡ other (ArrowExpr-body t) →
      arrow_seen bindings look place t ≡ arrow_seen bindings other place t
  arrow_same place t h e = let own = or_own place (ArrowExpr-span t) in
      let below : Below limit (parts (ArrowExpr-params t)) = parts_below limit (ArrowExpr-params t)
      (field_below ArrowExpr-params _ (λ t. refl) (suc limit) t h) in
      ap (λ pats. arrow_by_type bindings look t own pats) (pats_same (parts (ArrowExpr-params t)) below)
      ∙ arrow_by_type_same t own (pats_seen bindings other (parts (ArrowExpr-params t))) e

  all_same : (ts : List Tree) → Below limit ts → map (λ p. look p None) ts ≡ map (λ p. other p None) ts
  all_same [] below = refl
  all_same (t ∷ ts) below = λ i. same t below.0 i None ∷ all_same ts below.1 i

-- ---- the equation

module _ (bindings : Bindings) (t : Tree) where
  abbrev look : Look
  look = given (λ place. refused) (expr_form bindings) t

  abbrev seen : Look
  seen = expr_seen bindings

  lower : (u : Tree) → height u < height t → look u ≡ seen u
  unfolding expr_seen
  lower u h = given_lower (λ place. refused) (expr_form bindings) t u h

  in_part : (n : ℕ) → (kind_of t ≡ Leaf → ⊥) → look (part n t) ≡ seen (part n t)
  in_part n not_leaf = lower (part n t) (height_part t n not_leaf)

  in_field : (field : Tree → Tree) (n : ℕ) → ((t : Tree) → field t ≡ part n t) → (kind_of t ≡ Leaf → ⊥) → look (field t) ≡ seen (field t)
  in_field field n reads not_leaf = ap look (reads t) ∙ (in_part n not_leaf ∙ ap seen (sym (reads t)))

  -- a rule of a node that is no leaf
  no_leaf : (r : Rule) → (whole ≡ r → ⊥) → expr_rule bindings t ≡ r → kind_of t ≡ Leaf → ⊥
  no_leaf r not_whole e leaf = not_whole (sym (ap (λ k. rule k (is_known bindings t)) leaf) ∙ e)

  slot_same : (kind_of t ≡ Leaf → ⊥) → (s : Slot) (n : ℕ) (place : Option SourceRange) →
      slot_seen bindings s (part n t) look place ≡ slot_seen bindings s (part n t) seen place
  slot_same not_leaf slots.Value n place = ap (λ f. f None) (in_part n not_leaf)
  slot_same not_leaf slots.Function n place =
      function_same bindings look seen (height t) lower ExpressionLike (or_own place (Function-span (part n t))) (part n t)
      (omega (arith, height_at_most t n))
  slot_same not_leaf _ n place = refl

  slots_same : (kind_of t ≡ Leaf → ⊥) → (row : List Slot) (n : ℕ) (place : Option SourceRange) →
      slots_seen bindings row n t look place ≡ slots_seen bindings row n t seen place
  slots_same not_leaf [] n place = refl
  slots_same not_leaf (s ∷ row) n place = ap₂ (λ x xs. x ∷ xs) (slot_same not_leaf s n place) (slots_same not_leaf row (suc n) place)

  rule_same : (r : Rule) (kind : Kind) (place : Option SourceRange) → expr_rule bindings t ≡ r →
      by_rule bindings r kind t look place ≡ by_rule bindings r kind t seen place
  rule_same parted kind place e =
      ap (λ ss. round kind (seens ss)) (all_same bindings look seen (height t) lower (parts t) (parts_below (height t) t (omega arith)))
  rule_same (slotted row) kind place e = ap (λ ss. round kind (seens ss)) (slots_same (no_leaf (slotted row) (λ p. cc) e) row 0 place)
  rule_same arrow kind place e =
      arrow_same bindings look seen (height t) lower place t (omega arith)
      (in_field ArrowExpr-body _ (λ t. refl) (no_leaf arrow (λ p. cc) e))
  rule_same _ kind place e = refl

pub expr_seen_is : (bindings : Bindings) (t : Tree) (place : Option SourceRange) →
    expr_seen bindings t place ≡ expr_form bindings t (expr_seen bindings) place
unfolding expr_seen
expr_seen_is bindings t place =
    ap (λ f. f place) (by_descent_is (λ place. refused) (expr_form bindings) t) ∙
    rule_same bindings t (expr_rule bindings t) (kind_of t) place refl
