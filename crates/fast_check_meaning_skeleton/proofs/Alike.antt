-- Values, functions and parameters that agree but for what is hidden are seen alike.
use Rattle.std.specs.Prelude.{◌≡◌, Bool, ◌&&◌, Option, None, List, ◌∷◌, map, refl}
use Rattle.std.specs.List.{list_all}
use Rattle.std.proofs.Common.{ap₂, ◌∙◌, sym, subst, subst₂, true≢false}
use Rattle.fast_check_tree_syntax.specs.declared.kind.Kind.{Kind}
use Rattle.fast_check_tree_syntax.specs.declared.kind.Kind.TheVariants as kinds
use Rattle.fast_check_tree_syntax.specs.declared.source.SourceRange.{SourceRange}
use Rattle.fast_check_tree_syntax.specs.declared.tree.Tree.{Tree}
use Rattle.fast_check_tree_syntax.specs.Shape.{parts}
use Rattle.fast_check_tree_syntax.specs.Moves.{Renaming, IsRenaming}
use Rattle.fast_check_tree_syntax.proofs.Same.{range_to}
use Rattle.fast_check_tree_forms_classes.specs.Functions.{Function-span, Function-params, Param-pat}
use Rattle.fast_check_tree_forms_expressions.specs.Expressions.{ArrowExpr-span, ArrowExpr-params, FnExpr-function}
use Rattle.fast_check_tree_helpers.specs.OptionalParams.{is_optional_param}
use Rattle.fast_check_meaning_signatures.specs.Bindings.{Bindings}
use Rattle.fast_check_meaning_signatures.specs.declared.function_kind.FunctionKind.{FunctionKind}
use Rattle.fast_check_meaning_signatures.specs.declared.function_kind.FunctionKind.TheVariants.{ExpressionLike}
use Rattle.fast_check_meaning_signatures.specs.Seen.{Seen, written}
use Rattle.fast_check_meaning_signatures.specs.NewNodes.{never_in_parens}
use Rattle.fast_check_meaning_signatures.specs.Parameters.{pat_seen, pats_seen}
use Rattle.fast_check_meaning_signatures.specs.Functions.{or_own, function_seen, params_seen, arrow_by_type, arrow_seen}
use Rattle.fast_check_meaning_signatures.specs.Rows.{satisfies_row, assertion_row, fn_expr_row}
use Rattle.fast_check_meaning_signatures.specs.Expressions.{is_known, Rule, slotted, arrow, rule, expr_form, expr_seen}
use Rattle.fast_check_meaning_skeleton.specs.SameValues.{SameBindings, Both, SameFunctionHead, SameArrowHead, SameExpr, SameExprs, SameArrowBody}
use Rattle.fast_check_meaning_skeleton.specs.SameValues.{SameFunction, SameParams, SamePats, SamePat}
use Rattle.fast_check_meaning_skeleton.specs.SameValues as s
use Rattle.fast_check_meaning_signatures.proofs.Looks.{expr_seen_is}
use Rattle.fast_check_meaning_signatures.proofs.NewNodesMoved.{never_in_parens_moved}
use Rattle.fast_check_meaning_skeleton.proofs.AlikeTrees.{RangeAlike, new_alike}
use Rattle.fast_check_meaning_skeleton.proofs.AlikeSeen.{Alike, AllAlike, written_alike, same_written, range_alike, scope_alike}
use Rattle.fast_check_meaning_skeleton.proofs.AlikeParameters.{PlaceAlike, same_optional, emptied_optional, rest_optional, assign_optional}
use Rattle.fast_check_meaning_skeleton.proofs.AlikeParameters.{emptied_alike, rest_alike, given_default_alike}
use Rattle.fast_check_meaning_skeleton.proofs.AlikeParameters.{kept_default_alike, typed_pattern_alike, kept_pattern_alike, unfit_same, bare_alike}
use Rattle.fast_check_meaning_skeleton.proofs.AlikeParameters.{taken_apart_alike, default_taken_apart_alike}
use Rattle.fast_check_meaning_skeleton.proofs.AlikeFunctions.{or_own_alike, signature_of_alike, param_alike, typed_alike, classed_alike}
use Rattle.fast_check_meaning_skeleton.proofs.AlikeFunctions.{shown_value_alike, kept_value_alike}
use Rattle.fast_check_meaning_skeleton.proofs.AlikeExpressions.{refused_alike, RuleAlike, kind_alike, plain_alike, compound_alike, frozen_alike}
use Rattle.fast_check_meaning_skeleton.proofs.AlikeExpressions.{made_alike}

module _ (r : Renaming) (ok : IsRenaming r) (c d : Bindings) (pair : SameBindings r c d) where
  -- ---- which parameters may be left out

  optional_alike : {t u : Tree} → SamePat r c d t u → is_optional_param t ≡ is_optional_param u
  optional_alike (s.bare {t = t} {u = u} k e) = same_optional r ok c d t u e
  optional_alike (s.emptied {t = t} {u = u} e) = emptied_optional r ok c d t u e
  optional_alike (s.rest {t = t} {u = u} k a dots arg e) = rest_optional r ok c d t u k
  optional_alike (s.taken_apart {t = t} {u = u} e f a) = unfit_same r ok c d t u e f
  optional_alike (s.default_taken_apart {t = t} {u = u} k e f a) = assign_optional r ok c d t u k
  optional_alike (s.given_default {t = t} {u = u} k j e h) = assign_optional r ok c d t u k
  optional_alike (s.kept_default {t = t} {u = u} k j a e h v) = assign_optional r ok c d t u k
  optional_alike (s.typed_pattern {t = t} {u = u} k a e w) = assign_optional r ok c d t u k
  optional_alike (s.kept_pattern {t = t} {u = u} k a e v) = assign_optional r ok c d t u k

  all_optional_pats : {ts us : List Tree} → SamePats r c d ts us → list_all is_optional_param ts ≡ list_all is_optional_param us
  all_optional_pats s.no_pats = refl
  all_optional_pats (s.next_pat x xs) = ap₂ ◌&&◌ (optional_alike x) (all_optional_pats xs)

  all_optional_params : {ts us : List Tree} → SameParams r c d ts us →
      list_all is_optional_param (map (λ p. Param-pat p) ts) ≡ list_all is_optional_param (map (λ p. Param-pat p) us)
  all_optional_params s.no_params = refl
  all_optional_params (s.next_param a x xs) = ap₂ ◌&&◌ (optional_alike x) (all_optional_params xs)

  function_head : {t u : Tree} → SameFunction r c d t u → SameFunctionHead r c d t u
  function_head (s.typed_function h n w ps) = h
  function_head (s.classed_function h n e k ps) = h

  -- ---- by the form of an expression

  by_form : (t u : Tree) (p q : Option SourceRange) → Alike r ok (expr_form c t (expr_seen c) p) (expr_form d u (expr_seen d) q) →
      Alike r ok (expr_seen c t p) (expr_seen d u q)
  by_form t u p q e = subst₂ (Alike r ok) (sym (expr_seen_is c t p)) (sym (expr_seen_is d u q)) e

  by_kind : (t u : Tree) (p q : Option SourceRange) (k : Kind) (x : Rule) → Both k t u → rule k (is_known c t) ≡ x →
      rule k (is_known d u) ≡ x →
      RuleAlike r ok c d (expr_seen c) (expr_seen d) t u p q x → Alike r ok (expr_seen c t p) (expr_seen d u q)
  by_kind t u p q k x b e f alike = by_form t u p q (kind_alike r ok c d (expr_seen c) (expr_seen d) t u p q k x b e f alike)

  never_alike : Alike r ok (written never_in_parens) (written never_in_parens)
  never_alike = written_alike r ok never_in_parens never_in_parens (new_alike r ok never_in_parens never_in_parens_moved)

  -- ---- what agrees is seen alike

  mutual
    pub expr_alike : {t u : Tree} → SameExpr r c d t u → (p q : Option SourceRange) → PlaceAlike r ok p q →
        Alike r ok (expr_seen c t p) (expr_seen d u q)
    expr_alike (s.plain {t = t} {u = u} e s') p q f = by_form t u p q (plain_alike r ok c d (expr_seen c) (expr_seen d) t u p q e s')
    expr_alike (s.SameExpr.refused {t = t} {u = u} e g) p q f =
        by_form t u p q (refused_alike r ok c d (expr_seen c) (expr_seen d) t u p q e g)
    expr_alike (s.compound {t = t} {u = u} k b e xs) p q f =
        by_form t u p q (compound_alike r ok c d (expr_seen c) (expr_seen d) t u p q k b e (exprs_alike xs))
    expr_alike (s.satisfies {t = t} {u = u} b a x e) p q f =
        by_kind t u p q kinds.TsSatisfiesExpr (slotted satisfies_row) b refl refl
        (range_alike r ok _ _ a, (expr_alike x None None refl, (same_written r ok e, tt)))
    expr_alike (s.as_type {t = t} {u = u} b a e) p q f =
        by_kind t u p q kinds.TsAsExpr (slotted assertion_row) b refl refl
        (range_alike r ok _ _ a, (never_alike, (same_written r ok e, tt)))
    expr_alike (s.assertion {t = t} {u = u} b a e) p q f =
        by_kind t u p q kinds.TsTypeAssertion (slotted assertion_row) b refl refl
        (range_alike r ok _ _ a, (never_alike, (same_written r ok e, tt)))
    expr_alike (s.frozen {t = t} {u = u} b b' a n callee x types) p q f =
        by_form t u p q (frozen_alike r ok c d (expr_seen c) (expr_seen d) t u p q b b' (
          range_alike r ok _ _ a,
          (scope_alike r ok _ _ n, (same_written r ok callee, (expr_alike x None None refl, (same_written r ok types, tt)))),
        ))
    expr_alike (s.made {t = t} {u = u} b b' a n callee x types) p q f =
        by_form t u p q (made_alike r ok c d (expr_seen c) (expr_seen d) t u p q b b' (
          range_alike r ok _ _ a,
          (scope_alike r ok _ _ n, (same_written r ok callee, (expr_alike x None None refl, (same_written r ok types, tt)))),
        ))
    expr_alike (s.function {t = t} {u = u} b e x) p q f =
        let left = Function-span (FnExpr-function t) in let right = Function-span (FnExpr-function u) in
        by_kind t u p q kinds.FnExpr (slotted fn_expr_row) b refl refl (
          same_written r ok e,
          (
            function_alike x ExpressionLike (or_own p left) (or_own q right)
                (or_own_alike r ok p q left right f (range_to r ok left right (function_head x).span)),
            tt,
          ),
        )
    expr_alike (s.arrow {t = t} {u = u} b h ps x) p q f =
        by_kind t u p q kinds.ArrowExpr arrow b refl refl
        (arrow_body_alike x (or_own p (ArrowExpr-span t)) (or_own q (ArrowExpr-span u))
        (pats_seen c (expr_seen c) (parts (ArrowExpr-params t))) (pats_seen d (expr_seen d) (parts (ArrowExpr-params u)))
        h (or_own_alike r ok p q (ArrowExpr-span t) (ArrowExpr-span u) f (range_to r ok (ArrowExpr-span t) (ArrowExpr-span u) h.span))
        (pats_alike ps))

    exprs_alike : {ts us : List Tree} → SameExprs r c d ts us →
        AllAlike r ok (map (λ x. expr_seen c x None) ts) (map (λ x. expr_seen d x None) us)
    exprs_alike s.no_exprs = refl
    exprs_alike (s.next_expr x xs) = ap₂ (λ y ys. y ∷ ys) (expr_alike x None None refl) (exprs_alike xs)

    arrow_body_alike : {t u : Tree} → SameArrowBody r c d t u → (p q : SourceRange) (pats pats' : List Seen) → SameArrowHead r c d t u →
        RangeAlike r ok p q →
        AllAlike r ok pats pats' →
        Alike r ok (arrow_by_type c (expr_seen c) t p pats) (arrow_by_type d (expr_seen d) u q pats')
    arrow_body_alike (s.typed_arrow {t = t} {u = u} w) p q pats pats' h e ps =
        typed_alike r ok c d (expr_seen c) (expr_seen d) t u p q pats pats' h e ps w
    arrow_body_alike (s.classed_arrow {t = t} {u = u} b f k) p q pats pats' h e ps =
        classed_alike r ok c d (expr_seen c) (expr_seen d) t u p q pats pats' h e ps pair.unresolved b f k
    arrow_body_alike (s.shown_value {t = t} {u = u} n f) p q pats pats' h e ps =
        shown_value_alike r ok c d (expr_seen c) (expr_seen d) t u p q pats pats' h e ps pair.unresolved n f
    arrow_body_alike (s.kept_value {t = t} {u = u} n f x) p q pats pats' h e ps =
        kept_value_alike r ok c d (expr_seen c) (expr_seen d) t u p q pats pats' h e ps n f (expr_alike x None None refl)

    pub function_alike : {t u : Tree} → SameFunction r c d t u → (kind : FunctionKind) (p q : SourceRange) → RangeAlike r ok p q →
        Alike r ok (function_seen c (expr_seen c) kind p t) (function_seen d (expr_seen d) kind q u)
    function_alike (s.typed_function {t = t} {u = u} h n w ps) kind p q e =
        signature_of_alike r ok c d pair.unresolved kind p q t u (params_seen (parts (Function-params t))
        (pats_seen c (expr_seen c) (map (λ x. Param-pat x) (parts (Function-params t)))))
        (params_seen (parts (Function-params u)) (pats_seen d (expr_seen d) (map (λ x. Param-pat x) (parts (Function-params u))))) e h n
        (λ a setter. absurd (true≢false (sym a ∙ w)))
        (params_alike ps)
    function_alike (s.classed_function {t = t} {u = u} h n f k ps) kind p q e =
        signature_of_alike r ok c d pair.unresolved kind p q t u (params_seen (parts (Function-params t))
        (pats_seen c (expr_seen c) (map (λ x. Param-pat x) (parts (Function-params t)))))
        (params_seen (parts (Function-params u)) (pats_seen d (expr_seen d) (map (λ x. Param-pat x) (parts (Function-params u))))) e h n
        (λ a setter. (f, k))
        (params_alike ps)

    pub params_alike : {ts us : List Tree} → SameParams r c d ts us →
        AllAlike r ok (params_seen ts (pats_seen c (expr_seen c) (map (λ x. Param-pat x) ts)))
        (params_seen us (pats_seen d (expr_seen d) (map (λ x. Param-pat x) us)))
    params_alike s.no_params = refl
    params_alike (s.next_param {t = t} {u = u} {ts = ts} {us = us} a x xs) =
        let b = list_all is_optional_param (Param-pat t ∷ map (λ y. Param-pat y) ts) in
        let b' = list_all is_optional_param (Param-pat u ∷ map (λ y. Param-pat y) us) in
        let f : b ≡ b' = ap₂ ◌&&◌ (optional_alike x) (all_optional_params xs) in
        ap₂ (λ y ys. y ∷ ys)
        (param_alike r ok c d t u (pat_seen c (expr_seen c) b (Param-pat t)) (pat_seen d (expr_seen d) b' (Param-pat u)) a
        (subst (λ z. Alike r ok (pat_seen c (expr_seen c) b (Param-pat t)) (pat_seen d (expr_seen d) z (Param-pat u))) f (pat_alike x b)))
        (params_alike xs)

    pub pats_alike : {ts us : List Tree} → SamePats r c d ts us →
        AllAlike r ok (pats_seen c (expr_seen c) ts) (pats_seen d (expr_seen d) us)
    pats_alike s.no_pats = refl
    pats_alike (s.next_pat {t = t} {u = u} {ts = ts} {us = us} x xs) =
        let b = list_all is_optional_param (t ∷ ts) in
        let b' = list_all is_optional_param (u ∷ us) in
        let f : b ≡ b' = ap₂ ◌&&◌ (optional_alike x) (all_optional_pats xs) in
        ap₂ (λ y ys. y ∷ ys) (subst (λ z. Alike r ok (pat_seen c (expr_seen c) b t) (pat_seen d (expr_seen d) z u)) f (pat_alike x b))
        (pats_alike xs)

    pub pat_alike : {t u : Tree} → SamePat r c d t u → (b : Bool) → Alike r ok (pat_seen c (expr_seen c) b t) (pat_seen d (expr_seen d) b u)
    pat_alike (s.bare {t = t} {u = u} k e) b = bare_alike r ok c d (expr_seen c) (expr_seen d) b t u k e
    pat_alike (s.emptied {t = t} {u = u} e) b = emptied_alike r ok c d (expr_seen c) (expr_seen d) b t u e
    pat_alike (s.rest {t = t} {u = u} k a dots arg e) b = rest_alike r ok c d (expr_seen c) (expr_seen d) b t u k a dots arg e
    pat_alike (s.taken_apart {t = t} {u = u} e f a) b = taken_apart_alike r ok c d (expr_seen c) (expr_seen d) b t u e f a
    pat_alike (s.default_taken_apart {t = t} {u = u} k e f a) b =
        default_taken_apart_alike r ok c d (expr_seen c) (expr_seen d) b t u k e f a
    pat_alike (s.given_default {t = t} {u = u} k j e h) b = given_default_alike r ok c d (expr_seen c) (expr_seen d) b t u k j e h
    pat_alike (s.kept_default {t = t} {u = u} k j a e h x) b = kept_default_alike r ok c d (expr_seen c)
        (expr_seen d) b t u k j a e h (λ p q f. expr_alike x p q f)
    pat_alike (s.typed_pattern {t = t} {u = u} k a e w) b = typed_pattern_alike r ok c d (expr_seen c) (expr_seen d) b t u k a e w
    pat_alike (s.kept_pattern {t = t} {u = u} k a e x) b =
        kept_pattern_alike r ok c d (expr_seen c) (expr_seen d) b t u k a e (λ p q f. expr_alike x p q f)

  pub arrow_alike : {t u : Tree} → SameArrowHead r c d t u → SamePats r c d (parts (ArrowExpr-params t)) (parts (ArrowExpr-params u)) →
      SameArrowBody r c d t u →
      (p q : Option SourceRange) → PlaceAlike r ok p q → Alike r ok (arrow_seen c (expr_seen c) p t) (arrow_seen d (expr_seen d) q u)
  arrow_alike {t} {u} h ps x p q f =
      arrow_body_alike x (or_own p (ArrowExpr-span t)) (or_own q (ArrowExpr-span u))
      (pats_seen c (expr_seen c) (parts (ArrowExpr-params t))) (pats_seen d (expr_seen d) (parts (ArrowExpr-params u)))
      h (or_own_alike r ok p q (ArrowExpr-span t) (ArrowExpr-span u) f (range_to r ok (ArrowExpr-span t) (ArrowExpr-span u) h.span))
      (pats_alike ps)
