-- Functions and arrows that agree but for what is hidden are seen alike.
use Rattle.std.specs.Prelude.{◌≡◌, ℕ, suc, Bool, true, false, Option, Some, None, List, [], ◌∷◌, map, refl, if◌then◌else◌}
use Rattle.std.proofs.Common.{ap, ap₂, ◌∙◌, sym, subst, subst₂, true≢false}
use Rattle.fast_check_tree_syntax.specs.declared.kind.Kind.TheVariants.{Param, BlockStmt, RestPat}
use Rattle.fast_check_tree_syntax.specs.declared.source.SourceRange.{SourceRange}
use Rattle.fast_check_tree_syntax.specs.declared.tree.Tree.{Tree, Absent}
use Rattle.fast_check_tree_syntax.specs.Shape.{◌is◌, kind_of, parts, is_absent, list}
use Rattle.fast_check_tree_syntax.specs.Moves.{Renaming, IsRenaming, IsPair, partners, twice, moved, moved_range}
use Rattle.fast_check_tree_syntax.specs.Same.{SameTree, SameRange}
use Rattle.fast_check_tree_syntax.proofs.Moved.{absent_moved}
use Rattle.fast_check_tree_syntax.proofs.Partners.{partners-keep as partners_keep, twice-keeps as twice_keeps}
use Rattle.fast_check_tree_syntax.proofs.Same.{tree_to, range_to}
use Rattle.fast_check_tree_forms_classes.specs.Functions.{Function-span, Function-params, Function-ctxt, Function-body, Function-is_generator}
use Rattle.fast_check_tree_forms_classes.specs.Functions.{Function-is_async, Function-return_type, Param-span, Param-pat}
use Rattle.fast_check_tree_forms_expressions.specs.Expressions.{ArrowExpr-span, ArrowExpr-ctxt, ArrowExpr-body, ArrowExpr-is_async}
use Rattle.fast_check_tree_forms_expressions.specs.Expressions.{ArrowExpr-is_generator, ArrowExpr-return_type}
use Rattle.fast_check_tree_helpers.specs.declared.literal_type.DeclMutabilityKind.TheVariants.{Mutable}
use Rattle.fast_check_tree_helpers.specs.declared.return_class.ReturnStatementAnalysis.{ReturnStatementAnalysis}
use Rattle.fast_check_tree_helpers.specs.declared.return_class.ReturnStatementAnalysis.TheVariants as class
use Rattle.fast_check_tree_helpers.specs.Builders.{type_ann, any_type_ann}
use Rattle.fast_check_tree_helpers.specs.InferredType.{inferred_type}
use Rattle.fast_check_tree_helpers.specs.NamedBodies.{named_return}
use Rattle.fast_check_tree_helpers.specs.ReturnClass.{return_class}
use Rattle.fast_check_tree_helpers.proofs.BuildersMoved.{type_ann_moved, any_type_ann_moved}
use Rattle.fast_check_meaning_signatures.specs.Bindings.{Bindings}
use Rattle.fast_check_meaning_signatures.specs.declared.function_kind.FunctionKind.{FunctionKind}
use Rattle.fast_check_meaning_signatures.specs.declared.function_kind.FunctionKind.TheVariants.{DeclarationLike, ExpressionLike, Getter}
use Rattle.fast_check_meaning_signatures.specs.Seen.{Seen, written, range, function, typed_arrow, valued_arrow, faulty}
use Rattle.fast_check_meaning_signatures.specs.NewNodes.{promised, void_or_promise_void, any_param}
use Rattle.fast_check_meaning_signatures.specs.Parameters.{Look}
use Rattle.fast_check_meaning_signatures.specs.Functions.{return_type_missing, void_seen, void_class_seen, no_return_seen, class_seen, is_setter}
use Rattle.fast_check_meaning_signatures.specs.Functions.{shown_return_seen, return_type_seen, function_head, signature_seen, any_params_from}
use Rattle.fast_check_meaning_signatures.specs.Functions.{implementation_seen, param_seen, arrow_head, typed_arrow_seen, valued_arrow_seen, or_own}
use Rattle.fast_check_meaning_signatures.specs.Functions.{by_value, named_seen, body_seen, untyped_arrow_seen, arrow_by_type}
use Rattle.fast_check_meaning_skeleton.specs.SameValues.{Both, Neither, SameShown, NoneShown, SameNamed, neither_named, both_named}
use Rattle.fast_check_meaning_skeleton.specs.SameValues.{SameFunctionHead, SameReturn, SameImplementation, SameArrowHead}
use Rattle.fast_check_meaning_signatures.proofs.NewNodesMoved.{promised_moved, void_or_promise_void_moved, any_param_moved}
use Rattle.fast_check_meaning_signatures.proofs.MovedParts.{moved_function, moved_arrow}
use Rattle.fast_check_meaning_skeleton.proofs.AlikeTrees.{RangeAlike, scope_to, image_alike, new_alike, absent_alike, empty_list_alike}
use Rattle.fast_check_meaning_skeleton.proofs.AlikeSeen.{Alike, AllAlike, written_alike, same_written, range_alike, faulty_alike, alike_if}
use Rattle.fast_check_meaning_skeleton.proofs.AlikeSeen.{seens_alike, round_alike}
use Rattle.fast_check_meaning_skeleton.proofs.AlikeParameters.{PlaceAlike}

module _ (r : Renaming) (ok : IsRenaming r) where
  -- the place that is given, or one's own
  pub or_own_alike : (p q : Option SourceRange) (a b : SourceRange) → PlaceAlike r ok p q → RangeAlike r ok a b →
      RangeAlike r ok (or_own p a) (or_own q b)
  or_own_alike (Some p) (Some q) a b e s = ap (λ o. or_own o (moved_range (partners r) a)) e
  or_own_alike None None a b e s = s
  or_own_alike (Some p) None a b e s = cc
  or_own_alike None (Some q) a b e s = cc

  -- ---- return types

  void_alike : (is_async : Bool) → Alike r ok (void_seen is_async) (void_seen is_async)
  void_alike is_async =
      let type = type_ann (void_or_promise_void is_async) in
      written_alike r ok type type (new_alike r ok type (λ m keeps. type_ann_moved m keeps (void_or_promise_void is_async)
      ∙ ap type_ann (void_or_promise_void_moved m keeps is_async)))

  void_class_alike : (kind : FunctionKind) (is_async : Bool) (p q : SourceRange) → RangeAlike r ok p q →
      Alike r ok (void_class_seen kind is_async p) (void_class_seen kind is_async q)
  void_class_alike Getter is_async p q e = faulty_alike r ok (return_type_missing false is_async) p q e
  void_class_alike _ is_async p q e = void_alike is_async

  no_return_alike : (kind : FunctionKind) (is_async : Bool) (p q : SourceRange) → RangeAlike r ok p q →
      Alike r ok (no_return_seen kind is_async p) (no_return_seen kind is_async q)
  no_return_alike DeclarationLike is_async p q e = void_alike is_async
  no_return_alike ExpressionLike is_async p q e = faulty_alike r ok (return_type_missing true is_async) p q e
  no_return_alike _ is_async p q e = faulty_alike r ok (return_type_missing false is_async) p q e

  class_alike : (kind : FunctionKind) (is_async : Bool) (p q : SourceRange) (c : ReturnStatementAnalysis) → RangeAlike r ok p q →
      Alike r ok (class_seen kind is_async p c) (class_seen kind is_async q c)
  class_alike kind is_async p q class.Void e = void_class_alike kind is_async p q e
  class_alike kind is_async p q class.None e = no_return_alike kind is_async p q e
  class_alike kind is_async p q class.Single e = faulty_alike r ok (return_type_missing false is_async) p q e
  class_alike kind is_async p q class.Multiple e = faulty_alike r ok (return_type_missing false is_async) p q e

  -- ---- types that are shown, in a promise where the function is async

  module _ (c d : Bindings) where
    shown_type_alike : IsPair r.scopes c.unresolved.0 d.unresolved.0 → (a b : Bool) (t u : Tree) → a ≡ b → SameTree r t u →
        Alike r ok (written (type_ann (promised c.unresolved a t))) (written (type_ann (promised d.unresolved b u)))
    shown_type_alike pair a b t u f s =
        let left = promised c.unresolved a t in
        let right = promised d.unresolved b u in
        written_alike r ok (type_ann left) (type_ann right)
        (image_alike r ok type_ann (λ m keeps t. sym (type_ann_moved m keeps t)) left right
        (sym (promised_moved (partners r) (partners_keep r ok) c.unresolved a t)
        ∙ ((λ i. promised (scope_to r ok c.unresolved d.unresolved pair i) (f i) (tree_to r ok s i)) ∙
        promised_moved twice twice_keeps d.unresolved b u)))

    named_alike : IsPair r.scopes c.unresolved.0 d.unresolved.0 → (is_async is_generator : Bool) (t u : Tree) (classed classed' : Seen) →
        Alike r ok classed classed' → SameNamed r c d is_generator t u →
        Alike r ok (named_seen c.unresolved is_async (named_return c.unresolved is_generator t) classed)
        (named_seen d.unresolved is_async (named_return d.unresolved is_generator u) classed')
    named_alike pair is_async is_generator t u classed classed' s (neither_named e f) =
        subst₂ (λ x y. Alike r ok (named_seen c.unresolved is_async x classed) (named_seen d.unresolved is_async y classed')) (sym e)
        (sym f) s
    named_alike pair is_async is_generator t u classed classed' s (both_named left right e f types) =
        subst₂ (λ x y. Alike r ok (named_seen c.unresolved is_async x classed) (named_seen d.unresolved is_async y classed')) (sym e)
        (sym f)
        (shown_type_alike pair is_async is_async left right refl types)

    -- bodies of one return class, which name the same type, if one of them names any
    abbrev pub SameBodies : Bool → Tree → Tree → Type 0
    SameBodies is_generator t u = (return_class t ≡ return_class u) × SameNamed r c d is_generator t u

    body_alike : IsPair r.scopes c.unresolved.0 d.unresolved.0 →
        (kind : FunctionKind) (is_async is_generator : Bool) (p q : SourceRange) (t u : Tree) →
        RangeAlike r ok p q → SameBodies is_generator t u →
        Alike r ok (body_seen c.unresolved kind is_async is_generator p t) (body_seen d.unresolved kind is_async is_generator q u)
    body_alike pair kind is_async is_generator p q t u e s =
        let classed = class_seen kind is_async p (return_class t) in
        named_alike pair is_async is_generator t u classed (class_seen kind is_async q (return_class u))
        (subst (λ x. Alike r ok classed (class_seen kind is_async q x)) s.0 (class_alike kind is_async p q (return_class t) e)) s.1

  -- ---- signatures

  module _ (c d : Bindings) where
    function_head_alike : (t u : Tree) → SameFunctionHead r c d t u →
        moved_function (partners r) (function_head t) ≡ moved_function twice (function_head u)
    function_head_alike t u h = λ i. record {
      span = range_to r ok (Function-span t) (Function-span u) h.span i;
      ctxt = scope_to r ok (Function-ctxt t) (Function-ctxt u) h.ctxt i;
      lacks_body = h.has_body i;
      type_params = tree_to r ok h.type_params i;
    }

    signature_alike : (t u : Tree) (type type' : Seen) (params params' : List Seen) → SameFunctionHead r c d t u → Alike r ok type type' →
        AllAlike r ok params params' → Alike r ok (signature_seen t type params) (signature_seen u type' params')
    signature_alike t u type type' params params' h e ps = λ i. function (function_head_alike t u h i) (e i)
        (seens_alike r ok params params' ps i)

    return_type_alike : IsPair r.scopes c.unresolved.0 d.unresolved.0 → (kind : FunctionKind) (p q : SourceRange) (t u : Tree) →
        RangeAlike r ok p q →
        SameFunctionHead r c d t u → SameReturn r c d t u →
        (is_absent (Function-return_type t) ≡ true → is_setter kind ≡ false →
        SameBodies c d (Function-is_generator t) (Function-body t) (Function-body u)) →
        Alike r ok (return_type_seen c.unresolved kind p t) (return_type_seen d.unresolved kind q u)
    return_type_alike pair kind p q t u e h s bodies =
        let missing = return_type_missing false (Function-is_async t) in
        let missing' = return_type_missing false (Function-is_async u) in
        let shown = body_seen c.unresolved kind (Function-is_async t) (Function-is_generator t) p (Function-body t) in
        let shown' = body_seen d.unresolved kind (Function-is_async u) (Function-is_generator u) q (Function-body u) in
        let bodied = if is_absent (Function-body t) then written Absent else shown in
        let bodied' = if is_absent (Function-body u) then written Absent else shown' in
        let returned = if Function-is_generator t then faulty missing p else bodied in
        let returned' = if Function-is_generator u then faulty missing' q else bodied' in
        let none = written_alike r ok Absent Absent (new_alike r ok Absent (λ m keeps. absent_moved m)) in
        alike_if r ok (is_absent (Function-return_type t)) (is_absent (Function-return_type u))
        (shown_return_seen c.unresolved kind p t) (written (Function-return_type t))
        (shown_return_seen d.unresolved kind q u) (written (Function-return_type u))
        (absent_alike r ok (Function-return_type t) (Function-return_type u) (tree_to r ok s.return_type))
        (λ absent. alike_if r ok (is_setter kind) (is_setter kind) (written Absent) returned (written Absent) returned' refl
        (λ setter. none)
        (λ setter. alike_if r ok (Function-is_generator t) (Function-is_generator u) (faulty missing p) bodied
        (faulty missing' q) bodied' s.is_generator
        (λ g. λ i. faulty (return_type_missing false (s.is_async i)) (e i))
        (λ g. alike_if r ok (is_absent (Function-body t)) (is_absent (Function-body u)) (written Absent) shown
        (written Absent) shown' h.has_body
        (λ a. none)
        (λ a. subst₂ (λ x y. Alike r ok shown (body_seen d.unresolved kind x y q (Function-body u))) s.is_async s.is_generator
        (body_alike c d pair kind (Function-is_async t) (Function-is_generator t) p q (Function-body t) (Function-body u) e
        (bodies absent setter))))))
        (λ w. same_written r ok s.return_type)

    -- a function, by its parameters, where the bodies agree if no type is written
    pub signature_of_alike : IsPair r.scopes c.unresolved.0 d.unresolved.0 → (kind : FunctionKind) (p q : SourceRange) (t u : Tree)
        (params params' : List Seen) → RangeAlike r ok p q → SameFunctionHead r c d t u → SameReturn r c d t u →
        (is_absent (Function-return_type t) ≡ true → is_setter kind ≡ false →
        SameBodies c d (Function-is_generator t) (Function-body t) (Function-body u)) →
        AllAlike r ok params params' →
        Alike r ok (signature_seen t (return_type_seen c.unresolved kind p t) params)
        (signature_seen u (return_type_seen d.unresolved kind q u) params')
    signature_of_alike pair kind p q t u params params' e h s bodies ps =
        signature_alike t u (return_type_seen c.unresolved kind p t) (return_type_seen d.unresolved kind q u) params params' h
        (return_type_alike pair kind p q t u e h s bodies) ps

    -- ---- parameters

    pub param_alike : (t u : Tree) (pat pat' : Seen) → SameRange r (Param-span t) (Param-span u) → Alike r ok pat pat' →
        Alike r ok (param_seen t pat) (param_seen u pat')
    param_alike t u pat pat' s e =
        round_alike r ok Param (range (Param-span t) ∷ written (list []) ∷ pat ∷ []) (range (Param-span u) ∷ written (list []) ∷ pat' ∷ [])
        (λ i. range_alike r ok (Param-span t) (Param-span u) s i ∷ written (empty_list_alike r ok i) ∷ e i ∷ [])

    any_alike : (n : ℕ) (a b : Bool) → a ≡ b → Alike r ok (written (any_param n a)) (written (any_param n b))
    any_alike n a b e =
        ap (λ x. written (moved (partners r) (any_param n x))) e ∙ written_alike r ok (any_param n b) (any_param n b)
        (new_alike r ok (any_param n b) (λ m keeps. any_param_moved m keeps n b))

    pub any_params_alike : (n : ℕ) (ts us : List Tree) → map (λ p. kind_of (Param-pat p) is RestPat) ts ≡ map
        (λ p. kind_of (Param-pat p) is RestPat) us →
        AllAlike r ok (any_params_from n ts) (any_params_from n us)
    any_params_alike n [] [] e = refl
    any_params_alike n (t ∷ ts) (u ∷ us) e =
        ap₂ (λ x xs. x ∷ xs) (any_alike n (kind_of (Param-pat t) is RestPat) (kind_of (Param-pat u) is RestPat) cc)
        (any_params_alike (suc n) ts us cc)
    any_params_alike n [] (u ∷ us) e = cc
    any_params_alike n (t ∷ ts) [] e = cc

    -- ---- implementations behind overloads

    pub implementation_alike : (t u : Tree) → SameImplementation r c d t u → Alike r ok (implementation_seen t) (implementation_seen u)
    implementation_alike t u s =
        signature_alike t u (written any_type_ann) (written any_type_ann) (any_params_from 0 (parts (Function-params t)))
        (any_params_from 0 (parts (Function-params u))) s.head
        (written_alike r ok any_type_ann any_type_ann (new_alike r ok any_type_ann any_type_ann_moved))
        (any_params_alike 0 (parts (Function-params t)) (parts (Function-params u)) s.rests)

    -- ---- arrows

    arrow_head_alike : (t u : Tree) → SameArrowHead r c d t u → moved_arrow (partners r) (arrow_head t) ≡ moved_arrow twice (arrow_head u)
    arrow_head_alike t u h = λ i. record {
      span = range_to r ok (ArrowExpr-span t) (ArrowExpr-span u) h.span i;
      ctxt = scope_to r ok (ArrowExpr-ctxt t) (ArrowExpr-ctxt u) h.ctxt i;
      is_generator = h.is_generator i;
      type_params = tree_to r ok h.type_params i;
    }

    typed_arrow_alike : (t u : Tree) (pats pats' : List Seen) (type type' : Seen) → SameArrowHead r c d t u → AllAlike r ok pats pats' →
        Alike r ok type type' → Alike r ok (typed_arrow_seen t pats type) (typed_arrow_seen u pats' type')
    typed_arrow_alike t u pats pats' type type' h ps f = λ i. typed_arrow (arrow_head_alike t u h i) (f i)
        (seens_alike r ok pats pats' ps i)

    valued_arrow_alike : (t u : Tree) (p q : SourceRange) (pats pats' : List Seen) (value value' : Seen) → SameArrowHead r c d t u →
        RangeAlike r ok p q →
        AllAlike r ok pats pats' → Alike r ok value value' → Alike r ok (valued_arrow_seen t p pats value)
        (valued_arrow_seen u q pats' value')
    valued_arrow_alike t u p q pats pats' value value' h e ps f =
        λ i. valued_arrow (arrow_head_alike t u h i) (h.is_async i) (e i) (f i) (seens_alike r ok pats pats' ps i)

    -- two arrows by their parameters, where what is seen of them without a written type is given
    module _ (look look' : Look) (t u : Tree) (p q : SourceRange) (pats pats' : List Seen) (h : SameArrowHead r c d t u)
        (e : RangeAlike r ok p q)
        (ps : AllAlike r ok pats pats') where
      abbrev pub ArrowAlike : Type 0
      ArrowAlike = Alike r ok (arrow_by_type c look t p pats) (arrow_by_type d look' u q pats')

      by_type_alike :
          (is_absent (ArrowExpr-return_type t) ≡ true → Alike r ok (untyped_arrow_seen c look t p pats)
          (untyped_arrow_seen d look' u q pats')) →
          ArrowAlike
      by_type_alike f =
          let type = ArrowExpr-return_type t in
          let type' = ArrowExpr-return_type u in
          alike_if r ok (is_absent type) (is_absent type')
          (untyped_arrow_seen c look t p pats) (typed_arrow_seen t pats (written type))
          (untyped_arrow_seen d look' u q pats') (typed_arrow_seen u pats' (written type'))
          (absent_alike r ok type type' (tree_to r ok h.return_type)) f
          (λ w. typed_arrow_alike t u pats pats' (written type) (written type') h ps (same_written r ok h.return_type))

      pub typed_alike : is_absent (ArrowExpr-return_type t) ≡ false → ArrowAlike
      typed_alike w = by_type_alike (λ a. absurd (true≢false (sym a ∙ w)))

      -- the body is a block
      abbrev untyped_at : Bindings → Look → Tree → SourceRange → List Seen → Bool → Seen
      untyped_at bindings f v place ss is_block =
          if is_block then
          typed_arrow_seen v ss
          (body_seen bindings.unresolved ExpressionLike (ArrowExpr-is_async v) (ArrowExpr-is_generator v) place (ArrowExpr-body v))
          else by_value bindings f v place ss (inferred_type Mutable bindings.unresolved (ArrowExpr-body v))

      pub classed_alike : IsPair r.scopes c.unresolved.0 d.unresolved.0 → Both BlockStmt (ArrowExpr-body t) (ArrowExpr-body u) →
          return_class (ArrowExpr-body t) ≡ return_class (ArrowExpr-body u) →
          SameNamed r c d (ArrowExpr-is_generator t) (ArrowExpr-body t) (ArrowExpr-body u) → ArrowAlike
      classed_alike pair k classes named =
          let shown = body_seen c.unresolved ExpressionLike (ArrowExpr-is_async t) (ArrowExpr-is_generator t) p (ArrowExpr-body t) in
          let shown' = body_seen d.unresolved ExpressionLike (ArrowExpr-is_async u) (ArrowExpr-is_generator u) q (ArrowExpr-body u) in
          by_type_alike (λ a.
          subst₂ (Alike r ok) (sym (ap (λ j. untyped_at c look t p pats (j is BlockStmt)) k.left))
          (sym (ap (λ j. untyped_at d look' u q pats' (j is BlockStmt)) k.right))
          (typed_arrow_alike t u pats pats' shown shown' h ps
          (subst₂ (λ x y. Alike r ok shown (body_seen d.unresolved ExpressionLike x y q (ArrowExpr-body u))) h.is_async h.is_generator
          (body_alike c d pair ExpressionLike (ArrowExpr-is_async t) (ArrowExpr-is_generator t) p q (ArrowExpr-body t) (ArrowExpr-body u) e
          (classes, named)))))

      -- the body is a value
      valued_alike : Neither BlockStmt (ArrowExpr-body t) (ArrowExpr-body u) →
          Alike r ok (by_value c look t p pats (inferred_type Mutable c.unresolved (ArrowExpr-body t)))
          (by_value d look' u q pats' (inferred_type Mutable d.unresolved (ArrowExpr-body u))) → ArrowAlike
      valued_alike n f = by_type_alike (λ a. subst₂ (Alike r ok) (sym (ap (untyped_at c look t p pats) n.left))
          (sym (ap (untyped_at d look' u q pats') n.right)) f)

      pub shown_value_alike : IsPair r.scopes c.unresolved.0 d.unresolved.0 → Neither BlockStmt (ArrowExpr-body t) (ArrowExpr-body u) →
          SameShown r c d Mutable (ArrowExpr-body t) (ArrowExpr-body u) → ArrowAlike
      shown_value_alike pair n s =
          let type = type_ann (promised c.unresolved (ArrowExpr-is_async t) s.left) in
          let type' = type_ann (promised d.unresolved (ArrowExpr-is_async u) s.right) in
          valued_alike n
          (subst₂ (λ x y. Alike r ok (by_value c look t p pats x) (by_value d look' u q pats' y)) (sym s.left_is) (sym s.right_is)
          (typed_arrow_alike t u pats pats' (written type) (written type') h ps
          (shown_type_alike c d pair (ArrowExpr-is_async t) (ArrowExpr-is_async u) s.left s.right h.is_async s.types)))

      pub kept_value_alike : Neither BlockStmt (ArrowExpr-body t) (ArrowExpr-body u) →
          NoneShown r c d Mutable (ArrowExpr-body t) (ArrowExpr-body u) →
          Alike r ok (look (ArrowExpr-body t) None) (look' (ArrowExpr-body u) None) → ArrowAlike
      kept_value_alike n s v =
          valued_alike n (subst₂ (λ x y. Alike r ok (by_value c look t p pats x) (by_value d look' u q pats' y)) (sym s.left) (sym s.right)
          (valued_arrow_alike t u p q pats pats' (look (ArrowExpr-body t) None) (look' (ArrowExpr-body u) None) h e ps v))
