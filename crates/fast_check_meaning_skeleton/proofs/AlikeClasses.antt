-- Classes that agree but for what is hidden are seen alike.
use Rattle.std.specs.Prelude.{◌≡◌, Bool, true, false, ◌&&◌, unwrap_or, List, [], ◌∷◌, ◌++◌, map, flat_map}
use Rattle.std.specs.Prelude.{refl, if◌then◌else◌}
use Rattle.std.specs.List.{list_any, filter}
use Rattle.std.proofs.Common.{ap, ap₂, ◌∙◌, sym, subst, subst₂, true≢false}
use Rattle.std.proofs.lemmas.List.{map-append}
use Rattle.fast_check_tree_syntax.specs.declared.kind.Kind.{Kind}
use Rattle.fast_check_tree_syntax.specs.declared.kind.Kind.TheVariants as kinds
use Rattle.fast_check_tree_syntax.specs.declared.kind.Word.TheVariants as words
use Rattle.fast_check_tree_syntax.specs.declared.source.SourceRange.{SourceRange}
use Rattle.fast_check_tree_syntax.specs.declared.source.SyntaxContext.{SyntaxContext}
use Rattle.fast_check_tree_syntax.specs.declared.tree.Tree.{Tree, Absent}
use Rattle.fast_check_tree_syntax.specs.Shape.{◌is◌, kind_of, parts, is_absent, has_word}
use Rattle.fast_check_tree_syntax.specs.Moves.{Moves, Renaming, IsRenaming, partners, twice, moved}
use Rattle.fast_check_tree_syntax.specs.Same.{SameTree, Each}
use Rattle.fast_check_tree_syntax.proofs.Moved.{node_moved, range_moved, text_moved, kind_of_moved, part_moved, range_of_moved, text_of_moved}
use Rattle.fast_check_tree_syntax.proofs.Moved.{flag_of_moved, has_word_moved}
use Rattle.fast_check_tree_syntax.proofs.Partners.{partners-keep as partners_keep, twice-keeps as twice_keeps}
use Rattle.fast_check_tree_syntax.proofs.Same.{tree_to, range_to}
use Rattle.fast_check_tree_helpers.specs.ranges.Ranges.{range_of_node}
use Rattle.fast_check_tree_forms_classes.specs.Classes.{Constructor-span, Constructor-ctxt, Constructor-key, Constructor-body}
use Rattle.fast_check_tree_forms_classes.specs.Classes.{Constructor-accessibility, Constructor-is_optional, TsParamProp-accessibility}
use Rattle.fast_check_tree_forms_classes.specs.Fields.{ClassProp-key, ClassProp-accessibility, AutoAccessor-key, AutoAccessor-accessibility}
use Rattle.fast_check_tree_forms_classes.specs.Methods.{ClassMethod-span, ClassMethod-key, ClassMethod-function, ClassMethod-kind}
use Rattle.fast_check_tree_forms_classes.specs.Methods.{ClassMethod-is_static, ClassMethod-accessibility, ClassMethod-is_abstract}
use Rattle.fast_check_tree_forms_classes.specs.Methods.{ClassMethod-is_optional, ClassMethod-is_override}
use Rattle.fast_check_tree_forms_expressions.specs.Expressions.{ExprOrSpread-spread}
use Rattle.fast_check_tree_forms_programs.specs.Names.{Ident-span, Ident-sym, Ident-optional}
use Rattle.fast_check_tree_forms_statements.specs.Statements.{BlockStmt-stmts}
use Rattle.fast_check_tree_helpers.specs.Builders.{never_value}
use Rattle.fast_check_tree_helpers.proofs.BuildersMoved.{never_value_moved}
use Rattle.fast_check_meaning_signatures.specs.Bindings.{Bindings}
use Rattle.fast_check_meaning_signatures.specs.declared.fault.FaultKind.TheVariants.{UnsupportedDestructuring, UnsupportedSuperClassExpr}
use Rattle.fast_check_meaning_signatures.specs.declared.function_kind.FunctionKind.{FunctionKind}
use Rattle.fast_check_meaning_signatures.specs.declared.function_kind.FunctionKind.TheVariants.{DeclarationLike, Getter, Setter}
use Rattle.fast_check_meaning_signatures.specs.Seen.{Seen, written, range, scope, flag, listed, class, faulty, seens}
use Rattle.fast_check_meaning_signatures.specs.NewNodes.{never_array_in_parens, ident_name, new_block, hash_private}
use Rattle.fast_check_meaning_signatures.specs.Expressions.{expr_seen}
use Rattle.fast_check_meaning_signatures.specs.Functions.{any_params_from, function_seen, implementation_seen}
use Rattle.fast_check_meaning_signatures.specs.Members.{is_private, is_computed, is_hash_named, hash_mark, stays_behind, each_behind, if_kept}
use Rattle.fast_check_meaning_signatures.specs.Members.{is_private_computed_kind, is_private_computed, ambient_members}
use Rattle.fast_check_meaning_signatures.specs.Classes.{is_reference, superclass_seen, private_method_head, param_target}
use Rattle.fast_check_meaning_signatures.specs.Classes.{takes_apart, param_properties, patterns_among, unless_any, param_property_head}
use Rattle.fast_check_meaning_signatures.specs.Classes.{is_super_call, never_argument, super_call, constructor_body, constructor_of}
use Rattle.fast_check_meaning_signatures.specs.Classes.{unless_taken_apart, method_kind, class_head, method_function_seen, plain_params_seen}
use Rattle.fast_check_meaning_signatures.specs.Classes.{constructor_params_seen, constructor_seen, member_of_kind, member_seen}
use Rattle.fast_check_meaning_signatures.specs.Classes.{param_property, declared_by_params, members_seen, plain_class_seen}
use Rattle.fast_check_meaning_signatures.specs.Classes.{ambient_class, param_typing}
use Rattle.fast_check_meaning_signatures.specs.Typing.{type_of}
use Rattle.fast_check_meaning_signatures.proofs.NewNodesMoved.{never_array_in_parens_moved, new_block_moved, hash_private_moved}
use Rattle.fast_check_meaning_signatures.proofs.MovedParts.{moved_class, field_moved}
use Rattle.fast_check_meaning_signatures.proofs.References.{is_reference_moved}
use Rattle.fast_check_meaning_skeleton.specs.SameValues.{SameBindings, Both, SameTyping}
use Rattle.fast_check_meaning_skeleton.specs.SameValues as v
use Rattle.fast_check_meaning_skeleton.specs.SameClasses.{SameParamProperty, SameSuperCall, SameSuperCalls, SameConstructorHead}
use Rattle.fast_check_meaning_skeleton.specs.SameClasses.{SameConstructed, plain_params, SameConstructor, SameMethod, SameMember}
use Rattle.fast_check_meaning_skeleton.specs.SameClasses.{SameMembers, SameSuperclass, SameClassHead, SameClass, SameAmbientMembers}
use Rattle.fast_check_meaning_skeleton.specs.SameClasses.{SameAmbientClass}
use Rattle.fast_check_meaning_skeleton.specs.SameClasses as s
use Rattle.fast_check_meaning_skeleton.proofs.AlikeTrees.{TreeAlike, scope_to, image_alike, same_read, new_alike, absent_alike, range_leaf_alike}
use Rattle.fast_check_meaning_skeleton.proofs.AlikeTrees.{scope_leaf_alike, flag_leaf_alike, node_alike}
use Rattle.fast_check_meaning_skeleton.proofs.AlikeSeen.{Alike, AllAlike, written_alike, same_written, range_alike, scope_alike, flag_alike}
use Rattle.fast_check_meaning_skeleton.proofs.AlikeSeen.{faulty_alike, alike_if, append_alike, seens_alike, round_alike, listed_alike}
use Rattle.fast_check_meaning_skeleton.proofs.AlikeFunctions.{any_params_alike, implementation_alike, signature_of_alike}
use Rattle.fast_check_meaning_skeleton.proofs.Alike.{function_alike, params_alike}
use Rattle.fast_check_meaning_skeleton.proofs.AlikeMembers.{silent, SameTaken, taken_left, taken_right, taken_next, private_alike, stays_alike}
use Rattle.fast_check_meaning_skeleton.proofs.AlikeProperties.{nothing_alike, HeadAlike, declared_alike, place_alike}
use Rattle.fast_check_meaning_skeleton.proofs.AlikeProperties.{by_privacy, property_alike, accessor_alike}

private_computed_by_kind : (m : Moves) (k : Kind) (t : Tree) → is_private_computed_kind k (moved m t) ≡ is_private_computed_kind k t
private_computed_by_kind m kinds.ClassMethod t =
    ap₂ (λ a k. is_private a && is_computed k) (field_moved m ClassMethod-accessibility _ (λ t. refl) t)
    (field_moved m ClassMethod-key _ (λ t. refl) t)
    ∙ ap₂ (λ a k. a && (k is kinds.ComputedPropName)) (has_word_moved m words.Private (ClassMethod-accessibility t))
    (kind_of_moved m (ClassMethod-key t))
private_computed_by_kind m kinds.ClassProp t =
    ap₂ (λ a k. is_private a && is_computed k) (field_moved m ClassProp-accessibility _ (λ t. refl) t)
    (field_moved m ClassProp-key _ (λ t. refl) t)
    ∙ ap₂ (λ a k. a && (k is kinds.ComputedPropName)) (has_word_moved m words.Private (ClassProp-accessibility t))
    (kind_of_moved m (ClassProp-key t))
private_computed_by_kind m kinds.AutoAccessor t =
    ap₂ (λ a k. is_private a && is_computed k) (field_moved m AutoAccessor-accessibility _ (λ t. refl) t)
    (field_moved m AutoAccessor-key _ (λ t. refl) t)
    ∙ ap₂ (λ a k. a && (k is kinds.ComputedPropName)) (has_word_moved m words.Private (AutoAccessor-accessibility t))
    (kind_of_moved m (AutoAccessor-key t))
private_computed_by_kind m _ t = refl

private_computed_moved : (m : Moves) (t : Tree) → is_private_computed (moved m t) ≡ is_private_computed t
private_computed_moved m t = ap (λ k. is_private_computed_kind k (moved m t)) (kind_of_moved m t) ∙ private_computed_by_kind m (kind_of t) t

module _ (r : Renaming) (ok : IsRenaming r) where
  -- ---- choices

  tree_if : (a b : Bool) (x x' y y' : Tree) → a ≡ b → TreeAlike r ok x y → TreeAlike r ok x' y' →
      TreeAlike r ok (if a then x else x') (if b then y else y')
  tree_if true true x x' y y' e p q = p
  tree_if false false x x' y y' e p q = q
  tree_if true false x x' y y' e p q = cc
  tree_if false true x x' y y' e p q = cc

  lists_if : (a b : Bool) (xs xs' ys ys' : List Seen) → a ≡ b → (a ≡ true → AllAlike r ok xs ys) → (a ≡ false → AllAlike r ok xs' ys') →
      AllAlike r ok (if a then xs else xs') (if b then ys else ys')
  lists_if true true xs xs' ys ys' e p q = p refl
  lists_if false false xs xs' ys ys' e p q = q refl
  lists_if true false xs xs' ys ys' e p q = cc
  lists_if false true xs xs' ys ys' e p q = cc

  word_alike : (word : _) (t u : Tree) → TreeAlike r ok t u → has_word word t ≡ has_word word u
  word_alike word t u e = same_read r ok (has_word word) (λ m keeps t. has_word_moved m word t) t u e

  abbrev TreesAlike : List Tree → List Tree → Type 0
  TreesAlike ts us = map (moved (partners r)) ts ≡ map (moved twice) us

  all_written : (ts us : List Tree) → TreesAlike ts us → AllAlike r ok (map written ts) (map written us)
  all_written [] [] e = refl
  all_written (t ∷ ts) (u ∷ us) e =
      let x : TreeAlike r ok t u = cc in let xs : TreesAlike ts us = cc in λ i. written (x i) ∷ all_written ts us xs i
  all_written [] (u ∷ us) e = cc
  all_written (t ∷ ts) [] e = cc

  -- ---- superclasses

  superclass_alike : (t u : Tree) → SameTree r t u → Alike r ok (superclass_seen t) (superclass_seen u)
  superclass_alike t u e =
      alike_if r ok (is_absent t) (is_absent u) (written Absent) _ (written Absent) _ (absent_alike r ok t u (tree_to r ok e))
      (λ a. written_alike r ok Absent Absent (nothing_alike r ok))
      (λ a. alike_if r ok (is_reference t) (is_reference u) (written t) _ (written u) _
      (same_read r ok is_reference (λ m keeps t. is_reference_moved m t) t u (tree_to r ok e)) (λ b. same_written r ok e)
      (λ b. faulty_alike r ok UnsupportedSuperClassExpr _ _ (place_alike r ok t u e)))

  not_reference : (t : Tree) → is_absent t ≡ false → is_reference t ≡ false →
      superclass_seen t ≡ faulty UnsupportedSuperClassExpr (range_of_node t)
  not_reference t a e = rw (a, e) refl

  -- ---- bodies of constructors

  argument_alike : (t u : Tree) → SameTree r (ExprOrSpread-spread t) (ExprOrSpread-spread u) →
      TreeAlike r ok (never_argument t) (never_argument u)
  argument_alike t u e =
      let spread = tree_to r ok e in
      let value =
      tree_if (is_absent (ExprOrSpread-spread t)) (is_absent (ExprOrSpread-spread u)) never_value never_array_in_parens never_value
      never_array_in_parens (absent_alike r ok (ExprOrSpread-spread t) (ExprOrSpread-spread u) spread)
      (new_alike r ok never_value never_value_moved)
      (new_alike r ok never_array_in_parens never_array_in_parens_moved) in
      node_alike r ok kinds.ExprOrSpread _ _ (λ i. spread i ∷ value i ∷ [])

  arguments_alike : (ts us : List Tree) → Each (λ x y. SameTree r (ExprOrSpread-spread x) (ExprOrSpread-spread y)) ts us →
      TreesAlike (map never_argument ts) (map never_argument us)
  arguments_alike [] [] e = refl
  arguments_alike (t ∷ ts) (u ∷ us) e = λ i. argument_alike t u e.0 i ∷ arguments_alike ts us e.1 i
  arguments_alike [] (u ∷ us) e = absurd e
  arguments_alike (t ∷ ts) [] e = absurd e

  plain_block : (ts us : List Tree) → TreesAlike ts us → TreeAlike r ok (new_block ts) (new_block us)
  plain_block ts us e =
      new_block_moved (partners r) (partners_keep r ok) ts ∙ (ap new_block e ∙ sym (new_block_moved twice twice_keeps us))

  module _ (c d : Bindings) (f g : SourceRange → Bool) where
    super_call_alike : (t u : Tree) → SameSuperCall r c d f g t u → TreeAlike r ok (super_call t) (super_call u)
    super_call_alike t u h =
        let call = node_alike r ok kinds.CallExpr _ _ (λ i.
        range_leaf_alike r ok _ _ (range_to r ok _ _ h.call) i ∷ scope_leaf_alike r ok _ _ h.ctxt i ∷ tree_to r ok h.callee i ∷
        node_alike r ok kinds.List _ _ (arguments_alike _ _ h.arguments) i ∷ tree_to r ok h.type_args i ∷ []) in
        node_alike r ok kinds.ExprStmt _ _ (λ i. range_leaf_alike r ok _ _ (range_to r ok _ _ h.span) i ∷ call i ∷ [])

    abbrev calls_of : List Tree → List Tree
    calls_of stmts = map super_call (filter is_super_call stmts)

    no_call : (t : Tree) (ts : List Tree) → is_super_call t ≡ false → calls_of (t ∷ ts) ≡ calls_of ts
    no_call t ts e = rw e refl

    a_call : (t : Tree) (ts : List Tree) → is_super_call t ≡ true → calls_of (t ∷ ts) ≡ super_call t ∷ calls_of ts
    a_call t ts e = rw e refl

    super_calls_alike : (ts us : List Tree) → SameSuperCalls r c d f g ts us → TreesAlike (calls_of ts) (calls_of us)
    super_calls_alike [] [] s.SameSuperCalls.end = refl
    super_calls_alike (t ∷ ts) us (s.SameSuperCalls.left e rest) =
        subst (λ xs. TreesAlike xs (calls_of us)) (sym (no_call t ts e)) (super_calls_alike ts us rest)
    super_calls_alike ts (u ∷ us) (s.SameSuperCalls.right e rest) =
        subst (λ ys. TreesAlike (calls_of ts) ys) (sym (no_call u us e)) (super_calls_alike ts us rest)
    super_calls_alike (t ∷ ts) (u ∷ us) (s.SameSuperCalls.next e j x rest) =
        subst₂ TreesAlike (sym (a_call t ts e)) (sym (a_call u us j)) (λ i. super_call_alike t u x i ∷ super_calls_alike ts us rest i)

    body_alike : (t u : Tree) → is_absent t ≡ is_absent u → SameSuperCalls r c d f g (parts (BlockStmt-stmts t))
        (parts (BlockStmt-stmts u)) →
        TreeAlike r ok (constructor_body t) (constructor_body u)
    body_alike t u e x =
        tree_if (is_absent t) (is_absent u) Absent (new_block (calls_of (parts (BlockStmt-stmts t)))) Absent
        (new_block (calls_of (parts (BlockStmt-stmts u)))) e
        (nothing_alike r ok) (plain_block _ _ (super_calls_alike _ _ x))

    -- ---- parameter properties

    named : (t : Tree) → kind_of (param_target t) ≡ kinds.BindingIdent → takes_apart t ≡ false
    named t e = ap (λ k. if k is kinds.BindingIdent then false else true) e

    all_named : (ts us : List Tree) → Each (SameParamProperty r c d f g) ts us → (patterns_among ts ≡ []) × (patterns_among us ≡ [])
    all_named [] [] e = (refl, refl)
    all_named (t ∷ ts) (u ∷ us) e =
        let rest = all_named ts us e.1 in (rw (named t e.0.names.left) rest.0, rw (named u e.0.names.right) rest.1)
    all_named [] (u ∷ us) e = absurd e
    all_named (t ∷ ts) [] e = absurd e

    name_alike : (t u : Tree) → SameTree r t u → TreeAlike r ok (ident_name (Ident-span t) (Ident-sym t))
        (ident_name (Ident-span u) (Ident-sym u))
    name_alike t u e = image_alike r ok (λ id. ident_name (Ident-span id) (Ident-sym id))
        (λ m keeps t. simp (node_moved, range_moved, text_moved, part_moved, range_of_moved m keeps, text_of_moved)) t u (tree_to r ok e)

    optional_alike : (t u : Tree) → SameTree r t u → Ident-optional t ≡ Ident-optional u
    optional_alike t u e = same_read r ok Ident-optional (λ m keeps t. simp (part_moved, flag_of_moved)) t u (tree_to r ok e)

    param_head_alike : (t u : Tree) → SameParamProperty r c d f g t u → HeadAlike r ok (param_property_head t) (param_property_head u)
    param_head_alike t u h = record {
      span = range_to r ok _ _ h.span;
      key = name_alike _ _ h.ident;
      is_static = refl;
      accessibility = tree_if _ _ Absent (TsParamProp-accessibility t) Absent (TsParamProp-accessibility u)
          (word_alike words.Public _ _ (tree_to r ok h.accessibility)) (nothing_alike r ok) (tree_to r ok h.accessibility);
      is_abstract = refl;
      is_optional = ap₂ ◌&&◌ h.is_default (optional_alike _ _ h.ident);
      readonly = h.readonly;
    }

    -- the type of a parameter property, which may have none
    abbrev param_type : SyntaxContext → Tree → Tree
    param_type unresolved p = unwrap_or (type_of unresolved (param_typing p)) Absent

    param_type_alike : (t u : Tree) → SameTyping r c d (param_typing t) (param_typing u) →
        TreeAlike r ok (param_type c.unresolved t) (param_type d.unresolved u)
    param_type_alike t u (v.SameTyping.given types) =
        subst₂ (λ x y. TreeAlike r ok (unwrap_or x Absent) (unwrap_or y Absent)) (sym types.left_is) (sym types.right_is)
        (tree_to r ok types.types)
    param_type_alike t u (v.SameTyping.not_given none) =
        subst₂ (λ x y. TreeAlike r ok (unwrap_or x Absent) (unwrap_or y Absent)) (sym none.left) (sym none.right) (nothing_alike r ok)

    param_property_alike : (t u : Tree) → SameParamProperty r c d f g t u →
        TreeAlike r ok (param_property c.unresolved t) (param_property d.unresolved u)
    param_property_alike t u h =
        declared_alike r ok (param_property_head t) (param_property_head u) (param_type c.unresolved t) (param_type d.unresolved u)
        (param_head_alike t u h) (param_type_alike t u h.type)

    properties_alike : (ts us : List Tree) → Each (SameParamProperty r c d f g) ts us →
        AllAlike r ok (map written (map (param_property c.unresolved) ts)) (map written (map (param_property d.unresolved) us))
    properties_alike [] [] e = refl
    properties_alike (t ∷ ts) (u ∷ us) e = λ i. written (param_property_alike t u e.0 i) ∷ properties_alike ts us e.1 i
    properties_alike [] (u ∷ us) e = absurd e
    properties_alike (t ∷ ts) [] e = absurd e

    -- ---- constructors

    abbrev constructor_parts : Tree → List Seen → List Seen
    constructor_parts m params =
        range (Constructor-span m) ∷ scope (Constructor-ctxt m) ∷ written (Constructor-key m) ∷ listed (seens params) ∷
        written (constructor_body (Constructor-body m)) ∷ written (Constructor-accessibility m) ∷ flag (Constructor-is_optional m) ∷ []

    constructor_alike : (t u : Tree) (xs ys : List Seen) → SameConstructorHead r c d f g t u →
        SameSuperCalls r c d f g (parts (BlockStmt-stmts (Constructor-body t))) (parts (BlockStmt-stmts (Constructor-body u))) →
        AllAlike r ok xs ys → Alike r ok (constructor_of t xs) (constructor_of u ys)
    constructor_alike t u xs ys h x ps = round_alike r ok kinds.Constructor (constructor_parts t xs) (constructor_parts u ys) (λ i.
        range_alike r ok _ _ h.span i ∷ scope_alike r ok _ _ h.ctxt i ∷ same_written r ok h.key i ∷ listed_alike r ok xs ys ps i ∷
        written_alike r ok _ _ (body_alike _ _ h.has_body x) i ∷ same_written r ok h.accessibility i ∷ flag_alike r ok _ _ h.is_optional i ∷
        [])

    -- parameters of constructors that are not private, by whether they are implementations behind overloads
    params_if : (a b : Bool) (t u : Tree) → SameConstructorHead r c d f g t u → f (Constructor-span t) ≡ a → g (Constructor-span u) ≡ b →
        a ≡ b →
        (a ≡ true → AllAlike r ok (any_params_from 0 (plain_params r c d f g t)) (any_params_from 0 (plain_params r c d f g u))) →
        (a ≡ false → AllAlike r ok (plain_params_seen c f (plain_params r c d f g t)) (plain_params_seen d g (plain_params r c d f g u))) →
        AllAlike r ok (constructor_params_seen c f t) (constructor_params_seen d g u)
    params_if a b t u h e j q x y =
        lists_if _ _ [] _ [] _ (private_alike r ok _ _ h.accessibility) (λ p. refl) (λ p.
        lists_if (f (Constructor-span t)) (g (Constructor-span u)) _ _ _ _ (e ∙ (q ∙ sym j)) (λ k. x (sym e ∙ k)) (λ k. y (sym e ∙ k)))

    module _ (pair : SameBindings r c d) where
      constructed : (t u : Tree) → SameConstructorHead r c d f g t u → SameConstructed r c d f g t u →
          AllAlike r ok (constructor_params_seen c f t) (constructor_params_seen d g u) →
          Alike r ok (constructor_seen c f t) (constructor_seen d g u)
      constructed t u h x ps =
          let named' = all_named (param_properties t) (param_properties u) x.properties in
          let whole = constructor_of t (constructor_params_seen c f t) in
          let whole' = constructor_of u (constructor_params_seen d g u) in
          subst₂ (λ xs ys. Alike r ok (unless_taken_apart xs whole) (unless_taken_apart ys whole')) (sym named'.0) (sym named'.1)
          (constructor_alike t u (constructor_params_seen c f t) (constructor_params_seen d g u) h x.super_calls ps)

      pub constructor_seen_alike : (t u : Tree) → SameConstructorHead r c d f g t u → SameConstructor r c d f g t u →
          Alike r ok (constructor_seen c f t) (constructor_seen d g u)
      constructor_seen_alike t u h (s.SameConstructor.any x p) = constructed t u h x
          (lists_if _ _ [] _ [] _ (private_alike r ok _ _ h.accessibility) (λ q. refl) (λ q. cc))
      constructor_seen_alike t u h (s.SameConstructor.plain x e j ps) = constructed t u h x
          (params_if false false t u h e j refl (λ q. cc) (λ q. params_alike r ok c d pair ps))
      constructor_seen_alike t u h (s.SameConstructor.implementation x e j ps) = constructed t u h x
          (params_if true true t u h e j refl (λ q. any_params_alike r ok c d 0 _ _ ps) (λ q. cc))
      constructor_seen_alike t u h (s.SameConstructor.destructured p q ps qs e j x) =
          let whole = constructor_of t (constructor_params_seen c f t) in
          let whole' = constructor_of u (constructor_params_seen d g u) in
          subst₂ (λ xs ys. Alike r ok (unless_taken_apart xs whole) (unless_taken_apart ys whole')) (sym e) (sym j)
          (faulty_alike r ok UnsupportedDestructuring _ _ (range_to r ok _ _ x))

      -- the properties that constructors declare
      abbrev DeclaredAlike : Tree → Tree → Type 0
      DeclaredAlike t u = AllAlike r ok (map written (declared_by_params c.unresolved t)) (map written (declared_by_params d.unresolved u))

      of_constructors : (t u : Tree) → Both kinds.Constructor t u →
          AllAlike r ok
          (map written (unless_any (patterns_among (param_properties t)) (map (param_property c.unresolved) (param_properties t))))
          (map written (unless_any (patterns_among (param_properties u)) (map (param_property d.unresolved) (param_properties u)))) →
          DeclaredAlike t u
      of_constructors t u b e =
          let made = unless_any (patterns_among (param_properties t)) (map (param_property c.unresolved) (param_properties t)) in
          let made' = unless_any (patterns_among (param_properties u)) (map (param_property d.unresolved) (param_properties u)) in
          subst₂ (λ k j. AllAlike r ok (map written (if k is kinds.Constructor then made else []))
          (map written (if j is kinds.Constructor then made' else [])))
          (sym b.left) (sym b.right) e

      declares_named : (t u : Tree) → Both kinds.Constructor t u → SameConstructed r c d f g t u → DeclaredAlike t u
      declares_named t u b x =
          let named' = all_named (param_properties t) (param_properties u) x.properties in
          of_constructors t u b
          (subst₂ (λ xs ys. AllAlike r ok (map written (unless_any xs (map (param_property c.unresolved) (param_properties t))))
          (map written (unless_any ys (map (param_property d.unresolved) (param_properties u))))) (sym named'.0) (sym named'.1)
          (properties_alike (param_properties t) (param_properties u) x.properties))

      declares : (t u : Tree) → Both kinds.Constructor t u → SameConstructor r c d f g t u → DeclaredAlike t u
      declares t u b (s.SameConstructor.any x p) = declares_named t u b x
      declares t u b (s.SameConstructor.plain x e j ps) = declares_named t u b x
      declares t u b (s.SameConstructor.implementation x e j ps) = declares_named t u b x
      declares t u b (s.SameConstructor.destructured p q ps qs e j x) =
          of_constructors t u b
          (subst₂ (λ xs ys. AllAlike r ok (map written (unless_any xs (map (param_property c.unresolved) (param_properties t))))
          (map written (unless_any ys (map (param_property d.unresolved) (param_properties u))))) (sym e) (sym j) refl)

      declares_none : (k : Kind) (t u : Tree) → Both k t u → k is kinds.Constructor ≡ false → DeclaredAlike t u
      declares_none k t u b n = subst₂ (AllAlike r ok) (sym (none c.unresolved t b.left)) (sym (none d.unresolved u b.right)) refl
        where
          none : (unresolved : SyntaxContext) (m : Tree) → kind_of m ≡ k → map written (declared_by_params unresolved m) ≡ []
          none unresolved m e = ap (λ b. map written (if b then
              unless_any (patterns_among (param_properties m)) (map (param_property unresolved) (param_properties m)) else []))
              (ap (λ x. x is kinds.Constructor) e ∙ n)

      -- ---- methods

      kind_alike' : (t u : Tree) → SameTree r t u → method_kind t ≡ method_kind u
      kind_alike' t u e =
          ap₂ (λ x y. if x then Setter else (if y then Getter else DeclarationLike)) (word_alike words.Setter t u (tree_to r ok e))
          (word_alike words.Getter t u (tree_to r ok e))

      abbrev here : Bindings → Tree → FunctionKind → Seen
      here bindings m kind = function_seen bindings (expr_seen bindings) kind (range_of_node (ClassMethod-key m)) (ClassMethod-function m)

      abbrev signed_if : Bindings → Tree → Bool → Seen
      signed_if bindings m b = if b then implementation_seen (ClassMethod-function m) else here bindings m
          (method_kind (ClassMethod-kind m))

      method_function_alike : (t u : Tree) → SameTree r (ClassMethod-key t) (ClassMethod-key u) →
          SameTree r (ClassMethod-kind t) (ClassMethod-kind u) →
          SameMethod r c d f g t u → Alike r ok (method_function_seen c f t) (method_function_seen d g u)
      method_function_alike t u k w (s.SameMethod.function e j x) =
          let kind = method_kind (ClassMethod-kind t) in
          subst₂ (λ a b. Alike r ok (signed_if c t a) (signed_if d u b)) (sym e) (sym j)
          (subst (λ z. Alike r ok (here c t kind) (here d u z)) (kind_alike' _ _ w)
          (function_alike r ok c d pair x kind _ _ (place_alike r ok _ _ k)))
      method_function_alike t u k w (s.SameMethod.setter e j q h n ps) =
          let kind = method_kind (ClassMethod-kind t) in
          let setter = ap (λ b. if b then Setter else (if has_word words.Getter (ClassMethod-kind t) then Getter else DeclarationLike)) q in
          subst₂ (λ a b. Alike r ok (signed_if c t a) (signed_if d u b)) (sym e) (sym j)
          (subst (λ z. Alike r ok (here c t kind) (here d u z)) (kind_alike' _ _ w)
          (subst (λ z. Alike r ok (here c t z) (here d u z)) (sym setter)
          (signature_of_alike r ok c d pair.unresolved Setter _ _ _ _ _ _ (place_alike r ok _ _ k) h n (λ a no. absurd (true≢false no))
          (params_alike r ok c d pair ps))))
      method_function_alike t u k w (s.SameMethod.implementation e j x) =
          subst₂ (λ a b. Alike r ok (signed_if c t a) (signed_if d u b)) (sym e) (sym j) (implementation_alike r ok c d _ _ x)

      abbrev method_parts : Tree → Seen → List Seen
      method_parts m signature =
          range (ClassMethod-span m) ∷ written (ClassMethod-key m) ∷ signature ∷ written (ClassMethod-kind m) ∷
          flag (ClassMethod-is_static m) ∷
          written (ClassMethod-accessibility m) ∷ flag (ClassMethod-is_abstract m) ∷ flag (ClassMethod-is_optional m) ∷
          flag (ClassMethod-is_override m) ∷ []

      -- ---- members

      pub member_alike : (t u : Tree) → SameMember r c d f g t u → Alike r ok (member_seen c f t) (member_seen d g u)
      member_alike t u (s.SameMember.constructor h x) =
          subst₂ (λ k j. Alike r ok (member_of_kind c f k t) (member_of_kind d g j u)) (sym h.kinds.left) (sym h.kinds.right)
          (constructor_seen_alike t u h x)
      member_alike t u (s.SameMember.private_method b h p) =
          subst₂ (λ k j. Alike r ok (member_of_kind c f k t) (member_of_kind d g j u)) (sym b.left) (sym b.right)
          (by_privacy r ok c d f g (private_method_head t) (private_method_head u) _ _ h (λ n. cc))
      member_alike t u (s.SameMember.method b h x) =
          subst₂ (λ k j. Alike r ok (member_of_kind c f k t) (member_of_kind d g j u)) (sym b.left) (sym b.right)
          (by_privacy r ok c d f g (private_method_head t) (private_method_head u) _ _ h (λ n.
          round_alike r ok kinds.ClassMethod (method_parts t (method_function_seen c f t)) (method_parts u (method_function_seen d g u))
          (λ i.
          range_alike r ok _ _ h.span i ∷ same_written r ok h.key i ∷ method_function_alike t u h.key x.kind x.function i ∷
          same_written r ok x.kind i ∷
          flag_alike r ok _ _ h.is_static i ∷ same_written r ok h.accessibility i ∷ flag_alike r ok _ _ h.is_abstract i ∷
          flag_alike r ok _ _ h.is_optional i ∷ flag_alike r ok _ _ x.is_override i ∷ [])))
      member_alike t u (s.SameMember.property b h x) =
          subst₂ (λ k j. Alike r ok (member_of_kind c f k t) (member_of_kind d g j u)) (sym b.left) (sym b.right)
          (property_alike r ok c d f g pair t u h x)
      member_alike t u (s.SameMember.accessor b h x) =
          subst₂ (λ k j. Alike r ok (member_of_kind c f k t) (member_of_kind d g j u)) (sym b.left) (sym b.right)
          (accessor_alike r ok c d f g pair t u h x)
      member_alike t u (s.SameMember.index_signature b x) =
          subst₂ (λ k j. Alike r ok (member_of_kind c f k t) (member_of_kind d g j u)) (sym b.left) (sym b.right) (same_written r ok x)

      declared_by_alike : (t u : Tree) → SameMember r c d f g t u → DeclaredAlike t u
      declared_by_alike t u (s.SameMember.constructor h x) = declares t u h.kinds x
      declared_by_alike t u (s.SameMember.private_method b h p) = declares_none _ t u b refl
      declared_by_alike t u (s.SameMember.method b h x) = declares_none _ t u b refl
      declared_by_alike t u (s.SameMember.property b h x) = declares_none _ t u b refl
      declared_by_alike t u (s.SameMember.accessor b h x) = declares_none _ t u b refl
      declared_by_alike t u (s.SameMember.index_signature b x) = declares_none _ t u b refl

      -- what is seen of members that stay, and what they declare
      record KeptAlike (ts us : List Tree) : Type 0 where
        seen : AllAlike r ok (map (member_seen c f) ts) (map (member_seen d g) us)
        declared : AllAlike r ok (map written (flat_map (declared_by_params c.unresolved) ts))
            (map written (flat_map (declared_by_params d.unresolved) us))

      abbrev kept_behind : List Tree → List Tree → List Tree
      kept_behind earlier ms = each_behind if_kept earlier ms

      next_kept : (a b : Bool) (t u : Tree) (ts us : List Tree) → a ≡ b → SameMember r c d f g t u → KeptAlike ts us →
          KeptAlike ((if a then t ∷ [] else []) ++ ts) ((if b then u ∷ [] else []) ++ us)
      next_kept false false t u ts us e x rest = rest
      next_kept true true t u ts us e x rest = record {
        seen = λ i. member_alike t u x i ∷ rest.seen i;
        declared =
            subst₂ (AllAlike r ok)
            (sym (map-append written (declared_by_params c.unresolved t) (flat_map (declared_by_params c.unresolved) ts)))
            (sym (map-append written (declared_by_params d.unresolved u) (flat_map (declared_by_params d.unresolved) us)))
            (append_alike r ok _ _ _ _ (declared_by_alike t u x) rest.declared);
      }
      next_kept true false t u ts us e x rest = cc
      next_kept false true t u ts us e x rest = cc

      members_alike : (earlier earlier' ts us : List Tree) → SameTaken earlier earlier' → SameMembers r c d f g earlier earlier' ts us →
          KeptAlike (kept_behind earlier ts) (kept_behind earlier' us)
      members_alike earlier earlier' [] [] e s.SameMembers.end = record { seen = refl; declared = refl }
      members_alike earlier earlier' (t ∷ ts) us e (s.SameMembers.left q n rest) =
          subst (λ xs. KeptAlike (xs ++ kept_behind (t ∷ earlier) ts) (kept_behind earlier' us))
          (sym (ap (λ b. if b then t ∷ [] else []) (silent earlier t q).goes))
          (members_alike (t ∷ earlier) earlier' ts us (taken_left earlier earlier' t q e) rest)
      members_alike earlier earlier' ts (u ∷ us) e (s.SameMembers.right q n rest) =
          subst (λ xs. KeptAlike (kept_behind earlier ts) (xs ++ kept_behind (u ∷ earlier') us))
          (sym (ap (λ b. if b then u ∷ [] else []) (silent earlier' u q).goes))
          (members_alike earlier (u ∷ earlier') ts us (taken_right earlier earlier' u q e) rest)
      members_alike earlier earlier' (t ∷ ts) (u ∷ us) e (s.SameMembers.next x rest) =
          let same = stays_alike r ok c d f g t u x in
          next_kept (stays_behind earlier t) (stays_behind earlier' u) t u _ _ (same.stays earlier earlier' e) x
          (members_alike (t ∷ earlier) (u ∷ earlier') ts us (taken_next r ok earlier earlier' t u same e) rest)

      -- ---- classes

      mark_alike : (a b : Bool) → a ≡ b → AllAlike r ok (map written (if a then hash_private ∷ [] else []))
          (map written (if b then hash_private ∷ [] else []))
      mark_alike true true e =
          ap (λ x. x ∷ []) (written_alike r ok hash_private hash_private (new_alike r ok hash_private hash_private_moved))
      mark_alike false false e = refl
      mark_alike true false e = cc
      mark_alike false true e = cc

      all_members_alike : (ts us : List Tree) → list_any is_hash_named ts ≡ list_any is_hash_named us → SameMembers r c d f g [] [] ts us →
          AllAlike r ok (members_seen c f ts) (members_seen d g us)
      all_members_alike ts us h x =
          let kept = members_alike [] [] ts us (record { names = λ name. refl; implementations = refl }) x in
          append_alike r ok _ _ _ _
          (subst₂ (AllAlike r ok) (sym (map-append written (hash_mark ts) (flat_map (declared_by_params c.unresolved) (kept_behind [] ts))))
          (sym (map-append written (hash_mark us) (flat_map (declared_by_params d.unresolved) (kept_behind [] us))))
          (append_alike r ok _ _ _ _ (mark_alike _ _ h) kept.declared)) kept.seen

      class_head_alike : (t u : Tree) → SameClassHead r c d f g t u →
          moved_class (partners r) (class_head t) ≡ moved_class twice (class_head u)
      class_head_alike t u h = λ i. record {
        span = range_to r ok _ _ h.span i;
        ctxt = scope_to r ok _ _ h.ctxt i;
        is_abstract = h.is_abstract i;
        type_params = tree_to r ok h.type_params i;
        super_type_params = tree_to r ok h.super_type_params i;
        implements = tree_to r ok h.implements i;
      }

      superclass_of : (t u : Tree) → SameSuperclass r c d f g t u → Alike r ok (superclass_seen t) (superclass_seen u)
      superclass_of t u (s.SameSuperclass.same e) = superclass_alike t u e
      superclass_of t u (s.SameSuperclass.refused a e j x) =
          subst₂ (Alike r ok) (sym (not_reference t a.0 e)) (sym (not_reference u a.1 j))
          (faulty_alike r ok UnsupportedSuperClassExpr _ _ (range_to r ok _ _ x))

      pub class_alike : (t u : Tree) → SameClass r c d f g t u → Alike r ok (plain_class_seen c f t) (plain_class_seen d g u)
      class_alike t u h =
          λ i. class (class_head_alike t u h.head i) (superclass_of _ _ h.superclass i)
          (seens_alike r ok _ _ (all_members_alike _ _ h.hash_named h.members) i)

    -- ---- ambient classes

    ambient_if : (a b : Bool) (t : Tree) (ts : List Tree) → is_private_computed t ≡ a → ambient_members (t ∷ ts) ≡
        (if a then ambient_members ts else t ∷ ambient_members ts)
    ambient_if true b t ts e = rw e refl
    ambient_if false b t ts e = rw e refl

    computed_same : (t u : Tree) → SameTree r t u → is_private_computed t ≡ is_private_computed u
    computed_same t u e = same_read r ok is_private_computed (λ m keeps t. private_computed_moved m t) t u (tree_to r ok e)

    ambient_next : (a b : Bool) (t u : Tree) (ts us : List Tree) → a ≡ b → TreeAlike r ok t u → TreesAlike ts us →
        TreesAlike (if a then ts else t ∷ ts) (if b then us else u ∷ us)
    ambient_next true true t u ts us e x xs = xs
    ambient_next false false t u ts us e x xs = λ i. x i ∷ xs i
    ambient_next true false t u ts us e x xs = cc
    ambient_next false true t u ts us e x xs = cc

    ambient_alike : (ts us : List Tree) → SameAmbientMembers r c d f g ts us → TreesAlike (ambient_members ts) (ambient_members us)
    ambient_alike [] [] s.SameAmbientMembers.end = refl
    ambient_alike (t ∷ ts) us (s.SameAmbientMembers.left e rest) =
        subst (λ xs. TreesAlike xs (ambient_members us)) (sym (ambient_if true true t ts e)) (ambient_alike ts us rest)
    ambient_alike ts (u ∷ us) (s.SameAmbientMembers.right e rest) =
        subst (λ xs. TreesAlike (ambient_members ts) xs) (sym (ambient_if true true u us e)) (ambient_alike ts us rest)
    ambient_alike (t ∷ ts) (u ∷ us) (s.SameAmbientMembers.next e rest) =
        subst₂ TreesAlike (sym (ambient_if (is_private_computed t) true t ts refl))
        (sym (ambient_if (is_private_computed u) true u us refl))
        (ambient_next _ _ t u _ _ (computed_same t u e) (tree_to r ok e) (ambient_alike ts us rest))

    pub ambient_class_alike : (t u : Tree) → SameAmbientClass r c d f g t u → TreeAlike r ok (ambient_class t) (ambient_class u)
    ambient_class_alike t u h = node_alike r ok kinds.Class _ _ (λ i.
        range_leaf_alike r ok _ _ (range_to r ok _ _ h.head.span) i ∷ scope_leaf_alike r ok _ _ h.head.ctxt i ∷
        tree_to r ok h.decorators i ∷
        node_alike r ok kinds.List _ _ (ambient_alike _ _ h.members) i ∷ tree_to r ok h.superclass i ∷
        flag_leaf_alike r ok _ _ h.head.is_abstract i ∷ tree_to r ok h.head.type_params i ∷ tree_to r ok h.head.super_type_params i ∷
        tree_to r ok h.head.implements i ∷ [])
