-- Two modules at the positions that a parser gives agree: what differs is hidden, and the renaming pairs all other places.
use Rattle.std.specs.Prelude.{◌≡◌, ℕ, ◌+◌, ◌<◌, Bool, true, false, eqb, ltb, ◌&&◌, Option, Some, List, [], ◌∷◌, refl, ◌↔◌, codes, if◌then◌else◌}
use Rattle.std.specs.List.{list_any}
use Rattle.std.proofs.Common.{inl, inr, arith, ap, ◌∙◌, sym, subst, subst₂, eqb-true, ltb-true, true≢false}
use Rattle.fast_check_tree_syntax.specs.declared.kind.Kind.TheVariants as kinds
use Rattle.fast_check_tree_syntax.specs.declared.kind.Word.TheVariants as words
use Rattle.fast_check_tree_syntax.specs.declared.source.SourceRange.{SourceRange}
use Rattle.fast_check_tree_syntax.specs.declared.source.SyntaxContext.{SyntaxContext}
use Rattle.fast_check_tree_syntax.specs.declared.tree.Tree as tree
use Rattle.fast_check_tree_syntax.specs.declared.tree.Tree.{Tree, Absent}
use Rattle.fast_check_tree_syntax.specs.Shape.{list, parts, has_word}
use Rattle.fast_check_tree_syntax.specs.Moves.{Pairs, IsPair, OneToOne, IsRenaming, moved, partners, twice}
use Rattle.fast_check_tree_syntax.specs.Same.{SameTree, SameRange}
use Rattle.fast_check_tree_syntax.proofs.Made.{kind_of_node, parts_node, part_node, is_absent_node, flag_of_flag, range_of_range}
use Rattle.fast_check_tree_syntax.proofs.Moved.{node_moved, absent_moved, range_moved, context_moved, text_moved, flag_moved, word_moved}
use Rattle.fast_check_tree_syntax.proofs.Same.{tree_from}
use Rattle.fast_check_tree_forms_classes.specs.Classes.{Class-body, class}
use Rattle.fast_check_tree_forms_classes.specs.Functions.{Function-params}
use Rattle.fast_check_tree_forms_expressions.specs.Operators.{AssignExpr-span, AssignExpr-right}
use Rattle.fast_check_tree_forms_expressions.specs.Patterns.{AssignPat-right}
use Rattle.fast_check_tree_forms_programs.specs.Literals.{number}
use Rattle.fast_check_tree_forms_programs.specs.Names.{binding_ident}
use Rattle.fast_check_tree_helpers.specs.ranges.Ranges.{range_of_node}
use Rattle.fast_check_tree_helpers.specs.declared.literal_type.DeclMutabilityKind.TheVariants.{Mutable}
use Rattle.fast_check_tree_helpers.specs.Builders as builders
use Rattle.fast_check_tree_helpers.specs.InferredType.{inferred_type}
use Rattle.fast_check_tree_helpers.proofs.InferredTypes.{inferred_out}
use Rattle.fast_check_tree_forms_statements.specs.Statements.{ExprStmt-expr, block_stmt}
use Rattle.fast_check_tables_modules.specs.Expandos.{is_expando_assignment}
use Rattle.fast_check_tables_modules.specs.diagnostics.PublicRanges.{is_public}
use Rattle.fast_check_meaning_signatures.proofs.Choices.{both_true}
use Rattle.fast_check_meaning_expandos.specs.Objects.{Objects}
use Rattle.fast_check_meaning_skeleton.specs.signatures.Bindings.{Bindings}
use Rattle.fast_check_meaning_skeleton.specs.signatures.Classes.{private_method_head}
use Rattle.fast_check_meaning_skeleton.specs.signatures.Expressions.{is_refused}
use Rattle.fast_check_meaning_skeleton.specs.signatures.Members.{is_hash_named}
use Rattle.fast_check_meaning_skeleton.specs.signatures.NewNodes.{no_scope, ident_name}
use Rattle.fast_check_meaning_skeleton.specs.SameClasses.{SamePropertyHead, SameMembers, SameClass}
use Rattle.fast_check_meaning_skeleton.specs.SameClasses as s
use Rattle.fast_check_meaning_skeleton.specs.SameValues.{SameExpr, SameFunctionHead, SameReturn, SameFunction, SameParams, SamePat}
use Rattle.fast_check_meaning_skeleton.specs.SameValues as v
use Rattle.fast_check_meaning_skeleton.specs.ModuleFacts.{ModuleFacts}
use Rattle.fast_check_meaning_skeleton.specs.Hidden.{AgreeHidden, SameItem, SameItems}
use Rattle.fast_check_meaning_skeleton.specs.Hidden as h
use Rattle.fast_check_meaning_skeleton.specs.SameAssignments.{SameAssignment}
use Rattle.fast_check_meaning_skeleton.specs.SameAssignments as forms
use Rattle.fast_check_meaning_skeleton.specs.Visible.{items_of}
use Rattle.fast_check_meaning_skeleton.specs.Example.{at}
use Rattle.fast_check_meaning_skeleton.specs.signatures.Parameters.{default_typing}
use Rattle.fast_check_meaning_skeleton.proofs.GivenTypes.{given_written, given_shown}
use Rattle.fast_check_meaning_skeleton.proofs.TypedFunctions.{absent as nothing_there}
use Rattle.fast_check_meaning_skeleton.proofs.ClassExample.{word_read}
use Rattle.fast_check_meaning_skeleton.proofs.Example.{context_of_context as context_read}
use Rattle.fast_check_meaning_skeleton.proofs.ModuleExample.{text_of_text}
use Rattle.fast_check_transform_pair.specs.ParsedExample.{letter, letter_pat, number_at, typed_number, typed_numbers, typed_void}
use Rattle.fast_check_transform_pair.specs.ParsedExample.{pattern, typed_default, shown_default, parameter, void_function, method}
use Rattle.fast_check_transform_pair.specs.ParsedExample.{assignment, assigned, first_params, second_params, first_function, second_function}
use Rattle.fast_check_transform_pair.specs.ParsedExample.{first_value, second_value, first_class, second_class, first_call, second_call}
use Rattle.fast_check_transform_pair.specs.ParsedExample.{first, second, first_public, second_public, renaming}
use Rattle.fast_check_transform_pair.specs.Examples.{exactly}
use Rattle.fast_check_transform_pair.proofs.ExampleItems.{facts}

-- ---- pairs that rise on both sides are one to one

abbrev rises : ℕ → ℕ → Pairs → Bool
rises a x [] = true
rises a x (p ∷ ps) = ltb a p.0 && (ltb x p.1 && rises p.0 p.1 ps)

record Rises (a x : ℕ) (p : ℕ × ℕ) (ps : Pairs) : Type 0 where
  left : a < p.0
  right : x < p.1
  rest : rises p.0 p.1 ps ≡ true

rising : (a x : ℕ) (p : ℕ × ℕ) (ps : Pairs) → rises a x (p ∷ ps) ≡ true → Rises a x p ps
rising a x p ps e =
    let outer = both_true (ltb a p.0) (ltb x p.1 && rises p.0 p.1 ps) e in
    let inner = both_true (ltb x p.1) (rises p.0 p.1 ps) outer.1 in
    record { left = ltb-true a p.0 outer.0; right = ltb-true x p.1 inner.0; rest = inner.1 }

beyond : (a x : ℕ) (ps : Pairs) → rises a x ps ≡ true → (b y : ℕ) → IsPair ps b y → (a < b) × (x < y)
beyond a x [] e b y q = absurd q
beyond a x (p ∷ ps) e b y (inl q) = let r = rising a x p ps e in (subst (λ n. a < n) q.0 r.left, subst (λ n. x < n) q.1 r.right)
beyond a x (p ∷ ps) e b y (inr q) =
    let r = rising a x p ps e in
    let later = beyond p.0 p.1 ps r.rest b y q in
    (omega (arith, r.left, later.0), omega (arith, r.right, later.1))

later_same : (a x : ℕ) (ps : Pairs) → rises a x ps ≡ true → (b c y z : ℕ) → IsPair ps b y → IsPair ps c z → (b ≡ c) ↔ (y ≡ z)
later_same a x [] e b c y z q w = absurd q
later_same a x (p ∷ ps) e b c y z (inl q) (inl w) = (λ i. sym q.1 ∙ w.1, λ i. sym q.0 ∙ w.0)
later_same a x (p ∷ ps) e b c y z (inl q) (inr w) =
    let later = beyond p.0 p.1 ps (rising a x p ps e).rest c z w in
    (λ i. absurd (omega (arith, i, q.0, later.0)), λ i. absurd (omega (arith, i, q.1, later.1)))
later_same a x (p ∷ ps) e b c y z (inr q) (inl w) =
    let later = beyond p.0 p.1 ps (rising a x p ps e).rest b y q in
    (λ i. absurd (omega (arith, i, w.0, later.0)), λ i. absurd (omega (arith, i, w.1, later.1)))
later_same a x (p ∷ ps) e b c y z (inr q) (inr w) = later_same p.0 p.1 ps (rising a x p ps e).rest b c y z q w

zero_first : (ps : Pairs) → rises 0 0 ps ≡ true → OneToOne ((0, 0) ∷ ps)
zero_first ps e = record { zero = inl (refl, refl); same = all }
  where
    all : (b c y z : ℕ) → IsPair ((0, 0) ∷ ps) b y → IsPair ((0, 0) ∷ ps) c z → (b ≡ c) ↔ (y ≡ z)
    all b c y z (inl q) (inl w) = (λ i. sym q.1 ∙ w.1, λ i. sym q.0 ∙ w.0)
    all b c y z (inl q) (inr w) =
        let later = beyond 0 0 ps e c z w in
        (λ i. absurd (omega (arith, i, q.0, later.0)), λ i. absurd (omega (arith, i, q.1, later.1)))
    all b c y z (inr q) (inl w) =
        let later = beyond 0 0 ps e b y q in
        (λ i. absurd (omega (arith, i, w.0, later.0)), λ i. absurd (omega (arith, i, w.1, later.1)))
    all b c y z (inr q) (inr w) = later_same 0 0 ps e b c y z q w

pub is_renaming : IsRenaming renaming
is_renaming = record { starts = zero_first _ refl; ends = zero_first _ refl; scopes = zero_first [] refl }

-- ---- whether two places are paired is computed

abbrev is_paired : Pairs → ℕ → ℕ → Bool
is_paired [] a b = false
is_paired (p ∷ ps) a b = if eqb p.0 a then eqb p.1 b else is_paired ps a b

paired_at : (p : ℕ × ℕ) (ps : Pairs) (a b : ℕ) (t : Bool) → eqb p.0 a ≡ t → (if t then eqb p.1 b else is_paired ps a b) ≡ true →
    (is_paired ps a b ≡ true → IsPair ps a b) → IsPair (p ∷ ps) a b
paired_at p ps a b true e f go = inl (eqb-true p.0 a e, eqb-true p.1 b f)
paired_at p ps a b false e f go = inr (go f)

paired : (ps : Pairs) (a b : ℕ) → is_paired ps a b ≡ true → IsPair ps a b
paired [] a b e = absurd (true≢false (sym e))
paired (p ∷ ps) a b e = paired_at p ps a b (eqb p.0 a) refl e (paired ps a b)

abbrev Place : SourceRange → SourceRange → Type 0
Place = SameRange renaming

-- both ranges are these, and the renaming pairs them
places : (a b p q : SourceRange) → a ≡ p → b ≡ q → is_paired renaming.starts p.start.0 q.start.0 ≡ true →
    is_paired renaming.ends p.end.0 q.end.0 ≡ true → Place a b
places a b p q e f starts ends = subst₂ Place (sym e) (sym f)
    (record { start = paired renaming.starts p.start.0 q.start.0 starts; end = paired renaming.ends p.end.0 q.end.0 ends })

pair : (p q : SourceRange) → is_paired renaming.starts p.start.0 q.start.0 ≡ true →
    is_paired renaming.ends p.end.0 q.end.0 ≡ true → Place p q
pair p q starts ends = places p q p q refl refl starts ends

abbrev Same : Tree → Tree → Type 0
Same = SameTree renaming

-- both trees are these, and one renamed is the other
trees : (t u x y : Tree) → t ≡ x → u ≡ y → moved (partners renaming) x ≡ moved twice y → Same t u
trees t u x y e f moves = subst₂ Same (sym e) (sym f) (tree_from renaming is_renaming x y moves)

absent : (t u : Tree) → t ≡ Absent → u ≡ Absent → Same t u
absent t u e f = trees t u Absent Absent e f (simp absent_moved)

in_scopes : (a b : SyntaxContext) → a.0 ≡ 0 → b.0 ≡ 0 → IsPair renaming.scopes a.0 b.0
in_scopes a b e f = inl (sym e, sym f)

-- ---- the function

module _ (c d : Bindings) where
  abbrev Pats : Tree → Tree → Type 0
  Pats = SamePat renaming c d

  patterns : (es ds : List Tree) → Pats (pattern 12 15 es) (pattern 12 14 ds)
  patterns es ds = v.SamePat.emptied (v.SameEmptied.array (record { left = kind_of_node _ _; right = kind_of_node _ _ })
      (places _ _ (at 12 25) (at 12 24) (simp (part_node, range_of_range)) (simp (part_node, range_of_range)) refl refl)
      (simp (part_node, flag_of_flag))
      (trees _ _ (typed_numbers 15) (typed_numbers 14) (part_node _ _ _) (part_node _ _ _) (simp (node_moved, range_moved, word_moved))))

  abbrev typed_n : ℕ → Tree
  typed_n start = binding_ident (letter (codes "n") start) (typed_number (start + 1))

  typed_defaults : (x y : List ℕ) → Pats (typed_default 27 40 x) (typed_default 26 40 y)
  typed_defaults x y = v.SamePat.given_default (record { left = kind_of_node _ _; right = kind_of_node _ _ })
      (record { left = simp (part_node, kind_of_node); right = simp (part_node, kind_of_node) })
      (trees _ _ (typed_n 27) (typed_n 26) (part_node _ _ _) (part_node _ _ _)
      (simp (node_moved, range_moved, context_moved, text_moved, flag_moved, word_moved)))
      (given_written renaming c d (default_typing (typed_default 27 40 x)) (default_typing (typed_default 26 40 y)) refl refl
      (simp (part_node, is_absent_node)) (simp (part_node, is_absent_node))
      (trees _ _ (typed_number 28) (typed_number 27) (simp part_node) (simp part_node) (simp (node_moved, range_moved, word_moved))))

  abbrev shown_type : Tree
  shown_type = builders.ts_keyword_type words.TsNumberKeyword

  shows : (scope : SyntaxContext) (start end : ℕ) (x : List ℕ) →
      inferred_type Mutable scope (AssignPat-right (shown_default start end x)) ≡ Some shown_type
  shows scope start end x = ap (inferred_type Mutable scope) (part_node _ _ _) ∙ (inferred_out Mutable scope (number _ x) ∙ simp kind_of_node)

  shown_defaults : (x y : List ℕ) → Pats (shown_default 42 47 x) (shown_default 42 48 y)
  shown_defaults x y = v.SamePat.given_default (record { left = kind_of_node _ _; right = kind_of_node _ _ })
      (record { left = simp (part_node, kind_of_node); right = simp (part_node, kind_of_node) })
      (trees _ _ (letter_pat (codes "p") 42) (letter_pat (codes "p") 42) (part_node _ _ _) (part_node _ _ _)
      (simp (node_moved, range_moved, context_moved, text_moved, flag_moved, absent_moved)))
      (given_shown renaming c d (default_typing (shown_default 42 47 x)) (default_typing (shown_default 42 48 y)) is_renaming
      ((refl, refl), (simp part_node nothing_there, simp part_node nothing_there)) (record {
        left = shown_type;
        right = shown_type;
        left_is = shows c.unresolved 42 47 x;
        right_is = shows d.unresolved 42 48 y;
        types = trees _ _ shown_type shown_type refl refl (simp (node_moved, range_moved, word_moved));
      }))

  params : SameParams renaming c d first_params second_params
  params =
      v.SameParams.next_param
      (places _ _ (at 12 25) (at 12 24) (simp (part_node, range_of_range)) (simp (part_node, range_of_range)) refl refl)
      (subst₂ Pats (sym (part_node _ _ _)) (sym (part_node _ _ _)) (patterns _ _))
      (v.SameParams.next_param
      (places _ _ (at 27 40) (at 26 40) (simp (part_node, range_of_range)) (simp (part_node, range_of_range)) refl refl)
      (subst₂ Pats (sym (part_node _ _ _)) (sym (part_node _ _ _)) (typed_defaults _ _))
      (v.SameParams.next_param
      (places _ _ (at 42 47) (at 42 48) (simp (part_node, range_of_range)) (simp (part_node, range_of_range)) refl refl)
      (subst₂ Pats (sym (part_node _ _ _)) (sym (part_node _ _ _)) (shown_defaults _ _)) v.SameParams.no_params))

  -- `(params): void body`, of any bodies
  abbrev left_function : Tree → Tree
  left_function body = void_function (at 1 57) first_params 48 body

  abbrev right_function : Tree → Tree
  right_function body = void_function (at 1 61) second_params 49 body

  function_head : (place place' : SourceRange) (stmts stmts' : Tree) →
      SameFunctionHead renaming c d (left_function (block_stmt place no_scope stmts)) (right_function (block_stmt place' no_scope stmts'))
  function_head place place' stmts stmts' = record {
    span = places _ _ (at 1 57) (at 1 61) (simp (part_node, range_of_range)) (simp (part_node, range_of_range)) refl refl;
    ctxt = in_scopes _ _ (simp (part_node, context_read)) (simp (part_node, context_read));
    type_params = absent _ _ (part_node _ _ _) (part_node _ _ _);
    has_body = simp (part_node, is_absent_node);
  }

  function_return : (body body' : Tree) → SameReturn renaming c d (left_function body) (right_function body')
  function_return body body' = record {
    is_async = simp (part_node, flag_of_flag);
    is_generator = simp (part_node, flag_of_flag);
    return_type = trees _ _ (typed_void 48) (typed_void 49) (part_node _ _ _) (part_node _ _ _)
        (simp (node_moved, range_moved, word_moved));
  }

  functions : (place place' : SourceRange) (stmts stmts' : Tree) →
      SameFunction renaming c d (left_function (block_stmt place no_scope stmts)) (right_function (block_stmt place' no_scope stmts'))
  functions place place' stmts stmts' =
      v.SameFunction.typed_function (function_head place place' stmts stmts') (function_return _ _) (simp (part_node, is_absent_node))
      (subst₂ (SameParams renaming c d) (sym left_made) (sym right_made) params)
    where
      left_made : parts (Function-params (left_function (block_stmt place no_scope stmts))) ≡ first_params
      left_made = simp parts_node

      right_made : parts (Function-params (right_function (block_stmt place' no_scope stmts'))) ≡ second_params
      right_made = simp parts_node

  -- ---- values

  values : SameExpr renaming c d first_value second_value
  values = v.SameExpr.as_type (record { left = kind_of_node _ _; right = kind_of_node _ _ })
      (places _ _ (at 62 73) (at 66 78) (simp (part_node, range_of_range)) (simp (part_node, range_of_range)) refl refl)
      (trees _ _ (number_at 67) (number_at 72) (part_node _ _ _) (part_node _ _ _) (simp (node_moved, range_moved, word_moved)))

  calls : SameExpr renaming c d first_call second_call
  calls = v.SameExpr.refused left right
    where
      left : is_refused c first_call ≡ true
      left = simp (kind_of_node, part_node)

      right : is_refused d second_call ≡ true
      right = simp (kind_of_node, part_node)

  -- ---- the class

  abbrev none : SourceRange → Bool
  none place = false

  abbrev left_method : Tree
  left_method = method 88 [] 99 108

  abbrev right_method : Tree
  right_method = method 90 (parameter 100 101 (letter_pat (codes "a") 100) ∷ []) 102 111

  method_heads : SamePropertyHead renaming c d none none (private_method_head left_method) (private_method_head right_method)
  method_heads = record {
    span = places _ _ (at 88 108) (at 90 111) (simp (part_node, range_of_range)) (simp (part_node, range_of_range)) refl refl;
    key = trees _ _ (ident_name (at 96 97) (codes "m")) (ident_name (at 98 99) (codes "m")) (part_node _ _ _) (part_node _ _ _)
        (simp (node_moved, range_moved, text_moved));
    is_static = simp (part_node, flag_of_flag);
    accessibility = trees _ _ (tree.Word words.Private) (tree.Word words.Private) (part_node _ _ _) (part_node _ _ _) (simp word_moved);
    is_abstract = simp (part_node, flag_of_flag);
    is_optional = simp (part_node, flag_of_flag);
    readonly = refl;
  }

  members : SameMembers renaming c d none none [] [] (left_method ∷ []) (right_method ∷ [])
  members = s.SameMembers.next
      (s.SameMember.private_method (record { left = kind_of_node _ _; right = kind_of_node _ _ }) method_heads
      (ap (has_word words.Private) (part_node _ _ _) ∙ word_read words.Private words.Private)) s.SameMembers.end

  abbrev class_at : SourceRange → List Tree → Tree → Tree
  class_at place decorators member =
      class place no_scope (list decorators) (list (member ∷ [])) Absent false Absent Absent (list [])

  body_made : (place : SourceRange) (ds : List Tree) (m : Tree) → parts (Class-body (class_at place ds m)) ≡ m ∷ []
  body_made place ds m = simp parts_node

  classes : (ds es : List Tree) →
      SameClass renaming c d none none (class_at (at 75 110) ds left_method) (class_at (at 80 113) es right_method)
  classes ds es = record {
    head = record {
      span = places _ _ (at 75 110) (at 80 113) (simp (part_node, range_of_range)) (simp (part_node, range_of_range)) refl refl;
      ctxt = in_scopes _ _ (simp (part_node, context_read)) (simp (part_node, context_read));
      is_abstract = simp (part_node, flag_of_flag);
      type_params = absent _ _ (part_node _ _ _) (part_node _ _ _);
      super_type_params = absent _ _ (part_node _ _ _) (part_node _ _ _);
      implements = trees _ _ (list []) (list []) (part_node _ _ _) (part_node _ _ _) (simp node_moved);
    };
    superclass = s.SameSuperclass.same (absent _ _ (part_node _ _ _) (part_node _ _ _));
    hash_named = subst₂ (λ x y. list_any is_hash_named x ≡ list_any is_hash_named y) (sym (body_made (at 75 110) ds left_method))
        (sym (body_made (at 80 113) es right_method)) neither;
    members = subst₂ (SameMembers renaming c d none none [] []) (sym (body_made (at 75 110) ds left_method))
        (sym (body_made (at 80 113) es right_method)) members;
  }
    where
      neither : list_any is_hash_named (left_method ∷ []) ≡ list_any is_hash_named (right_method ∷ [])
      neither = simp kind_of_node

-- ---- the modules

abbrev left_public : SourceRange → Bool
left_public = is_public (exactly first_public)

abbrev right_public : SourceRange → Bool
right_public = is_public (exactly second_public)

both_public : (a b p q : SourceRange) → a ≡ p → b ≡ q → left_public p ≡ true → right_public q ≡ true → left_public a ≡ right_public b
both_public a b p q e f left right = ap left_public e ∙ left ∙ sym (ap right_public f ∙ right)

module _ (c d : Bindings) (x y : List ℕ → Option (List ℕ)) (o o' : Objects) where
  abbrev a : ModuleFacts
  a = facts left_public c x o

  abbrev b : ModuleFacts
  b = facts right_public d y o'

  function_items : SameItem renaming a b first_function second_function
  function_items = h.SameItem.decl (h.SameDecl.function (record {
    kinds = record { left = kind_of_node _ _; right = kind_of_node _ _ };
    is_public = both_public _ _ (at 1 57) (at 1 61) left right refl refl;
    is_ambient = refl;
    ident = trees _ _ (letter (codes "f") 10) (letter (codes "f") 10) (part_node _ _ _) (part_node _ _ _)
        (simp (node_moved, range_moved, context_moved, text_moved, flag_moved));
    declare = simp (part_node, flag_of_flag);
  }) refl refl
      (subst₂ (SameFunction renaming c d) (sym (part_node _ _ _)) (sym (part_node _ _ _)) (functions c d _ _ _ _)))
    where
      left : range_of_node first_function ≡ at 1 57
      left = simp (kind_of_node, part_node, range_of_range)

      right : range_of_node second_function ≡ at 1 61
      right = simp (kind_of_node, part_node, range_of_range)

  -- assignments to `z`
  assigned_items : (s e t f : ℕ) (p q : SourceRange) (v w : Tree) → left_public (at s e) ≡ true → right_public (at t f) ≡ true →
      Place (at s (e + 1)) (at t (f + 1)) → SameExpr renaming c d v w → range_of_node v ≡ p → range_of_node w ≡ q → Place p q →
      SameItem renaming a b (assigned s e v) (assigned t f w)
  assigned_items s e t f p q v w left right place alike left_place right_place value_place = h.SameItem.assigned (record {
    kinds = record { left = kind_of_node _ _; right = kind_of_node _ _ };
    range = subst₂ Place (sym (stands s e v)) (sym (stands t f w)) place;
    assignments = subst₂ (SameAssignment renaming a b) (sym (made s e v)) (sym (made t f w)) (record {
      kinds = record { left = kind_of_node _ _; right = kind_of_node _ _ };
      is_public = both_public _ _ (at s e) (at t f) (span_made s e v) (span_made t f w) left right;
      form = forms.SameForm.other (no_expando s e v) (no_expando t f w);
      right = subst₂ (SameExpr renaming c d) (sym (value_made s e v)) (sym (value_made t f w)) alike;
      right_range = subst₂ Place (sym (ap range_of_node (value_made s e v) ∙ left_place))
          (sym (ap range_of_node (value_made t f w) ∙ right_place)) value_place;
    });
  })
    where
      stands : (s e : ℕ) (v : Tree) → range_of_node (assigned s e v) ≡ at s (e + 1)
      stands s e v = simp (kind_of_node, part_node, range_of_range)

      made : (s e : ℕ) (v : Tree) → ExprStmt-expr (assigned s e v) ≡ assignment s e v
      made s e v = part_node _ _ _

      span_made : (s e : ℕ) (v : Tree) → AssignExpr-span (assignment s e v) ≡ at s e
      span_made s e v = simp (part_node, range_of_range)

      value_made : (s e : ℕ) (v : Tree) → AssignExpr-right (assignment s e v) ≡ v
      value_made s e v = part_node _ _ _

      no_expando : (s e : ℕ) (v : Tree) → is_expando_assignment (assignment s e v) ≡ false
      no_expando s e v = simp (kind_of_node, part_node, text_of_text)

  class_items : SameItem renaming a b first_class second_class
  class_items = h.SameItem.decl (h.SameDecl.class (record {
    kinds = record { left = kind_of_node _ _; right = kind_of_node _ _ };
    ident = trees _ _ (letter (codes "C") 84) (letter (codes "C") 86) (part_node _ _ _) (part_node _ _ _)
        (simp (node_moved, range_moved, context_moved, text_moved, flag_moved));
    declare = simp (part_node, flag_of_flag);
  })
      (both_public _ _ (at 75 110) (at 80 113) left right refl refl)
      (simp (part_node, flag_of_flag))
      (subst₂ (SameClass renaming c d (none c d) (none c d)) (sym (part_node _ _ _)) (sym (part_node _ _ _)) (classes c d _ _)))
    where
      left : range_of_node first_class ≡ at 75 110
      left = simp (kind_of_node, part_node, range_of_range)

      right : range_of_node second_class ≡ at 80 113
      right = simp (kind_of_node, part_node, range_of_range)

  items : SameItems renaming a b (items_of first) (items_of second)
  items = subst₂ (SameItems renaming a b) (sym (simp parts_node)) (sym (simp parts_node))
      (h.SameItems.next function_items
      (h.SameItems.next (assigned_items 58 73 62 78 (at 62 73) (at 66 78) first_value second_value refl refl (pair _ _ refl refl)
      (values c d) (simp (kind_of_node, part_node, range_of_range)) (simp (kind_of_node, part_node, range_of_range)) (pair _ _ refl refl))
      (h.SameItems.next class_items
      (h.SameItems.next (assigned_items 111 118 114 122 (at 115 118) (at 118 122) first_call second_call refl refl (pair _ _ refl refl)
      (calls c d) (simp (kind_of_node, part_node, range_of_range)) (simp (kind_of_node, part_node, range_of_range)) (pair _ _ refl refl))
      h.SameItems.end))))

  pub parsed_agree : IsPair renaming.scopes c.unresolved.0 d.unresolved.0 → AgreeHidden renaming a b first second
  parsed_agree unresolved = record {
    bindings = record { unresolved = unresolved };
    is_ambient = refl;
    items = items;
    shebang = absent _ _ (part_node _ _ _) (part_node _ _ _);
  }
