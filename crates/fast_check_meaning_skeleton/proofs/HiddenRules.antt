-- Of the other rules that hide something: two parts of modules that differ by it agree.
use Rattle.std.specs.Prelude.{◌≡◌, ℕ, Bool, false, Some, None, List, [], ◌∷◌}
use Rattle.std.proofs.Common.{ap, ap₂, ◌∙◌, sym, subst₂}
use Rattle.fast_check_tree_syntax.specs.declared.kind.Word.TheVariants as words
use Rattle.fast_check_tree_syntax.specs.declared.source.SourceRange.{SourceRange}
use Rattle.fast_check_tree_syntax.specs.declared.source.SyntaxContext.{SyntaxContext}
use Rattle.fast_check_tree_syntax.specs.declared.tree.Tree as tree
use Rattle.fast_check_tree_syntax.specs.declared.tree.Tree.{Tree, Absent, roll-Tree, out-roll-Tree}
use Rattle.fast_check_tree_syntax.specs.declared.tree.Tree.TheOpen.{Tree-F}
use Rattle.fast_check_tree_syntax.specs.Shape.{none_range, list, parts, has_word, word_is_at}
use Rattle.fast_check_tree_syntax.specs.Moves.{Renaming, IsRenaming}
use Rattle.fast_check_tree_syntax.proofs.Made.{kind_of_node, parts_node, part_node, is_absent_node, flag_of_flag, range_of_range}
use Rattle.fast_check_tree_forms_classes.specs.Functions.{Function-params, Function-is_generator, Function-body, param}
use Rattle.fast_check_tree_forms_classes.specs.Methods.{ClassMethod-span, ClassMethod-function}
use Rattle.fast_check_tree_forms_expressions.specs.Expressions.{ArrowExpr-params, ArrowExpr-body, ArrowExpr-is_generator}
use Rattle.fast_check_tree_forms_programs.specs.Literals.{number}
use Rattle.fast_check_tree_helpers.specs.declared.literal_type.DeclMutabilityKind.TheVariants.{Mutable}
use Rattle.fast_check_tree_helpers.specs.InferredType.{inferred_type}
use Rattle.fast_check_tree_helpers.specs.NamedBodies.{named_return}
use Rattle.fast_check_tree_helpers.specs.ReturnClass.{return_class}
use Rattle.fast_check_tree_helpers.proofs.InferredTypes.{inferred_out}
use Rattle.fast_check_meaning_signatures.specs.Bindings.{Bindings}
use Rattle.fast_check_meaning_signatures.specs.NewNodes.{new_block}
use Rattle.fast_check_meaning_skeleton.specs.SameValues.{SameExpr, SameFunctionHead, SameReturn, SameFunction, SameImplementation}
use Rattle.fast_check_meaning_skeleton.specs.SameValues.{SameArrowHead, SameArrowBody, SameParams, SamePats, SamePat, SameEmptied}
use Rattle.fast_check_meaning_skeleton.specs.SameValues.{rests}
use Rattle.fast_check_meaning_skeleton.specs.SameValues as v
use Rattle.fast_check_meaning_skeleton.specs.SameClasses.{SameMethod}
use Rattle.fast_check_meaning_skeleton.specs.SameClasses as s
use Rattle.fast_check_meaning_skeleton.specs.HiddenChanges.{number_type, pattern}
use Rattle.fast_check_meaning_skeleton.specs.HiddenRules.{function_of, arrow_of, void_type, numbers_type, number_of, object}
use Rattle.fast_check_meaning_skeleton.specs.HiddenRules.{pattern_default, setter_s}
use Rattle.fast_check_meaning_skeleton.specs.HiddenRules.{Unnamed, HiddenValues, HiddenMembers, SilentMembers, HidesByRules}
use Rattle.fast_check_meaning_skeleton.proofs.GivenTypes.{hidden_types}
use Rattle.fast_check_meaning_skeleton.proofs.HiddenChanges.{Same, at_places, in_scopes, are_same}
use Rattle.fast_check_meaning_skeleton.proofs.Example.{context_of_context as context_read}
use Rattle.fast_check_meaning_skeleton.proofs.HiddenChanges.{same_absent, same_void, same_number, same_numbers}

setter_read : has_word words.Setter (tree.Word words.Setter) ≡ word_is_at words.Setter (Tree-F.Word words.Setter)
unfolding roll-Tree denote.Hole.Carrier.roll
setter_read = ap (word_is_at words.Setter) (out-roll-Tree (Tree-F.Word words.Setter))

-- `1` and the like show `number`, as what may change
shows_number : (scope : SyntaxContext) (x : List ℕ) → inferred_type Mutable scope (number none_range x) ≡ Some number_type
shows_number scope x = inferred_out Mutable scope (number none_range x) ∙ simp kind_of_node

named_as : (scope : SyntaxContext) (is_generator : Bool) (body : Tree) (ss : List Tree) → is_generator ≡ false →
    body ≡ new_block ss → named_return scope false (new_block ss) ≡ None → named_return scope is_generator body ≡ None
named_as scope is_generator body ss e i n = ap₂ (named_return scope) e i ∙ n

classed_as : (body other : Tree) (ss ts : List Tree) → body ≡ new_block ss → other ≡ new_block ts →
    return_class (new_block ss) ≡ return_class (new_block ts) → return_class body ≡ return_class other
classed_as body other ss ts e i n = ap return_class e ∙ (n ∙ sym (ap return_class i))

module _ (r : Renaming) (ok : IsRenaming r) (c d : Bindings) where
  -- ---- functions

  heads : (ps qs ss ts : List Tree) (x y : Tree) → SameFunctionHead r c d (function_of ps ss x) (function_of qs ts y)
  heads ps qs ss ts x y = record {
    span = at_places r ok _ _ (simp (part_node, range_of_range)) (simp (part_node, range_of_range));
    ctxt = in_scopes r ok _ _ (simp (part_node, context_read)) (simp (part_node, context_read));
    type_params = are_same r ok _ _ Absent (part_node _ _ _) (part_node _ _ _) (same_absent r ok);
    has_body = simp (part_node, is_absent_node);
  }

  returns : (ss ts : List Tree) → SameReturn r c d (function_of [] ss Absent) (function_of [] ts Absent)
  returns ss ts = record {
    is_async = simp (part_node, flag_of_flag);
    is_generator = simp (part_node, flag_of_flag);
    return_type = are_same r ok _ _ Absent (part_node _ _ _) (part_node _ _ _) (same_absent r ok);
  }

  no_params : (ss : List Tree) → parts (Function-params (function_of [] ss Absent)) ≡ []
  no_params ss = simp parts_node

  same_params : (ss ts : List Tree) → SameParams r c d (parts (Function-params (function_of [] ss Absent)))
      (parts (Function-params (function_of [] ts Absent)))
  same_params ss ts = subst₂ (SameParams r c d) (sym (no_params ss)) (sym (no_params ts)) v.SameParams.no_params

  abbrev block_at : List Tree → Tree
  block_at ss = Function-body (function_of [] ss Absent)

  abbrev yields_at : List Tree → Bool
  yields_at ss = Function-is_generator (function_of [] ss Absent)

  body_of : (ss : List Tree) → block_at ss ≡ new_block ss
  body_of ss = part_node _ _ _

  no_generator : (ss : List Tree) → yields_at ss ≡ false
  no_generator ss = simp (part_node, flag_of_flag)

  bodies : (ss ts : List Tree) → Unnamed r c d ss ts → SameFunction r c d (function_of [] ss Absent) (function_of [] ts Absent)
  bodies ss ts u = v.SameFunction.classed_function (heads [] [] ss ts Absent Absent) (returns ss ts)
      (classed_as (block_at ss) (block_at ts) ss ts (body_of ss) (body_of ts) u.class)
      (v.SameNamed.neither_named (named_as c.unresolved (yields_at ss) (block_at ss) ss (no_generator ss) (body_of ss) u.left)
      (named_as d.unresolved (yields_at ss) (block_at ts) ts (no_generator ss) (body_of ts) u.right))
      (same_params ss ts)

  implementations : (ps qs ss ts : List Tree) (x y : Tree) → rests (function_of ps ss x) ≡ rests (function_of qs ts y) →
      SameImplementation r c d (function_of ps ss x) (function_of qs ts y)
  implementations ps qs ss ts x y e = record { head = heads ps qs ss ts x y; rests = e }

  -- ---- arrows

  arrow_heads : (x y type : Tree) → Same r ok type type → SameArrowHead r c d (arrow_of x type) (arrow_of y type)
  arrow_heads x y type same = record {
    span = at_places r ok _ _ (simp (part_node, range_of_range)) (simp (part_node, range_of_range));
    ctxt = in_scopes r ok _ _ (simp (part_node, context_read)) (simp (part_node, context_read));
    is_async = simp (part_node, flag_of_flag);
    is_generator = simp (part_node, flag_of_flag);
    type_params = are_same r ok _ _ Absent (part_node _ _ _) (part_node _ _ _) (same_absent r ok);
    return_type = are_same r ok _ _ type (part_node _ _ _) (part_node _ _ _) same;
  }

  no_pats : (x type : Tree) → parts (ArrowExpr-params (arrow_of x type)) ≡ []
  no_pats x type = simp parts_node

  arrows : (x y type : Tree) → Same r ok type type → SameArrowBody r c d (arrow_of x type) (arrow_of y type) →
      SameExpr r c d (arrow_of x type) (arrow_of y type)
  arrows x y type same body = v.SameExpr.arrow (record { left = kind_of_node _ _; right = kind_of_node _ _ })
      (arrow_heads x y type same)
      (subst₂ (SamePats r c d) (sym (no_pats x type)) (sym (no_pats y type)) v.SamePats.no_pats) body

  value_of : (x type : Tree) → ArrowExpr-body (arrow_of x type) ≡ x
  value_of x type = part_node _ _ _

  makes_none : (x type : Tree) → ArrowExpr-is_generator (arrow_of x type) ≡ false
  makes_none x type = simp (part_node, flag_of_flag)

  abbrev body_at : List Tree → Tree
  body_at ss = ArrowExpr-body (arrow_of (new_block ss) Absent)

  abbrev makes_at : List Tree → Bool
  makes_at ss = ArrowExpr-is_generator (arrow_of (new_block ss) Absent)

  typed_arrows : (x y : Tree) → SameExpr r c d (arrow_of x void_type) (arrow_of y void_type)
  typed_arrows x y =
      arrows x y void_type (same_void r ok) (v.SameArrowBody.typed_arrow (simp (part_node, is_absent_node)))

  classed_arrows : (ss ts : List Tree) → Unnamed r c d ss ts →
      SameExpr r c d (arrow_of (new_block ss) Absent) (arrow_of (new_block ts) Absent)
  classed_arrows ss ts u = arrows (new_block ss) (new_block ts) Absent (same_absent r ok)
      (v.SameArrowBody.classed_arrow (record { left = simp (part_node, kind_of_node); right = simp (part_node, kind_of_node) })
      (classed_as (body_at ss) (body_at ts) ss ts (value_of _ _) (value_of _ _) u.class)
      (v.SameNamed.neither_named (named_as c.unresolved (makes_at ss) (body_at ss) ss (makes_none _ _) (value_of _ _) u.left)
      (named_as d.unresolved (makes_at ss) (body_at ts) ts (makes_none _ _) (value_of _ _) u.right)))

  shown_arrows : (x y : List ℕ) → SameExpr r c d (arrow_of (number none_range x) Absent) (arrow_of (number none_range y) Absent)
  shown_arrows x y = arrows (number none_range x) (number none_range y) Absent (same_absent r ok)
      (v.SameArrowBody.shown_value (record { left = simp (part_node, kind_of_node); right = simp (part_node, kind_of_node) })
      (record {
        left = number_type;
        right = number_type;
        left_is = ap (inferred_type Mutable c.unresolved) (value_of _ _) ∙ shows_number c.unresolved x;
        right_is = ap (inferred_type Mutable d.unresolved) (value_of _ _) ∙ shows_number d.unresolved y;
        types = same_number r ok;
      }))

  -- ---- values and patterns

  operands : (x y : Tree) → SameExpr r c d (number_of x) (number_of y)
  operands x y = v.SameExpr.assertion (record { left = kind_of_node _ _; right = kind_of_node _ _ })
      (at_places r ok _ _ (simp (part_node, range_of_range)) (simp (part_node, range_of_range)))
      (are_same r ok _ _ number_type (part_node _ _ _) (part_node _ _ _) (same_number r ok))

  objects : (ps qs : List Tree) → SameEmptied r c d (object ps) (object qs)
  objects ps qs = v.SameEmptied.object (record { left = kind_of_node _ _; right = kind_of_node _ _ })
      (at_places r ok _ _ (simp (part_node, range_of_range)) (simp (part_node, range_of_range))) (simp (part_node, flag_of_flag))
      (are_same r ok _ _ numbers_type (part_node _ _ _) (part_node _ _ _) (same_numbers r ok))

  arrays : (es ds : List Tree) → SameEmptied r c d (pattern es) (pattern ds)
  arrays es ds = v.SameEmptied.array (record { left = kind_of_node _ _; right = kind_of_node _ _ })
      (at_places r ok _ _ (simp (part_node, range_of_range)) (simp (part_node, range_of_range))) (simp (part_node, flag_of_flag))
      (are_same r ok _ _ numbers_type (part_node _ _ _) (part_node _ _ _) (same_numbers r ok))

  typed_patterns : (es ds : List Tree) (x y : Tree) → SamePat r c d (pattern_default es x) (pattern_default ds y)
  typed_patterns es ds x y = v.SamePat.typed_pattern (record { left = kind_of_node _ _; right = kind_of_node _ _ })
      (at_places r ok _ _ (simp (part_node, range_of_range)) (simp (part_node, range_of_range)))
      (subst₂ (SameEmptied r c d) (sym (part_node _ _ _)) (sym (part_node _ _ _)) (arrays es ds))
      (simp (part_node, kind_of_node, is_absent_node))

  kept_patterns : (es ds : List Tree) (x y : Tree) → SameExpr r c d x y → SamePat r c d (pattern_default es x) (pattern_default ds y)
  kept_patterns es ds x y same = v.SamePat.kept_pattern (record { left = kind_of_node _ _; right = kind_of_node _ _ })
      (at_places r ok _ _ (simp (part_node, range_of_range)) (simp (part_node, range_of_range)))
      (subst₂ (SameEmptied r c d) (sym (part_node _ _ _)) (sym (part_node _ _ _)) (arrays es ds))
      (subst₂ (SameExpr r c d) (sym (part_node _ _ _)) (sym (part_node _ _ _)) same)

  decorated_params : (cs ds : List Tree) (t u : Tree) → SamePat r c d t u →
      SameParams r c d (param none_range (list cs) t ∷ []) (param none_range (list ds) u ∷ [])
  decorated_params cs ds t u same = v.SameParams.next_param
      (at_places r ok _ _ (simp (part_node, range_of_range)) (simp (part_node, range_of_range)))
      (subst₂ (SamePat r c d) (sym (part_node _ _ _)) (sym (part_node _ _ _)) same) v.SameParams.no_params

  all_values : HiddenValues r c d
  all_values = record {
    bodies = bodies;
    implementations = implementations;
    typed_arrows = typed_arrows;
    classed_arrows = classed_arrows;
    shown_arrows = shown_arrows;
    operands = operands;
    objects = objects;
    typed_patterns = typed_patterns;
    kept_patterns = kept_patterns;
    gathered = λ left right another value. v.SameGathered.replaced (simp kind_of_node) (simp kind_of_node);
    gathered_patterns = λ es ds. v.SameGathered.emptied_gathered (arrays es ds);
    named_bodies = λ is_generator t u x y e n same. v.SameNamed.both_named x y e n same;
    decorated_params = decorated_params;
    taken_apart = λ t u e n a. v.SamePat.taken_apart e n a;
    default_taken_apart = λ t u k e n a. v.SamePat.default_taken_apart k e n a;
  }

  module _ (f g : SourceRange → Bool) where
    -- ---- members

    method_of : (ss : List Tree) → ClassMethod-function (setter_s ss) ≡ function_of [] ss Absent
    method_of ss = part_node _ _ _

    place_of : (ss : List Tree) → ClassMethod-span (setter_s ss) ≡ none_range
    place_of ss = simp (part_node, range_of_range)

    setters : (ss ts : List Tree) → f none_range ≡ false → g none_range ≡ false → SameMethod r c d f g (setter_s ss) (setter_s ts)
    setters ss ts x y = s.SameMethod.setter (ap f (place_of ss) ∙ x) (ap g (place_of ts) ∙ y)
        (ap (has_word words.Setter) (part_node _ _ _) ∙ setter_read)
        (subst₂ (SameFunctionHead r c d) (sym (method_of ss)) (sym (method_of ts)) (heads [] [] ss ts Absent Absent))
        (subst₂ (SameReturn r c d) (sym (method_of ss)) (sym (method_of ts)) (returns ss ts))
        (subst₂ (λ t u. SameParams r c d (parts (Function-params t)) (parts (Function-params u))) (sym (method_of ss))
        (sym (method_of ts)) (same_params ss ts))

    all_members : HiddenMembers r c d f g
    all_members = record {
      setters = setters;
      properties = λ t u types. s.SameProperty.given types;
      accessors = λ t u both heads types. s.SameMember.accessor both heads types;
      constructed = λ t u calls each. record { super_calls = calls; properties = each };
      implemented_constructors = λ t u x e n i. s.SameConstructor.implementation x e n i;
      private_constructors = λ t u x p. s.SameConstructor.any x p;
      left_statements = λ t e. s.SameSuperCalls.left e s.SameSuperCalls.end;
      right_statements = λ u e. s.SameSuperCalls.right e s.SameSuperCalls.end;
      left_silent = λ earlier others m silent alone. s.SameMembers.left silent alone s.SameMembers.end;
      right_silent = λ earlier others m silent alone. s.SameMembers.right silent alone s.SameMembers.end;
      superclasses = λ t u a e n x. s.SameSuperclass.refused a e n x;
      left_members = λ t e. s.SameAmbientMembers.left e s.SameAmbientMembers.end;
      right_members = λ u e. s.SameAmbientMembers.right e s.SameAmbientMembers.end;
    }

silent_members : (earlier : List Tree) (m : Tree) → SilentMembers earlier m
silent_members earlier m = record {
  hash_named = λ e. s.IsSilentMember.hash_named e;
  static_block = λ e. s.IsSilentMember.static_block e;
  empty = λ e. s.IsSilentMember.empty e;
  computed = λ e. s.IsSilentMember.computed e;
  again = λ name e taken. s.IsSilentMember.again name e taken;
  overload = λ e p bodiless. s.IsSilentMember.overload e p bodiless;
  another = λ e taken. s.IsSilentMember.another e taken;
}

pub hides_by_rules : HidesByRules
hides_by_rules r ok c d f g =
    record {
      types = λ t u. hidden_types r c d t u ok;
      values = all_values r ok c d;
      members = all_members r ok c d f g;
      silent = silent_members;
    }
