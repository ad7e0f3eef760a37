-- Two parts of modules that differ by a hidden change agree.
use Rattle.std.specs.Prelude.{◌≡◌, ℕ, Bool, true, Some, List, [], refl}
use Rattle.std.specs.List.{list_any}
use Rattle.std.proofs.Common.{ap, ◌∙◌, sym, subst₂}
use Rattle.fast_check_tree_syntax.specs.declared.kind.Kind.TheVariants as kinds
use Rattle.fast_check_tree_syntax.specs.declared.kind.Word.TheVariants as words
use Rattle.fast_check_tree_syntax.specs.declared.source.SourceRange.{SourceRange}
use Rattle.fast_check_tree_syntax.specs.declared.source.SyntaxContext.{SyntaxContext}
use Rattle.fast_check_tree_syntax.specs.declared.tree.Tree as tree
use Rattle.fast_check_tree_syntax.specs.declared.tree.Tree.{Tree, Absent, roll-Tree, out-roll-Tree}
use Rattle.fast_check_tree_syntax.specs.declared.tree.Tree.TheOpen.{Tree-F}
use Rattle.fast_check_tree_syntax.specs.Shape.{none_range, list, parts, has_word, word_is_at}
use Rattle.fast_check_tree_syntax.specs.Moves.{Moves, Keeps, Renaming, IsRenaming, IsPair, moved}
use Rattle.fast_check_tree_syntax.specs.Same.{SameTree, SameRange}
use Rattle.fast_check_tree_syntax.proofs.Made.{kind_of_node, parts_node, part_node, is_absent_node, flag_of_flag, range_of_range}
use Rattle.fast_check_tree_syntax.proofs.Moved.{node_moved, absent_moved, range_moved, none_moved, context_moved, text_moved, flag_moved}
use Rattle.fast_check_tree_syntax.proofs.Moved.{word_moved}
use Rattle.fast_check_tree_syntax.proofs.Same.{tree_from}
use Rattle.fast_check_tree_forms_classes.specs.Classes.{Class-body}
use Rattle.fast_check_tree_forms_classes.specs.Functions.{Function-params}
use Rattle.fast_check_tree_forms_expressions.specs.Patterns.{AssignPat-right}
use Rattle.fast_check_tree_forms_programs.specs.Literals.{number}
use Rattle.fast_check_tree_forms_programs.specs.Names.{binding_ident}
use Rattle.fast_check_tree_helpers.specs.declared.literal_type.DeclMutabilityKind.TheVariants.{Mutable}
use Rattle.fast_check_tree_helpers.specs.Builders.{new_ident, ts_keyword_type, type_ann}
use Rattle.fast_check_tree_helpers.specs.InferredType.{inferred_type}
use Rattle.fast_check_tree_helpers.proofs.InferredTypes.{inferred_out}
use Rattle.fast_check_meaning_signatures.specs.Bindings.{Bindings}
use Rattle.fast_check_meaning_signatures.specs.Classes.{private_method_head}
use Rattle.fast_check_meaning_signatures.specs.Expressions.{is_refused}
use Rattle.fast_check_meaning_signatures.specs.Members.{is_hash_named}
use Rattle.fast_check_meaning_signatures.specs.NewNodes.{no_scope, ident_name, ts_array_type}
use Rattle.fast_check_meaning_skeleton.specs.SameValues.{SameExpr, SameFunctionHead, SameReturn, SameFunction, SameParams, SamePat}
use Rattle.fast_check_meaning_skeleton.specs.SameValues as v
use Rattle.fast_check_meaning_skeleton.specs.SameClasses.{SamePropertyHead, SameMember, SameMembers, SameClassHead, SameClass}
use Rattle.fast_check_meaning_skeleton.specs.SameClasses as s
use Rattle.fast_check_meaning_skeleton.specs.HiddenChanges.{number_type, void_function, typed_default, shown_default, pattern, as_number}
use Rattle.fast_check_meaning_skeleton.specs.HiddenChanges.{method_m, decorated}
use Rattle.fast_check_meaning_skeleton.specs.HiddenChanges.{call, sequence, HiddenChanges, HidesChanges}
use Rattle.fast_check_meaning_signatures.specs.Parameters.{default_typing}
use Rattle.fast_check_meaning_skeleton.proofs.AlikeTrees.{new_alike}
use Rattle.fast_check_meaning_skeleton.proofs.TypedFunctions.{absent}
use Rattle.fast_check_meaning_skeleton.proofs.GivenTypes.{given_written, given_shown}
use Rattle.fast_check_meaning_skeleton.proofs.Example.{context_of_context as context_read}

-- ---- what is read of leaves

pub private_read : has_word words.Private (tree.Word words.Private) ≡ word_is_at words.Private (Tree-F.Word words.Private)
unfolding roll-Tree denote.Hole.Carrier.roll
private_read = ap (word_is_at words.Private) (out-roll-Tree (Tree-F.Word words.Private))

module _ (r : Renaming) (ok : IsRenaming r) where
  abbrev pub Same : Tree → Tree → Type 0
  Same = SameTree r

  -- new nodes agree with themselves, and so do their places and scopes
  pub new_same : (t : Tree) → ((m : Moves) → Keeps m → moved m t ≡ t) → Same t t
  new_same t stays = tree_from r ok t t (new_alike r ok t stays)

  pub no_place : SameRange r none_range none_range
  no_place = record { start = ok.starts.zero; end = ok.ends.zero }

  pub at_places : (a b : SourceRange) → a ≡ none_range → b ≡ none_range → SameRange r a b
  at_places a b e f = subst₂ (SameRange r) (sym e) (sym f) no_place

  pub in_scopes : (a b : SyntaxContext) → a ≡ no_scope → b ≡ no_scope → IsPair r.scopes a.0 b.0
  in_scopes a b e f = subst₂ (λ x y. IsPair r.scopes x.0 y.0) (sym e) (sym f) ok.scopes.zero

  pub are_same : (t u x : Tree) → t ≡ x → u ≡ x → Same x x → Same t u
  are_same t u x e f same = subst₂ Same (sym e) (sym f) same

  pub same_absent : Same Absent Absent
  same_absent = new_same Absent (λ m keeps. absent_moved m)

  same_none : Same (list []) (list [])
  same_none = new_same (list []) (λ m keeps. node_moved m kinds.List [])

  pub same_private : Same (tree.Word words.Private) (tree.Word words.Private)
  same_private = new_same (tree.Word words.Private) (λ m keeps. word_moved m words.Private)

  pub same_name : (text : List ℕ) → Same (ident_name none_range text) (ident_name none_range text)
  same_name text = new_same (ident_name none_range text) (λ m keeps. simp (node_moved, range_moved, none_moved m keeps, text_moved))

  abbrev pub void_type : Tree
  void_type = type_ann (ts_keyword_type words.TsVoidKeyword)

  pub same_void : Same void_type void_type
  same_void = new_same void_type (λ m keeps. simp (node_moved, range_moved, none_moved m keeps, word_moved))

  pub same_number : Same number_type number_type
  same_number = new_same number_type (λ m keeps. simp (node_moved, range_moved, none_moved m keeps, word_moved))

  abbrev pub numbers_type : Tree
  numbers_type = type_ann (ts_array_type none_range number_type)

  pub same_numbers : Same numbers_type numbers_type
  same_numbers = new_same numbers_type (λ m keeps. simp (node_moved, range_moved, none_moved m keeps, word_moved))

  pub same_annotation : Same (type_ann number_type) (type_ann number_type)
  same_annotation = new_same (type_ann number_type) (λ m keeps. simp (node_moved, range_moved, none_moved m keeps, word_moved))

  same_typed : (name : List ℕ) →
      Same (binding_ident (new_ident name) (type_ann number_type)) (binding_ident (new_ident name) (type_ann number_type))
  same_typed name = new_same (binding_ident (new_ident name) (type_ann number_type))
      (λ m keeps. simp (node_moved, range_moved, none_moved m keeps, context_moved, text_moved, flag_moved, word_moved, keeps.scope_zero))

  same_untyped : (name : List ℕ) → Same (binding_ident (new_ident name) Absent) (binding_ident (new_ident name) Absent)
  same_untyped name = new_same (binding_ident (new_ident name) Absent)
      (λ m keeps. simp (node_moved, range_moved, none_moved m keeps, context_moved, text_moved, flag_moved, absent_moved, keeps.scope_zero))

  module _ (c d : Bindings) where
    -- ---- functions and parameters

    function_head : (ps qs ss ts : List Tree) → SameFunctionHead r c d (void_function ps ss) (void_function qs ts)
    function_head ps qs ss ts = record {
      span = at_places _ _ (simp (part_node, range_of_range)) (simp (part_node, range_of_range));
      ctxt = in_scopes _ _ (simp (part_node, context_read)) (simp (part_node, context_read));
      type_params = are_same _ _ Absent (part_node _ _ _) (part_node _ _ _) same_absent;
      has_body = simp (part_node, is_absent_node);
    }

    function_return : (ps qs ss ts : List Tree) → SameReturn r c d (void_function ps ss) (void_function qs ts)
    function_return ps qs ss ts = record {
      is_async = simp (part_node, flag_of_flag);
      is_generator = simp (part_node, flag_of_flag);
      return_type = are_same _ _ void_type (part_node _ _ _) (part_node _ _ _) same_void;
    }

    no_params : (ss : List Tree) → parts (Function-params (void_function [] ss)) ≡ []
    no_params ss = simp parts_node

    bodies : (ss ts : List Tree) → SameFunction r c d (void_function [] ss) (void_function [] ts)
    bodies ss ts =
        v.SameFunction.typed_function (function_head [] [] ss ts) (function_return [] [] ss ts) (simp (part_node, is_absent_node))
        (subst₂ (SameParams r c d) (sym (no_params ss)) (sym (no_params ts)) v.SameParams.no_params)

    typed_defaults : (x y : Tree) → SamePat r c d (typed_default x) (typed_default y)
    typed_defaults x y = v.SamePat.given_default (record { left = kind_of_node _ _; right = kind_of_node _ _ })
        (record { left = simp (part_node, kind_of_node); right = simp (part_node, kind_of_node) })
        (are_same _ _ _ (part_node _ _ _) (part_node _ _ _) (same_typed _))
        (given_written r c d (default_typing (typed_default x)) (default_typing (typed_default y)) refl refl
        (simp (part_node, is_absent_node)) (simp (part_node, is_absent_node))
        (are_same _ _ (type_ann number_type) (simp part_node) (simp part_node) same_annotation))

    shows : (scope : SyntaxContext) (x : List ℕ) → inferred_type Mutable scope (AssignPat-right (shown_default x)) ≡ Some number_type
    shows scope x =
        ap (inferred_type Mutable scope) (part_node _ _ _) ∙ (inferred_out Mutable scope (number none_range x) ∙ simp kind_of_node)

    shown_defaults : (x y : List ℕ) → SamePat r c d (shown_default x) (shown_default y)
    shown_defaults x y = v.SamePat.given_default (record { left = kind_of_node _ _; right = kind_of_node _ _ })
        (record { left = simp (part_node, kind_of_node); right = simp (part_node, kind_of_node) })
        (are_same _ _ _ (part_node _ _ _) (part_node _ _ _) (same_untyped _))
        (given_shown r c d (default_typing (shown_default x)) (default_typing (shown_default y)) ok
        ((refl, refl), (simp part_node absent, simp part_node absent)) (record {
          left = number_type;
          right = number_type;
          left_is = shows c.unresolved x;
          right_is = shows d.unresolved y;
          types = same_number;
        }))

    elements : (es ds : List Tree) → SamePat r c d (pattern es) (pattern ds)
    elements es ds = v.SamePat.emptied (v.SameEmptied.array (record { left = kind_of_node _ _; right = kind_of_node _ _ })
        (at_places _ _ (simp (part_node, range_of_range)) (simp (part_node, range_of_range))) (simp (part_node, flag_of_flag))
        (are_same _ _ numbers_type (part_node _ _ _) (part_node _ _ _) same_numbers))

    -- ---- values

    operands : (x y : Tree) → SameExpr r c d (as_number x) (as_number y)
    operands x y = v.SameExpr.as_type (record { left = kind_of_node _ _; right = kind_of_node _ _ })
        (at_places _ _ (simp (part_node, range_of_range)) (simp (part_node, range_of_range)))
        (are_same _ _ number_type (part_node _ _ _) (part_node _ _ _) same_number)

    call_refused : is_refused c call ≡ true
    call_refused = simp (kind_of_node, part_node)

    sequence_refused : is_refused d sequence ≡ true
    sequence_refused = simp kind_of_node

    -- ---- classes

    module _ (f g : SourceRange → Bool) where
      method_heads : (ps qs ss ts : List Tree) →
          SamePropertyHead r c d f g (private_method_head (method_m ps ss)) (private_method_head (method_m qs ts))
      method_heads ps qs ss ts = record {
        span = at_places _ _ (simp (part_node, range_of_range)) (simp (part_node, range_of_range));
        key = are_same _ _ _ (part_node _ _ _) (part_node _ _ _) (same_name _);
        is_static = simp (part_node, flag_of_flag);
        accessibility = are_same _ _ (tree.Word words.Private) (part_node _ _ _) (part_node _ _ _) same_private;
        is_abstract = simp (part_node, flag_of_flag);
        is_optional = simp (part_node, flag_of_flag);
        readonly = refl;
      }

      methods : (ps qs ss ts : List Tree) → SameMember r c d f g (method_m ps ss) (method_m qs ts)
      methods ps qs ss ts =
          s.SameMember.private_method (record { left = kind_of_node _ _; right = kind_of_node _ _ }) (method_heads ps qs ss ts)
          (ap (has_word words.Private) (part_node _ _ _) ∙ private_read)

      no_members : (ds : List Tree) → parts (Class-body (decorated ds)) ≡ []
      no_members ds = simp parts_node

      class_heads : (ds es : List Tree) → SameClassHead r c d f g (decorated ds) (decorated es)
      class_heads ds es = record {
        span = at_places _ _ (simp (part_node, range_of_range)) (simp (part_node, range_of_range));
        ctxt = in_scopes _ _ (simp (part_node, context_read)) (simp (part_node, context_read));
        is_abstract = simp (part_node, flag_of_flag);
        type_params = are_same _ _ Absent (part_node _ _ _) (part_node _ _ _) same_absent;
        super_type_params = are_same _ _ Absent (part_node _ _ _) (part_node _ _ _) same_absent;
        implements = are_same _ _ (list []) (part_node _ _ _) (part_node _ _ _) same_none;
      }

      decorators : (ds es : List Tree) → SameClass r c d f g (decorated ds) (decorated es)
      decorators ds es = record {
        head = class_heads ds es;
        superclass = s.SameSuperclass.same (are_same _ _ Absent (part_node _ _ _) (part_node _ _ _) same_absent);
        hash_named = ap (list_any is_hash_named) (no_members ds) ∙ sym (ap (list_any is_hash_named) (no_members es));
        members = subst₂ (SameMembers r c d f g [] []) (sym (no_members ds)) (sym (no_members es)) s.SameMembers.end;
      }

      all_changes : HiddenChanges r c d f g
      all_changes = record {
        bodies = bodies;
        typed_defaults = typed_defaults;
        shown_defaults = shown_defaults;
        operands = operands;
        elements = elements;
        methods = methods;
        decorators = decorators;
        refused = v.SameExpr.refused call_refused sequence_refused;
      }

pub hides_changes : HidesChanges
hides_changes r ok c d f g = all_changes r ok c d f g
