-- The types of two declarations agree by what gives them: any type for private ones, a written type, or the one that a value shows.
use Rattle.std.specs.Prelude.{◌≡◌, Bool, true, false, Option, Some, option_map, if◌then◌else◌}
use Rattle.std.proofs.Common.{ap, ap₂, ◌∙◌, sym}
use Rattle.fast_check_tree_syntax.specs.declared.source.SyntaxContext.{SyntaxContext}
use Rattle.fast_check_tree_syntax.specs.declared.tree.Tree.{Tree}
use Rattle.fast_check_tree_syntax.specs.Shape.{is_absent}
use Rattle.fast_check_tree_syntax.specs.Moves.{Renaming, IsRenaming}
use Rattle.fast_check_tree_syntax.specs.Same.{SameTree}
use Rattle.fast_check_tree_syntax.proofs.Same.{tree_to, tree_from}
use Rattle.fast_check_tree_helpers.specs.Builders.{type_ann, any_type_ann}
use Rattle.fast_check_tree_helpers.specs.InferredType.{inferred_type}
use Rattle.fast_check_meaning_signatures.specs.Bindings.{Bindings}
use Rattle.fast_check_meaning_signatures.specs.Typing.{Typing, type_of}
use Rattle.fast_check_meaning_skeleton.specs.SameValues.{SameTypes, SameGiven}
use Rattle.fast_check_meaning_skeleton.specs.SameValues as v
use Rattle.fast_check_meaning_skeleton.specs.HiddenRules.{LackTypes, HiddenTypes}
use Rattle.fast_check_meaning_skeleton.proofs.AlikeTrees.{absent_alike}
use Rattle.fast_check_meaning_skeleton.proofs.AlikeProperties.{any_alike, ann_alike}

module _ (unresolved : SyntaxContext) (t : Typing) where
  abbrev shown_of : Option Tree
  shown_of = option_map type_ann (inferred_type t.mutability unresolved t.value)

  abbrev type_if : Bool → Bool → Option Tree
  type_if is_private lacks_type = if is_private then Some any_type_ann else (if lacks_type then shown_of else Some t.type)

  private_type : t.is_private ≡ true → type_of unresolved t ≡ Some any_type_ann
  private_type p = ap (λ b. type_if b (is_absent t.type)) p

  written_type : t.is_private ≡ false → is_absent t.type ≡ false → type_of unresolved t ≡ Some t.type
  written_type p w = ap₂ type_if p w

  shown_type : t.is_private ≡ false → is_absent t.type ≡ true → type_of unresolved t ≡ shown_of
  shown_type p w = ap₂ type_if p w

module _ (r : Renaming) (c d : Bindings) (t u : Typing) where
  pub given_written : t.is_private ≡ false → u.is_private ≡ false → is_absent t.type ≡ false → is_absent u.type ≡ false →
      SameTree r t.type u.type → SameGiven r c d t u
  given_written p q w z e = record {
    left = t.type;
    right = u.type;
    left_is = written_type c.unresolved t p w;
    right_is = written_type d.unresolved u q z;
    types = e;
  }

  pub given_shown : IsRenaming r → LackTypes t u →
      SameTypes r (inferred_type t.mutability c.unresolved t.value) (inferred_type u.mutability d.unresolved u.value) →
      SameGiven r c d t u
  given_shown ok lacks s = record {
    left = type_ann s.left;
    right = type_ann s.right;
    left_is = shown_type c.unresolved t lacks.0.0 lacks.1.0 ∙ ap (option_map type_ann) s.left_is;
    right_is = shown_type d.unresolved u lacks.0.1 lacks.1.1 ∙ ap (option_map type_ann) s.right_is;
    types = tree_from r ok (type_ann s.left) (type_ann s.right) (ann_alike r ok s.left s.right (tree_to r ok s.types));
  }

  pub hidden_types : IsRenaming r → HiddenTypes r c d t u
  hidden_types ok = record {
    private = λ p q. record {
      left = any_type_ann;
      right = any_type_ann;
      left_is = private_type c.unresolved t p;
      right_is = private_type d.unresolved u q;
      types = tree_from r ok any_type_ann any_type_ann (any_alike r ok);
    };
    typed = λ p q w e. given_written p q w (sym (absent_alike r ok t.type u.type (tree_to r ok e)) ∙ w) e;
    shown = λ lacks s. given_shown ok lacks s;
    not_shown = λ lacks n. record {
      left = shown_type c.unresolved t lacks.0.0 lacks.1.0 ∙ ap (option_map type_ann) n.left;
      right = shown_type d.unresolved u lacks.0.1 lacks.1.1 ∙ ap (option_map type_ann) n.right;
    };
    given = λ types. v.SameTyping.given types;
    not_given = λ none. v.SameTyping.not_given none;
  }
