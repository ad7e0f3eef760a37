-- What is known of a private method and the members before it.
use Rattle.std.specs.Prelude.{◌≡◌, ℕ, Bool, true, false, cond, not, ◌||◌, List, refl}
use Rattle.std.specs.List.{list_any}
use Rattle.std.specs.Str.{bytes_eq}
use Rattle.std.specs.BTreeSet.{contains_by}
use Rattle.std.specs.Cmp.Lexicographic.{slice_cmp, texts_ties}
use Rattle.std.specs.Ordering.{is_eq, nat_cmp}
use Rattle.std.proofs.Common.{ap, ◌∙◌, sym}
use denote.Ref.{Bor}
use Rattle.fast_check_tree_syntax.specs.declared.tree.Tree.{Tree}
use Rattle.fast_check_tree_forms_classes.specs.Methods.{ClassMethod-key, ClassMethod-accessibility}
use Rattle.fast_check_meaning_signatures.specs.Members.{is_private, is_computed, key_text, is_private_method_of, is_private_implementation}
use Rattle.fast_check_meaning_signatures.specs.Members.{stays_behind}
use Rattle.fast_check_transform_classes.specs.declared.class_nodes.earlier.Earlier.{Earlier}
use Rattle.fast_check_transform_classes.specs.class_nodes.Known.{IsMethod, Knows, Next}

or_is : (b c : Bool) → cond b true c ≡ b || c
or_is true c = refl
or_is false c = refl

module _ (t : Tree) (m : IsMethod t) (p : is_private (ClassMethod-accessibility t) ≡ true)
    (k : is_computed (ClassMethod-key t) ≡ false) where
  stays_if_new : (earlier : List Tree) → stays_behind earlier t ≡ not
      (list_any (is_private_method_of (key_text (ClassMethod-key t))) earlier)
  stays_if_new earlier = rw (m, p, k) refl

  is_method_of : (name : List ℕ) → is_private_method_of name t ≡ bytes_eq (key_text (ClassMethod-key t)) name
  is_method_of name = rw (m, p, k) refl

  no_implementation : is_private_implementation t ≡ false
  no_implementation = rw m refl

  pub next_method : (old new : Earlier) (key : Bor (List ℕ)) (added : Bool) → key.now ≡ key_text (ClassMethod-key t) →
      new.has_private_implementation ≡ old.has_private_implementation →
      added ≡ not (contains_by (λ k. slice_cmp nat_cmp key.now k.now) old.private_methods) →
      ((q : Bor (List ℕ)) → contains_by (λ k. slice_cmp nat_cmp q.now k.now) new.private_methods ≡
      cond (is_eq (slice_cmp nat_cmp key.now q.now)) true (contains_by (λ k. slice_cmp nat_cmp q.now k.now) old.private_methods)) →
      (earlier : List Tree) → Knows old earlier → Next new earlier t added
  next_method old new key added e same a updates earlier known = record {
    stays_is = a ∙ (ap not (known.names key.now ∙ ap (λ name. list_any (is_private_method_of name) earlier) e) ∙
        sym (stays_if_new earlier));
    knows = record {
      names = λ name. updates (record { ref_ptr = (0, 0); now = name })
          ∙ ((λ i. cond (sym (texts_ties key.now name) i) true (known.names name i))
          ∙ (ap (λ text. cond (bytes_eq text name) true (list_any (is_private_method_of name) earlier)) e
          ∙ (or_is (bytes_eq (key_text (ClassMethod-key t)) name) (list_any (is_private_method_of name) earlier)
          ∙ ap (λ b. b || list_any (is_private_method_of name) earlier) (sym (is_method_of name)))));
      implementation = same ∙ (known.implementation ∙ ap (λ b. b || list_any is_private_implementation earlier) (sym no_implementation));
    };
  }
