-- Properties and accessors that agree but for what is hidden are seen alike.
use Rattle.std.specs.Prelude.{◌≡◌, Bool, true, false, Some, [], ◌∷◌, refl, if◌then◌else◌}
use Rattle.std.proofs.Common.{ap, ◌∙◌, sym}
use Rattle.fast_check_tree_syntax.specs.declared.kind.Kind.TheVariants as kinds
use Rattle.fast_check_tree_syntax.specs.declared.source.SourceRange.{SourceRange}
use Rattle.fast_check_tree_syntax.specs.declared.tree.Tree.{Tree, Absent}
use Rattle.fast_check_tree_syntax.specs.Shape.{is_absent}
use Rattle.fast_check_tree_syntax.specs.Moves.{Renaming, IsRenaming, partners, twice}
use Rattle.fast_check_tree_syntax.specs.Same.{SameTree}
use Rattle.fast_check_tree_syntax.proofs.Moved.{absent_moved}
use Rattle.fast_check_tree_syntax.proofs.Partners.{partners-keep as partners_keep, twice-keeps as twice_keeps}
use Rattle.fast_check_tree_syntax.proofs.Same.{tree_to, range_to}
use Rattle.fast_check_tree_helpers.specs.ranges.Ranges.{range_of_node}
use Rattle.fast_check_tree_helpers.proofs.ranges.RangesMoved.{range_of_node_moved}
use Rattle.fast_check_tree_forms_classes.specs.Fields.{ClassProp-value, ClassProp-is_override}
use Rattle.fast_check_tree_helpers.specs.Builders.{type_ann, any_type_ann}
use Rattle.fast_check_tree_helpers.proofs.BuildersMoved.{type_ann_moved, any_type_ann_moved}
use Rattle.fast_check_meaning_signatures.specs.Bindings.{Bindings}
use Rattle.fast_check_meaning_signatures.specs.declared.fault.FaultKind.TheVariants.{MissingExplicitType}
use Rattle.fast_check_meaning_signatures.specs.Seen.{PropertyHead, Seen, property, refused, faulty}
use Rattle.fast_check_meaning_signatures.specs.Answers.{declared_property}
use Rattle.fast_check_meaning_signatures.specs.Expressions.{expr_seen}
use Rattle.fast_check_meaning_signatures.specs.Members.{is_private}
use Rattle.fast_check_meaning_signatures.specs.Classes.{typed_property, property_head, accessor_head, accessor_typing, member_value_seen}
use Rattle.fast_check_meaning_signatures.specs.Classes.{property_seen, accessor_seen}
use Rattle.fast_check_meaning_signatures.proofs.MovedParts.{moved_property}
use Rattle.fast_check_meaning_skeleton.specs.SameValues.{SameBindings, SameTyping, SameValue}
use Rattle.fast_check_meaning_skeleton.specs.SameValues as v
use Rattle.fast_check_meaning_skeleton.specs.SameClasses.{SamePropertyHead, SameProperty}
use Rattle.fast_check_meaning_skeleton.specs.SameClasses as s
use Rattle.fast_check_meaning_skeleton.proofs.AlikeTrees.{TreeAlike, RangeAlike, image_alike, new_alike, range_leaf_alike}
use Rattle.fast_check_meaning_skeleton.proofs.AlikeTrees.{flag_leaf_alike, node_alike, empty_list_alike}
use Rattle.fast_check_meaning_skeleton.proofs.AlikeSeen.{Alike, written_alike, faulty_alike, alike_if, given_alike, none_alike}
use Rattle.fast_check_meaning_skeleton.proofs.AlikePresent.{expr_absent}
use Rattle.fast_check_meaning_skeleton.proofs.AlikeMembers.{private_alike}
use Rattle.fast_check_meaning_skeleton.proofs.Alike.{expr_alike}

module _ (r : Renaming) (ok : IsRenaming r) where
  pub nothing_alike : TreeAlike r ok Absent Absent
  nothing_alike = new_alike r ok Absent (λ m keeps. absent_moved m)

  -- two heads of properties that agree, as equations
  pub record HeadAlike (p q : PropertyHead) : Type 0 where
    pub span : RangeAlike r ok p.span q.span
    pub key : TreeAlike r ok p.key q.key
    pub is_static : p.is_static ≡ q.is_static
    pub accessibility : TreeAlike r ok p.accessibility q.accessibility
    pub is_abstract : p.is_abstract ≡ q.is_abstract
    pub is_optional : p.is_optional ≡ q.is_optional
    pub readonly : p.readonly ≡ q.readonly

  -- so are the properties of types that agree
  pub declared_alike : (p q : PropertyHead) (x y : Tree) → HeadAlike p q → TreeAlike r ok x y →
      TreeAlike r ok (declared_property p x) (declared_property q y)
  declared_alike p q x y h e = node_alike r ok kinds.ClassProp _ _ (λ i.
      range_leaf_alike r ok p.span q.span h.span i ∷ h.key i ∷ nothing_alike i ∷ e i ∷
      flag_leaf_alike r ok p.is_static q.is_static h.is_static i ∷
      empty_list_alike r ok i ∷ h.accessibility i ∷ flag_leaf_alike r ok p.is_abstract q.is_abstract h.is_abstract i ∷
      flag_leaf_alike r ok p.is_optional q.is_optional h.is_optional i ∷ flag_leaf_alike r ok false false refl i ∷
      flag_leaf_alike r ok p.readonly q.readonly h.readonly i ∷ flag_leaf_alike r ok true true refl i ∷
      flag_leaf_alike r ok false false refl i ∷ [])

  pub any_alike : TreeAlike r ok any_type_ann any_type_ann
  any_alike = new_alike r ok any_type_ann any_type_ann_moved

  pub ann_alike : (x y : Tree) → TreeAlike r ok x y → TreeAlike r ok (type_ann x) (type_ann y)
  ann_alike x y e = image_alike r ok type_ann (λ m keeps t. sym (type_ann_moved m keeps t)) x y e

  pub place_alike : (t u : Tree) → SameTree r t u → RangeAlike r ok (range_of_node t) (range_of_node u)
  place_alike t u e =
      sym (range_of_node_moved (partners r) (partners_keep r ok) t) ∙
      (ap range_of_node (tree_to r ok e) ∙ range_of_node_moved twice twice_keeps u)

  module _ (c d : Bindings) (f g : SourceRange → Bool) where
    pub heads_alike : (p q : PropertyHead) → SamePropertyHead r c d f g p q → HeadAlike p q
    heads_alike p q h = record {
      span = range_to r ok p.span q.span h.span;
      key = tree_to r ok h.key;
      is_static = h.is_static;
      accessibility = tree_to r ok h.accessibility;
      is_abstract = h.is_abstract;
      is_optional = h.is_optional;
      readonly = h.readonly;
    }

    pub typed_alike : (p q : PropertyHead) (x y : Tree) → SamePropertyHead r c d f g p q → TreeAlike r ok x y →
        Alike r ok (typed_property p x) (typed_property q y)
    typed_alike p q x y h e = written_alike r ok _ _ (declared_alike p q x y (heads_alike p q h) e)

    -- private ones are of any type, and others as they are seen
    pub by_privacy : (p q : PropertyHead) (x y : Seen) → SamePropertyHead r c d f g p q →
        (is_private p.accessibility ≡ false → Alike r ok x y) →
        Alike r ok (if is_private p.accessibility then typed_property p any_type_ann else x)
        (if is_private q.accessibility then typed_property q any_type_ann else y)
    by_privacy p q x y h e =
        alike_if r ok (is_private p.accessibility) (is_private q.accessibility) (typed_property p any_type_ann) x
        (typed_property q any_type_ann) y
        (private_alike r ok p.accessibility q.accessibility h.accessibility) (λ b. typed_alike p q any_type_ann any_type_ann h any_alike) e

    module _ (pair : SameBindings r c d) where
      value_alike : (p q : SourceRange) (t u : Tree) → RangeAlike r ok p q → SameValue r c d t u →
          Alike r ok (member_value_seen c f p t) (member_value_seen d g q u)
      value_alike p q t u e (v.SameValue.no_values x y) =
          alike_if r ok (is_absent t) (is_absent u) refused (expr_seen c t (Some p)) refused (expr_seen d u (Some q)) (x ∙ sym y)
          (λ a. refl) (λ a. cc)
      value_alike p q t u e (v.SameValue.kept x) =
          alike_if r ok (is_absent t) (is_absent u) refused (expr_seen c t (Some p)) refused (expr_seen d u (Some q))
          (expr_absent r ok c d x) (λ a. refl)
          (λ a. expr_alike r ok c d pair x (Some p) (Some q) (ap Some e))

      -- ---- properties

      module _ (t u : Tree) (h : SamePropertyHead r c d f g (property_head t) (property_head u)) where
        property_head_alike : ClassProp-is_override t ≡ ClassProp-is_override u →
            moved_property (partners r) (property_head t) ≡ moved_property twice (property_head u)
        property_head_alike o = λ i. record {
          span = range_to r ok _ _ h.span i;
          key = tree_to r ok h.key i;
          is_static = h.is_static i;
          accessibility = tree_to r ok h.accessibility i;
          is_abstract = h.is_abstract i;
          is_optional = h.is_optional i;
          is_override = o i;
          readonly = h.readonly i;
        }

        abbrev untyped : Bindings → (SourceRange → Bool) → Tree → Seen
        untyped bindings is_implementation m =
            property (property_head m)
            (member_value_seen bindings is_implementation (range_of_node (property_head m).key) (ClassProp-value m))

        pub property_alike : SameProperty r c d f g t u → Alike r ok (property_seen c f t) (property_seen d g u)
        property_alike (s.SameProperty.given types) =
            given_alike r ok (typed_property (property_head t)) (typed_property (property_head u)) (untyped c f t) (untyped d g u) types
            (λ x y e. typed_alike (property_head t) (property_head u) x y h e)
        property_alike (s.SameProperty.kept none o x) =
            let value = value_alike _ _ (ClassProp-value t) (ClassProp-value u) (place_alike _ _ h.key) x in
            none_alike r ok (typed_property (property_head t)) (typed_property (property_head u)) (untyped c f t) (untyped d g u) none
            (λ i. property (property_head_alike o i) (value i))

      -- ---- accessors

      module _ (t u : Tree) (h : SamePropertyHead r c d f g (accessor_head t) (accessor_head u)) where
        abbrev missing : Tree → Seen
        missing m = faulty MissingExplicitType (range_of_node (accessor_head m).key)

        pub accessor_alike : SameTyping r c d (accessor_typing t) (accessor_typing u) → Alike r ok (accessor_seen c f t)
            (accessor_seen d g u)
        accessor_alike (v.SameTyping.given types) =
            given_alike r ok (typed_property (accessor_head t)) (typed_property (accessor_head u)) (missing t) (missing u) types
            (λ x y e. typed_alike (accessor_head t) (accessor_head u) x y h e)
        accessor_alike (v.SameTyping.not_given none) =
            none_alike r ok (typed_property (accessor_head t)) (typed_property (accessor_head u)) (missing t) (missing u) none
            (faulty_alike r ok MissingExplicitType _ _ (place_alike _ _ h.key))
