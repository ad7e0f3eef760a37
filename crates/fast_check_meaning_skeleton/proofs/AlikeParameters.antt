-- Parameters that agree but for what is hidden are seen alike.
use Rattle.std.specs.Prelude.{◌≡◌, Bool, true, false, Option, Some, None, option_map, [], ◌∷◌, refl, if◌then◌else◌}
use Rattle.std.proofs.Common.{ap, ap₂, ◌∙◌, sym, subst₂, true≢false}
use Rattle.fast_check_tree_syntax.specs.declared.kind.Kind.{Kind}
use Rattle.fast_check_tree_syntax.specs.declared.kind.Kind.TheVariants as kinds
use Rattle.fast_check_tree_syntax.specs.declared.source.SourceRange.{SourceRange}
use Rattle.fast_check_tree_syntax.specs.declared.tree.Tree as tree
use Rattle.fast_check_tree_syntax.specs.declared.tree.Tree.{Tree}
use Rattle.fast_check_tree_syntax.specs.Shape.{◌is◌, kind_of, is_absent, list}
use Rattle.fast_check_tree_syntax.specs.Moves.{Renaming, IsRenaming, partners, twice, moved_range}
use Rattle.fast_check_tree_syntax.specs.Same.{SameTree, SameRange}
use Rattle.fast_check_tree_syntax.proofs.Partners.{partners-keep as partners_keep, twice-keeps as twice_keeps}
use Rattle.fast_check_tree_syntax.proofs.Same.{tree_to, range_to}
use Rattle.fast_check_tree_forms_expressions.specs.Patterns.{ArrayPat-span, ArrayPat-optional, ArrayPat-type_ann, ObjectPat-span}
use Rattle.fast_check_tree_forms_expressions.specs.Patterns.{ObjectPat-optional, ObjectPat-type_ann, RestPat-span, RestPat-dot3_token}
use Rattle.fast_check_tree_forms_expressions.specs.Patterns.{RestPat-arg, RestPat-type_ann, rest_pat, AssignPat-span, AssignPat-left}
use Rattle.fast_check_tree_forms_expressions.specs.Patterns.{AssignPat-right, assign_pat}
use Rattle.fast_check_tree_helpers.specs.ranges.Ranges.{range_of_node}
use Rattle.fast_check_tree_forms_programs.specs.Names.{Ident-span, BindingIdent-id, BindingIdent-type_ann}
use Rattle.fast_check_tree_helpers.specs.Builders.{never_value}
use Rattle.fast_check_tree_helpers.specs.OptionalParams.{optional_by_kind, is_optional_param}
use Rattle.fast_check_tree_helpers.proofs.BuildersMoved.{never_value_moved}
use Rattle.fast_check_tree_helpers.proofs.ReturnsMoved.{is_optional_param_moved}
use Rattle.fast_check_meaning_signatures.specs.Bindings.{Bindings}
use Rattle.fast_check_meaning_signatures.specs.declared.fault.FaultKind.TheVariants.{MissingExplicitType, UnsupportedDestructuring}
use Rattle.fast_check_meaning_signatures.specs.Seen.{Seen, written, default, faulty}
use Rattle.fast_check_meaning_signatures.specs.NewNodes.{never_array, empty_object_pat}
use Rattle.fast_check_meaning_signatures.specs.Parameters.{Look, emptied_array, emptied_object, typed, arg_by_kind, rest_arg, without_default}
use Rattle.fast_check_meaning_signatures.specs.Parameters.{default_seen, default_typing, pattern_default_seen, assign_by_left, pat_by_kind, pat_seen}
use Rattle.fast_check_meaning_skeleton.specs.SameValues.{Both, SameGiven, NoneGiven, SameEmptied, SameGathered, pattern_type, is_parameter}
use Rattle.fast_check_meaning_skeleton.specs.SameValues.{takes_default, gathers_nothing}
use Rattle.fast_check_meaning_skeleton.specs.SameValues as s
use Rattle.fast_check_meaning_signatures.proofs.NewNodesMoved.{never_array_moved, empty_object_pat_moved}
use Rattle.fast_check_meaning_signatures.proofs.ParametersMoved.{rest_arg_moved, without_default_moved}
use Rattle.fast_check_meaning_skeleton.proofs.AlikeTrees.{TreeAlike, RangeAlike, image_alike, same_read, new_alike, field_alike, range_field_alike}
use Rattle.fast_check_meaning_skeleton.proofs.AlikeTrees.{absent_alike, range_leaf_alike, flag_leaf_alike, node_alike, empty_list_alike}
use Rattle.fast_check_meaning_skeleton.proofs.AlikeSeen.{Alike, written_alike, faulty_alike, alike_if, given_alike, none_alike}

-- ---- what a parameter of each kind is seen as

module _ (bindings : Bindings) (look : Look) (is_optional : Bool) (pat : Tree) where
  pat_of : (k : Kind) → kind_of pat ≡ k → pat_seen bindings look is_optional pat ≡ pat_by_kind bindings look k is_optional pat
  pat_of k e = ap (λ k. pat_by_kind bindings look k is_optional pat) e

  -- a default, by the kind of the pattern that has it
  default_of : (k : Kind) → kind_of pat ≡ kinds.AssignPat → kind_of (AssignPat-left pat) ≡ k →
      pat_seen bindings look is_optional pat ≡ assign_by_left bindings look k is_optional pat
  default_of k e f = pat_of kinds.AssignPat e ∙ ap (λ k. assign_by_left bindings look k is_optional pat) f

  -- what can't be a parameter, and what can't have a default
  unfit_pat : (k : Kind) → is_parameter k ≡ false → pat_by_kind bindings look k is_optional pat ≡ faulty UnsupportedDestructuring
      (range_of_node pat)
  unfit_pat kinds.BindingIdent e = cc
  unfit_pat kinds.AssignPat e = cc
  unfit_pat kinds.RestPat e = cc
  unfit_pat kinds.ArrayPat e = cc
  unfit_pat kinds.ObjectPat e = cc
  unfit_pat _ e = refl

  unfit_left : (k : Kind) → takes_default k ≡ false →
      assign_by_left bindings look k is_optional pat ≡ faulty UnsupportedDestructuring (AssignPat-span pat)
  unfit_left kinds.BindingIdent e = cc
  unfit_left kinds.ArrayPat e = cc
  unfit_left kinds.ObjectPat e = cc
  unfit_left _ e = refl

-- `{}` stands for what a rest can't be gathered in
replaced_arg : (k : Kind) (arg : Tree) → gathers_nothing k ≡ true → arg_by_kind k arg ≡ empty_object_pat
replaced_arg kinds.RestPat arg e = refl
replaced_arg kinds.AssignPat arg e = refl
replaced_arg kinds.PatExpr arg e = refl
replaced_arg _ arg e = cc

-- whether a parameter is optional, by its kind
optional_of : (pat : Tree) {k : Kind} → kind_of pat ≡ k → is_optional_param pat ≡ optional_by_kind k pat
optional_of pat e = ap (λ k. optional_by_kind k pat) e

unfit_optional : (pat : Tree) (k : Kind) → is_parameter k ≡ false → optional_by_kind k pat ≡ false
unfit_optional pat kinds.BindingIdent e = cc
unfit_optional pat kinds.AssignPat e = cc
unfit_optional pat kinds.RestPat e = cc
unfit_optional pat kinds.ArrayPat e = cc
unfit_optional pat kinds.ObjectPat e = cc
unfit_optional pat _ e = refl

-- whether the type of an array or an object pattern is written, by its kind
abbrev no_type_at : Tree → Kind → Bool
no_type_at pat kind = is_absent (if kind is kinds.ArrayPat then ArrayPat-type_ann pat else ObjectPat-type_ann pat)

-- ---- what agrees is alike

module _ (r : Renaming) (ok : IsRenaming r) where
  -- places that are given, or not, on both sides
  abbrev pub PlaceAlike : Option SourceRange → Option SourceRange → Type 0
  PlaceAlike p q = option_map (moved_range (partners r)) p ≡ option_map (moved_range twice) q

  typed_alike : (type type' : Tree) (a b : SourceRange) (t u : Tree) → TreeAlike r ok type type' → RangeAlike r ok a b →
      TreeAlike r ok t u →
      Alike r ok (typed type a t) (typed type' b u)
  typed_alike type type' a b t u e f g =
      alike_if r ok (is_absent type) (is_absent type') (faulty MissingExplicitType a) (written t) (faulty MissingExplicitType b) (written u)
      (absent_alike r ok type type' e) (λ q. faulty_alike r ok MissingExplicitType a b f) (λ q. written_alike r ok t u g)

  without_default_alike : (optional : Bool) (id id' type type' : Tree) → TreeAlike r ok id id' → TreeAlike r ok type type' →
      TreeAlike r ok (without_default optional id type) (without_default optional id' type')
  without_default_alike optional id id' type type' e f =
      sym (without_default_moved (partners r) (partners_keep r ok) optional id type) ∙
      (ap₂ (without_default optional) e f ∙ without_default_moved twice twice_keeps optional id' type')

  array_emptied : (t u : Tree) → SameRange r (ArrayPat-span t) (ArrayPat-span u) → ArrayPat-optional t ≡ ArrayPat-optional u →
      SameTree r (ArrayPat-type_ann t) (ArrayPat-type_ann u) →
      TreeAlike r ok (emptied_array t) (emptied_array u)
  array_emptied t u a o e =
      node_alike r ok kinds.ArrayPat (tree.Range (ArrayPat-span t) ∷ list [] ∷ tree.Flag (ArrayPat-optional t) ∷ ArrayPat-type_ann t ∷ [])
      (tree.Range (ArrayPat-span u) ∷ list [] ∷ tree.Flag (ArrayPat-optional u) ∷ ArrayPat-type_ann u ∷ [])
      (λ i. range_leaf_alike r ok (ArrayPat-span t) (ArrayPat-span u) (range_to r ok (ArrayPat-span t) (ArrayPat-span u) a) i ∷
      empty_list_alike r ok i ∷ flag_leaf_alike r ok (ArrayPat-optional t) (ArrayPat-optional u) o i ∷ tree_to r ok e i ∷ [])

  object_emptied : (t u : Tree) → SameRange r (ObjectPat-span t) (ObjectPat-span u) → ObjectPat-optional t ≡ ObjectPat-optional u →
      SameTree r (ObjectPat-type_ann t) (ObjectPat-type_ann u) →
      TreeAlike r ok (emptied_object t) (emptied_object u)
  object_emptied t u a o e =
      node_alike r ok kinds.ObjectPat
      (tree.Range (ObjectPat-span t) ∷ list [] ∷ tree.Flag (ObjectPat-optional t) ∷ ObjectPat-type_ann t ∷ [])
      (tree.Range (ObjectPat-span u) ∷ list [] ∷ tree.Flag (ObjectPat-optional u) ∷ ObjectPat-type_ann u ∷ [])
      (λ i. range_leaf_alike r ok (ObjectPat-span t) (ObjectPat-span u) (range_to r ok (ObjectPat-span t) (ObjectPat-span u) a) i ∷
      empty_list_alike r ok i ∷ flag_leaf_alike r ok (ObjectPat-optional t) (ObjectPat-optional u) o i ∷ tree_to r ok e i ∷ [])

  assign_pat_alike : (a b : SourceRange) (t u never : Tree) → SameRange r a b → TreeAlike r ok t u → TreeAlike r ok never never →
      TreeAlike r ok (assign_pat a t never) (assign_pat b u never)
  assign_pat_alike a b t u never s e f =
      node_alike r ok kinds.AssignPat (tree.Range a ∷ t ∷ never ∷ []) (tree.Range b ∷ u ∷ never ∷ [])
      (λ i. range_leaf_alike r ok a b (range_to r ok a b s) i ∷ e i ∷ f i ∷ [])

  default_alike : (a b p q : SourceRange) (left left' : Tree) (value value' : Seen) → SameRange r a b → RangeAlike r ok p q →
      TreeAlike r ok left left' →
      Alike r ok value value' →
      Alike r ok (default_seen a p left value) (default_seen b q left' value')
  default_alike a b p q left left' value value' s e f g =
      λ i. default (record { span = range_to r ok a b s i; left = f i; place = e i }) (g i)

  module _ (c d : Bindings) where
    emptied_arg_alike : (t u : Tree) → SameEmptied r c d t u → TreeAlike r ok (rest_arg t) (rest_arg u)
    emptied_arg_alike t u (s.array k a o e) = subst₂ (TreeAlike r ok) (sym (ap (λ k. arg_by_kind k t) k.left))
        (sym (ap (λ k. arg_by_kind k u) k.right))
        (array_emptied t u a o e)
    emptied_arg_alike t u (s.object k a o e) = subst₂ (TreeAlike r ok) (sym (ap (λ k. arg_by_kind k t) k.left))
        (sym (ap (λ k. arg_by_kind k u) k.right))
        (object_emptied t u a o e)

    rest_arg_alike : (t u : Tree) → SameGathered r c d t u → TreeAlike r ok (rest_arg t) (rest_arg u)
    rest_arg_alike t u (s.named e) = image_alike r ok rest_arg (λ m keeps t. rest_arg_moved m keeps t) t u (tree_to r ok e)
    rest_arg_alike t u (s.emptied_gathered e) = emptied_arg_alike t u e
    rest_arg_alike t u (s.replaced e f) =
        subst₂ (TreeAlike r ok) (sym (replaced_arg (kind_of t) t e)) (sym (replaced_arg (kind_of u) u f))
        (new_alike r ok empty_object_pat empty_object_pat_moved)

    -- ---- which may be left out

    pub same_optional : (t u : Tree) → SameTree r t u → is_optional_param t ≡ is_optional_param u
    same_optional t u s = same_read r ok is_optional_param (λ m keeps t. is_optional_param_moved m t) t u (tree_to r ok s)

    pub emptied_optional : (t u : Tree) → SameEmptied r c d t u → is_optional_param t ≡ is_optional_param u
    emptied_optional t u (s.array k a o e) = optional_of t k.left ∙ (o ∙ sym (optional_of u k.right))
    emptied_optional t u (s.object k a o e) = optional_of t k.left ∙ (o ∙ sym (optional_of u k.right))

    pub rest_optional : (t u : Tree) → Both kinds.RestPat t u → is_optional_param t ≡ is_optional_param u
    rest_optional t u k = optional_of t k.left ∙ sym (optional_of u k.right)

    pub assign_optional : (t u : Tree) → Both kinds.AssignPat t u → is_optional_param t ≡ is_optional_param u
    assign_optional t u k = optional_of t k.left ∙ sym (optional_of u k.right)

    pub unfit_same : (t u : Tree) → is_parameter (kind_of t) ≡ false → is_parameter (kind_of u) ≡ false →
        is_optional_param t ≡ is_optional_param u
    unfit_same t u e f = unfit_optional t (kind_of t) e ∙ sym (unfit_optional u (kind_of u) f)

    -- ---- what is seen, whatever is seen of expressions, but for defaults that are to stay

    module _ (look look' : Look) (b : Bool) where
      -- two parameters are seen alike
      abbrev pub PatAlike : Tree → Tree → Type 0
      PatAlike t u = Alike r ok (pat_seen c look b t) (pat_seen d look' b u)

      -- the defaults of two parameters are seen alike
      abbrev pub DefaultAlike : Tree → Tree → Type 0
      DefaultAlike t u = (p q : Option SourceRange) → PlaceAlike p q → Alike r ok (look (AssignPat-right t) p) (look' (AssignPat-right u) q)

      pub bare_alike : (t u : Tree) → Both kinds.BindingIdent t u → SameTree r t u → PatAlike t u
      bare_alike t u k e =
          let same = tree_to r ok e in
          subst₂ (Alike r ok) (sym (pat_of c look b t kinds.BindingIdent k.left)) (sym (pat_of d look' b u kinds.BindingIdent k.right))
          (typed_alike (BindingIdent-type_ann t) (BindingIdent-type_ann u) (Ident-span (BindingIdent-id t))
          (Ident-span (BindingIdent-id u)) t u
          (field_alike r ok BindingIdent-type_ann _ (λ t. refl) t u same)
          (range_field_alike r ok Ident-span _ (λ t. refl) (BindingIdent-id t) (BindingIdent-id u)
          (field_alike r ok BindingIdent-id _ (λ t. refl) t u same))
          same)

      pub taken_apart_alike : (t u : Tree) → is_parameter (kind_of t) ≡ false → is_parameter (kind_of u) ≡ false →
          SameRange r (range_of_node t) (range_of_node u) → PatAlike t u
      taken_apart_alike t u e f a =
          subst₂ (Alike r ok) (sym (unfit_pat c look b t (kind_of t) e)) (sym (unfit_pat d look' b u (kind_of u) f))
          (faulty_alike r ok UnsupportedDestructuring (range_of_node t) (range_of_node u)
          (range_to r ok (range_of_node t) (range_of_node u) a))

      pub default_taken_apart_alike : (t u : Tree) → Both kinds.AssignPat t u → takes_default (kind_of (AssignPat-left t)) ≡ false →
          takes_default (kind_of (AssignPat-left u)) ≡ false → SameRange r (AssignPat-span t) (AssignPat-span u) → PatAlike t u
      default_taken_apart_alike t u k e f a =
          subst₂ (Alike r ok) (sym (pat_of c look b t kinds.AssignPat k.left ∙ unfit_left c look b t (kind_of (AssignPat-left t)) e))
          (sym (pat_of d look' b u kinds.AssignPat k.right ∙ unfit_left d look' b u (kind_of (AssignPat-left u)) f))
          (faulty_alike r ok UnsupportedDestructuring (AssignPat-span t) (AssignPat-span u)
          (range_to r ok (AssignPat-span t) (AssignPat-span u) a))

      pub emptied_alike : (t u : Tree) → SameEmptied r c d t u → PatAlike t u
      emptied_alike t u (s.array k a o e) =
          subst₂ (Alike r ok) (sym (pat_of c look b t kinds.ArrayPat k.left)) (sym (pat_of d look' b u kinds.ArrayPat k.right))
          (typed_alike (ArrayPat-type_ann t) (ArrayPat-type_ann u) (ArrayPat-span t) (ArrayPat-span u) (emptied_array t) (emptied_array u)
          (tree_to r ok e) (range_to r ok (ArrayPat-span t) (ArrayPat-span u) a) (array_emptied t u a o e))
      emptied_alike t u (s.object k a o e) =
          subst₂ (Alike r ok) (sym (pat_of c look b t kinds.ObjectPat k.left)) (sym (pat_of d look' b u kinds.ObjectPat k.right))
          (typed_alike (ObjectPat-type_ann t) (ObjectPat-type_ann u) (ObjectPat-span t) (ObjectPat-span u) (emptied_object t)
          (emptied_object u)
          (tree_to r ok e) (range_to r ok (ObjectPat-span t) (ObjectPat-span u) a) (object_emptied t u a o e))

      pub rest_alike : (t u : Tree) → Both kinds.RestPat t u → SameRange r (RestPat-span t) (RestPat-span u) →
          SameRange r (RestPat-dot3_token t) (RestPat-dot3_token u) →
          SameGathered r c d (RestPat-arg t) (RestPat-arg u) → SameTree r (RestPat-type_ann t) (RestPat-type_ann u) → PatAlike t u
      rest_alike t u k a dots arg e =
          subst₂ (Alike r ok) (sym (pat_of c look b t kinds.RestPat k.left)) (sym (pat_of d look' b u kinds.RestPat k.right))
          (typed_alike (RestPat-type_ann t) (RestPat-type_ann u) (RestPat-span t) (RestPat-span u)
          (rest_pat (RestPat-span t) (RestPat-dot3_token t) (rest_arg (RestPat-arg t)) (RestPat-type_ann t))
          (rest_pat (RestPat-span u) (RestPat-dot3_token u) (rest_arg (RestPat-arg u)) (RestPat-type_ann u))
          (tree_to r ok e) (range_to r ok (RestPat-span t) (RestPat-span u) a)
          (node_alike r ok kinds.RestPat
          (tree.Range (RestPat-span t) ∷ tree.Range (RestPat-dot3_token t) ∷ rest_arg (RestPat-arg t) ∷ RestPat-type_ann t ∷ [])
          (tree.Range (RestPat-span u) ∷ tree.Range (RestPat-dot3_token u) ∷ rest_arg (RestPat-arg u) ∷ RestPat-type_ann u ∷ [])
          (λ i. range_leaf_alike r ok (RestPat-span t) (RestPat-span u) (range_to r ok (RestPat-span t) (RestPat-span u) a) i ∷
          range_leaf_alike r ok (RestPat-dot3_token t) (RestPat-dot3_token u)
          (range_to r ok (RestPat-dot3_token t) (RestPat-dot3_token u) dots) i ∷
          rest_arg_alike (RestPat-arg t) (RestPat-arg u) arg i ∷ tree_to r ok e i ∷ [])))

      -- ---- identifiers with defaults

      -- one without a type
      abbrev untyped : Look → Tree → Seen
      untyped f pat =
          let place = Ident-span (BindingIdent-id (AssignPat-left pat)) in
          default_seen (AssignPat-span pat) place (AssignPat-left pat) (f (AssignPat-right pat) (Some place))

      abbrev with_type : Tree → Tree → Seen
      with_type pat type = written (without_default b (BindingIdent-id (AssignPat-left pat)) type)

      id_alike : (t u : Tree) → SameTree r (AssignPat-left t) (AssignPat-left u) →
          TreeAlike r ok (BindingIdent-id (AssignPat-left t)) (BindingIdent-id (AssignPat-left u))
      id_alike t u e = field_alike r ok BindingIdent-id _ (λ t. refl) (AssignPat-left t) (AssignPat-left u) (tree_to r ok e)

      pub given_default_alike : (t u : Tree) → Both kinds.AssignPat t u → Both kinds.BindingIdent (AssignPat-left t) (AssignPat-left u) →
          SameTree r (AssignPat-left t) (AssignPat-left u) → SameGiven r c d (default_typing t) (default_typing u) → PatAlike t u
      given_default_alike t u k j e types =
          subst₂ (Alike r ok) (sym (default_of c look b t kinds.BindingIdent k.left j.left))
          (sym (default_of d look' b u kinds.BindingIdent k.right j.right))
          (given_alike r ok (with_type t) (with_type u) (untyped look t) (untyped look' u) types (λ x y h.
          written_alike r ok (without_default b (BindingIdent-id (AssignPat-left t)) x)
          (without_default b (BindingIdent-id (AssignPat-left u)) y)
          (without_default_alike b (BindingIdent-id (AssignPat-left t)) (BindingIdent-id (AssignPat-left u)) x y (id_alike t u e) h)))

      pub kept_default_alike : (t u : Tree) → Both kinds.AssignPat t u → Both kinds.BindingIdent (AssignPat-left t) (AssignPat-left u) →
          SameRange r (AssignPat-span t) (AssignPat-span u) → SameTree r (AssignPat-left t) (AssignPat-left u) →
          NoneGiven r c d (default_typing t) (default_typing u) → DefaultAlike t u → PatAlike t u
      kept_default_alike t u k j a e none v =
          let place = Ident-span (BindingIdent-id (AssignPat-left t)) in
          let place' = Ident-span (BindingIdent-id (AssignPat-left u)) in
          let f : RangeAlike r ok place place' =
          range_field_alike r ok Ident-span _ (λ t. refl) (BindingIdent-id (AssignPat-left t)) (BindingIdent-id (AssignPat-left u))
          (id_alike t u e) in
          subst₂ (Alike r ok) (sym (default_of c look b t kinds.BindingIdent k.left j.left))
          (sym (default_of d look' b u kinds.BindingIdent k.right j.right))
          (none_alike r ok (with_type t) (with_type u) (untyped look t) (untyped look' u) none
          (default_alike (AssignPat-span t) (AssignPat-span u) place place' (AssignPat-left t) (AssignPat-left u)
          (look (AssignPat-right t) (Some place)) (look' (AssignPat-right u) (Some place')) a f (tree_to r ok e)
          (v (Some place) (Some place') (ap Some f))))

      -- ---- patterns with defaults

      pattern_default_alike : (t u type type' : Tree) (p q : SourceRange) (x y never : Tree) →
          SameRange r (AssignPat-span t) (AssignPat-span u) →
          TreeAlike r ok type type' → RangeAlike r ok p q → TreeAlike r ok x y → TreeAlike r ok never never →
          (is_absent type ≡ true → Alike r ok (look (AssignPat-right t) None) (look' (AssignPat-right u) None)) →
          Alike r ok (pattern_default_seen c look type p x never t) (pattern_default_seen d look' type' q y never u)
      pattern_default_alike t u type type' p q x y never a e f g n v =
          alike_if r ok (is_absent type) (is_absent type')
          (default_seen (AssignPat-span t) p x (look (AssignPat-right t) None)) (written (assign_pat (AssignPat-span t) x never))
          (default_seen (AssignPat-span u) q y (look' (AssignPat-right u) None)) (written (assign_pat (AssignPat-span u) y never))
          (absent_alike r ok type type' e)
          (λ w. default_alike (AssignPat-span t) (AssignPat-span u) p q x y (look (AssignPat-right t) None)
          (look' (AssignPat-right u) None) a f g (v w))
          (λ w. written_alike r ok (assign_pat (AssignPat-span t) x never) (assign_pat (AssignPat-span u) y never)
          (assign_pat_alike (AssignPat-span t) (AssignPat-span u) x y never a g n))

      -- by the written type, or else by the default
      emptied_default_alike : (t u : Tree) → Both kinds.AssignPat t u → SameRange r (AssignPat-span t) (AssignPat-span u) →
          SameEmptied r c d (AssignPat-left t) (AssignPat-left u) →
          (is_absent (pattern_type (AssignPat-left t)) ≡ true → Alike r ok (look (AssignPat-right t) None)
          (look' (AssignPat-right u) None)) → PatAlike t u
      emptied_default_alike t u k a (s.array j o f e) v =
          let left = AssignPat-left t in
          let left' = AssignPat-left u in
          subst₂ (Alike r ok) (sym (default_of c look b t kinds.ArrayPat k.left j.left))
          (sym (default_of d look' b u kinds.ArrayPat k.right j.right))
          (pattern_default_alike t u (ArrayPat-type_ann left) (ArrayPat-type_ann left') (ArrayPat-span left) (ArrayPat-span left')
          (emptied_array left)
          (emptied_array left') never_array
          a (tree_to r ok e) (range_to r ok (ArrayPat-span left) (ArrayPat-span left') o) (array_emptied left left' o f e)
          (new_alike r ok never_array never_array_moved)
          (λ q. v (ap (no_type_at left) j.left ∙ q)))
      emptied_default_alike t u k a (s.object j o f e) v =
          let left = AssignPat-left t in
          let left' = AssignPat-left u in
          subst₂ (Alike r ok) (sym (default_of c look b t kinds.ObjectPat k.left j.left))
          (sym (default_of d look' b u kinds.ObjectPat k.right j.right))
          (pattern_default_alike t u (ObjectPat-type_ann left) (ObjectPat-type_ann left') (ObjectPat-span left) (ObjectPat-span left')
          (emptied_object left)
          (emptied_object left') never_value
          a (tree_to r ok e) (range_to r ok (ObjectPat-span left) (ObjectPat-span left') o) (object_emptied left left' o f e)
          (new_alike r ok never_value never_value_moved)
          (λ q. v (ap (no_type_at left) j.left ∙ q)))

      pub typed_pattern_alike : (t u : Tree) → Both kinds.AssignPat t u → SameRange r (AssignPat-span t) (AssignPat-span u) →
          SameEmptied r c d (AssignPat-left t) (AssignPat-left u) →
          is_absent (pattern_type (AssignPat-left t)) ≡ false → PatAlike t u
      typed_pattern_alike t u k a e w = emptied_default_alike t u k a e (λ q. absurd (true≢false (sym q ∙ w)))

      pub kept_pattern_alike : (t u : Tree) → Both kinds.AssignPat t u → SameRange r (AssignPat-span t) (AssignPat-span u) →
          SameEmptied r c d (AssignPat-left t) (AssignPat-left u) →
          DefaultAlike t u → PatAlike t u
      kept_pattern_alike t u k a e v = emptied_default_alike t u k a e (λ q. v None None refl)
