-- Assignments that agree are seen alike, and declare the same properties.
use Rattle.std.specs.Prelude.{◌≡◌, ℕ, Bool, true, false, not, ◌&&◌, Option, Some, None, List, [], ◌∷◌, ◌++◌, map, option_map, refl}
use Rattle.std.specs.Prelude.{if◌then◌else◌}
use Rattle.std.proofs.Common.{ap, ap₂, ◌∙◌, sym}
use Rattle.fast_check_tree_syntax.specs.declared.source.SourceRange.{SourceRange}
use Rattle.fast_check_tree_syntax.specs.declared.tree.Tree.{Tree}
use Rattle.fast_check_tree_syntax.specs.Shape.{is_absent}
use Rattle.fast_check_tree_syntax.specs.Moves.{Renaming, IsRenaming, partners, twice, moved, moved_range}
use Rattle.fast_check_tree_syntax.specs.Same.{SameTree}
use Rattle.fast_check_tree_syntax.proofs.Partners.{partners-keep as partners_keep, twice-keeps as twice_keeps}
use Rattle.fast_check_tree_syntax.proofs.Same.{tree_to, range_to}
use Rattle.fast_check_tree_forms_expressions.specs.Calls.{MemberExpr-span}
use Rattle.fast_check_tree_forms_expressions.specs.Operators.{AssignExpr-span, AssignExpr-left, AssignExpr-right}
use Rattle.fast_check_tree_helpers.specs.ranges.Ranges.{range_of_node}
use Rattle.fast_check_tables_modules.specs.Expandos.{is_expando_assignment}
use Rattle.fast_check_meaning_signatures.specs.Answers.{answer_to}
use Rattle.fast_check_meaning_signatures.specs.Seen.{tested, refused}
use Rattle.fast_check_meaning_signatures.proofs.AnswersMoved.{answer_to_moved}
use Rattle.fast_check_meaning_skeleton.specs.SameValues.{SameBindings}
use Rattle.fast_check_meaning_skeleton.proofs.Alike.{expr_alike}
use Rattle.fast_check_meaning_skeleton.proofs.AlikeSeen.{Alike, AllAlike, alike_if, all_alike_if}
use Rattle.fast_check_meaning_skeleton.proofs.AlikePresent.{expr_absent}
use Rattle.fast_check_meaning_signatures.specs.Expressions.{expr_seen}
use Rattle.fast_check_meaning_skeleton.proofs.AlikeTrees.{range_field_alike}
use Rattle.fast_check_meaning_expandos.specs.declared.properties.ExpandoProperty.{ExpandoProperty}
use Rattle.fast_check_meaning_expandos.specs.Assignments.{right_seen, is_declared, missing_place, assignment_seen, kept_property}
use Rattle.fast_check_meaning_expandos.specs.Assignments.{declared_properties, mentioned_in}
use Rattle.fast_check_meaning_expandos.specs.Expandos.{object_of, property_declarator, property_of, namespaces_seen}
use Rattle.fast_check_meaning_expandos.proofs.Mentioned.{conflicts_same}
use Rattle.fast_check_meaning_expandos.proofs.PropertiesMoved.{moved_expando, property_moved, namespaces_moved}
use Rattle.fast_check_meaning_skeleton.specs.SameAssignments.{SameExpando, SameForm, SameAssignment}
use Rattle.fast_check_meaning_skeleton.specs.SameAssignments as s
use Rattle.fast_check_meaning_skeleton.specs.ModuleFacts.{ModuleFacts}

-- what is not of expando form declares no property
undeclared : (facts : ModuleFacts) (t : Tree) → is_expando_assignment t ≡ false →
    declared_properties facts.is_public facts.bindings facts.objects t ≡ []
undeclared facts t e =
    let kept = kept_property facts.objects (AssignExpr-span t) (AssignExpr-left t) (answer_to (right_seen facts.bindings t)).stays in
    ap (λ x. if facts.is_public (AssignExpr-span t) && x then kept else []) e ∙ go (facts.is_public (AssignExpr-span t)) kept
  where
    go : (p : Bool) (ps : List ExpandoProperty) → (if p && false then ps else []) ≡ []
    go true ps = refl
    go false ps = refl

module _ (r : Renaming) (ok : IsRenaming r) where
  -- properties are the same, moved
  abbrev pub PropertiesAlike : List ExpandoProperty → List ExpandoProperty → Type 0
  PropertiesAlike ps qs = map (moved_expando (partners r)) ps ≡ map (moved_expando twice) qs

  -- and so are their namespaces
  pub namespaces_alike : (ps qs : List ExpandoProperty) → PropertiesAlike ps qs → AllAlike r ok (namespaces_seen ps) (namespaces_seen qs)
  namespaces_alike ps qs e =
      sym (namespaces_moved (partners r) (partners_keep r ok) ps) ∙ (ap namespaces_seen e ∙ namespaces_moved twice twice_keeps qs)

  map_append : {A B : Type 0} (f : A → B) (xs ys : List A) → map f (xs ++ ys) ≡ map f xs ++ map f ys
  map_append f [] ys = refl
  map_append f (x ∷ xs) ys = ap (λ zs. f x ∷ zs) (map_append f xs ys)

  pub more_properties : (ps qs us vs : List ExpandoProperty) → PropertiesAlike ps us → PropertiesAlike qs vs →
      PropertiesAlike (ps ++ qs) (us ++ vs)
  more_properties ps qs us vs e f =
      map_append (moved_expando (partners r)) ps qs ∙ (ap₂ (λ x y. x ++ y) e f ∙ sym (map_append (moved_expando twice) us vs))

  module _ (a b : ModuleFacts) (t u : Tree) (d : SameAssignment r a b t u) where
    abbrev left : Tree
    left = AssignExpr-left t

    abbrev left' : Tree
    left' = AssignExpr-left u

    abbrev place_of : Tree → Bool → Option SourceRange
    place_of target missing = if missing then Some (MemberExpr-span target) else None

    abbrev PlacesAlike : Option SourceRange → Option SourceRange → Type 0
    PlacesAlike p q = option_map (moved_range (partners r)) p ≡ option_map (moved_range twice) q

    place_if : (x y : Bool) → x ≡ y → SameTree r left left' → PlacesAlike (place_of left x) (place_of left' y)
    place_if true true e same = ap Some (range_field_alike r ok MemberExpr-span _ (λ t. refl) left left' (tree_to r ok same))
    place_if false false e same = refl
    place_if true false e same = cc
    place_if false true e same = cc

    places_alike : SameForm r a b t u → PlacesAlike (missing_place a.objects t) (missing_place b.objects u)
    places_alike (s.expando e) =
        place_if (is_expando_assignment t && not (is_declared a.objects left))
        (is_expando_assignment u && not (is_declared b.objects left'))
        (ap₂ (λ x y. x && not y) (e.forms.0 ∙ sym e.forms.1) e.object.is_declared) e.target
    places_alike (s.other e f) =
        ap (λ x. option_map (moved_range (partners r)) (place_of left (x && not (is_declared a.objects left)))) e
        ∙ sym (ap (λ x. option_map (moved_range twice) (place_of left' (x && not (is_declared b.objects left')))) f)

    module _ (c : SameBindings r a.bindings b.bindings) where
      right_alike : Alike r ok (right_seen a.bindings t) (right_seen b.bindings u)
      right_alike =
          alike_if r ok (is_absent (AssignExpr-right t)) (is_absent (AssignExpr-right u)) refused
          (expr_seen a.bindings (AssignExpr-right t) (Some (range_of_node (AssignExpr-right t)))) refused
          (expr_seen b.bindings (AssignExpr-right u) (Some (range_of_node (AssignExpr-right u))))
          (expr_absent r ok a.bindings b.bindings d.right) (λ e. refl)
          (λ e. expr_alike r ok a.bindings b.bindings c d.right (Some (range_of_node (AssignExpr-right t)))
          (Some (range_of_node (AssignExpr-right u)))
          (ap Some (range_to r ok _ _ d.right_range)))

      pub assignments_alike : AllAlike r ok (assignment_seen a.is_public a.bindings a.objects t)
          (assignment_seen b.is_public b.bindings b.objects u)
      assignments_alike =
          all_alike_if r ok (a.is_public (AssignExpr-span t)) (b.is_public (AssignExpr-span u))
          (tested (missing_place a.objects t) (right_seen a.bindings t))
          (tested (missing_place b.objects u) (right_seen b.bindings u)) d.is_public (λ i. tested (places_alike d.form i) (right_alike i))

      stays_alike : option_map (moved (partners r)) (answer_to (right_seen a.bindings t)).stays ≡
          option_map (moved twice) (answer_to (right_seen b.bindings u)).stays
      stays_alike =
          sym (ap (λ x. x.stays) (answer_to_moved (partners r) (partners_keep r ok) (right_seen a.bindings t)))
          ∙ (ap (λ s. (answer_to s).stays) right_alike ∙ ap (λ x. x.stays) (answer_to_moved twice twice_keeps (right_seen b.bindings u)))

      some_is : {A : Type 0} {x y : A} → Some x ≡ Some y → x ≡ y
      some_is e = cc

      -- what the object of the second target exports
      abbrev exports : List ℕ → Bool
      exports = b.objects.exports (object_of left')

      abbrev SameNames : Option Tree → Type 0
      SameNames o =
          map (a.objects.exports (object_of left)) (mentioned_in (object_of left).1 o) ≡ map exports (mentioned_in (object_of left).1 o)

      kept_alike : SameExpando r a b t u → (o o' : Option Tree) → SameNames o →
          option_map (moved (partners r)) o ≡ option_map (moved twice) o' →
          PropertiesAlike (kept_property a.objects (AssignExpr-span t) left o) (kept_property b.objects (AssignExpr-span u) left' o')
      kept_alike d None None n e = refl
      kept_alike d (Some x) (Some y) n e =
          ap (λ conflicting. moved_expando (partners r) (record {
            object = object_of left;
            is_exported = a.objects.has_export_keyword (object_of left);
            declarator = property_declarator (AssignExpr-span t) left x;
            conflicts = conflicting;
          }) ∷ []) (conflicts_same (object_of left).1 (a.objects.exports (object_of left)) exports x n)
          ∙ ap (λ p. p ∷ [])
          (sym (property_moved (partners r) (partners_keep r ok) exports (a.objects.has_export_keyword (object_of left))
          (AssignExpr-span t)
          left x)
          ∙ ((λ i. property_of exports (d.object.has_export_keyword i) (range_to r ok (AssignExpr-span t) (AssignExpr-span u) d.span i)
          (tree_to r ok d.target i) (some_is e i))
          ∙ property_moved twice twice_keeps exports (b.objects.has_export_keyword (object_of left')) (AssignExpr-span u) left' y))
      kept_alike d (Some x) None n e = cc
      kept_alike d None (Some y) n e = cc

      kept_if : (x y : Bool) → x ≡ y → (ps qs : List ExpandoProperty) → PropertiesAlike ps qs →
          PropertiesAlike (if x then ps else []) (if y then qs else [])
      kept_if true true e ps qs f = f
      kept_if false false e ps qs f = refl
      kept_if true false e ps qs f = cc
      kept_if false true e ps qs f = cc

      abbrev Declared : Type 0
      Declared = PropertiesAlike (declared_properties a.is_public a.bindings a.objects t)
          (declared_properties b.is_public b.bindings b.objects u)

      by_form : SameForm r a b t u → Declared
      by_form (s.expando e) =
          kept_if (a.is_public (AssignExpr-span t) && is_expando_assignment t) (b.is_public (AssignExpr-span u) && is_expando_assignment u)
          (ap₂ (λ x y. x && y) d.is_public (e.forms.0 ∙ sym e.forms.1)) _ _
          (kept_alike e (answer_to (right_seen a.bindings t)).stays (answer_to (right_seen b.bindings u)).stays e.exported stays_alike)
      by_form (s.other e f) = ap (map (moved_expando (partners r))) (undeclared a t e) ∙
          sym (ap (map (moved_expando twice)) (undeclared b u f))

      pub properties_alike : Declared
      properties_alike = by_form d.form
