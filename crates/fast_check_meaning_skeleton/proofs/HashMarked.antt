-- The law on `#private` holds.
use Rattle.std.specs.Prelude.{◌≡◌, Bool, true, false, IfSome, Option, Some, None, List, [], ◌∷◌, ◌++◌, map, flat_map, refl, unwrap_or}
use Rattle.std.specs.Prelude.{option_map, if◌then◌else◌}
use Rattle.std.specs.List.{filter}
use Rattle.std.proofs.Common.{ap, ap₂, ◌∙◌, subst}
use Rattle.std.proofs.lemmas.List.{append_assoc}
use Rattle.std.proofs.lemmas.List.Elements.{filter-append}
use Rattle.fast_check_tree_syntax.specs.declared.kind.Kind.{Kind}
use Rattle.fast_check_tree_syntax.specs.declared.kind.Kind.TheVariants as kinds
use Rattle.fast_check_tree_syntax.specs.declared.source.SourceRange.{SourceRange}
use Rattle.fast_check_tree_syntax.specs.declared.tree.Tree.{Tree, Absent, roll-Tree, out-roll-Tree}
use Rattle.fast_check_tree_syntax.specs.declared.tree.Tree.TheOpen.{Tree-F}
use Rattle.fast_check_tree_syntax.specs.Shape.{◌is◌, kind_at, kind_of, parts, node, list, OfAll}
use Rattle.fast_check_tree_syntax.proofs.Made.{kind_of_node, parts_node, part_node}
use Rattle.fast_check_tree_forms_classes.specs.Classes.{Class-body, Class-super_class, Constructor-span, Constructor-ctxt, Constructor-key}
use Rattle.fast_check_tree_forms_classes.specs.Classes.{Constructor-body, Constructor-accessibility, Constructor-is_optional}
use Rattle.fast_check_tree_forms_classes.specs.Methods.{ClassMethod-span, ClassMethod-key, ClassMethod-kind, ClassMethod-is_static}
use Rattle.fast_check_tree_forms_classes.specs.Methods.{ClassMethod-accessibility, ClassMethod-is_abstract, ClassMethod-is_optional}
use Rattle.fast_check_tree_forms_classes.specs.Methods.{ClassMethod-is_override}
use Rattle.fast_check_tree_helpers.specs.Builders.{any_type_ann}
use Rattle.fast_check_meaning_signatures.specs.Bindings.{Bindings}
use Rattle.fast_check_meaning_signatures.specs.Seen.{PropertyHead, Seen, written, range, scope, flag, listed, seens}
use Rattle.fast_check_meaning_signatures.specs.Answers.{settled, with_tree, class_of, declared_property, valued_property, answer_to, parts_answer}
use Rattle.fast_check_meaning_signatures.specs.Answers.{answer_of}
use Rattle.fast_check_meaning_signatures.specs.Members.{is_private, is_hash_named_kind, is_hash_named, hash_mark, stays_by_kind, stays_behind}
use Rattle.fast_check_meaning_signatures.specs.Members.{each_behind, if_kept, kept_members}
use Rattle.fast_check_meaning_signatures.specs.Classes.{superclass_seen, property_head, accessor_head}
use Rattle.fast_check_meaning_signatures.specs.Classes.{private_method_head, param_properties, patterns_among, param_property_head}
use Rattle.fast_check_meaning_signatures.specs.Classes.{constructor_body, method_function_seen, unless_any, constructor_of, unless_taken_apart}
use Rattle.fast_check_meaning_signatures.specs.Classes.{class_head, property_typing, property_seen, accessor_typing, accessor_seen}
use Rattle.fast_check_meaning_signatures.specs.Classes.{method_seen, constructor_params_seen, constructor_seen, member_of_kind, member_seen}
use Rattle.fast_check_meaning_signatures.specs.Classes.{param_property, declared_by_params, members_seen}
use Rattle.fast_check_meaning_signatures.proofs.Adding.{answer_append}
use Rattle.fast_check_meaning_signatures.proofs.Choices.{of_choice, of_typing}
use Rattle.fast_check_meaning_skeleton.specs.HashMark.{IsMarked, HashMarked}

-- ---- trees without a hash name

abbrev Plain : Tree → Type 0
Plain t = is_hash_named t ≡ false

plain_kind : (t : Tree) (k : Kind) → kind_of t ≡ k → is_hash_named_kind k t ≡ false → Plain t
plain_kind t k e n = ap (λ j. is_hash_named_kind j t) e ∙ n

plain_absent : Plain Absent
unfolding roll-Tree denote.Hole.Carrier.roll
plain_absent = plain_kind Absent kinds.Leaf (ap kind_at (out-roll-Tree Tree-F.Absent)) refl

-- what stays of what is seen has none
abbrev PlainSeen : Seen → Type 0
PlainSeen s = IfSome (answer_to s).stays Plain

of_node : (k : Kind) (o : Option (List Tree)) → ((t : Tree) → is_hash_named_kind k t ≡ false) → IfSome (option_map (node k) o) Plain
of_node k None n = tt
of_node k (Some ts) n = plain_kind (node k ts) k (kind_of_node k ts) (n (node k ts))

property_plain : (p : PropertyHead) (type : Tree) → Plain (declared_property p type)
property_plain p type = plain_kind (declared_property p type) kinds.ClassProp (kind_of_node _ _) refl

valued_plain : (p : PropertyHead) (value : Tree) → Plain (valued_property p value)
valued_plain p value = plain_kind (valued_property p value) kinds.ClassProp (kind_of_node _ _) refl

none_of : (ts : List Tree) → OfAll Plain ts → filter is_hash_named ts ≡ []
none_of [] h = refl
none_of (t ∷ ts) h = rw h.0 (none_of ts h.1)

all_of : (xs ys : List Tree) → OfAll Plain xs → OfAll Plain ys → OfAll Plain (xs ++ ys)
all_of [] ys p q = q
all_of (x ∷ xs) ys p q = (p.0, all_of xs ys p.1 q)

written_stay : (ts : List Tree) → (answer_of (map written ts)).stays ≡ ts
written_stay [] = refl
written_stay (t ∷ ts) = ap (λ us. t ∷ us) (written_stay ts)

module _ (bindings : Bindings) (is_implementation : SourceRange → Bool) where
  -- ---- members

  property_seen_plain : (m : Tree) → PlainSeen (property_seen bindings is_implementation m)
  property_seen_plain m =
      of_typing PlainSeen bindings.unresolved (property_typing m) _ _ (λ type e. property_plain (property_head m) type)
      (valued_plain (property_head m) _)

  accessor_seen_plain : (m : Tree) → PlainSeen (accessor_seen bindings is_implementation m)
  accessor_seen_plain m =
      of_typing PlainSeen bindings.unresolved (accessor_typing m) _ _ (λ type e. property_plain (accessor_head m) type) plain_absent

  -- what is seen of a method that is not private, and of a constructor, part by part
  abbrev method_parts : Tree → List Seen
  method_parts m =
      range (ClassMethod-span m) ∷ written (ClassMethod-key m) ∷ method_function_seen bindings is_implementation m ∷
      written (ClassMethod-kind m) ∷
      flag (ClassMethod-is_static m) ∷ written (ClassMethod-accessibility m) ∷ flag (ClassMethod-is_abstract m) ∷
      flag (ClassMethod-is_optional m) ∷
      flag (ClassMethod-is_override m) ∷ []

  abbrev constructor_parts : Tree → List Seen
  constructor_parts m =
      range (Constructor-span m) ∷ scope (Constructor-ctxt m) ∷ written (Constructor-key m) ∷
      listed (seens (constructor_params_seen bindings is_implementation m)) ∷ written (constructor_body (Constructor-body m)) ∷
      written (Constructor-accessibility m) ∷ flag (Constructor-is_optional m) ∷ []

  method_seen_plain : (m : Tree) → PlainSeen (method_seen bindings is_implementation m)
  method_seen_plain m =
      of_choice PlainSeen (is_private (ClassMethod-accessibility m)) _ _ (λ e. property_plain (private_method_head m) any_type_ann)
      (λ n. of_node kinds.ClassMethod (parts_answer (seens (method_parts m))).stays (λ t. refl))

  constructor_seen_plain : (m : Tree) → PlainSeen (constructor_seen bindings is_implementation m)
  constructor_seen_plain m = go (patterns_among (param_properties m))
    where
      go : (apart : List Tree) →
          PlainSeen (unless_taken_apart apart (constructor_of m (constructor_params_seen bindings is_implementation m)))
      go [] = of_node kinds.Constructor (parts_answer (seens (constructor_parts m))).stays (λ t. refl)
      go (p ∷ ps) = plain_absent

  by_kind : (k : Kind) (earlier : List Tree) (m : Tree) → kind_of m ≡ k → stays_by_kind k earlier m ≡ true →
      PlainSeen (member_of_kind bindings is_implementation k m)
  by_kind kinds.Constructor earlier m k e = constructor_seen_plain m
  by_kind kinds.ClassMethod earlier m k e = method_seen_plain m
  by_kind kinds.ClassProp earlier m k e = property_seen_plain m
  by_kind kinds.AutoAccessor earlier m k e = accessor_seen_plain m
  by_kind kinds.TsIndexSignature earlier m k e = plain_kind m kinds.TsIndexSignature k refl
  by_kind _ earlier m k e = cc

  with_plain : (s : Seen) (ss : List Seen) → PlainSeen s → OfAll Plain (answer_of ss).stays → OfAll Plain (answer_of (s ∷ ss)).stays
  with_plain s ss p h = go (answer_to s).stays p
    where
      go : (o : Option Tree) → IfSome o Plain → OfAll Plain (with_tree o (answer_of ss).stays)
      go None p = h
      go (Some t) p = (p, h)

  kept_plain : (earlier ms : List Tree) →
      OfAll Plain (answer_of (map (member_seen bindings is_implementation) (each_behind if_kept earlier ms))).stays
  kept_plain earlier [] = tt
  kept_plain earlier (m ∷ ms) = go (stays_behind earlier m) refl (kept_plain (m ∷ earlier) ms)
    where
      go : (b : Bool) → stays_behind earlier m ≡ b →
          OfAll Plain (answer_of (map (member_seen bindings is_implementation) (each_behind if_kept (m ∷ earlier) ms))).stays →
          OfAll Plain
          (answer_of
          (map (member_seen bindings is_implementation) ((if b then m ∷ [] else []) ++ each_behind if_kept (m ∷ earlier) ms))).stays
      go true e rest = with_plain (member_seen bindings is_implementation m)
          (map (member_seen bindings is_implementation) (each_behind if_kept (m ∷ earlier) ms))
          (by_kind (kind_of m) earlier m refl e) rest
      go false e rest = rest

  param_properties_plain : (ps : List Tree) → OfAll Plain (map (param_property bindings.unresolved) ps)
  param_properties_plain [] = tt
  param_properties_plain (p ∷ ps) =
      (property_plain (param_property_head p) _, param_properties_plain ps)

  declared_plain : (m : Tree) → OfAll Plain (declared_by_params bindings.unresolved m)
  declared_plain m = of_choice (OfAll Plain) (kind_of m is kinds.Constructor) _ _ (λ e. go (patterns_among (param_properties m))) (λ e. tt)
    where
      go : (apart : List Tree) → OfAll Plain (unless_any apart (map (param_property bindings.unresolved) (param_properties m)))
      go [] = param_properties_plain (param_properties m)
      go (p ∷ ps) = tt

  all_declared : (ms : List Tree) → OfAll Plain (flat_map (declared_by_params bindings.unresolved) ms)
  all_declared [] = tt
  all_declared (m ∷ ms) = all_of (declared_by_params bindings.unresolved m) _ (declared_plain m) (all_declared ms)

  -- ---- classes

  abbrev made_by : List Tree → List Tree
  made_by ms = flat_map (declared_by_params bindings.unresolved) (kept_members ms)

  abbrev others_of : List Tree → List Tree
  others_of ms = made_by ms ++ (answer_of (map (member_seen bindings is_implementation) (kept_members ms))).stays

  members_are : (ms : List Tree) → (answer_of (members_seen bindings is_implementation ms)).stays ≡ hash_mark ms ++ others_of ms
  members_are ms =
      let kept = map (member_seen bindings is_implementation) (kept_members ms) in
      ap (λ a. a.stays) (answer_append (map written (hash_mark ms ++ made_by ms)) kept)
      ∙ (ap (λ ts. ts ++ (answer_of kept).stays) (written_stay (hash_mark ms ++ made_by ms))
      ∙ append_assoc (hash_mark ms) (made_by ms) (answer_of kept).stays)

  abbrev class_tree : Tree → Tree
  class_tree t = class_of (class_head t) (settled (answer_to (superclass_seen (Class-super_class t)))).stays
      (answer_of (members_seen bindings is_implementation (parts (Class-body t)))).stays

  class_marked : (t : Tree) → IsMarked t (class_tree t)
  class_marked t =
      let ms = parts (Class-body t) in
      let rest = (answer_of (map (member_seen bindings is_implementation) (kept_members ms))).stays in
      let members = (answer_of (members_seen bindings is_implementation ms)).stays in
      let body : Class-body (class_tree t) ≡ list members = part_node _ _ _ in
      record {
        rest = others_of ms;
        members = ap parts body ∙ (parts_node _ _ ∙ members_are ms);
        others = filter-append is_hash_named (made_by ms) rest
            ∙ ap₂ (λ x y. x ++ y) (none_of (made_by ms) (all_declared (kept_members ms))) (none_of rest (kept_plain [] ms));
      }

pub hash_marked : (class : Tree) → HashMarked class
hash_marked class bindings is_implementation skeleton e =
    subst (IsMarked class) (ap (λ o. unwrap_or o Absent) e) (class_marked bindings is_implementation class)
