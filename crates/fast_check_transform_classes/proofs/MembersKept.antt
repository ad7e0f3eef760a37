-- What is answered to methods and to the members of a class, one more.
use Rattle.std.specs.Prelude.{◌≡◌, ℕ, ◌+◌, ◌<◌, ◌≤◌, Bool, true, false, Option, Some, None, option_map, List, [], ◌∷◌, ◌++◌, map, flat_map}
use Rattle.std.specs.Prelude.{length, take, drop, refl, if◌then◌else◌}
use Rattle.std.specs.List.{filter}
use lib.ListN.{get_or}
use Rattle.std.proofs.Common.{ap, ◌∙◌, sym, subst, append-nil, append_assoc, add-one}
use Rattle.std.proofs.Math.Seq.{drop-cons}
use Rattle.std.proofs.lemmas.List.{drop_all, take_more, take_all, map-append}
use Rattle.std.proofs.lemmas.List.Elements.{filter-append}
use Rattle.std.proofs.lemmas.List.Concat.{flat_map-append}
use Rattle.fast_check_tree_syntax.specs.declared.kind.Kind.{Kind}
use Rattle.fast_check_tree_syntax.specs.declared.kind.Kind.TheVariants as kinds
use Rattle.fast_check_tree_syntax.specs.declared.part.Part.{Part}
use Rattle.fast_check_tree_syntax.specs.declared.source.SourceRange.{SourceRange}
use Rattle.fast_check_tree_syntax.specs.declared.source.SyntaxContext.{SyntaxContext}
use Rattle.fast_check_tree_syntax.specs.declared.tree.Tree as tree
use Rattle.fast_check_tree_syntax.specs.declared.tree.Tree.{Tree}
use Rattle.fast_check_tree_syntax.specs.Part.{seen}
use Rattle.fast_check_tree_syntax.specs.Shape.{◌is◌, kind_of, parts, node}
use Rattle.fast_check_tree_forms_classes.specs.Classes.{Constructor-params}
use Rattle.fast_check_tree_forms_classes.specs.Methods.{ClassMethod-span, ClassMethod-key, ClassMethod-function, ClassMethod-kind}
use Rattle.fast_check_tree_forms_classes.specs.Methods.{ClassMethod-is_static, ClassMethod-accessibility, ClassMethod-is_abstract}
use Rattle.fast_check_tree_forms_classes.specs.Methods.{ClassMethod-is_optional, ClassMethod-is_override}
use Rattle.fast_check_tree_helpers.specs.Builders.{any_type_ann}
use Rattle.fast_check_tree_helpers.specs.ranges.Ranges.{range_of_node}
use Rattle.fast_check_meaning_signatures.specs.Bindings.{Bindings}
use Rattle.fast_check_meaning_signatures.specs.declared.fault.Fault.{Fault}
use Rattle.fast_check_meaning_signatures.specs.declared.function_kind.FunctionKind.{FunctionKind}
use Rattle.fast_check_meaning_signatures.specs.Seen.{Seen, written}
use Rattle.fast_check_meaning_signatures.specs.Answers.{Answer, Adds, faultless, made, joined, with_tree, answer_to, answer_of, declared_property}
use Rattle.fast_check_meaning_signatures.specs.Expressions.{expr_seen}
use Rattle.fast_check_meaning_signatures.specs.Functions.{function_seen, implementation_seen}
use Rattle.fast_check_meaning_signatures.specs.Classes.{declared_by_params, typed_property, private_method_head, method_kind, method_of}
use Rattle.fast_check_meaning_signatures.specs.Classes.{method_function_seen, method_seen, member_seen, member_of_kind, members_seen}
use Rattle.fast_check_meaning_signatures.specs.Classes.{constructor_seen, param_properties, patterns_among, unless_any}
use Rattle.fast_check_meaning_signatures.specs.Classes as classes
use Rattle.fast_check_meaning_signatures.specs.Members.{is_private, hash_mark, kept_members}
use Rattle.fast_check_meaning_signatures.proofs.Adding.{adds_nothing, adds_same, adds_made, adds_visited}
use Rattle.fast_check_transform_expressions.proofs.Behind.{Behind, behind_along, items_step, items_end}
use Rattle.fast_check_transform_classes.specs.Parts.{property_answer, accessor_answer, first_of, first_pattern, signed_method, declared_params}
use Rattle.fast_check_transform_classes.specs.Parts.{kept_answer}

module _ (u : Bindings) (is_implementation : SourceRange → Bool) (m : Tree) where
  abbrev function_if : Bool → Seen
  function_if i =
      if i then implementation_seen (ClassMethod-function m)
      else function_seen u (expr_seen u) (method_kind (ClassMethod-kind m)) (range_of_node (ClassMethod-key m)) (ClassMethod-function m)

  pub implementation : is_implementation (ClassMethod-span m) ≡ true → {f t : Tree} → f ≡ ClassMethod-function m →
      answer_to (implementation_seen f) ≡ faultless (Some t) → (old : List Fault) →
      Adds (answer_to (method_function_seen u is_implementation m)) (Some t) old old
  implementation i q h old =
      adds_same (ap (λ b. answer_to (function_if b)) i ∙ (ap (λ f. answer_to (implementation_seen f)) (sym q) ∙ h)) (adds_nothing _ old)

  pub signature : is_implementation (ClassMethod-span m) ≡ false →
      {kind : FunctionKind} {place : SourceRange} {f t : Tree} {old new : List Fault} →
      Adds (answer_to (function_seen u (expr_seen u) kind place f)) (Some t) old new → kind ≡ method_kind (ClassMethod-kind m) →
      place ≡ range_of_node (ClassMethod-key m) → f ≡ ClassMethod-function m →
      Adds (answer_to (method_function_seen u is_implementation m)) (Some t) old new
  signature i h k p q =
      adds_same (ap (λ b. answer_to (function_if b)) i
      ∙ (λ j. answer_to (function_seen u (expr_seen u) (sym k j) (sym p j) (sym q j)))) h

  abbrev method_if : Bool → Seen
  method_if p = if p then typed_property (private_method_head m) any_type_ann else method_of m (method_function_seen u is_implementation m)

  pub private_method : is_private (ClassMethod-accessibility m) ≡ true → (old : List Fault) →
      Adds (answer_to (method_seen u is_implementation m)) (Some (declared_property (private_method_head m) any_type_ann)) old old
  private_method p old = adds_same (ap (λ b. answer_to (method_if b)) p) (adds_nothing _ old)

  pub method_made : is_private (ClassMethod-accessibility m) ≡ false → {t : Tree} {old new : List Fault} →
      Adds (answer_to (method_function_seen u is_implementation m)) (Some t) old new →
      Adds (answer_to (method_seen u is_implementation m)) (Some (signed_method m t)) old new
  method_made p {new = new} h =
      adds_same (ap (λ b. answer_to (method_if b)) p)
      (adds_made (option_map (node kinds.ClassMethod)) (adds_visited (adds_nothing (Some (tree.Range (ClassMethod-span m))) _)
      (adds_visited (adds_nothing (Some (ClassMethod-key m)) _) (adds_visited h (adds_visited (adds_nothing (Some (ClassMethod-kind m)) new)
      (adds_visited (adds_nothing (Some (tree.Flag (ClassMethod-is_static m))) new)
      (adds_visited (adds_nothing (Some (ClassMethod-accessibility m)) new)
      (adds_visited (adds_nothing (Some (tree.Flag (ClassMethod-is_abstract m))) new)
      (adds_visited (adds_nothing (Some (tree.Flag (ClassMethod-is_optional m))) new)
      (adds_visited (adds_nothing (Some (tree.Flag (ClassMethod-is_override m))) new) (adds_nothing (Some []) new)))))))))))

-- ---- members that parameters declare

-- what is made, behind others, of those of a list that pass a test
module _ (f : Tree → Tree) (p : Tree → Bool) (ts : List Tree) (i : ℕ) (t : Tree) (h : i < length ts) (e : t ≡ get_or ts i t) where
  abbrev one : Bool → List Tree
  one b = map f (if b then t ∷ [] else [])

  more : map f (filter p (take (i + 1) ts)) ≡ map f (filter p (take i ts)) ++ one (p t)
  more = ap (λ us. map f (filter p us)) (take_more ts i t h ∙ ap (λ u. take i ts ++ u ∷ []) (sym e))
      ∙ (ap (map f) (filter-append p (take i ts) (t ∷ [])) ∙ map-append f (filter p (take i ts)) (filter p (t ∷ [])))

  pub taken_more : p t ≡ true → (old : List Tree) {xs ys : List Tree} {made : Tree} → xs ≡ old ++ map f (filter p (take i ts)) →
      made ≡ f t →
      ys ≡ xs ++ made ∷ [] →
      ys ≡ old ++ map f (filter p (take (i + 1) ts))
  taken_more b old x m q =
      q ∙ ((λ i. x i ++ m i ∷ []) ∙ (append_assoc old (map f (filter p (take i ts))) (f t ∷ [])
      ∙ ap (λ us. old ++ us) (sym (more ∙ ap (λ c. map f (filter p (take i ts)) ++ one c) b))))

  pub passed_more : p t ≡ false → (old : List Tree) {xs : List Tree} → xs ≡ old ++ map f (filter p (take i ts)) →
      xs ≡ old ++ map f (filter p (take (i + 1) ts))
  passed_more b old x = x ∙ ap (λ us. old ++ us) (sym (more ∙ (ap (λ c. map f (filter p (take i ts)) ++ one c) b
      ∙ append-nil (map f (filter p (take i ts))))))

pub taken_all : (f : Tree → Tree) (p : Tree → Bool) (ts : List Tree) (i : ℕ) → length ts ≤ i → (old : List Tree) {xs : List Tree} →
    xs ≡ old ++ map f (filter p (take i ts)) → xs ≡ old ++ map f (filter p ts)
taken_all f p ts i h old x = x ∙ ap (λ us. old ++ map f (filter p us)) (take_all i ts h)

-- those that pass a test, for ambient classes
filter_more : (p : Tree → Bool) (ts : List Tree) (i : ℕ) (t : Tree) → i < length ts → t ≡ get_or ts i t →
    filter p (take (i + 1) ts) ≡ filter p (take i ts) ++ (if p t then t ∷ [] else [])
filter_more p ts i t h e =
    ap (filter p) (take_more ts i t h ∙ ap (λ u. take i ts ++ u ∷ []) (sym e)) ∙ filter-append p (take i ts) (t ∷ [])

pub one_stays : (p : Tree → Bool) (ts : List Tree) (i : ℕ) (t : Tree) → i < length ts → t ≡ get_or ts i t → p t ≡ true →
    {xs ys : List Tree} {copy : Tree} →
    xs ≡ filter p (take i ts) → copy ≡ t → ys ≡ xs ++ copy ∷ [] → ys ≡ filter p (take (i + 1) ts)
one_stays p ts i t h e b x c q =
    q ∙ ((λ j. x j ++ c j ∷ []) ∙ sym (filter_more p ts i t h e ∙ ap (λ d. filter p (take i ts) ++ (if d then t ∷ [] else [])) b))

pub one_goes : (p : Tree → Bool) (ts : List Tree) (i : ℕ) (t : Tree) → i < length ts → t ≡ get_or ts i t → p t ≡ false → {xs : List Tree} →
    xs ≡ filter p (take i ts) → xs ≡ filter p (take (i + 1) ts)
one_goes p ts i t h e b x =
    x ∙ sym (filter_more p ts i t h e ∙
    (ap (λ d. filter p (take i ts) ++ (if d then t ∷ [] else [])) b ∙ append-nil (filter p (take i ts))))

pub all_filtered : (p : Tree → Bool) {ts us : List Tree} (i : ℕ) → length ts ≤ i → ts ≡ us → {xs : List Tree} → xs ≡ filter p (take i ts) →
    xs ≡ filter p us
all_filtered p {ts} i h e x = x ∙ ap (filter p) (take_all i ts h ∙ e)

-- what all of some members declare, one more
pub declared_more : (f : Tree → List Tree) (ps : List Part) (i : ℕ) (p : Part) → i < length ps → p ≡ get_or ps i p →
    (old : List Tree) {xs ys : List Tree} →
    xs ≡ old ++ flat_map f (map seen (take i ps)) → ys ≡ xs ++ f (seen p) → ys ≡ old ++ flat_map f (map seen (take (i + 1) ps))
declared_more f ps i p h e old x q =
    q ∙ (ap (λ us. us ++ f (seen p)) x ∙ (append_assoc old (flat_map f (map seen (take i ps))) (f (seen p))
    ∙ ap (λ us. old ++ us) (sym (ap (λ us. flat_map f (map seen us)) (take_more ps i p h ∙ ap (λ u. take i ps ++ u ∷ []) (sym e))
    ∙ (ap (flat_map f) (map-append seen (take i ps) (p ∷ []))
    ∙ (flat_map-append f (map seen (take i ps)) (seen p ∷ [])
    ∙ ap (λ us. flat_map f (map seen (take i ps)) ++ us) (append-nil (f (seen p)))))))))

pub declared_all : (f : Tree → List Tree) (ps : List Part) (i : ℕ) → length ps ≤ i → (old : List Tree) {xs : List Tree} →
    xs ≡ old ++ flat_map f (map seen (take i ps)) → xs ≡ old ++ flat_map f (map seen ps)
declared_all f ps i h old x = x ∙ ap (λ us. old ++ flat_map f (map seen us)) (take_all i ps h)

-- ---- members that stay

module _ (u : Bindings) (is_implementation : SourceRange → Bool) where
  next_kept : (ps : List Part) (i : ℕ) (d : Part) → i < length ps →
      kept_answer u is_implementation (map seen (drop i ps)) ≡
      joined with_tree (answer_to (member_seen u is_implementation (seen (get_or ps i d))))
      (kept_answer u is_implementation (map seen (drop (i + 1) ps)))
  next_kept ps i d h = rw (add-one, drop-cons ps i d) refl

  pub kept_start : (items : List Tree) (ms : List Tree) (old : List Fault) →
      Behind (λ ts. items ++ ts) (made (λ ts. items ++ ts) (kept_answer u is_implementation ms))
      (kept_answer u is_implementation ms) old old
  kept_start items ms old = record { added = []; is = refl; faults = sym (append-nil old) }

  pub kept_step : (ps : List Part) (i : ℕ) (p : Part) → i < length ps → p ≡ get_or ps i p →
      (items : List Tree) (t : Tree) {all : Answer (List Tree)}
      {old mid new : List Fault} {more : List Tree} →
      Behind (λ ts. items ++ ts) all (kept_answer u is_implementation (map seen (drop i ps))) old mid →
      Adds (answer_to (member_seen u is_implementation (seen p))) (Some t) mid new → more ≡ items ++ t ∷ [] →
      Behind (λ ts. more ++ ts) all (kept_answer u is_implementation (map seen (drop (i + 1) ps))) old new
  kept_step ps i p h e items t {all} {old} {new = new} b g q =
      let rest = kept_answer u is_implementation (map seen (drop (i + 1) ps)) in
      subst (λ xs. Behind (λ ts. xs ++ ts) all rest old new) (sym q)
      (items_step items t (answer_to (member_seen u is_implementation (seen p))) rest
      (behind_along
      (next_kept ps i p h ∙ ap (λ x. joined with_tree (answer_to (member_seen u is_implementation (seen x))) rest) (sym e)) b) g)

  pub kept_end : (ps : List Part) (i : ℕ) → length ps ≤ i → (items : List Tree) {all : Answer (List Tree)} {old new : List Fault} →
      Behind (λ ts. items ++ ts) all (kept_answer u is_implementation (map seen (drop i ps))) old new → Adds all items old new
  kept_end ps i h items b = items_end items (behind_along (ap (λ qs. kept_answer u is_implementation (map seen qs)) (drop_all i ps h)) b)

  -- those that are made stand before those that stay
  before_kept : (ds : List Tree) (ss : List Seen) → answer_of (map written ds ++ ss) ≡ made (λ ts. ds ++ ts) (answer_of ss)
  before_kept [] ss = refl
  before_kept (d ∷ ds) ss = ap (λ a. joined with_tree (faultless (Some d)) a) (before_kept ds ss)

  pub all_members : (ms : List Tree) {items all : List Tree} {kept : List Tree} {old new : List Fault} →
      Adds (made (λ ts. items ++ ts) (kept_answer u is_implementation kept)) all old new → kept ≡ kept_members ms →
      items ≡ hash_mark ms ++ flat_map (λ m. declared_by_params u.unresolved m) kept →
      Adds (answer_of (members_seen u is_implementation ms)) all old new
  all_members ms {items} {all} {kept} h k q =
      let made_of : List Tree → List Tree = λ ks. hash_mark ms ++ flat_map (λ m. declared_by_params u.unresolved m) ks in
      adds_same (before_kept (made_of (kept_members ms)) (map (λ m. member_seen u is_implementation m) (kept_members ms))
      ∙ (ap (λ ks. made (λ ts. made_of ks ++ ts) (kept_answer u is_implementation ks)) (sym k)
      ∙ ap (λ xs. made (λ ts. xs ++ ts) (kept_answer u is_implementation kept)) (sym q))) h

-- ---- a member, by its kind

module _ (u : Bindings) (is_implementation : SourceRange → Bool) (m : Tree) where
  abbrev by_kind : Kind → Seen
  by_kind k = member_of_kind u is_implementation k m

  by : (k : Kind) → kind_of m ≡ k → answer_to (member_seen u is_implementation m) ≡ answer_to (by_kind k)
  by k e = ap (λ j. answer_to (by_kind j)) e

  pub a_constructor : kind_of m ≡ kinds.Constructor → {o : Option Tree} {old new : List Fault} →
      Adds (answer_to (constructor_seen u is_implementation m)) o old new → Adds (answer_to (member_seen u is_implementation m)) o old new
  a_constructor e h = adds_same (by kinds.Constructor e) h

  pub a_method : kind_of m ≡ kinds.ClassMethod → {o : Option Tree} {old new : List Fault} →
      Adds (answer_to (method_seen u is_implementation m)) o old new → Adds (answer_to (member_seen u is_implementation m)) o old new
  a_method e h = adds_same (by kinds.ClassMethod e) h

  pub a_property : kind_of m ≡ kinds.ClassProp → {o : Option Tree} {old new : List Fault} →
      Adds (property_answer u m) o old new → Adds (answer_to (member_seen u is_implementation m)) o old new
  unfolding property_answer
  a_property e h = adds_same (by kinds.ClassProp e) h

  pub an_accessor : kind_of m ≡ kinds.AutoAccessor → {o : Option Tree} {old new : List Fault} →
      Adds (accessor_answer u m) o old new → Adds (answer_to (member_seen u is_implementation m)) o old new
  unfolding accessor_answer
  an_accessor e h = adds_same (by kinds.AutoAccessor e) h

  other_kind : (k : Kind) → (k ≡ kinds.Constructor → ⊥) → (k ≡ kinds.ClassMethod → ⊥) → (k ≡ kinds.ClassProp → ⊥) →
      (k ≡ kinds.AutoAccessor → ⊥) →
      by_kind k ≡ written m
  other_kind kinds.Constructor n1 n2 n3 n4 = absurd (n1 refl)
  other_kind kinds.ClassMethod n1 n2 n3 n4 = absurd (n2 refl)
  other_kind kinds.ClassProp n1 n2 n3 n4 = absurd (n3 refl)
  other_kind kinds.AutoAccessor n1 n2 n3 n4 = absurd (n4 refl)
  other_kind _ n1 n2 n3 n4 = refl

  pub another : (kind_of m ≡ kinds.Constructor → ⊥) → (kind_of m ≡ kinds.ClassMethod → ⊥) → (kind_of m ≡ kinds.ClassProp → ⊥) →
      (kind_of m ≡ kinds.AutoAccessor → ⊥) → {t : Tree} → t ≡ m → (old : List Fault) →
      Adds (answer_to (member_seen u is_implementation m)) (Some t) old old
  another n1 n2 n3 n4 e old =
      adds_same (ap answer_to (other_kind (kind_of m) n1 n2 n3 n4) ∙ ap (λ x. faultless (Some x)) (sym e)) (adds_nothing _ old)

-- ---- what a member declares by its parameters

module _ (u : SyntaxContext) (m : Tree) where
  abbrev declared_if : Bool → List Tree → List Tree
  declared_if b ds = if b then ds else []

  abbrev own_params : List Tree
  own_params = map (λ p. classes.param_property u p) (param_properties m)

  -- nothing is added, or this
  pub unchanged : {ds : List Tree} → declared_by_params u m ≡ ds → ds ≡ [] → (items : List Tree) → items ≡ items ++ declared_by_params u m
  unchanged p q items = sym (ap (λ xs. items ++ xs) (p ∙ q) ∙ append-nil items)

  pub declares_none : kind_of m is kinds.Constructor ≡ false → declared_by_params u m ≡ []
  declares_none e = ap (λ b. declared_if b (unless_any (patterns_among (param_properties m)) own_params)) e

  none_if_some : (ps made : List Tree) (r : SourceRange) → first_of ps ≡ Some r → unless_any ps made ≡ []
  none_if_some [] made r e = cc
  none_if_some (p ∷ ps) made r e = refl

  all_if_none : (ps made : List Tree) → first_of ps ≡ None → unless_any ps made ≡ made
  all_if_none [] made e = refl
  all_if_none (p ∷ ps) made e = cc

  pub declares_at_fault : kind_of m is kinds.Constructor ≡ true → (ps : List Tree) → ps ≡ parts (Constructor-params m) → (r : SourceRange) →
      first_pattern ps ≡ Some r → declared_by_params u m ≡ []
  declares_at_fault e ps q r p =
      ap (λ b. declared_if b (unless_any (patterns_among (param_properties m)) own_params)) e
      ∙ none_if_some (patterns_among (param_properties m)) own_params r (ap first_pattern (sym q) ∙ p)

  pub declares_params : kind_of m is kinds.Constructor ≡ true → (ps : List Tree) → ps ≡ parts (Constructor-params m) →
      first_pattern ps ≡ None →
      declared_by_params u m ≡ declared_params u ps
  declares_params e ps q p =
      ap (λ b. declared_if b (unless_any (patterns_among (param_properties m)) own_params)) e
      ∙ (all_if_none (patterns_among (param_properties m)) own_params (ap first_pattern (sym q) ∙ p) ∙ ap (declared_params u) (sym q))
