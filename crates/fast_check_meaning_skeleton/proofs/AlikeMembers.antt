-- Which members stay of two classes that agree: those that are silent go, and of two that agree both stay or both go.
use Rattle.std.specs.Prelude.{◌≡◌, ℕ, Bool, true, false, not, ◌&&◌, ◌||◌, List, ◌∷◌, refl, if◌then◌else◌}
use Rattle.std.specs.List.{list_any}
use Rattle.std.specs.Str.{bytes_eq}
use Rattle.std.proofs.Common.{ap, ap₂, ◌∙◌, sym}
use Rattle.std.proofs.lemmas.Slice.Eq.{bytes_eq-Decides}
use Rattle.fast_check_tree_syntax.specs.declared.kind.Kind.{Kind}
use Rattle.fast_check_tree_syntax.specs.declared.kind.Kind.TheVariants as kinds
use Rattle.fast_check_tree_syntax.specs.declared.kind.Word.TheVariants.{Private}
use Rattle.fast_check_tree_syntax.specs.declared.source.SourceRange.{SourceRange}
use Rattle.fast_check_tree_syntax.specs.declared.tree.Tree.{Tree}
use Rattle.fast_check_tree_syntax.specs.Shape.{◌is◌, is_kind, kind_of, is_absent, text_of}
use Rattle.fast_check_tree_syntax.specs.Moves.{Moves, Renaming, IsRenaming, moved}
use Rattle.fast_check_tree_syntax.specs.Same.{SameTree}
use Rattle.fast_check_tree_syntax.proofs.Moved.{kind_of_moved, part_moved, text_of_moved, has_word_moved}
use Rattle.fast_check_tree_syntax.proofs.Same.{tree_to}
use Rattle.fast_check_tree_forms_classes.specs.Classes.{Constructor-body, Constructor-accessibility}
use Rattle.fast_check_tree_forms_classes.specs.Fields.{ClassProp-key, ClassProp-accessibility, AutoAccessor-key, AutoAccessor-accessibility}
use Rattle.fast_check_tree_forms_classes.specs.Methods.{ClassMethod-key, ClassMethod-accessibility}
use Rattle.fast_check_meaning_signatures.specs.Bindings.{Bindings}
use Rattle.fast_check_meaning_signatures.specs.Members.{is_private, is_computed, text_of_key_kind, key_text, is_hash_named_kind}
use Rattle.fast_check_meaning_signatures.specs.Members.{is_private_method_of, is_private_implementation, is_first_of_name, is_first_implementation}
use Rattle.fast_check_meaning_signatures.specs.Members.{stays_by_kind, stays_behind, is_private_computed_kind}
use Rattle.fast_check_meaning_signatures.proofs.Choices.{both_true}
use Rattle.fast_check_meaning_skeleton.specs.SameValues.{Both}
use Rattle.fast_check_meaning_skeleton.specs.SameClasses.{IsSilentMember, SameMember}
use Rattle.fast_check_meaning_skeleton.specs.SameClasses as s
use Rattle.fast_check_meaning_skeleton.proofs.AlikeTrees.{same_read, kind_alike}
use Rattle.fast_check_tree_helpers.proofs.OptionalStart.{and_false as no_second}

is_not : (b : Bool) → not b ≡ true → b ≡ false
is_not false e = refl
is_not true e = cc

-- ---- what is silent goes

-- what stands behind it stands behind the earlier ones alone: it takes no name that was not taken, and is not the first constructor
pub record Silent (earlier : List Tree) (m : Tree) : Type 0 where
  pub goes : stays_behind earlier m ≡ false
  pub names : (name : List ℕ) → (is_private_method_of name m || list_any (is_private_method_of name) earlier) ≡ list_any
      (is_private_method_of name) earlier
  pub implementations : (is_private_implementation m || list_any is_private_implementation earlier) ≡
      list_any is_private_implementation earlier

-- a member that is no method and no constructor
neither : (earlier : List Tree) (m : Tree) → stays_behind earlier m ≡ false → kind_of m is kinds.ClassMethod ≡ false →
    kind_of m is kinds.Constructor ≡ false →
    Silent earlier m
neither earlier m e n k = record {
  goes = e;
  names = λ name.
      ap (λ b. (b && (is_private (ClassMethod-accessibility m) &&
      (not (is_computed (ClassMethod-key m)) && bytes_eq (key_text (ClassMethod-key m)) name))) ||
      list_any (is_private_method_of name) earlier) n;
  implementations =
      ap (λ b. (b && (is_private (Constructor-accessibility m) && not (is_absent (Constructor-body m)))) ||
      list_any is_private_implementation earlier) k;
}

module _ (earlier : List Tree) (m : Tree) where
  hash_goes : (k : Kind) → is_hash_named_kind k m ≡ true → stays_by_kind k earlier m ≡ false
  hash_goes kinds.PrivateMethod e = refl
  hash_goes kinds.PrivateProp e = refl
  hash_goes kinds.AutoAccessor e =
      ap (λ b. not b && not (is_private (AutoAccessor-accessibility m) && is_computed (AutoAccessor-key m))) e
  hash_goes _ e = cc

  hash_method : (k : Kind) → is_hash_named_kind k m ≡ true → k is kinds.ClassMethod ≡ false
  hash_method kinds.ClassMethod e = cc
  hash_method _ e = refl

  hash_constructor : (k : Kind) → is_hash_named_kind k m ≡ true → k is kinds.Constructor ≡ false
  hash_constructor kinds.Constructor e = cc
  hash_constructor _ e = refl

  -- private with a computed key
  computed_goes : (k : Kind) → is_private_computed_kind k m ≡ true → stays_by_kind k earlier m ≡ false
  computed_goes kinds.ClassMethod e =
      let b = both_true (is_private (ClassMethod-accessibility m)) (is_computed (ClassMethod-key m)) e in
      ap (λ p. if p then is_first_of_name earlier m else true) b.0
      ∙ ap (λ c. not c && not (list_any (is_private_method_of (key_text (ClassMethod-key m))) earlier)) b.1
  computed_goes kinds.ClassProp e = ap not e
  computed_goes kinds.AutoAccessor e =
      ap (λ b. not (kind_of (AutoAccessor-key m) is kinds.PrivateName) && not b) e ∙
      no_second (not (kind_of (AutoAccessor-key m) is kinds.PrivateName))
  computed_goes _ e = cc

  computed_name : (k : Kind) (name : List ℕ) → is_private_computed_kind k m ≡ true →
      ((k is kinds.ClassMethod) && (is_private (ClassMethod-accessibility m) &&
      (not (is_computed (ClassMethod-key m)) && bytes_eq (key_text (ClassMethod-key m)) name))) ≡ false
  computed_name kinds.ClassMethod name e =
      let b = both_true (is_private (ClassMethod-accessibility m)) (is_computed (ClassMethod-key m)) e in
      ap (λ c. is_private (ClassMethod-accessibility m) && (not c && bytes_eq (key_text (ClassMethod-key m)) name)) b.1
      ∙ no_second (is_private (ClassMethod-accessibility m))
  computed_name _ name e = refl

  computed_constructor : (k : Kind) → is_private_computed_kind k m ≡ true → k is kinds.Constructor ≡ false
  computed_constructor kinds.Constructor e = cc
  computed_constructor _ e = refl

  -- a private method of a name
  abbrev NamedMethod : List ℕ → Type 0
  NamedMethod name = (kind_of m ≡ kinds.ClassMethod) × (is_private (ClassMethod-accessibility m) ≡ true) ×
      (key_text (ClassMethod-key m) ≡ name)

  named : (name : List ℕ) → is_private_method_of name m ≡ true → NamedMethod name
  named name e =
      let text = bytes_eq (key_text (ClassMethod-key m)) name in
      let a = both_true (kind_of m is kinds.ClassMethod)
      (is_private (ClassMethod-accessibility m) && (not (is_computed (ClassMethod-key m)) && text)) e in
      let b = both_true (is_private (ClassMethod-accessibility m)) (not (is_computed (ClassMethod-key m)) && text) a.1 in
      let c = both_true (not (is_computed (ClassMethod-key m))) text b.1 in
      (is_kind (kind_of m) kinds.ClassMethod a.0, b.0, (bytes_eq-Decides (key_text (ClassMethod-key m)) name).0 c.1)

  again_goes : (name : List ℕ) → NamedMethod name → list_any (is_private_method_of name) earlier ≡ true → stays_behind earlier m ≡ false
  again_goes name n e =
      ap (λ k. stays_by_kind k earlier m) n.0 ∙ (ap (λ p. if p then is_first_of_name earlier m else true) n.1
      ∙ (ap (λ b. not (is_computed (ClassMethod-key m)) && not b) (ap (λ text. list_any (is_private_method_of text) earlier) n.2 ∙ e)
      ∙ no_second (not (is_computed (ClassMethod-key m)))))

  again_name : (name other : List ℕ) → NamedMethod name → list_any (is_private_method_of name) earlier ≡ true →
      (is_private_method_of other m || list_any (is_private_method_of other) earlier) ≡ list_any (is_private_method_of other) earlier
  again_name name other n e = go (is_private_method_of other m) refl
    where
      go : (b : Bool) → is_private_method_of other m ≡ b → (b || list_any (is_private_method_of other) earlier) ≡ list_any
          (is_private_method_of other) earlier
      go false q = refl
      go true q = sym (ap (λ text. list_any (is_private_method_of text) earlier) (sym (named other q).2 ∙ n.2) ∙ e)

  -- a private constructor
  abbrev Implementation : Type 0
  Implementation = (kind_of m ≡ kinds.Constructor) × (is_private (Constructor-accessibility m) ≡ true)

  implements : is_private_implementation m ≡ true → Implementation
  implements e =
      let bodied = not (is_absent (Constructor-body m)) in
      let a = both_true (kind_of m is kinds.Constructor) (is_private (Constructor-accessibility m) && bodied) e in
      (is_kind (kind_of m) kinds.Constructor a.0, (both_true (is_private (Constructor-accessibility m)) bodied a.1).0)

  private_goes : kind_of m ≡ kinds.Constructor → is_private (Constructor-accessibility m) ≡ true →
      is_first_implementation earlier m ≡ false →
      stays_behind earlier m ≡ false
  private_goes k p e = ap (λ k. stays_by_kind k earlier m) k ∙ (ap (λ p. if p then is_first_implementation earlier m else true) p ∙ e)

  not_named : kind_of m ≡ kinds.Constructor → (name : List ℕ) →
      (is_private_method_of name m || list_any (is_private_method_of name) earlier) ≡ list_any (is_private_method_of name) earlier
  not_named k name =
      ap (λ j. ((j is kinds.ClassMethod) && (is_private (ClassMethod-accessibility m) && (not (is_computed (ClassMethod-key m)) &&
      bytes_eq (key_text (ClassMethod-key m)) name))) || list_any (is_private_method_of name) earlier) k

  pub silent : IsSilentMember earlier m → Silent earlier m
  silent (s.hash_named e) = neither earlier m (hash_goes (kind_of m) e) (hash_method (kind_of m) e) (hash_constructor (kind_of m) e)
  silent (s.static_block e) =
      neither earlier m (ap (λ k. stays_by_kind k earlier m) e) (ap (λ k. k is kinds.ClassMethod) e) (ap (λ k. k is kinds.Constructor) e)
  silent (s.empty e) =
      neither earlier m (ap (λ k. stays_by_kind k earlier m) e) (ap (λ k. k is kinds.ClassMethod) e) (ap (λ k. k is kinds.Constructor) e)
  silent (s.computed e) = record {
    goes = computed_goes (kind_of m) e;
    names = λ name. ap (λ b. b || list_any (is_private_method_of name) earlier) (computed_name (kind_of m) name e);
    implementations =
        ap (λ b. (b && (is_private (Constructor-accessibility m) && not (is_absent (Constructor-body m)))) ||
        list_any is_private_implementation earlier)
        (computed_constructor (kind_of m) e);
  }
  silent (s.again name e taken) = record {
    goes = again_goes name (named name e) taken;
    names = λ other. again_name name other (named name e) taken;
    implementations =
        ap (λ k. ((k is kinds.Constructor) && (is_private (Constructor-accessibility m) && not (is_absent (Constructor-body m)))) ||
        list_any is_private_implementation earlier) (named name e).0;
  }
  silent (s.overload k p bodiless) = record {
    goes = private_goes k p (ap (λ b. not b && not (list_any is_private_implementation earlier)) bodiless);
    names = not_named k;
    implementations =
        ap (λ b. b || list_any is_private_implementation earlier)
        (ap (λ b. (kind_of m is kinds.Constructor) && (is_private (Constructor-accessibility m) && not b)) bodiless
        ∙ (ap (λ b. (kind_of m is kinds.Constructor) && b) (no_second (is_private (Constructor-accessibility m)))
        ∙ no_second (kind_of m is kinds.Constructor)));
  }
  silent (s.another e taken) = record {
    goes =
        private_goes (implements e).0 (implements e).1
        (ap (λ b. not (is_absent (Constructor-body m)) && not b) taken ∙ no_second (not (is_absent (Constructor-body m))));
    names = not_named (implements e).0;
    implementations = ap (λ b. b || list_any is_private_implementation earlier) e ∙ sym taken;
  }

-- ---- what agrees stays or goes alike

-- of two classes the same names are taken, and both have a constructor or neither has
pub record SameTaken (earlier earlier' : List Tree) : Type 0 where
  pub names : (name : List ℕ) → list_any (is_private_method_of name) earlier ≡ list_any (is_private_method_of name) earlier'
  pub implementations : list_any is_private_implementation earlier ≡ list_any is_private_implementation earlier'

pub taken_left : (earlier earlier' : List Tree) (m : Tree) → IsSilentMember earlier m → SameTaken earlier earlier' →
    SameTaken (m ∷ earlier) earlier'
taken_left earlier earlier' m q e = let gone = silent earlier m q in
    record { names = λ name. gone.names name ∙ e.names name; implementations = gone.implementations ∙ e.implementations }

pub taken_right : (earlier earlier' : List Tree) (m : Tree) → IsSilentMember earlier' m → SameTaken earlier earlier' →
    SameTaken earlier (m ∷ earlier')
taken_right earlier earlier' m q e = let gone = silent earlier' m q in
    record { names = λ name. e.names name ∙ sym (gone.names name); implementations = e.implementations ∙ sym gone.implementations }

module _ (r : Renaming) (ok : IsRenaming r) where
  pub private_alike : (t u : Tree) → SameTree r t u → is_private t ≡ is_private u
  private_alike t u e = same_read r ok is_private (λ m keeps t. has_word_moved m Private t) t u (tree_to r ok e)

  computed_alike : (t u : Tree) → SameTree r t u → is_computed t ≡ is_computed u
  computed_alike t u e = ap (λ k. k is kinds.ComputedPropName) (kind_alike r ok t u (tree_to r ok e))

  text_kind_moved : (m : Moves) (k : Kind) (key : Tree) → text_of_key_kind k (moved m key) ≡ text_of_key_kind k key
  text_kind_moved m kinds.IdentName key = ap text_of (part_moved m _ key) ∙ text_of_moved m _
  text_kind_moved m kinds.Str key = ap text_of (part_moved m _ key) ∙ text_of_moved m _
  text_kind_moved m kinds.Number key = ap text_of (part_moved m _ key) ∙ text_of_moved m _
  text_kind_moved m kinds.BigInt key = ap text_of (part_moved m _ key) ∙ text_of_moved m _
  text_kind_moved m _ key = refl

  key_text_moved : (m : Moves) (key : Tree) → key_text (moved m key) ≡ key_text key
  key_text_moved m key = ap (λ k. text_of_key_kind k (moved m key)) (kind_of_moved m key) ∙ text_kind_moved m (kind_of key) key

  text_alike : (t u : Tree) → SameTree r t u → key_text t ≡ key_text u
  text_alike t u e = same_read r ok key_text (λ m keeps t. key_text_moved m t) t u (tree_to r ok e)

  -- two members that stay or go alike, and take the same
  pub record StaysAlike (t u : Tree) : Type 0 where
    pub stays : (earlier earlier' : List Tree) → SameTaken earlier earlier' → stays_behind earlier t ≡ stays_behind earlier' u
    pub names : (name : List ℕ) → is_private_method_of name t ≡ is_private_method_of name u
    pub implementations : is_private_implementation t ≡ is_private_implementation u

  pub taken_next : (earlier earlier' : List Tree) (t u : Tree) → StaysAlike t u → SameTaken earlier earlier' →
      SameTaken (t ∷ earlier) (u ∷ earlier')
  taken_next earlier earlier' t u h e = record {
    names = λ name. ap₂ (λ x y. x || y) (h.names name) (e.names name);
    implementations = ap₂ (λ x y. x || y) h.implementations e.implementations;
  }

  -- neither a method nor a constructor
  others : (k : Kind) (t u : Tree) → Both k t u → k is kinds.ClassMethod ≡ false → k is kinds.Constructor ≡ false →
      ((earlier earlier' : List Tree) → SameTaken earlier earlier' → stays_by_kind k earlier t ≡ stays_by_kind k earlier' u) →
      StaysAlike t u
  others k t u b n j e = record {
    stays = λ earlier earlier' h.
        ap (λ x. stays_by_kind x earlier t) b.left ∙ (e earlier earlier' h ∙ sym (ap (λ x. stays_by_kind x earlier' u) b.right));
    names = λ name. no_name t name b.left ∙ sym (no_name u name b.right);
    implementations = no_implementation t b.left ∙ sym (no_implementation u b.right);
  }
    where
      no_name : (m : Tree) (name : List ℕ) → kind_of m ≡ k → is_private_method_of name m ≡ false
      no_name m name e =
          ap (λ b. b && (is_private (ClassMethod-accessibility m) && (not (is_computed (ClassMethod-key m)) &&
          bytes_eq (key_text (ClassMethod-key m)) name))) (ap (λ x. x is kinds.ClassMethod) e ∙ n)

      no_implementation : (m : Tree) → kind_of m ≡ k → is_private_implementation m ≡ false
      no_implementation m e =
          ap (λ b. b && (is_private (Constructor-accessibility m) && not (is_absent (Constructor-body m))))
          (ap (λ x. x is kinds.Constructor) e ∙ j)

  methods : (t u : Tree) → Both kinds.ClassMethod t u → SameTree r (ClassMethod-accessibility t) (ClassMethod-accessibility u) →
      SameTree r (ClassMethod-key t) (ClassMethod-key u) → StaysAlike t u
  methods t u b a k =
      let private = private_alike (ClassMethod-accessibility t) (ClassMethod-accessibility u) a in
      let computed = computed_alike (ClassMethod-key t) (ClassMethod-key u) k in
      let text = text_alike (ClassMethod-key t) (ClassMethod-key u) k in
      record {
        stays = λ earlier earlier' h.
            ap (λ x. stays_by_kind x earlier t) b.left
            ∙ ((λ i. if private i then not (computed i) && not ((ap (λ n. list_any (is_private_method_of n) earlier) text ∙
            h.names (key_text (ClassMethod-key u))) i) else true)
            ∙ sym (ap (λ x. stays_by_kind x earlier' u) b.right));
        names = λ name. λ i. ((ap (λ x. x is kinds.ClassMethod) (b.left ∙ sym b.right)) i) &&
            (private i && (not (computed i) && bytes_eq (text i) name));
        implementations =
            ap (λ x. (x is kinds.Constructor) && (is_private (Constructor-accessibility t) && not (is_absent (Constructor-body t)))) b.left
            ∙ sym (ap
            (λ x. (x is kinds.Constructor) &&
            (is_private (Constructor-accessibility u) && not (is_absent (Constructor-body u)))) b.right);
      }

  constructors : (t u : Tree) → Both kinds.Constructor t u → SameTree r (Constructor-accessibility t) (Constructor-accessibility u) →
      is_absent (Constructor-body t) ≡ is_absent (Constructor-body u) → StaysAlike t u
  constructors t u b a k =
      let private = private_alike (Constructor-accessibility t) (Constructor-accessibility u) a in
      record {
        stays = λ earlier earlier' h.
            ap (λ x. stays_by_kind x earlier t) b.left
            ∙ ((λ i. if private i then not (k i) && not (h.implementations i) else true) ∙
            sym (ap (λ x. stays_by_kind x earlier' u) b.right));
        names = λ name.
            ap (λ x. (x is kinds.ClassMethod) && (is_private (ClassMethod-accessibility t) && (not (is_computed (ClassMethod-key t)) &&
            bytes_eq (key_text (ClassMethod-key t)) name))) b.left
            ∙ sym (ap
            (λ x. (x is kinds.ClassMethod) && (is_private (ClassMethod-accessibility u) && (not (is_computed (ClassMethod-key u)) &&
            bytes_eq (key_text (ClassMethod-key u)) name))) b.right);
        implementations = λ i. ((ap (λ x. x is kinds.Constructor) (b.left ∙ sym b.right)) i) && (private i && not (k i));
      }

  module _ (c d : Bindings) (f g : SourceRange → Bool) where
    pub stays_alike : (t u : Tree) → SameMember r c d f g t u → StaysAlike t u
    stays_alike t u (s.SameMember.constructor h x) = constructors t u h.kinds h.accessibility h.has_body
    stays_alike t u (s.SameMember.private_method b h p) = methods t u b h.accessibility h.key
    stays_alike t u (s.SameMember.method b h x) = methods t u b h.accessibility h.key
    stays_alike t u (s.SameMember.property b h x) =
        let private = private_alike (ClassProp-accessibility t) (ClassProp-accessibility u) h.accessibility in
        let computed = computed_alike (ClassProp-key t) (ClassProp-key u) h.key in
        others kinds.ClassProp t u b refl refl (λ earlier earlier' e. λ i. not (private i && computed i))
    stays_alike t u (s.SameMember.accessor b h x) =
        let private = private_alike (AutoAccessor-accessibility t) (AutoAccessor-accessibility u) h.accessibility in
        let computed = computed_alike (AutoAccessor-key t) (AutoAccessor-key u) h.key in
        let hash = ap (λ k. k is kinds.PrivateName) (kind_alike r ok (AutoAccessor-key t) (AutoAccessor-key u) (tree_to r ok h.key)) in
        others kinds.AutoAccessor t u b refl refl (λ earlier earlier' e. λ i. not (hash i) && not (private i && computed i))
    stays_alike t u (s.SameMember.index_signature b x) = others kinds.TsIndexSignature t u b refl refl (λ earlier earlier' e. refl)
