-- What is answered to classes, and the comments before their members that go.
use Rattle.std.specs.Prelude.{◌≡◌, ℕ, ◌+◌, ◌<◌, ◌≤◌, Bool, true, false, Some, option_map, List, [], ◌∷◌, ◌++◌, map, length, drop, refl}
use Rattle.std.specs.Prelude.{if◌then◌else◌}
use lib.ListN.{get_or}
use Rattle.std.proofs.Common.{ap, ◌∙◌, sym, subst, add-one}
use Rattle.std.proofs.Math.Seq.{drop-cons}
use Rattle.std.proofs.lemmas.List.{drop_all}
use Rattle.fast_check_tree_syntax.specs.declared.kind.Kind.TheVariants as kinds
use Rattle.fast_check_tree_syntax.specs.declared.source.SourcePos.{SourcePos}
use Rattle.fast_check_tree_syntax.specs.declared.tree.Tree as tree
use Rattle.fast_check_tree_syntax.specs.declared.tree.Tree.{Tree}
use Rattle.fast_check_tree_syntax.specs.Shape.{node}
use Rattle.fast_check_tree_comments.specs.declared.comments.Comments.{Comments}
use Rattle.fast_check_tree_comments.specs.Kept.{without_leading}
use Rattle.fast_check_tree_helpers.specs.ranges.Ranges.{range_of_node}
use Rattle.fast_check_tree_forms_statements.specs.Declarations.{ClassDecl-ident, ClassDecl-declare, ClassDecl-class, class_decl}
use Rattle.fast_check_meaning_signatures.specs.declared.fault.Fault.{Fault}
use Rattle.fast_check_meaning_signatures.specs.Seen.{Seen, written}
use Rattle.fast_check_meaning_signatures.specs.Answers.{Adds, answer_to}
use Rattle.fast_check_meaning_signatures.specs.Classes.{plain_class_seen, ambient_class}
use Rattle.fast_check_meaning_signatures.specs.Members.{stays_behind, each_behind, if_removed}
use Rattle.fast_check_meaning_signatures.proofs.Adding.{adds_nothing, adds_same, adds_made, adds_visited}
use Rattle.fast_check_transform_imports.specs.skeleton.KeptComments.{without_all_leading}
use Rattle.fast_check_transform_imports.specs.skeleton.ModuleFacts.{ModuleFacts}
use Rattle.fast_check_transform_imports.specs.skeleton.Visible.{is_ambient_class, class_in, class_decl_seen}

module _ (facts : ModuleFacts) (decl : Tree) where
  abbrev class_if : Bool → Seen
  class_if a =
      if a then written (ambient_class (ClassDecl-class decl))
      else plain_class_seen facts.bindings facts.is_implementation (ClassDecl-class decl)

  pub ambient_class_stays : is_ambient_class facts decl ≡ true → {class t : Tree} → t ≡ ambient_class class →
      class ≡ ClassDecl-class decl → (old : List Fault) → Adds (answer_to (class_in facts decl)) (Some t) old old
  ambient_class_stays e {t = t} q p old =
      subst (λ u. Adds (answer_to (class_in facts decl)) (Some u) old old) (sym (q ∙ ap ambient_class p))
      (adds_same (ap (λ b. answer_to (class_if b)) e) (adds_nothing _ old))

  pub plain_class_stays : is_ambient_class facts decl ≡ false → {class t : Tree} {old new : List Fault} →
      Adds (answer_to (plain_class_seen facts.bindings facts.is_implementation class)) (Some t) old new → class ≡ ClassDecl-class decl →
      Adds (answer_to (class_in facts decl)) (Some t) old new
  plain_class_stays e h p =
      adds_same (ap (λ b. answer_to (class_if b)) e
      ∙ ap (λ c. answer_to (plain_class_seen facts.bindings facts.is_implementation c)) (sym p)) h

  pub made_class : {class t : Tree} {old new : List Fault} → Adds (answer_to (class_in facts decl)) (Some class) old new →
      t ≡ class_decl (ClassDecl-ident decl) (ClassDecl-declare decl) class → Adds (answer_to (class_decl_seen facts decl)) (Some t) old new
  made_class {old = old} {new = new} h p =
      subst (λ u. Adds (answer_to (class_decl_seen facts decl)) (Some u) old new) (sym p)
      (adds_made (option_map (node kinds.ClassDecl)) (adds_visited (adds_nothing (Some (ClassDecl-ident decl)) _)
      (adds_visited (adds_nothing (Some (tree.Flag (ClassDecl-declare decl))) _) (adds_visited h (adds_nothing (Some []) new)))))

-- ---- comments before members that go

abbrev pub starts_of : List Tree → List SourcePos
starts_of ms = map (λ m. (range_of_node m).start) ms

-- the starts of those that go of the rest, behind earlier ones
abbrev pub starts_left : List Tree → List Tree → List SourcePos
starts_left earlier rest = starts_of (each_behind if_removed earlier rest)

next_left : (ms : List Tree) (i : ℕ) (d : Tree) → i < length ms → (earlier : List Tree) →
    starts_left earlier (drop i ms) ≡
    starts_of (if_removed earlier (get_or ms i d) ++ each_behind if_removed (get_or ms i d ∷ earlier) (drop (i + 1) ms))
next_left ms i d h earlier = rw (add-one, drop-cons ms i d) refl

module _ (ms : List Tree) (i : ℕ) (m : Tree) (h : i < length ms) (e : m ≡ get_or ms i m) (earlier : List Tree) where
  abbrev left_if : Bool → List SourcePos
  left_if b = starts_of ((if b then [] else m ∷ []) ++ each_behind if_removed (m ∷ earlier) (drop (i + 1) ms))

  left_is : starts_left earlier (drop i ms) ≡ left_if (stays_behind earlier m)
  left_is = next_left ms i m h earlier
      ∙ ap (λ t. starts_of (if_removed earlier t ++ each_behind if_removed (t ∷ earlier) (drop (i + 1) ms))) (sym e)

  pub stays_more : {stays : Bool} → stays ≡ true → stays ≡ stays_behind earlier m → {all : Comments} (comments : Comments) →
      all ≡ without_all_leading (starts_left earlier (drop i ms)) comments →
      all ≡ without_all_leading (starts_left (m ∷ earlier) (drop (i + 1) ms)) comments
  stays_more s t comments x = x ∙ ap (λ ps. without_all_leading ps comments) (left_is ∙ ap left_if (sym t ∙ s))

  pub goes_more : {stays : Bool} → stays ≡ false → stays ≡ stays_behind earlier m → {all : Comments} (comments : Comments) →
      all ≡ without_all_leading (starts_left earlier (drop i ms)) comments → {start : SourcePos} → start ≡ (range_of_node m).start →
      {more : Comments} →
      more ≡ without_leading start comments → all ≡ without_all_leading (starts_left (m ∷ earlier) (drop (i + 1) ms)) more
  goes_more s t comments x p q =
      x ∙ (ap (λ ps. without_all_leading ps comments) (left_is ∙ ap left_if (sym t ∙ s))
      ∙ ap (without_all_leading (starts_left (m ∷ earlier) (drop (i + 1) ms))) (sym (q ∙ ap (λ r. without_leading r comments) p)))

pub all_removed : (ms : List Tree) (i : ℕ) → length ms ≤ i → (earlier : List Tree) → {all : Comments} (comments : Comments) →
    all ≡ without_all_leading (starts_left earlier (drop i ms)) comments → comments ≡ all
all_removed ms i h earlier comments x = sym (x ∙ ap (λ rest. without_all_leading (starts_left earlier rest) comments) (drop_all i ms h))
