-- Expressions that agree but for what is hidden are seen alike, where what is seen of the parts is.
use Rattle.std.specs.Prelude.{◌≡◌, ℕ, suc, Bool, true, Option, None, List, [], ◌∷◌, map, refl, if◌then◌else◌}
use Rattle.std.proofs.Common.{ap, ap₂, ◌∙◌, sym, subst₂}
use Rattle.fast_check_tree_syntax.specs.declared.kind.Kind.{Kind}
use Rattle.fast_check_tree_syntax.specs.declared.kind.Kind.TheVariants as kinds
use Rattle.fast_check_tree_syntax.specs.declared.source.SourceRange.{SourceRange}
use Rattle.fast_check_tree_syntax.specs.declared.tree.Tree.{Tree}
use Rattle.fast_check_tree_syntax.specs.Shape.{◌is◌, is_kind, kind_of, part, parts}
use Rattle.fast_check_tree_syntax.specs.Moves.{Renaming, IsRenaming}
use Rattle.fast_check_tree_syntax.specs.Same.{SameTree}
use Rattle.fast_check_tree_syntax.proofs.Same.{tree_to}
use Rattle.fast_check_meaning_signatures.specs.Bindings.{Bindings}
use Rattle.fast_check_meaning_signatures.specs.declared.rules.Slot.{Slot}
use Rattle.fast_check_meaning_signatures.specs.Parameters.{Look}
use Rattle.fast_check_meaning_signatures.specs.Functions.{arrow_seen}
use Rattle.fast_check_meaning_signatures.specs.Rows.{arguments_row}
use Rattle.fast_check_meaning_signatures.specs.Expressions.{is_plain, is_compound, freezes, is_frozen, makes_plain, is_made, known_by_kind}
use Rattle.fast_check_meaning_signatures.specs.Expressions.{is_known, Rule, whole, parted, slotted, arrow, not_at_all, other_rule, rule, is_refused}
use Rattle.fast_check_meaning_signatures.specs.Expressions.{slot_seen, slots_seen, by_rule, expr_form}
use Rattle.fast_check_meaning_signatures.proofs.Choices.{both_true}
use Rattle.fast_check_meaning_signatures.proofs.Refused.{refused_rule}
use Rattle.fast_check_meaning_skeleton.specs.SameValues.{Both}
use Rattle.fast_check_meaning_skeleton.proofs.AlikeTrees.{kind_alike as same_kinds}
use Rattle.fast_check_meaning_skeleton.proofs.AlikeSeen.{Alike, AllAlike, same_written, round_alike}

compound_rule : (k : Kind) (known : Bool) → is_compound k ≡ true → rule k known ≡ parted
compound_rule k known e = ap (λ b. if b then parted else (if is_plain k then whole else other_rule k known)) e

-- what stays as it is has no parts to visit
plain_rule : (k : Kind) (known : Bool) → is_plain k ≡ true → rule k known ≡ whole
plain_rule kinds.Leaf known e = refl
plain_rule kinds.ThisExpr known e = refl
plain_rule kinds.Ident known e = refl
plain_rule kinds.IdentName known e = refl
plain_rule kinds.Str known e = refl
plain_rule kinds.Bool known e = refl
plain_rule kinds.Null known e = refl
plain_rule kinds.Number known e = refl
plain_rule kinds.BigInt known e = refl
plain_rule kinds.Regex known e = refl
plain_rule kinds.TplElement known e = refl
plain_rule _ known e = cc

module _ (r : Renaming) (ok : IsRenaming r) (c d : Bindings) (look look' : Look) (t u : Tree) (p q : Option SourceRange) where
  abbrev pub FormAlike : Type 0
  FormAlike = Alike r ok (expr_form c t look p) (expr_form d u look' q)

  pub refused_alike : is_refused c t ≡ true → is_refused d u ≡ true → FormAlike
  refused_alike e f =
      subst₂ (λ x y. Alike r ok (by_rule c x (kind_of t) t look p) (by_rule d y (kind_of u) u look' q)) (sym (refused_rule c t e))
      (sym (refused_rule d u f)) refl

  -- what has to be alike of the parts from a place on, and of two expressions of one rule
  abbrev pub SlotsAlike : List Slot → ℕ → Type 0
  SlotsAlike [] i = Unit {0}
  SlotsAlike (s ∷ ss) i = Alike r ok (slot_seen c s (part i t) look p) (slot_seen d s (part i u) look' q) × SlotsAlike ss (suc i)

  abbrev pub RuleAlike : Rule → Type 0
  RuleAlike parted = AllAlike r ok (map (λ x. look x None) (parts t)) (map (λ x. look' x None) (parts u))
  RuleAlike (slotted slots) = SlotsAlike slots 0
  RuleAlike arrow = Alike r ok (arrow_seen c look p t) (arrow_seen d look' q u)
  RuleAlike _ = SameTree r t u

  slots_alike : (ss : List Slot) (i : ℕ) → SlotsAlike ss i → AllAlike r ok (slots_seen c ss i t look p) (slots_seen d ss i u look' q)
  slots_alike [] i e = refl
  slots_alike (s ∷ ss) i e = ap₂ (λ x xs. x ∷ xs) e.0 (slots_alike ss (suc i) e.1)

  rule_alike : (x : Rule) (k : Kind) → RuleAlike x → Alike r ok (by_rule c x k t look p) (by_rule d x k u look' q)
  rule_alike whole k e = same_written r ok e
  rule_alike parted k e = round_alike r ok k _ _ e
  rule_alike (slotted slots) k e = round_alike r ok k _ _ (slots_alike slots 0 e)
  rule_alike arrow k e = e
  rule_alike not_at_all k e = refl

  pub kind_alike : (k : Kind) (x : Rule) → Both k t u → rule k (is_known c t) ≡ x → rule k (is_known d u) ≡ x → RuleAlike x → FormAlike
  kind_alike k x b e f alike =
      subst₂ (Alike r ok) (sym (λ i. by_rule c ((ap (λ k. rule k (is_known c t)) b.left ∙ e) i) (b.left i) t look p))
      (sym (λ i. by_rule d ((ap (λ k. rule k (is_known d u)) b.right ∙ f) i) (b.right i) u look' q)) (rule_alike x k alike)

  pub plain_alike : is_plain (kind_of t) ≡ true → SameTree r t u → FormAlike
  plain_alike e s =
      let k = same_kinds r ok t u (tree_to r ok s) in
      kind_alike (kind_of t) whole (record { left = refl; right = sym k }) (plain_rule (kind_of t) (is_known c t) e)
      (plain_rule (kind_of t) (is_known d u) e) s

  pub compound_alike : (k : Kind) → Both k t u → is_compound k ≡ true → RuleAlike parted → FormAlike
  compound_alike k b e alike = kind_alike k parted b (compound_rule k (is_known c t) e) (compound_rule k (is_known d u) e) alike

  -- of a kind that stays where it is known
  known_alike : (k : Kind) (x : Rule) → Both k t u → rule k true ≡ x → known_by_kind k c t ≡ true → known_by_kind k d u ≡ true →
      RuleAlike x → FormAlike
  known_alike k x b same e f alike =
      kind_alike k x b (ap (rule k) (ap (λ j. known_by_kind j c t) b.left ∙ e) ∙ same)
      (ap (rule k) (ap (λ j. known_by_kind j d u) b.right ∙ f) ∙ same) alike

  pub frozen_alike : is_frozen c t ≡ true → is_frozen d u ≡ true → RuleAlike (slotted arguments_row) → FormAlike
  frozen_alike e f alike =
      let x = both_true (kind_of t is kinds.CallExpr) (freezes c t) e in
      let y = both_true (kind_of u is kinds.CallExpr) (freezes d u) f in
      known_alike kinds.CallExpr (slotted arguments_row) (record { left = is_kind _ _ x.0; right = is_kind _ _ y.0 }) refl x.1 y.1 alike

  pub made_alike : is_made c t ≡ true → is_made d u ≡ true → RuleAlike (slotted arguments_row) → FormAlike
  made_alike e f alike =
      let x = both_true (kind_of t is kinds.NewExpr) (makes_plain c t) e in
      let y = both_true (kind_of u is kinds.NewExpr) (makes_plain d u) f in
      known_alike kinds.NewExpr (slotted arguments_row) (record { left = is_kind _ _ x.0; right = is_kind _ _ y.0 }) refl x.1 y.1 alike
