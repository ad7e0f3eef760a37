-- The equation of `is_simple_type`, and lists of simple types.
use Rattle.std.proofs.Common.{◌≡◌, ℕ, ◌+◌, ◌<◌, ◌≤◌, Bool, true, false, ◌&&◌, List, map, length, get_or, take, refl, ap, subst, ◌∙◌, sym}
use Rattle.std.specs.Prelude.{Option, Some, unwrap_or}
use Rattle.std.specs.Option.{option_map}
use Rattle.std.proofs.lemmas.List.{take_all}
use Rattle.std.specs.List.{list_all}
use Rattle.fast_check_tree_syntax.specs.declared.kind.Kind.{Kind}
use Rattle.fast_check_tree_syntax.specs.declared.kind.Kind.TheVariants as kinds
use Rattle.fast_check_tree_syntax.specs.declared.tree.Tree.{Tree}
use Rattle.fast_check_tree_syntax.specs.Shape.{kind_of, part, parts}
use Rattle.std.proofs.lemmas.List.Folds.{list_all-map, list_all_more, list_all_at}
use Rattle.fast_check_tree_helpers.specs.SimpleType.{is_simple_type, simple_form, simple_by_kind, types_in}
use Rattle.fast_check_tree_helpers.proofs.Levels.{by_form_out}

pub simple_out : (t : Tree) → is_simple_type t ≡ simple_form t (λ i. is_simple_type (part i t)) (map is_simple_type (parts t))
unfolding is_simple_type
simple_out = by_form_out false simple_form (λ t inside each e. ap (λ k. simple_by_kind k t inside each) e)

pub simple_at : (t : Tree) (k : Kind) → kind_of t ≡ k → is_simple_type t ≡ simple_by_kind k t (λ i. is_simple_type (part i t))
    (map is_simple_type (parts t))
simple_at t k e = simple_out t ∙ ap (λ k. simple_by_kind k t (λ i. is_simple_type (part i t)) (map is_simple_type (parts t))) e

pub simple_each : (t : Tree) → kind_of t ≡ kinds.List → is_simple_type t ≡ list_all is_simple_type (parts t)
simple_each t e = simple_at t kinds.List e ∙ list_all-map (λ b. b) is_simple_type (parts t)

-- a kind that is none of those that are simple or not without a look at one field
pub record HasTypes (k : Kind) : Type 0 where
  pub keyword : k ≡ kinds.TsKeywordType → ⊥
  pub this : k ≡ kinds.TsThisType → ⊥
  pub literal : k ≡ kinds.TsTypeLit → ⊥
  pub lit : k ≡ kinds.TsLitType → ⊥
  pub reference : k ≡ kinds.TsTypeRef → ⊥
  pub list : k ≡ kinds.List → ⊥

by_types : (k : Kind) (t : Tree) (inside : ℕ → Bool) (each : List Bool) → HasTypes k →
    simple_by_kind k t inside each ≡ unwrap_or (option_map inside (types_in k)) false
by_types kinds.TsKeywordType t inside each o = absurd (o.keyword refl)
by_types kinds.TsThisType t inside each o = absurd (o.this refl)
by_types kinds.TsTypeLit t inside each o = absurd (o.literal refl)
by_types kinds.TsLitType t inside each o = absurd (o.lit refl)
by_types kinds.TsTypeRef t inside each o = absurd (o.reference refl)
by_types kinds.List t inside each o = absurd (o.list refl)
by_types _ t inside each o = refl

-- a type is as simple as what it holds, if it holds any
pub simple_types : (t : Tree) (k : Kind) {field : Option ℕ} → kind_of t ≡ k → HasTypes k → field ≡ types_in k →
    is_simple_type t ≡ unwrap_or (option_map (λ i. is_simple_type (part i t)) field) false
simple_types t k e o f =
    simple_at t k e
    ∙ (by_types k t (λ i. is_simple_type (part i t)) (map is_simple_type (parts t)) o
    ∙ ap (λ field. unwrap_or (option_map (λ i. is_simple_type (part i t)) field) false) (sym f))

-- no leaf holds any
pub holds : (k : Kind) (i : ℕ) → Some i ≡ types_in k → k ≡ kinds.Leaf → ⊥
holds k i e leaf = cc (e ∙ ap types_in leaf)

-- the first items of a list are simple: one that is not, one more that is, and all of them
pub one_fails : (items all : List Tree) (i : ℕ) (item : Tree) {u : Tree} {b : Bool} → items ≡ all → i < length items →
    item ≡ get_or items i item → u ≡ item →
    b ≡ is_simple_type u → b ≡ false → false ≡ list_all is_simple_type all
one_fails items all i item are below at same test fails =
    sym (subst (λ ts. list_all is_simple_type ts ≡ false) are
    (list_all_at is_simple_type items i item below (ap is_simple_type (sym (same ∙ at)) ∙ (sym test ∙ fails))))

pub one_passes : (items : List Tree) (i : ℕ) (item : Tree) {u : Tree} {b : Bool} → i < length items → item ≡ get_or items i item →
    u ≡ item →
    list_all is_simple_type (take i items) ≡ true → b ≡ is_simple_type u → b ≡ true → list_all is_simple_type (take (i + 1) items) ≡ true
one_passes items i item below at same before test passes =
    list_all_more is_simple_type items i item below
    ∙ (ap (λ b. b && is_simple_type (get_or items i item)) before ∙ (ap is_simple_type (sym (same ∙ at)) ∙ (sym test ∙ passes)))

pub all_pass : (items all : List Tree) (i : ℕ) → items ≡ all → length items ≤ i → list_all is_simple_type (take i items) ≡ true →
    true ≡ list_all is_simple_type all
all_pass items all i are past before = sym before ∙ ap (list_all is_simple_type) (take_all i items past ∙ are)
