-- Lists, item by item.
use Rattle.std.proofs.Common.{◌≤◌, ◌<◌, zero, suc, map, length, get_or, drop, take, ◌-◌, codes, ◌≡◌, ℕ, ◌+◌, List, [], ◌∷◌, refl, sym, ap, ◌∙◌, subst, arith, Bool, nat_eq, inl, inr}
use Rattle.std.proofs.lemmas.Bool.Decides.{eqb_tells}
use Rattle.std.specs.Borrow.{Bor}
use Rattle.std.proofs.lemmas.List.{at_drop_more, at_drop_all}
use Rattle.fast_check_tree_syntax.specs.Shape.{part, is_absent}
use Rattle.fast_check_tree_syntax.specs.declared.tree.Tree.{Tree}
use Rattle.fast_check_syntax_table.specs.declared.piece.When.{When}
use Rattle.fast_check_syntax_table.specs.declared.piece.What.{What}
use Rattle.fast_check_syntax_table.specs.declared.piece.Slot.{Slot}
use Rattle.fast_check_syntax_table.specs.declared.piece.Slot.TheVariants as slots
use Rattle.fast_check_syntax_table.specs.Rows.{row}
use Rattle.fast_check_syntax_table.specs.Spelled.{Syntax, Nothing, Bytes, Then, Either, token, semicolon}
use Rattle.fast_check_syntax_table.specs.Guards.{is_nil}
use Rattle.fast_check_syntax_table.specs.Lists.{each, rest, joined, members, comma_after, holes, substitution, texts}
use Rattle.fast_check_syntax_table.specs.Written.{ways, written, row_syntax, rows_syntax}
use Rattle.fast_check_syntax_written.specs.declared.place.Walk.{Walk}
use Rattle.fast_check_syntax_written.specs.Passes.{Passes, wholes, in_way}
use Rattle.fast_check_syntax_written.proofs.Passing.{Remains, remains_next, remains_last, passes_then}

-- no item is left
module _ (items : List Tree) (i : ℕ) (whole : Syntax) (old now : Walk) (le : length items ≤ i) where
  done : (f : List Tree → Syntax) → f [] ≡ Nothing → Remains whole old now (f (drop i items)) → Passes whole old now
  done f e h = remains_last whole old now
      (subst (λ (x : Syntax). Remains whole old now x) e
      (subst (λ (x : Syntax). Remains whole old now x) (at_drop_all f items i le) h))

  pub each_done : (slot : Slot) → Remains whole old now (each (in_way slot (drop i items))) → Passes whole old now
  each_done slot h = done (λ us. each (in_way slot us)) refl h

  pub rest_done : (s : List ℕ) → Remains whole old now (rest s (wholes (drop i items))) → Passes whole old now
  rest_done s h = done (λ us. rest s (wholes us)) refl h

  pub members_done : Remains whole old now (members (wholes (drop i items))) → Passes whole old now
  members_done h = done (λ us. members (wholes us)) refl h

-- one item further on
module _ (items : List Tree) (i : ℕ) (d : Tree) (whole : Syntax) (old : Walk) (lt : i < length items) where
  abbrev one : Syntax
  one = written (get_or items i d) slots.Whole

  pub each_step : (slot : Slot) (a m : Walk) → Remains whole old a (each (in_way slot (drop i items))) → Passes (written (get_or items i d) slot) a m →
      Remains whole old m (each (in_way slot (drop (i + 1) items)))
  each_step slot a m h step = remains_next whole (written (get_or items i d) slot) _ old a m
      (subst (λ (x : Syntax). Remains whole old a x) (at_drop_more (λ (us : List Tree). each (in_way slot us)) items i d lt) h) step

  pub rest_step : (s : List ℕ) (a k m : Walk) → Remains whole old a (rest s (wholes (drop i items))) →
      Passes (token s) a k → Passes one k m → Remains whole old m (rest s (wholes (drop (i + 1) items)))
  rest_step s a k m h mark step = remains_next whole one (rest s (wholes (drop (i + 1) items))) old k m
      (remains_next whole (token s) (Then one (rest s (wholes (drop (i + 1) items)))) old a k
      (subst (λ (x : Syntax). Remains whole old a x) (at_drop_more (λ (us : List Tree). rest s (wholes us)) items i d lt) h) mark) step

  pub members_step : (a m k : Walk) → Remains whole old a (members (wholes (drop i items))) →
      Passes one a m → Passes (Either (token (codes ",")) semicolon) m k → Remains whole old k (members (wholes (drop (i + 1) items)))
  members_step a m k h step last = remains_next whole (Either (token (codes ",")) semicolon) (members (wholes (drop (i + 1) items))) old m k
      (remains_next whole one (Then (Either (token (codes ",")) semicolon) (members (wholes (drop (i + 1) items)))) old a m
      (subst (λ (x : Syntax). Remains whole old a x) (at_drop_more (λ (us : List Tree). members (wholes us)) items i d lt) h) step) last

pub take_whole : (ts : List Tree) (n : ℕ) → n ≡ length ts → take n ts ≡ ts
take_whole [] zero e = refl
take_whole [] (suc n) e = absurd (omega (arith, e))
take_whole (t ∷ ts) zero e = absurd (omega (arith, e))
take_whole (t ∷ ts) (suc n) e = ap (λ (us : List Tree). t ∷ us) (take_whole ts n (omega (arith, e)))

pub joined_is : (s : List ℕ) (items : List Tree) (d : Tree) → 1 ≤ length items →
    joined s (wholes items) ≡ Then (written (get_or items 0 d) slots.Whole) (rest s (wholes (take (length items - 1) (drop 1 items))))
joined_is s [] d h = absurd (omega arith)
joined_is s (t ∷ ts) d h =
    ap (λ (us : List Tree). Then (written t slots.Whole) (rest s (wholes us))) (sym (take_whole ts (length (t ∷ ts) - 1) (omega arith)))

-- one row further on
module _ (rows : List (When × What × Bor (List ℕ))) (i : ℕ) (t : Tree) (whole : Syntax) (old : Walk) where
  abbrev syntax_of : List (When × What × Bor (List ℕ)) → Syntax
  syntax_of us = rows_syntax (map row us) t (λ k. ways (part k t))

  pub rows_step : (d : When × What × Bor (List ℕ)) (a m : Walk) → i < length rows → Remains whole old a (syntax_of (drop i rows)) →
      Passes (row_syntax (row (get_or rows i d)) t (λ k. ways (part k t))) a m → Remains whole old m (syntax_of (drop (i + 1) rows))
  rows_step d a m lt h step = remains_next whole (row_syntax (row (get_or rows i d)) t (λ k. ways (part k t))) (syntax_of (drop (i + 1) rows)) old a m
      (subst (λ (x : Syntax). Remains whole old a x) (at_drop_more syntax_of rows i d lt) h) step

  pub rows_done : (now : Walk) → length rows ≤ i → Remains whole old now (syntax_of (drop i rows)) → Passes whole old now
  rows_done now le h = remains_last whole old now
      (subst (λ (x : Syntax). Remains whole old now x) (at_drop_all syntax_of rows i le) h)

module _ (items : List Tree) (i : ℕ) (d : Tree) (whole : Syntax) (old : Walk) (lt : i < length items) where
  abbrev item : Syntax
  item = written (get_or items i d) slots.Whole

  abbrev others : List Tree
  others = drop (i + 1) items

  pub holes_step : (a m k : Walk) (last : Bool) → is_nil others ≡ last → Remains whole old a (holes (drop i items) (wholes (drop i items))) →
      Passes item a m → Passes (comma_after (is_absent (get_or items i d)) last) m k →
      Remains whole old k (holes others (wholes others))
  holes_step a m k last e h step comma =
      remains_next whole (comma_after (is_absent (get_or items i d)) (is_nil others)) (holes others (wholes others)) old m k
      (remains_next whole item (Then (comma_after (is_absent (get_or items i d)) (is_nil others)) (holes others (wholes others))) old a m
      (subst (λ (x : Syntax). Remains whole old a x) (at_drop_more (λ (us : List Tree). holes us (wholes us)) items i d lt) h) step)
      (subst (λ (b : Bool). Passes (comma_after (is_absent (get_or items i d)) b) m k) (sym e) comma)

module _ (items : List Tree) (i : ℕ) (whole : Syntax) (old now : Walk) (le : length items ≤ i) where
  pub holes_done : Remains whole old now (holes (drop i items) (wholes (drop i items))) → Passes whole old now
  holes_done h = remains_last whole old now
      (subst (λ (x : Syntax). Remains whole old now x) (at_drop_all (λ (us : List Tree). holes us (wholes us)) items i le) h)

-- whether no item is left after one
pub last_item : (ts : List Tree) (i : ℕ) (d : Tree) → i < length ts → is_nil (drop (i + 1) ts) ≡ nat_eq (i + 1) (length ts)
last_item ts i d lt = elim (eqb_tells (i + 1) (length ts)) [
  | inl h ↦ at_drop_all (λ (us : List Tree). is_nil us) ts (i + 1) (omega (arith, h.1)) ∙ sym h.0
  | inr h ↦ at_drop_more (λ (us : List Tree). is_nil us) ts (i + 1) d (omega (arith, h.1)) ∙ sym h.0
]

-- a text of a template and its substitution
module _ (qs es : List Tree) (i : ℕ) (d f : Tree) (whole : Syntax) (old : Walk) (lt : i < length qs) (lu : i < length es) where
  abbrev later : Syntax
  later = texts (wholes (drop (i + 1) qs)) (wholes (drop (i + 1) es))

  abbrev quasi : Syntax
  quasi = written (get_or qs i d) slots.Whole

  abbrev expr : Syntax
  expr = written (get_or es i f) slots.Whole

  texts_more : texts (wholes (drop i qs)) (wholes (drop i es)) ≡ Then (substitution quasi expr) later
  texts_more =
      at_drop_more (λ (us : List Tree). texts (wholes us) (wholes (drop i es))) qs i d lt
      ∙ at_drop_more (λ (us : List Tree). texts (wholes (get_or qs i d ∷ drop (i + 1) qs)) (wholes us)) es i f lu

  pub texts_step : (a m b : Walk) → Remains whole old a (texts (wholes (drop i qs)) (wholes (drop i es))) →
      Passes (Then quasi (Bytes (codes "${"))) a m → Passes (Then expr (token (codes "}"))) m b → Remains whole old b later
  texts_step a m b h first second =
      remains_next whole (substitution quasi expr) later old a b
      (subst (λ (x : Syntax). Remains whole old a x) texts_more h)
      (passes_then (Then quasi (Bytes (codes "${"))) (Then expr (token (codes "}"))) a m b first second)

-- the last text of a template
pub texts_last : (qs es : List Tree) (i : ℕ) (d : Tree) (whole : Syntax) (old now b : Walk) →
    length qs ≡ length es + 1 → length es ≤ i → i ≤ length es → Remains whole old now (texts (wholes (drop i qs)) (wholes (drop i es))) →
    Passes (Then (written (get_or qs (length es) d) slots.Whole) (Bytes (codes "`"))) now b → Passes whole old b
texts_last qs es i d whole old now b e le ge h last =
    let same : i ≡ length es = omega arith in
    let lt : i < length qs = omega arith in
    let lm : length qs ≤ i + 1 = omega arith in
    let none : texts (wholes (drop i qs)) (wholes (drop i es)) ≡ texts (wholes (drop i qs)) [] =
    at_drop_all (λ (us : List Tree). texts (wholes (drop i qs)) (wholes us)) es i le in
    let one : texts (wholes (drop i qs)) [] ≡ texts (wholes (get_or qs i d ∷ drop (i + 1) qs)) [] =
    at_drop_more (λ (us : List Tree). texts (wholes us) []) qs i d lt in
    let ends : texts (wholes (get_or qs i d ∷ drop (i + 1) qs)) [] ≡ texts (wholes (get_or qs i d ∷ [])) [] =
    at_drop_all (λ (us : List Tree). texts (wholes (get_or qs i d ∷ us)) []) qs (i + 1) lm in
    let step : Remains whole old now (Then (written (get_or qs i d) slots.Whole) (Bytes (codes "`"))) =
    subst (λ (x : Syntax). Remains whole old now x) (none ∙ (one ∙ ends)) h in
    step b (subst (λ (k : ℕ). Passes (Then (written (get_or qs k d) slots.Whole) (Bytes (codes "`"))) now b) (sym same) last)
