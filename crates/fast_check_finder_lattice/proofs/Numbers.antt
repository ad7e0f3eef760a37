-- A node goes, and each that a node lists that goes; the others get their numbers and move down.
use Rattle.std.proofs.Common.{◌≡◌, ◌∙◌, sym, ap, refl, subst, ⊎_elim, ℕ, zero, suc, ◌+◌, ◌<◌, ◌≤◌, Bool, true, false, ◌||◌, cond, List}
use Rattle.std.proofs.Common.{[], ◌∷◌, ◌++◌, Option, Some, None, arith, length, get_or, set, take, string_bytes, add-one}
use Rattle.std.specs.List.{SwappedAt}
use Rattle.std.specs.Str.{bytes_eq}
use Rattle.std.specs.Option.{is_some}
use Rattle.std.proofs.lemmas.Bool.{false≢true, cases_Bool, cases_lt, cases_eq, cond_both, or_left, or_right, or_from}
use Rattle.std.proofs.lemmas.Bool.{eq-eqb, ne_eqb, eqb-true}
use Rattle.std.proofs.lemmas.List.{get_or-map, get_or-set_same, get_or-set_other, get_or_past, get_or-take, take-map, take_more, take_all}
use Rattle.fast_check_finder_lattice.specs.declared.lattice.node.Node.{Node}
use Rattle.fast_check_finder_lattice.specs.declared.lattice.node.NodeNo.{NodeNo}
use Rattle.fast_check_finder_lattice.specs.declared.lattice.node.Below.{Below}
use Rattle.fast_check_finder_lattice.specs.declared.lattice.node.Below.TheVariants.{All, Subset}
use Rattle.fast_check_finder_lattice.specs.Order.{Name, Entry, found, IsOnce, IsAbsentBefore}
use Rattle.fast_check_finder_lattice.specs.Graph.{Graph, IsTree, listings}
use Rattle.fast_check_finder_lattice.specs.Numbers.{stays, number, number_or_zero, rank, is_node, lists_node, IsWithout, AreGone, AreRanks}
use Rattle.fast_check_finder_lattice.specs.Numbers.{AreMovedDown}
use Rattle.fast_check_finder_lattice.proofs.Walks.{name_shows, none_some}
use Rattle.fast_check_finder_lattice.proofs.Places.{found_none}
use Rattle.fast_check_finder_lattice.proofs.Extends.{itself}

-- how many stay before the next node
pub rank_stays : (f : ℕ → Bool) (k : ℕ) → f k ≡ true → rank f (k + 1) ≡ rank f k + 1
rank_stays f k e = ap (λ (m : ℕ). rank f m) (add-one k) ∙ ap (λ b. cond b (rank f k + 1) (rank f k)) e

pub rank_gone : (f : ℕ → Bool) (k : ℕ) → f k ≡ false → rank f (k + 1) ≡ rank f k
rank_gone f k e = ap (λ (m : ℕ). rank f m) (add-one k) ∙ ap (λ b. cond b (rank f k + 1) (rank f k)) e

pub rank_upto : (f : ℕ → Bool) (k : ℕ) → rank f k ≤ k
rank_upto f zero = let h : 0 ≤ 0 = omega arith in h
rank_upto f (suc k) =
    let h = rank_upto f k in
    cond_both (f k) (rank f k + 1) (rank f k) (λ x. x ≤ suc k) (λ e. omega (arith, h)) (λ e. omega (arith, h))

pub rank_grows : (f : ℕ → Bool) (j k : ℕ) → j ≤ k → rank f j ≤ rank f k
rank_grows f j zero h = let e : j ≡ 0 = omega (arith, h) in omega (arith, ap (λ (m : ℕ). rank f m) e)
rank_grows f j (suc k) h = ⊎_elim
    (λ (l : j < suc k).
    let up = rank_grows f j k (omega (arith, l)) in
    cond_both (f k) (rank f k + 1) (rank f k) (λ x. rank f j ≤ x) (λ e. omega (arith, up)) (λ e. up))
    (λ (l : suc k ≤ j). let e : j ≡ suc k = omega (arith, h, l) in omega (arith, ap (λ (m : ℕ). rank f m) e))
    (cases_lt j (suc k))

pub rank_rises : (f : ℕ → Bool) (j k : ℕ) → f j ≡ true → j < k → rank f j < rank f k
rank_rises f j k e h = omega (arith, rank_stays f j e, rank_grows f (j + 1) k (omega (arith, h)))

-- the tests agree on the nodes before
pub rank_same : (f h : ℕ → Bool) (k : ℕ) → ((j : ℕ) → j < k → h j ≡ f j) → rank h k ≡ rank f k
rank_same f h zero same = refl
rank_same f h (suc k) same =
    ap (λ b. cond b (rank h k + 1) (rank h k)) (same k (omega arith)) ∙
    ap (λ (m : ℕ). cond (f k) (m + 1) m) (rank_same f h k (λ j l. same j (omega (arith, l))))

abbrev IsRanked : (ℕ → Bool) → ℕ → ℕ → Type 0
IsRanked f size m = (k : ℕ) × (k < size) × (f k ≡ true) × (rank f k ≡ m)

ranked_more : (f : ℕ → Bool) (size m : ℕ) → IsRanked f size m → IsRanked f (suc size) m
ranked_more f size m r = (r.0, omega (arith, r.1), r.2, r.3)

-- each number below the count is that of one that stays
pub rank_onto : (f : ℕ → Bool) (size m : ℕ) → m < rank f size → (k : ℕ) × (k < size) × (f k ≡ true) × (rank f k ≡ m)
rank_onto f zero m h = absurd (let z : m < 0 = h in omega (arith, z))
rank_onto f (suc size) m h = ⊎_elim
    (λ (t : f size ≡ true).
    let e : rank f (suc size) ≡ rank f size + 1 = ap (λ c. cond c (rank f size + 1) (rank f size)) t in
    ⊎_elim (λ (l : m < rank f size). ranked_more f size m (rank_onto f size m l))
    (λ (l : rank f size ≤ m). let r : IsRanked f (suc size) m = (size, omega arith, t, omega (arith, l, h, e)) in r)
    (cases_lt m (rank f size)))
    (λ (t : f size ≡ false).
    let e : rank f (suc size) ≡ rank f size = ap (λ c. cond c (rank f size + 1) (rank f size)) t in
    ranked_more f size m (rank_onto f size m (omega (arith, h, e))))
    (cases_Bool (f size))

turned : (a b c : Bool) → (a || (b || c)) ≡ (b || (a || c))
turned true true c = refl
turned true false c = refl
turned false true c = refl
turned false false c = refl

lists_more : (es : List Entry) (e : Entry) (k : ℕ) → lists_node (es ++ e ∷ []) k ≡ (is_node e.1 k || lists_node es k)
lists_more [] e k = refl
lists_more (d ∷ es) e k =
    ap (λ b. is_node d.1 k || b) (lists_more es e k) ∙ turned (is_node d.1 k) (is_node e.1 k) (lists_node es k)

one_by_one : (a b : Bool) (o : Option ℕ) → cond (a || b) None o ≡ cond a None (cond b None o)
one_by_one true b o = refl
one_by_one false b o = refl

-- what the next name leads to is gone too
pub gone_more : (es : List Entry) (i : ℕ) (e : Entry) (old now new : List (Option ℕ)) → i < length es → e ≡ get_or es i e →
    AreGone (lists_node (take i es)) old now →
    AreGone (is_node e.1) now new → AreGone (lists_node (take (i + 1) es)) old new
gone_more es i e old now new within is before more k =
    let all : take (i + 1) es ≡ take i es ++ e ∷ [] = take_more es i e within ∙ ap (λ (x : Entry). take i es ++ x ∷ []) (sym is) in
    more k ∙ (ap (λ o. cond (is_node e.1 k) None o) (before k) ∙
    (sym (one_by_one (is_node e.1 k) (lists_node (take i es) k) (get_or old k None)) ∙
    ap (λ b. cond b None (get_or old k None)) (sym (lists_more (take i es) e k) ∙ ap (λ (xs : List Entry). lists_node xs k) (sym all))))

pub gone_all : (es : List Entry) (i : ℕ) (old new : List (Option ℕ)) → length es ≤ i → AreGone (lists_node (take i es)) old new →
    AreGone (lists_node es) old new
gone_all es i old new h is = subst (λ (xs : List Entry). AreGone (lists_node xs) old new) (take_all i es h) is

some_is : (b d : Below) → Some b ≡ Some d → b ≡ d
some_is b d e = cc

-- what is found is listed
pub listed_node : (es : List Entry) (n : Name) (j : NodeNo) → found es n ≡ Some (Subset j) → lists_node es j.0 ≡ true
listed_node [] n j e = absurd (none_some (Subset j) e)
listed_node (d ∷ es) n j e = ⊎_elim
    (λ (t : bytes_eq (string_bytes d.0) n ≡ true).
    let is : d.1 ≡ Subset j = some_is d.1 (Subset j) (ap (λ b. cond b (Some d.1) (found es n)) (sym t) ∙ e) in
    or_left (is_node d.1 j.0) (lists_node es j.0) (ap (λ (b : Below). is_node b j.0) is ∙ eq-eqb j.0 j.0 refl))
    (λ (t : bytes_eq (string_bytes d.0) n ≡ false).
    or_right (is_node d.1 j.0) (lists_node es j.0)
    (listed_node es n j (ap (λ b. cond b (Some d.1) (found es n)) (sym t) ∙ e)))
    (cases_Bool (bytes_eq (string_bytes d.0) n))

not_node : (b : Below) (k : ℕ) → (b ≡ Subset (record { 0 = k }) → ⊥) → is_node b k ≡ false
not_node All k h = refl
not_node (Subset j) k h = ne_eqb j.0 k (λ e. h (ap (λ i. Subset (record { 0 = i })) e))

pub once_behind : (d : Entry) (es : List Entry) → IsOnce (d ∷ es) → IsOnce es
once_behind d es once i j l w same = once (suc i) (suc j) (omega (arith, l)) (omega (arith, w)) same

pub first_absent : (d : Entry) (es : List Entry) → IsOnce (d ∷ es) → IsAbsentBefore es (string_bytes d.0) (length es)
first_absent d es once k l e = once 0 (suc k) (omega arith) (omega (arith, l)) (sym e)

-- what is found behind the first is found
pub found_behind : (d : Entry) (es : List Entry) → IsOnce (d ∷ es) → (n : Name) (b : Below) → found es n ≡ Some b → found (d ∷ es) n ≡ Some b
found_behind d es once n b e = ⊎_elim
    (λ (t : (bytes_eq (string_bytes d.0) n ≡ true) × (string_bytes d.0 ≡ n)).
    let none : found es n ≡ None = ap (λ (m : Name). found es m) (sym t.1) ∙ found_none es (string_bytes d.0) (first_absent d es once) in
    absurd (none_some b (sym none ∙ e)))
    (λ (t : (bytes_eq (string_bytes d.0) n ≡ false) × (string_bytes d.0 ≡ n → ⊥)).
    ap (λ c. cond c (Some d.1) (found es n)) t.0 ∙ e)
    (name_shows (string_bytes d.0) n)

-- what is not found is not listed
pub unlisted : (es : List Entry) → IsOnce es → (k : ℕ) → ((n : Name) → found es n ≡ Some (Subset (record { 0 = k })) → ⊥) →
    lists_node es k ≡ false
unlisted [] once k h = refl
unlisted (d ∷ es) once k h = or_from (is_node d.1 k) (lists_node es k)
    (not_node d.1 k (λ e. h (string_bytes d.0)
    (ap (λ b. cond b (Some d.1) (found es (string_bytes d.0))) (itself (string_bytes d.0)) ∙ ap (λ (b : Below). Some b) e)))
    (unlisted es (once_behind d es once) k (λ n e. h n (found_behind d es once n (Subset (record { 0 = k })) e)))

pub is_node_of : (b : Below) (k : ℕ) → is_node b k ≡ true → b ≡ Subset (record { 0 = k })
is_node_of All k e = absurd (false≢true e)
is_node_of (Subset j) k e = ap (λ (m : ℕ). Subset (record { 0 = m })) (eqb-true j.0 k e)

-- the nodes before i have been looked at: of those, and of no others, what they list may be gone
pub record IsDropping (g : Graph) (gone i : ℕ) (f : ℕ → Bool) : Type 0 where
  pub itself : f gone ≡ false
  pub down : (k : ℕ) (n : Name) (j : NodeNo) → k < i → g k n ≡ Some (Subset j) → f k ≡ false → f j.0 ≡ false
  pub up : (k : ℕ) (n : Name) (j : NodeNo) → g k n ≡ Some (Subset j) → f k ≡ true → (j.0 ≡ gone → ⊥) → f j.0 ≡ true
  pub ahead : (k : ℕ) (n : Name) (j : NodeNo) → i ≤ k → g k n ≡ Some (Subset j) → (j.0 ≡ gone → ⊥) → f j.0 ≡ true
  pub before : (k : ℕ) → k < gone → f k ≡ true

-- so far, and the nodes before i that stay have their numbers
pub record IsNumbering (g : Graph) (gone i next : ℕ) (numbers : List (Option ℕ)) : Type 0 where
  pub dropping : IsDropping g gone i (stays numbers)
  pub next_is : next ≡ rank (stays numbers) i
  pub ranks : (k : ℕ) → k < i → stays numbers k ≡ true → number numbers k ≡ rank (stays numbers) k

module _ (g : Graph) (size : ℕ) (tree : IsTree g size) (gone i next : ℕ) (numbers : List (Option ℕ))
    (is : IsNumbering g gone i next numbers) where
  dropping_past : (f : ℕ → Bool) → IsDropping g gone i f → f i ≡ true → IsDropping g gone (i + 1) f
  dropping_past f d here = record {
    itself = d.itself;
    down = λ k n j l e t. ⊎_elim
        (λ (h : k < i). d.down k n j h e t)
        (λ (h : i ≤ k). let same : k ≡ i = omega (arith, h, l) in absurd (false≢true (sym t ∙ (ap f same ∙ here)))) (cases_lt k i);
    up = d.up;
    ahead = λ k n j l e a. d.ahead k n j (omega (arith, l)) e a;
    before = d.before;
  }

  -- a node that stays gets its number
  pub numbering_past : stays numbers i ≡ true → i < length numbers → IsNumbering g gone (i + 1) (next + 1) (set numbers i (Some next))
  numbering_past here within = record {
    dropping = subst (λ (f : ℕ → Bool). IsDropping g gone (i + 1) f) (sym same) (dropping_past (stays numbers) is.dropping here);
    next_is = omega (arith, is.next_is, rank_stays (stays numbers) i here, ap (λ (f : ℕ → Bool). rank f (i + 1)) same);
    ranks = λ k l t. ⊎_elim
        (λ (h : k < i).
        ap number_or_zero (get_or-set_other numbers i k (Some next) None (λ e. omega (arith, e, h))) ∙
        (is.ranks k h (sym (at k) ∙ t) ∙ ap (λ (f : ℕ → Bool). rank f k) (sym same)))
        (λ (h : i ≤ k).
        let e : k ≡ i = omega (arith, h, l) in
        ap (λ (m : ℕ). number (set numbers i (Some next)) m) e ∙
        (ap number_or_zero (get_or-set_same numbers i (Some next) None within) ∙
        (is.next_is ∙ (ap (λ (m : ℕ). rank (stays numbers) m) (sym e) ∙ ap (λ (f : ℕ → Bool). rank f k) (sym same)))))
        (cases_lt k i);
  }
    where
      at : (k : ℕ) → stays (set numbers i (Some next)) k ≡ stays numbers k
      at k = ⊎_elim
          (λ (e : k ≡ i).
          ap (λ (m : ℕ). stays (set numbers i (Some next)) m) e ∙
          (ap is_some (get_or-set_same numbers i (Some next) None within) ∙ (sym here ∙ ap (λ (m : ℕ). stays numbers m) (sym e))))
          (λ (d : k ≡ i → ⊥). ap is_some (get_or-set_other numbers i k (Some next) None d))
          (cases_eq k i)

      same : stays (set numbers i (Some next)) ≡ stays numbers
      same m k = at k m

  -- what a node lists that is gone, goes
  module _ (new : List (Option ℕ)) (here : stays numbers i ≡ false) (listed : ℕ → Bool) (are : AreGone listed numbers new)
      (all : (n : Name) (j : NodeNo) → g i n ≡ Some (Subset j) → listed j.0 ≡ true)
      (only : (k : ℕ) → ((n : Name) → g i n ≡ Some (Subset (record { 0 = k })) → ⊥) → listed k ≡ false) where
    low : gone ≤ i
    low = ⊎_elim (λ (h : i < gone). absurd (false≢true (sym here ∙ is.dropping.before i h))) (λ (h : gone ≤ i). h) (cases_lt i gone)

    goes : (k : ℕ) → listed k ≡ true → stays new k ≡ false
    goes k e = ap is_some (are k ∙ ap (λ b. cond b None (get_or numbers k None)) e)

    same_as : (k : ℕ) → listed k ≡ false → get_or new k None ≡ get_or numbers k None
    same_as k e = are k ∙ ap (λ b. cond b None (get_or numbers k None)) e

    goes_on : (k : ℕ) → stays numbers k ≡ false → stays new k ≡ false
    goes_on k e = ⊎_elim (λ (t : listed k ≡ true). goes k t)
        (λ (t : listed k ≡ false). ap is_some (same_as k t) ∙ e) (cases_Bool (listed k))

    stayed : (k : ℕ) → stays new k ≡ true → stays numbers k ≡ true
    stayed k t = ⊎_elim (λ (e : stays numbers k ≡ true). e)
        (λ (e : stays numbers k ≡ false). absurd (false≢true (sym (goes_on k e) ∙ t))) (cases_Bool (stays numbers k))

    same_before : (k : ℕ) → k ≤ i → get_or new k None ≡ get_or numbers k None
    same_before k l = same_as k (only k (λ n e. omega (arith, l, (tree.later i n (record { 0 = k }) e).0)))

    -- what another node lists
    same_other : (k : ℕ) (n : Name) (j : NodeNo) → g k n ≡ Some (Subset j) → (k ≡ i → ⊥) → stays new j.0 ≡ stays numbers j.0
    same_other k n j e other = ap is_some (same_as j.0 (only j.0 (λ m d. other (tree.once k n i m j e d).0)))

    ranks_same : (k : ℕ) → k ≤ i → rank (stays new) k ≡ rank (stays numbers) k
    ranks_same k l = rank_same (stays numbers) (stays new) k (λ j h. ap is_some (same_before j (omega (arith, h, l))))

    pub numbering_more : IsNumbering g gone (i + 1) next new
    numbering_more = record {
      dropping = record {
        itself = goes_on gone is.dropping.itself;
        down = λ k n j l e t. ⊎_elim
            (λ (s : k < i). goes_on j.0 (is.dropping.down k n j s e (sym (ap is_some (same_before k (omega (arith, s)))) ∙ t)))
            (λ (s : i ≤ k).
            let same : k ≡ i = omega (arith, s, l) in goes j.0 (all n j (subst (λ (m : ℕ). g m n ≡ Some (Subset j)) same e)))
            (cases_lt k i);
        up = λ k n j e t d.
            same_other k n j e (λ s. false≢true (sym (goes_on k (ap (stays numbers) s ∙ here)) ∙ t)) ∙
            is.dropping.up k n j e (stayed k t) d;
        ahead = λ k n j l e d. same_other k n j e (λ s. omega (arith, s, l)) ∙ is.dropping.ahead k n j (omega (arith, l)) e d;
        before = λ k l. ap is_some (same_before k (omega (arith, l, low))) ∙ is.dropping.before k l;
      };
      next_is = omega (arith, is.next_is, rank_gone (stays new) i (goes_on i here), ranks_same i (omega arith));
      ranks = λ k l t. ⊎_elim
          (λ (h : k < i).
          ap number_or_zero (same_before k (omega (arith, h))) ∙ (is.ranks k h (stayed k t) ∙ sym (ranks_same k (omega (arith, h)))))
          (λ (h : i ≤ k).
          let e : k ≡ i = omega (arith, h, l) in
          absurd (false≢true (sym (goes_on i here) ∙ (ap (stays new) (sym e) ∙ t))))
          (cases_lt k i);
    }

  pub numbering_ranks : length numbers ≤ i → AreRanks numbers
  numbering_ranks end k t = is.ranks k (⊎_elim (λ (h : k < i). h)
      (λ (h : i ≤ k). absurd (false≢true (sym (ap is_some (get_or_past numbers k None (omega (arith, h, end)))) ∙ t))) (cases_lt k i)) t

-- the node itself is gone, and no node has been looked at
pub numbering_none : (g : Graph) (size gone : ℕ) (old : List (Option ℕ)) → IsTree g size → gone < size → length old ≡ size →
    ((k : ℕ) → k < size → stays old k ≡ true) → IsNumbering g gone 0 0 (set old gone None)
numbering_none g size gone old tree within long all = record {
  dropping = record {
    itself = ap is_some (get_or-set_same old gone None None (omega (arith, within, long)));
    down = λ k n j h. absurd (omega (arith, h));
    up = λ k n j e t d. other j.0 (tree.later k n j e).1 d;
    ahead = λ k n j h e d. other j.0 (tree.later k n j e).1 d;
    before = λ k h. other k (omega (arith, h, within)) (λ e. omega (arith, e, h));
  };
  next_is = refl;
  ranks = λ k h. absurd (omega (arith, h));
}
  where
    other : (k : ℕ) → k < size → (k ≡ gone → ⊥) → stays (set old gone None) k ≡ true
    other k l d = ap is_some (get_or-set_other old gone k None None d) ∙ all k l

-- all nodes have been looked at
pub numbering_without : (g : Graph) (size gone i next : ℕ) (numbers : List (Option ℕ)) → IsTree g size → size ≤ i →
    IsNumbering g gone i next numbers → IsWithout g gone (stays numbers)
numbering_without g size gone i next numbers tree all is = record {
  itself = is.dropping.itself;
  down = λ k n j e. let l = tree.later k n j e in is.dropping.down k n j (omega (arith, l.0, l.1, all)) e;
  up = is.dropping.up;
  before = is.dropping.before;
}

-- a node that is read at another place
pub read_moved : (xs ys : List Node) (i j : ℕ) → i < length ys → j < length xs → ((d : Node) → get_or ys i d ≡ get_or xs j d) →
    get_or (listings ys) i [] ≡ get_or (listings xs) j []
read_moved [] ys i j h l e = absurd (omega (arith, l))
read_moved (x ∷ xs) ys i j h l e =
    let f : Node → List Entry = λ y. y.names.items in
    get_or-map f ys i x [] h ∙ (ap f (e x) ∙ sym (get_or-map f (x ∷ xs) j x [] l))

-- the nodes before i that stay have moved down, and those from i on stand where they stood
pub record IsMoving (f : ℕ → Bool) (size i next : ℕ) (old new : List (List Entry)) : Type 0 where
  pub next_is : next ≡ rank f i
  pub moved : (k : ℕ) → k < i → f k ≡ true → get_or new (rank f k) [] ≡ get_or old k []
  pub ahead : (k : ℕ) → i ≤ k → k < size → get_or new k [] ≡ get_or old k []

module _ (f : ℕ → Bool) (size i next : ℕ) (old : List (List Entry)) (xs : List Node) (is : IsMoving f size i next old (listings xs)) where
  pub next_upto : next ≤ i
  next_upto = omega (arith, is.next_is, rank_upto f i)

  pub moving_swap : (ys : List Node) → f i ≡ true → i < size → length xs ≡ size → length ys ≡ size → SwappedAt xs ys next i →
      IsMoving f size (i + 1) (next + 1) old (listings ys)
  moving_swap ys here within long same swapped = record {
    next_is = omega (arith, is.next_is, rank_stays f i here);
    moved = λ k l t. ⊎_elim
        (λ (h : k < i).
        let less = rank_rises f k i t h in
        let small : rank f k < size = omega (arith, less, next_upto, is.next_is, within) in
        read_moved xs ys (rank f k) (rank f k) (omega (arith, small, same)) (omega (arith, small, long))
        (λ d. swapped.2 (rank f k) d (λ e. omega (arith, e, less, is.next_is)) (λ e. omega (arith, e, less, next_upto, is.next_is))) ∙
        is.moved k h t)
        (λ (h : i ≤ k).
        let e : k ≡ i = omega (arith, h, l) in
        ap (λ (m : ℕ). get_or (listings ys) (rank f m) []) e ∙
        (ap (λ (m : ℕ). get_or (listings ys) m []) (sym is.next_is) ∙
        (read_moved xs ys next i (omega (arith, next_upto, within, same)) (omega (arith, within, long)) swapped.0 ∙
        (is.ahead i (omega arith) within ∙ ap (λ (m : ℕ). get_or old m []) (sym e)))))
        (cases_lt k i);
    ahead = λ k l w.
        read_moved xs ys k k (omega (arith, w, same)) (omega (arith, w, long))
        (λ d. swapped.2 k d (λ e. omega (arith, e, l, next_upto)) (λ e. omega (arith, e, l))) ∙
        is.ahead k (omega (arith, l)) w;
  }

  pub moving_end : (ys : List Node) → size ≤ i → ys ≡ take next xs → AreMovedDown f size old (listings ys)
  moving_end ys end cut k l t =
      let h : Node → List Entry = λ y. y.names.items in
      let small : rank f k < next = omega (arith, is.next_is, rank_rises f k i t (omega (arith, l, end))) in
      ap (λ (zs : List Node). get_or (listings zs) (rank f k) []) cut ∙
      (ap (λ (ls : List (List Entry)). get_or ls (rank f k) []) (sym (take-map h next xs)) ∙
      (get_or-take next (listings xs) (rank f k) [] small ∙ is.moved k (omega (arith, l, end)) t))
