-- What the node of a pair lists, name by name.
use Rattle.std.proofs.Common.{◌≡◌, ◌∙◌, sym, ap, refl, subst, ⊎_elim, ℕ, ◌+◌, ◌<◌, ◌≤◌, true, false, cond, List, [], ◌∷◌, ◌++◌, append_assoc}
use Rattle.std.proofs.Common.{Option, Some, None, arith, length, get_or, take, string_bytes}
use Rattle.std.specs.Str.{bytes_eq}
use Rattle.std.specs.Option.{MatchOption}
use Rattle.std.proofs.lemmas.Bool.{cases_lt}
use Rattle.std.proofs.lemmas.List.{append-nil, length-append, get_or_append_left, get_or-append-add, take_more, take_all}
use Rattle.fast_check_finder_lattice.specs.declared.lattice.node.NodeNo.{NodeNo}
use Rattle.fast_check_finder_lattice.specs.declared.lattice.node.Below.{Below}
use Rattle.fast_check_finder_lattice.specs.declared.lattice.node.Below.TheVariants.{All, Subset}
use Rattle.fast_check_finder_lattice.specs.declared.lattice.joins.Pair.{Pair}
use Rattle.fast_check_finder_lattice.specs.declared.lattice.joins.Both.{Both}
use Rattle.fast_check_finder_lattice.specs.declared.lattice.joins.Both.TheVariants.{Whole, Nodes}
use Rattle.fast_check_finder_lattice.specs.Order.{Name, Entry, found, names_in, IsOnce, IsAbsentBefore}
use Rattle.fast_check_finder_lattice.specs.Pairs.{pair_at, alone, beside, both, pairs_of, numbered, with_pairs, IsPushed, IsMade}
use Rattle.fast_check_finder_lattice.proofs.Apart.{subset_is}
use Rattle.fast_check_finder_lattice.proofs.Built.{new_name, one_more}
use Rattle.fast_check_finder_lattice.proofs.Extends.{no_place}
use Rattle.fast_check_finder_lattice.proofs.Places.{names_push, once_push, found_push}
use Rattle.fast_check_finder_lattice.proofs.Roots.{none_once}
use Rattle.fast_check_finder_lattice.proofs.Walks.{name_shows, all_no_subset, none_no_subset}

pub with_none : (at : ℕ → Pair) (o : Option Below) → None ≡ with_pairs at o → o ≡ None
with_none at None e = refl
with_none at (Some All) e = absurd (let x : None ≡ Some Whole = e in cc)
with_none at (Some (Subset j)) e = absurd (let x : None ≡ Some (Nodes (at j.0)) = e in cc)

-- pairs that stay at their places
pub with_same : (at to : ℕ → Pair) (o : Option Below) → ((j : NodeNo) → o ≡ Some (Subset j) → at j.0 ≡ to j.0) → with_pairs at o ≡ with_pairs to o
with_same at to None h = refl
with_same at to (Some All) h = refl
with_same at to (Some (Subset j)) h = ap (λ x. Some (Nodes x)) (h j refl)

pub pair_front : (queue more : List Pair) (k : ℕ) → k < length queue → pair_at (queue ++ more) k ≡ pair_at queue k
pair_front queue more k h = get_or_append_left queue more (record { first = 0; second = 0 }) k h

-- what is listed last, at its place
last_shows : (queue : List Pair) (x : Both) → Some x ≡ with_pairs (pair_at (queue ++ pairs_of x)) (Some (numbered (length queue) x))
last_shows queue Whole = refl
last_shows queue (Nodes pair) =
    let same : length queue ≡ length queue + 0 = omega arith in
    sym (ap (λ y. Some (Nodes y)) (ap (λ k. pair_at (queue ++ pair ∷ []) k) same ∙
    get_or-append-add queue (pair ∷ []) 0 (record { first = 0; second = 0 })))

last_range : (queue : List Pair) (x : Both) (j : NodeNo) → Some (numbered (length queue) x) ≡ Some (Subset j) →
    (j.0 ≡ length queue) × (j.0 < length (queue ++ pairs_of x))
last_range queue Whole j e = absurd (all_no_subset j e)
last_range queue (Nodes pair) j e =
    let same = subset_is (record { 0 = length queue }) j e in (sym same, omega (arith, same, length-append queue (pair ∷ [])))

last_each : (queue : List Pair) (x : Both) (j : ℕ) → length queue ≤ j → j < length (queue ++ pairs_of x) →
    Some (numbered (length queue) x) ≡ Some (Subset (record { 0 = j }))
last_each queue Whole j low high = absurd (omega (arith, low, high, ap length (append-nil queue)))
last_each queue (Nodes pair) j low high =
    let same : length queue ≡ j = omega (arith, low, high, length-append queue (pair ∷ [])) in
    ap (λ k. Some (Subset (record { 0 = k }))) same

-- nothing is listed yet
pub made_none : (queue : List Pair) (f : Name → Option Below) (m : Name → Option Both) → ((n : Name) → f n ≡ None) →
    ((n : Name) → m n ≡ None) → IsMade queue queue f m
made_none queue f m none void = record {
  more = [];
  gained = sym (append-nil queue);
  same = λ n. void n ∙ ap (with_pairs (pair_at queue)) (sym (none n));
  range = λ n j e. absurd (none_no_subset j (sym (none n) ∙ e));
  once = λ n l j e d. absurd (none_no_subset j (sym (none n) ∙ e));
  each = λ j low high. absurd (omega (arith, low, high));
}

-- the same in other words
pub made_along : (before queue : List Pair) (f : Name → Option Below) (m w : Name → Option Both) → ((n : Name) → w n ≡ m n) →
    IsMade before queue f m → IsMade before queue f w
made_along before queue f m w e made = record {
  more = made.more;
  gained = made.gained;
  same = λ n. e n ∙ made.same n;
  range = made.range;
  once = made.once;
  each = made.each;
}

-- a name more
module _ (before queue : List Pair) (f v : Name → Option Below) (m w : Name → Option Both) (made : IsMade before queue f m) (name : Name)
    (x : Both) (lack : f name ≡ None)
    (listed : (n : Name) → v n ≡ cond (bytes_eq name n) (Some (numbered (length queue) x)) (f n))
    (means : (n : Name) → w n ≡ cond (bytes_eq name n) (Some x) (m n)) where
  longer : length queue ≤ length (queue ++ pairs_of x)
  longer = omega (arith, length-append queue (pairs_of x))

  here : (n : Name) → bytes_eq name n ≡ true → v n ≡ Some (numbered (length queue) x)
  here n t = listed n ∙ ap (λ b. cond b (Some (numbered (length queue) x)) (f n)) t

  there : (n : Name) → bytes_eq name n ≡ false → v n ≡ f n
  there n t = listed n ∙ ap (λ b. cond b (Some (numbered (length queue) x)) (f n)) t

  other : (n : Name) (b : Below) → f n ≡ Some b → bytes_eq name n ≡ false
  other n b e = ⊎_elim
      (λ (t : (bytes_eq name n ≡ true) × (name ≡ n)). absurd (let d : None ≡ Some b = sym lack ∙ (ap f t.1 ∙ e) in cc))
      (λ (t : (bytes_eq name n ≡ false) × (name ≡ n → ⊥)). t.0)
      (name_shows name n)

  pub made_more : IsMade before (queue ++ pairs_of x) v w
  made_more = record {
    more = made.more ++ pairs_of x;
    gained = ap (λ ks. ks ++ pairs_of x) made.gained ∙ append_assoc before made.more (pairs_of x);
    same = λ n. ⊎_elim
        (λ (t : (bytes_eq name n ≡ true) × (name ≡ n)).
        means n ∙ (ap (λ b. cond b (Some x) (m n)) t.0 ∙
        (last_shows queue x ∙ ap (with_pairs (pair_at (queue ++ pairs_of x))) (sym (here n t.0)))))
        (λ (t : (bytes_eq name n ≡ false) × (name ≡ n → ⊥)).
        means n ∙ (ap (λ b. cond b (Some x) (m n)) t.0 ∙ (made.same n ∙
        (with_same (pair_at queue) (pair_at (queue ++ pairs_of x)) (f n)
        (λ j e. sym (pair_front queue (pairs_of x) j.0 (made.range n j e).1)) ∙
        ap (with_pairs (pair_at (queue ++ pairs_of x))) (sym (there n t.0))))))
        (name_shows name n);
    range = λ n j e. ⊎_elim
        (λ (t : (bytes_eq name n ≡ true) × (name ≡ n)).
        let r = last_range queue x j (sym (here n t.0) ∙ e) in
        (omega (arith, r.0, ap length made.gained, length-append before made.more), r.1))
        (λ (t : (bytes_eq name n ≡ false) × (name ≡ n → ⊥)).
        let r = made.range n j (sym (there n t.0) ∙ e) in (r.0, omega (arith, r.1, longer)))
        (name_shows name n);
    once = λ n l j e d. ⊎_elim
        (λ (t : (bytes_eq name n ≡ true) × (name ≡ n)). ⊎_elim
        (λ (s : (bytes_eq name l ≡ true) × (name ≡ l)). sym t.1 ∙ s.1)
        (λ (s : (bytes_eq name l ≡ false) × (name ≡ l → ⊥)).
        absurd (omega (arith, (last_range queue x j (sym (here n t.0) ∙ e)).0, (made.range l j (sym (there l s.0) ∙ d)).1)))
        (name_shows name l))
        (λ (t : (bytes_eq name n ≡ false) × (name ≡ n → ⊥)). ⊎_elim
        (λ (s : (bytes_eq name l ≡ true) × (name ≡ l)).
        absurd (omega (arith, (last_range queue x j (sym (here l s.0) ∙ d)).0, (made.range n j (sym (there n t.0) ∙ e)).1)))
        (λ (s : (bytes_eq name l ≡ false) × (name ≡ l → ⊥)). made.once n l j (sym (there n t.0) ∙ e) (sym (there l s.0) ∙ d))
        (name_shows name l))
        (name_shows name n);
    each = λ j low high. ⊎_elim
        (λ (h : j < length queue).
        let n = made.each j low h in (n.0, there n.0 (other n.0 (Subset (record { 0 = j })) n.1) ∙ n.1))
        (λ (h : length queue ≤ j). (name, here name itself ∙ last_each queue x j h high))
        (cases_lt j (length queue));
  }
    where
      itself : bytes_eq name name ≡ true
      itself = ⊎_elim (λ (t : (bytes_eq name name ≡ true) × (name ≡ name)). t.0)
          (λ (t : (bytes_eq name name ≡ false) × (name ≡ name → ⊥)). absurd (t.1 refl)) (name_shows name name)

-- what a push leaves
module _ (es fs : List Entry) (queue longer : List Pair) (name : Name) (x : Both) (pushed : IsPushed es fs queue longer name x) where
  pub push_names : names_in fs ≡ names_in es ++ name ∷ []
  push_names = ap names_in pushed.listed ∙ (names_push es pushed.last ∙ ap (λ (n : Name). names_in es ++ n ∷ []) pushed.name_is)

  module _ (once : IsOnce es) (lack : found es name ≡ None) where
    absent : IsAbsentBefore es (string_bytes pushed.last.0) (length es)
    absent k l e = no_place es once name k l (e ∙ pushed.name_is) lack

    pub push_once : IsOnce fs
    push_once = subst (λ (xs : List Entry). IsOnce xs) (sym pushed.listed) (once_push es pushed.last once absent)

    push_found : (n : Name) → found fs n ≡ cond (bytes_eq name n) (Some (numbered (length queue) x)) (found es n)
    push_found n =
        ap (λ xs. found xs n) pushed.listed ∙ (found_push es pushed.last n absent ∙
        (ap (λ (m : Name). cond (bytes_eq m n) (Some pushed.last.1) (found es n)) pushed.name_is ∙
        ap (λ (b : Below). cond (bytes_eq name n) (Some b) (found es n)) pushed.below_is))

    pub push_made : (before : List Pair) (m w : Name → Option Both) → IsMade before queue (found es) m →
        ((n : Name) → w n ≡ cond (bytes_eq name n) (Some x) (m n)) → IsMade before longer (found fs) w
    push_made before m w made means = subst (λ (q : List Pair). IsMade before q (found fs) w) (sym pushed.queued)
        (made_more before queue (found es) (found fs) m w made name x lack push_found means)

-- what comes of what either has under a name, where not all names came yet: o came of the second set, and p is what it has
abbrev pub both_so_far : ℕ → ℕ → Option Below → Option Below → Option Below → Option Both
both_so_far a b None o p = both a b None o
both_so_far a b (Some c) o p = Some (beside b c p)

-- of a pair the first i names of the one list and the first j of the other are listed
pub record AreListed (a b : ℕ) (es fs : List Entry) (p : Name → Option Below) (before queue : List Pair) (names : List Entry) (i j : ℕ) :
    Type 0 where
  pub once : IsOnce names
  pub rest : List Name
  pub behind : names_in names ≡ names_in (take i es) ++ rest
  pub turn : i < length es → (j ≡ 0) × (rest ≡ [])
  pub made : IsMade before queue (found names) (λ n. both_so_far a b (found (take i es) n) (found (take j fs) n) (p n))

pub none_listed : (a b : ℕ) (es fs : List Entry) (p : Name → Option Below) (queue : List Pair) (names : List Entry) → names ≡ [] →
    AreListed a b es fs p queue queue names 0 0
none_listed a b es fs p queue names none = record {
  once = none_once names none;
  rest = [];
  behind = ap names_in none;
  turn = λ h. (refl, refl);
  made = made_none queue (found names) (λ n. both_so_far a b (found (take 0 es) n) (found (take 0 fs) n) (p n))
      (λ n. ap (λ xs. found xs n) none) (λ n. refl);
}

module _ (a b : ℕ) (es fs : List Entry) (p : Name → Option Below) (e_once : IsOnce es) (f_once : IsOnce fs) (before queue longer : List Pair)
    (names more : List Entry) (i j : ℕ) (are : AreListed a b es fs p before queue names i j) where
  lacks : (n : Name) → found (take i es) n ≡ None → found (take j fs) n ≡ None → found names n ≡ None
  lacks n e f = with_none (pair_at queue) (found names n)
      (sym (ap (λ q. both_so_far a b q (found (take j fs) n) (p n)) e ∙ ap (λ o. both a b None o) f) ∙ are.made.same n)

  module _ (e : Entry) (within : i < length es) (is : e ≡ get_or es i e) where
    first_means : (n : Name) → both_so_far a b (found (take (i + 1) es) n) (found (take j fs) n) (p n) ≡
        cond (bytes_eq (string_bytes e.0) n) (Some (beside b e.1 (p (string_bytes e.0))))
        (both_so_far a b (found (take i es) n) (found (take j fs) n) (p n))
    first_means n =
        ap (λ q. both_so_far a b q (found (take j fs) n) (p n)) (one_more es e_once i e within is n) ∙ ⊎_elim
        (λ (t : (bytes_eq (string_bytes e.0) n ≡ true) × (string_bytes e.0 ≡ n)).
        ap (λ c. both_so_far a b (cond c (Some e.1) (found (take i es) n)) (found (take j fs) n) (p n)) t.0 ∙
        (ap (λ (m : Name). Some (beside b e.1 (p m))) (sym t.1) ∙
        ap (λ c. cond c (Some (beside b e.1 (p (string_bytes e.0))))
        (both_so_far a b (found (take i es) n) (found (take j fs) n) (p n))) (sym t.0)))
        (λ (t : (bytes_eq (string_bytes e.0) n ≡ false) × (string_bytes e.0 ≡ n → ⊥)).
        ap (λ c. both_so_far a b (cond c (Some e.1) (found (take i es) n)) (found (take j fs) n) (p n)) t.0 ∙
        ap (λ c. cond c (Some (beside b e.1 (p (string_bytes e.0))))
        (both_so_far a b (found (take i es) n) (found (take j fs) n) (p n))) (sym t.0))
        (name_shows (string_bytes e.0) n)

    first_lacks : found names (string_bytes e.0) ≡ None
    first_lacks = lacks (string_bytes e.0) (new_name es e_once i e within is)
        (ap (λ k. found (take k fs) (string_bytes e.0)) (are.turn within).0)

    first_behind : IsPushed names more queue longer (string_bytes e.0) (beside b e.1 (p (string_bytes e.0))) →
        names_in more ≡ names_in (take (i + 1) es) ++ []
    first_behind pushed =
        push_names names more queue longer (string_bytes e.0) (beside b e.1 (p (string_bytes e.0))) pushed ∙
        (ap (λ ns. ns ++ string_bytes e.0 ∷ [])
        (are.behind ∙ (ap (λ ns. names_in (take i es) ++ ns) (are.turn within).1 ∙ append-nil (names_in (take i es)))) ∙
        (sym (names_push (take i es) e) ∙ (ap names_in (sym (take_more es i e within ∙
        ap (λ (x : Entry). take i es ++ x ∷ []) (sym is))) ∙ sym (append-nil (names_in (take (i + 1) es))))))

    pub first_listed : IsPushed names more queue longer (string_bytes e.0) (beside b e.1 (p (string_bytes e.0))) →
        AreListed a b es fs p before longer more (i + 1) j
    first_listed pushed = record {
      once = push_once names more queue longer (string_bytes e.0) (beside b e.1 (p (string_bytes e.0))) pushed are.once first_lacks;
      rest = [];
      behind = first_behind pushed;
      turn = λ h. ((are.turn within).0, refl);
      made = push_made names more queue longer (string_bytes e.0) (beside b e.1 (p (string_bytes e.0))) pushed are.once first_lacks before
          (λ n. both_so_far a b (found (take i es) n) (found (take j fs) n) (p n))
          (λ n. both_so_far a b (found (take (i + 1) es) n) (found (take j fs) n) (p n)) are.made first_means;
    }

  module _ (done : length es ≤ i) (e : Entry) (within : j < length fs) (is : e ≡ get_or fs j e) where
    first_is : (n : Name) → found (take i es) n ≡ found es n
    first_is n = ap (λ xs. found xs n) (take_all i es done)

    skip_means : (c : Below) → found es (string_bytes e.0) ≡ Some c → (n : Name) →
        both_so_far a b (found (take i es) n) (found (take (j + 1) fs) n) (p n) ≡
        both_so_far a b (found (take i es) n) (found (take j fs) n) (p n)
    skip_means c held n =
        ap (λ o. both_so_far a b (found (take i es) n) o (p n)) (one_more fs f_once j e within is n) ∙ ⊎_elim
        (λ (t : (bytes_eq (string_bytes e.0) n ≡ true) × (string_bytes e.0 ≡ n)).
        let some : found (take i es) n ≡ Some c = first_is n ∙ (ap (λ (m : Name). found es m) (sym t.1) ∙ held) in
        ap (λ q. both_so_far a b q (cond (bytes_eq (string_bytes e.0) n) (Some e.1) (found (take j fs) n)) (p n)) some ∙
        sym (ap (λ q. both_so_far a b q (found (take j fs) n) (p n)) some))
        (λ (t : (bytes_eq (string_bytes e.0) n ≡ false) × (string_bytes e.0 ≡ n → ⊥)).
        ap (λ d. both_so_far a b (found (take i es) n) (cond d (Some e.1) (found (take j fs) n)) (p n)) t.0)
        (name_shows (string_bytes e.0) n)

    alone_means : found es (string_bytes e.0) ≡ None → (n : Name) →
        both_so_far a b (found (take i es) n) (found (take (j + 1) fs) n) (p n) ≡
        cond (bytes_eq (string_bytes e.0) n) (Some (alone a e.1)) (both_so_far a b (found (take i es) n) (found (take j fs) n) (p n))
    alone_means none n =
        ap (λ o. both_so_far a b (found (take i es) n) o (p n)) (one_more fs f_once j e within is n) ∙ ⊎_elim
        (λ (t : (bytes_eq (string_bytes e.0) n ≡ true) × (string_bytes e.0 ≡ n)).
        ap (λ q. both_so_far a b q (cond (bytes_eq (string_bytes e.0) n) (Some e.1) (found (take j fs) n)) (p n))
        (first_is n ∙ (ap (λ (m : Name). found es m) (sym t.1) ∙ none)) ∙
        (ap (λ d. both a b None (cond d (Some e.1) (found (take j fs) n))) t.0 ∙
        ap (λ d. cond d (Some (alone a e.1)) (both_so_far a b (found (take i es) n) (found (take j fs) n) (p n))) (sym t.0)))
        (λ (t : (bytes_eq (string_bytes e.0) n ≡ false) × (string_bytes e.0 ≡ n → ⊥)).
        ap (λ d. both_so_far a b (found (take i es) n) (cond d (Some e.1) (found (take j fs) n)) (p n)) t.0 ∙
        ap (λ d. cond d (Some (alone a e.1)) (both_so_far a b (found (take i es) n) (found (take j fs) n) (p n))) (sym t.0))
        (name_shows (string_bytes e.0) n)

    skipped : (c : Below) → found es (string_bytes e.0) ≡ Some c → (more ≡ names) × (longer ≡ queue) →
        AreListed a b es fs p before longer more i (j + 1)
    skipped c held same =
        subst (λ (ns : List Entry). AreListed a b es fs p before longer ns i (j + 1)) (sym same.0)
        (subst (λ (q : List Pair). AreListed a b es fs p before q names i (j + 1)) (sym same.1)
        (record {
          once = are.once;
          rest = are.rest;
          behind = are.behind;
          turn = λ h. absurd (omega (arith, h, done));
          made = made_along before queue (found names) (λ n. both_so_far a b (found (take i es) n) (found (take j fs) n) (p n))
              (λ n. both_so_far a b (found (take i es) n) (found (take (j + 1) fs) n) (p n)) (skip_means c held) are.made;
        }))

    second_lacks : found es (string_bytes e.0) ≡ None → found names (string_bytes e.0) ≡ None
    second_lacks none = lacks (string_bytes e.0) (first_is (string_bytes e.0) ∙ none) (new_name fs f_once j e within is)

    put_behind : found es (string_bytes e.0) ≡ None → IsPushed names more queue longer (string_bytes e.0) (alone a e.1) →
        AreListed a b es fs p before longer more i (j + 1)
    put_behind none pushed = record {
      once = push_once names more queue longer (string_bytes e.0) (alone a e.1) pushed are.once (second_lacks none);
      rest = are.rest ++ string_bytes e.0 ∷ [];
      behind = push_names names more queue longer (string_bytes e.0) (alone a e.1) pushed ∙
          (ap (λ ns. ns ++ string_bytes e.0 ∷ []) are.behind ∙ append_assoc (names_in (take i es)) are.rest (string_bytes e.0 ∷ []));
      turn = λ h. absurd (omega (arith, h, done));
      made = push_made names more queue longer (string_bytes e.0) (alone a e.1) pushed are.once (second_lacks none) before
          (λ n. both_so_far a b (found (take i es) n) (found (take j fs) n) (p n))
          (λ n. both_so_far a b (found (take i es) n) (found (take (j + 1) fs) n) (p n)) are.made (alone_means none);
    }

    pub second_listed : (q : Option Below) → found es (string_bytes e.0) ≡ q →
        MatchOption q (IsPushed names more queue longer (string_bytes e.0) (alone a e.1)) (λ held. (more ≡ names) × (longer ≡ queue)) →
        AreListed a b es fs p before longer more i (j + 1)
    second_listed None none pushed = put_behind none pushed
    second_listed (Some c) held same = skipped c held same
