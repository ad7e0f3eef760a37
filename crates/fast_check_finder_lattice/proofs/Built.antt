-- Equal sets, and the names of a node up to one of them.
use Rattle.std.proofs.Common.{◌≡◌, ◌∙◌, sym, ap, ℕ, ◌+◌, ◌<◌, ◌≤◌, cond, List, [], ◌∷◌, ◌++◌}
use Rattle.std.proofs.Common.{Some, None, arith, map, length, get_or, take, string_bytes}
use Rattle.std.specs.Str.{bytes_eq}
use Rattle.std.proofs.lemmas.List.{take_more, length-take-le, get_or-take, take-map}
use Rattle.std.proofs.lemmas.List.Edits.{insert_end}
use Rattle.fast_check_finder_lattice.specs.Order.{Name, Entry, found, IsOnce, IsAbsentBefore}
use Rattle.fast_check_finder_lattice.specs.Graph.{NameSet}
use Rattle.fast_check_finder_lattice.specs.Names.{IsSame}
use Rattle.fast_check_finder_lattice.proofs.Places.{found_none, found_insert, once_before, read_name}

pub same_back : (f h : NameSet) → IsSame f h → IsSame h f
same_back f h e part p = sym (e part p)

pub same_trans : (f h k : NameSet) → IsSame f h → IsSame h k → IsSame f k
same_trans f h k e d part p = e part p ∙ d part p

module _ (es : List Entry) (once : IsOnce es) (i : ℕ) (e : Entry) (within : i < length es) (is : e ≡ get_or es i e) where
  absent : IsAbsentBefore (take i es) (string_bytes e.0) (length (take i es))
  absent k h same =
      let long = length-take-le i es (let w : i ≤ length es = omega (arith, within) in w) in
      let f : Entry → Name = λ x. string_bytes x.0 in
      let lower : k < i = omega (arith, h, long) in
      once_before es once (string_bytes e.0) i within (sym (read_name es i e within is)) k lower
      (sym (ap (λ ns. get_or ns k []) (sym (take-map f i es)) ∙ get_or-take i (map f es) k [] lower) ∙ same)

  pub new_name : found (take i es) (string_bytes e.0) ≡ None
  new_name = found_none (take i es) (string_bytes e.0) absent

  pub one_more : (n : Name) → found (take (i + 1) es) n ≡ cond (bytes_eq (string_bytes e.0) n) (Some e.1) (found (take i es) n)
  one_more n =
      ap (λ xs. found xs n)
      (take_more es i e within ∙ (ap (λ (x : Entry). take i es ++ x ∷ []) (sym is) ∙ sym (insert_end (take i es) e))) ∙
      found_insert (take i es) (length (take i es)) e n absent (let w : length (take i es) ≤ length (take i es) = omega arith in w)
