-- Those of a list that pass a test: each name still stands once.
use Rattle.std.proofs.Common.{◌≡◌, ◌∙◌, sym, Bool, List, arith, string_bytes, AllPairs}
use Rattle.std.specs.List.{filter}
use Rattle.std.proofs.lemmas.List.Kept.{AllPairs-filter}
use Rattle.fast_check_finder_lattice.specs.Order.{Entry, IsOnce}
use Rattle.fast_check_finder_lattice.proofs.Places.{name_is, some_entry}

abbrev Differ : Entry → Entry → Type 0
Differ d e = string_bytes d.0 ≡ string_bytes e.0 → ⊥

pub once_filter : (test : Entry → Bool) (es : List Entry) → IsOnce es → IsOnce (filter test es)
once_filter test es once i j l w same =
    let ys = filter test es in
    let d = some_entry ys j w in
    let pairs : AllPairs Differ es = λ i j d l w e. once i j l w
    (name_is es i d (omega (arith, l, w)) ∙ (e ∙ sym (name_is es j d w))) in
    AllPairs-filter Differ test es pairs i j d l w (sym (name_is ys i d (omega (arith, l, w))) ∙ (same ∙ name_is ys j d w))
