-- The bytes of a template, one by one.
use Rattle.std.proofs.Common.{◌≤◌, ◌<◌, ◌+◌, ℕ, List, length, drop, get_or, subst, refl, sym}
use Rattle.std.proofs.lemmas.List.{drop_more, drop_all}
use Rattle.fast_check_syntax_table.specs.Spelled.{IsLineByte, ReadsLines}

-- what is left to read for the whole to be read
abbrev pub Left : List ℕ → List ℕ → ℕ → List ℕ → ℕ → Type 0
Left z s at left end = (b : ℕ) → ReadsLines z left end b → ReadsLines z s at b

pub left_step : (z s : List ℕ) (at i d a m : ℕ) → i < length s → Left z s at (drop i s) a → m ≤ length z → IsLineByte z (get_or s i d) a m →
    Left z s at (drop (i + 1) s) m
left_step z s at i d a m lt left within step b last =
    left b (subst (λ (us : List ℕ). ReadsLines z us a b) (sym (drop_more s i d lt)) (m, (within, step, last)))

pub left_done : (z s : List ℕ) (at i a : ℕ) → length s ≤ i → Left z s at (drop i s) a → ReadsLines z s at a
left_done z s at i a le left = left a (subst (λ (us : List ℕ). ReadsLines z us a a) (sym (drop_all i s le)) refl)
