-- Inner: no contract of a public call cites what stands here.
-- The order of paths of names: by their lengths, and then by their names. It is total, and only equal paths tie.
use Rattle.std.proofs.Common.{◌≡◌, ◌∙◌, ap, refl, suc, Bool, true, false, ◌==◌, ◌&&◌, List, [], ◌∷◌, Some, length, String}
use Rattle.std.specs.declared.alloc.Global.{Global}
use Rattle.std.specs.declared.cmp.Ordering.{Ordering}
use Rattle.std.specs.Ordering.{nat_cmp, eq_by_cmp, on, then_cmp}
use Rattle.std.specs.Cmp.{IsTotalOrder, IsPartialOrder, nat_cmp_total, on_total, then_total, po, unsigned_ties, both_tied}
use Rattle.std.specs.Cmp.Lexicographic.{slice_cmp, pointwise, lists_total, lists_ties, texts_ties}
use Rattle.std.specs.String.{string_cmp, string_eq, string_cmp_total}
use Rattle.std.proofs.lemmas.Bool.{false≢true, eq-eqb}
use Rattle.fast_check_finder_loop.specs.declared.asked.NamePath.{NamePath}
use Rattle.fast_check_finder_loop.specs.contracts.asked.NamePathPartialEq.TheImpl as names_eq

abbrev pub names_cmp : NamePath → NamePath → Ordering
names_cmp = then_cmp (on (λ p. length p.names.now) nat_cmp) (on (λ p. p.names.now) (slice_cmp string_cmp))

pub names_total : IsTotalOrder names_cmp
names_total = then_total (on_total (λ (p : NamePath). length p.names.now) nat_cmp_total)
    (on_total (λ (p : NamePath). p.names.now) (lists_total string_cmp_total))

-- equal paths are of one length

and_second : (a b : Bool) → (a && b) ≡ true → b ≡ true
and_second true b h = h
and_second false b h = absurd (false≢true h)

same_length : (xs ys : List (String Global)) → pointwise string_eq xs ys ≡ true → length xs ≡ length ys
same_length [] [] h = refl
same_length [] (y ∷ ys) h = absurd (false≢true h)
same_length (x ∷ xs) [] h = absurd (false≢true h)
same_length (x ∷ xs) (y ∷ ys) h = ap suc (same_length xs ys (and_second (string_eq x y) (pointwise string_eq xs ys) h))

absorbed : (a b : Bool) → (b ≡ true → a ≡ true) → b ≡ (a && b)
absorbed true b h = refl
absorbed false true h = absurd (false≢true (h refl))
absorbed false false h = refl

pub names_ties : (a b : NamePath) → names_eq.eq-value.it a b ≡ eq_by_cmp names_cmp a b
names_ties a b =
    let xs = a.names.now in
    let ys = b.names.now in
    absorbed (length xs == length ys) (pointwise string_eq xs ys) (λ t. eq-eqb (length xs) (length ys) (same_length xs ys t)) ∙
    both_tied (length xs == length ys) (pointwise string_eq xs ys) (nat_cmp (length xs) (length ys)) (slice_cmp string_cmp xs ys)
    (unsigned_ties (length xs) (length ys)) (lists_ties string_cmp (λ x y. texts_ties x.bytes.items y.bytes.items) xs ys)

pub names_po : IsPartialOrder names_eq.eq-value.it (λ a b. Some (names_cmp a b))
names_po = po names_total names_ties
