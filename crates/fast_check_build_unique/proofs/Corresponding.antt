-- What a public range, or an implementation of overloads, corresponds to.
use Rattle.std.proofs.Common.{◌≡◌, ◌∙◌, sym, ap, refl, Bool, true, ◌&&◌, ◌==◌, ℕ, [], ◌∷◌, inl, inr, ⊎_elim}
use Rattle.std.specs.Str.{bytes_eq}
use Rattle.std.specs.Cmp.{unsigned_Decides}
use Rattle.std.proofs.lemmas.Bool.{false≢true, and_parts, or_cases}
use Rattle.fast_check_tree_syntax.specs.declared.source.SourceRange.{SourceRange}
use Rattle.fast_check_tree_syntax.specs.Moves.{Renaming, Pairs, IsPair, IsRenaming}
use Rattle.fast_check_tables_packages.specs.Package.{Nv}
use Rattle.fast_check_finder_demands.specs.asked.Demands.{Text, same_nv}
use Rattle.fast_check_finder_ranges.specs.findings.Yields.{Yield, known_package, entry_point, refused_export, dependency}
use Rattle.fast_check_finder_ranges.specs.findings.Yields.{recorded, public, implementing, faulty, cached}
use Rattle.fast_check_finder_loop.proofs.Accounted.{text_is}
use Rattle.fast_check_finder_loop.proofs.Places.{nv_is}
use Rattle.fast_check_build_unique.specs.Moved.{Renamings, is_pair, is_moved, corresponds}

-- a range of this package and module
abbrev Make : Type 0
Make = Nv → Text → SourceRange → Yield

made : (make : Make) (p q : Nv) (t u : Text) (b : SourceRange) → same_nv p q ≡ true → bytes_eq t u ≡ true → make q u b ≡ make p t b
made make p q t u b h g = sym (ap (λ x. make x t b) (nv_is p q h) ∙ ap (λ x. make q x b) (text_is t u g))

abbrev IsMade : Make → Nv → Text → Yield → (SourceRange → Bool) → Type 0
IsMade make p t y test = (b : SourceRange) × (y ≡ make p t b) × (test b ≡ true)

pub public_to : (moves : Renamings) (p : Nv) (t : Text) (a : SourceRange) (y : Yield) → corresponds moves (public p t a) y ≡ true →
    IsMade public p t y (λ b. is_moved (moves t) a b)
public_to moves p t a (known_package x) h = absurd (false≢true h)
public_to moves p t a (entry_point x u) h = absurd (false≢true h)
public_to moves p t a (refused_export x u) h = absurd (false≢true h)
public_to moves p t a (dependency x u) h = absurd (false≢true h)
public_to moves p t a (recorded x u) h = absurd (false≢true h)
public_to moves p t a (public x u b) h =
    let h1 = and_parts (same_nv p x) (bytes_eq t u && is_moved (moves t) a b) h in
    let h2 = and_parts (bytes_eq t u) (is_moved (moves t) a b) h1.1 in
    (b, made public p x t u b h1.0 h2.0, h2.1)
public_to moves p t a (implementing x u b) h = absurd (false≢true h)
public_to moves p t a (faulty x u b) h = absurd (false≢true h)
public_to moves p t a (cached x u b) h = absurd (false≢true h)

pub public_from : (moves : Renamings) (p : Nv) (t : Text) (a : SourceRange) (y : Yield) → corresponds moves y (public p t a) ≡ true →
    IsMade public p t y (λ b. is_moved (moves t) b a)
public_from moves p t a (known_package x) h = absurd (false≢true h)
public_from moves p t a (entry_point x u) h = absurd (false≢true h)
public_from moves p t a (refused_export x u) h = absurd (false≢true h)
public_from moves p t a (dependency x u) h = absurd (false≢true h)
public_from moves p t a (recorded x u) h = absurd (false≢true h)
public_from moves p t a (public x u b) h =
    let h1 = and_parts (same_nv x p) (bytes_eq u t && is_moved (moves u) b a) h in
    let h2 = and_parts (bytes_eq u t) (is_moved (moves u) b a) h1.1 in (
      b,
      sym (made public x p u t b h1.0 h2.0),
      ap (λ (v : Text). is_moved (moves v) b a) (sym (text_is u t h2.0)) ∙ h2.1,
    )
public_from moves p t a (implementing x u b) h = absurd (false≢true h)
public_from moves p t a (faulty x u b) h = absurd (false≢true h)
public_from moves p t a (cached x u b) h = absurd (false≢true h)

pub implementing_to : (moves : Renamings) (p : Nv) (t : Text) (a : SourceRange) (y : Yield) → corresponds moves (implementing p t a) y ≡ true →
    IsMade implementing p t y (λ b. is_moved (moves t) a b)
implementing_to moves p t a (known_package x) h = absurd (false≢true h)
implementing_to moves p t a (entry_point x u) h = absurd (false≢true h)
implementing_to moves p t a (refused_export x u) h = absurd (false≢true h)
implementing_to moves p t a (dependency x u) h = absurd (false≢true h)
implementing_to moves p t a (recorded x u) h = absurd (false≢true h)
implementing_to moves p t a (public x u b) h = absurd (false≢true h)
implementing_to moves p t a (implementing x u b) h =
    let h1 = and_parts (same_nv p x) (bytes_eq t u && is_moved (moves t) a b) h in
    let h2 = and_parts (bytes_eq t u) (is_moved (moves t) a b) h1.1 in
    (b, made implementing p x t u b h1.0 h2.0, h2.1)
implementing_to moves p t a (faulty x u b) h = absurd (false≢true h)
implementing_to moves p t a (cached x u b) h = absurd (false≢true h)

pub implementing_from : (moves : Renamings) (p : Nv) (t : Text) (a : SourceRange) (y : Yield) → corresponds moves y (implementing p t a) ≡ true →
    IsMade implementing p t y (λ b. is_moved (moves t) b a)
implementing_from moves p t a (known_package x) h = absurd (false≢true h)
implementing_from moves p t a (entry_point x u) h = absurd (false≢true h)
implementing_from moves p t a (refused_export x u) h = absurd (false≢true h)
implementing_from moves p t a (dependency x u) h = absurd (false≢true h)
implementing_from moves p t a (recorded x u) h = absurd (false≢true h)
implementing_from moves p t a (public x u b) h = absurd (false≢true h)
implementing_from moves p t a (implementing x u b) h =
    let h1 = and_parts (same_nv x p) (bytes_eq u t && is_moved (moves u) b a) h in
    let h2 = and_parts (bytes_eq u t) (is_moved (moves u) b a) h1.1 in (
      b,
      sym (made implementing x p u t b h1.0 h2.0),
      ap (λ (v : Text). is_moved (moves v) b a) (sym (text_is u t h2.0)) ∙ h2.1,
    )
implementing_from moves p t a (faulty x u b) h = absurd (false≢true h)
implementing_from moves p t a (cached x u b) h = absurd (false≢true h)

-- pairs, by the test

number_is : (a b : ℕ) → (a == b) ≡ true → a ≡ b
number_is a b h = (unsigned_Decides a b).0 h

pub pair_is : (ps : Pairs) (a b : ℕ) → is_pair ps a b ≡ true → IsPair ps a b
pair_is [] a b h = absurd (false≢true h)
pair_is (p ∷ ps) a b h = ⊎_elim
    (λ here. let both = and_parts (p.0 == a) (p.1 == b) here in inl (number_is p.0 a both.0, number_is p.1 b both.1))
    (λ there. inr (pair_is ps a b there))
    (or_cases ((p.0 == a) && (p.1 == b)) (is_pair ps a b) h)

-- a range corresponds to one other
pub one_moved : (r : Renaming) → IsRenaming r → (a b c : SourceRange) → is_moved r a b ≡ true → is_moved r a c ≡ true → b ≡ c
one_moved r ok a b c h g =
    let h1 = and_parts (is_pair r.starts a.start.0 b.start.0) (is_pair r.ends a.end.0 b.end.0) h in
    let g1 = and_parts (is_pair r.starts a.start.0 c.start.0) (is_pair r.ends a.end.0 c.end.0) g in
    let start = (ok.starts.same a.start.0 a.start.0 b.start.0 c.start.0 (pair_is r.starts _ _ h1.0) (pair_is r.starts _ _ g1.0)).0 refl in
    let end = (ok.ends.same a.end.0 a.end.0 b.end.0 c.end.0 (pair_is r.ends _ _ h1.1) (pair_is r.ends _ _ g1.1)).0 refl in
    λ i. record { start = record { 0 = start i }; end = record { 0 = end i } }
