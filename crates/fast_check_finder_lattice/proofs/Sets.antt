-- Subsets and whole paths of name sets: what becomes of them in joins and below names.
use Rattle.std.proofs.Common.{◌≡◌, ◌∙◌, sym, ap, refl, Bool, true, false, ◌&&◌, ◌||◌, not, [], ◌∷◌}
use Rattle.std.proofs.lemmas.Bool.{false≢true}
use Rattle.fast_check_finder_lattice.specs.Names.{Name, Path, Touched, Covered, NameSet, nothing, subset_of, has_subset, has_whole, IsSame, IsJoin}
use Rattle.fast_check_finder_lattice.specs.Names.{IsOfSource, at_name, IsOfEither}
use Rattle.fast_check_tables_symbols.proofs.Witness.{and_right}

both_subsets : (x y u v : Bool) → x ≡ y → u ≡ v → (x && not u) ≡ (y && not v)
both_subsets x y u v e h = cc

pub same_subset : (a b : NameSet) → IsSame a b → (p : Path) → has_subset a p ≡ has_subset b p
same_subset a b e p = both_subsets (a Touched p) (b Touched p) (a Covered p) (b Covered p) (e Touched p) (e Covered p)

pub same_whole : (a b : NameSet) → IsSame a b → (p : Path) → has_whole a p ≡ has_whole b p
same_whole a b e [] = e Covered []
same_whole a b e (n ∷ p) =
    let here = e Covered [] in
    let below = same_whole (at_name a n) (at_name b n) (λ part q. e part (n ∷ q)) p in
    cc

-- along equal sets
pub of_source_along : (f g a b : NameSet) → IsSame f a → IsSame g b → IsOfSource g f → IsOfSource b a
of_source_along f g a b e h o = record {
  subsets = λ p t. sym (same_subset g b h p) ∙ o.subsets p (same_subset f a e p ∙ t);
  wholes = λ p t. sym (same_whole g b h p) ∙ o.wholes p (same_whole f a e p ∙ t);
}

pub of_itself : (f : NameSet) → IsOfSource f f
of_itself f = record { subsets = λ p t. t; wholes = λ p t. t }

nothing_whole : (p : Path) → has_whole nothing p ≡ false
nothing_whole [] = refl
nothing_whole (n ∷ p) = nothing_whole p

pub of_nothing : (f : NameSet) → IsOfSource f nothing
of_nothing f = record {
  subsets = λ p t. absurd (false≢true t);
  wholes = λ p t. absurd (false≢true (sym (nothing_whole p) ∙ t));
}

not_at_start : (x y : Bool) → x ≡ false → (x && y) ≡ true → false ≡ true
not_at_start x y e t = cc

-- of subsets below a name
pub of_subset : (f g : NameSet) → f Covered [] ≡ false → g Covered [] ≡ false → IsOfSource g f → IsOfSource (subset_of g) (subset_of f)
of_subset f g ef eg o = record { subsets = subsets; wholes = wholes }
  where
    subsets : (p : Path) → has_subset (subset_of f) p ≡ true → has_subset (subset_of g) p ≡ true
    subsets [] t = refl
    subsets (n ∷ p) t = o.subsets (n ∷ p) t

    wholes : (p : Path) → has_whole (subset_of f) p ≡ true → has_whole (subset_of g) p ≡ true
    wholes [] t = t
    wholes (n ∷ p) t =
        let h : (not (g Covered []) && has_whole (at_name g n) p) ≡ true =
        o.wholes (n ∷ p) (let e : (not (f Covered []) && has_whole (at_name f n) p) ≡ has_whole (at_name f n) p =
        ap (λ b. not b && has_whole (at_name f n) p) ef in e ∙ t) in
        sym (ap (λ b. not b && has_whole (at_name g n) p) eg) ∙ h

-- name by name
pub of_each : (f g : NameSet) → (f Touched [] ≡ false) → (f Covered [] ≡ false) → (g Covered [] ≡ false) →
    ((n : Name) → IsOfSource (at_name g n) (at_name f n)) → IsOfSource g f
of_each f g ft fc gc each = record { subsets = subsets; wholes = wholes }
  where
    subsets : (p : Path) → has_subset f p ≡ true → has_subset g p ≡ true
    subsets [] t = absurd (false≢true (not_at_start (f Touched []) (not (f Covered [])) ft t))
    subsets (n ∷ p) t = (each n).subsets p t

    wholes : (p : Path) → has_whole f p ≡ true → has_whole g p ≡ true
    wholes [] t = absurd (false≢true (sym fc ∙ t))
    wholes (n ∷ p) t = ap (λ b. not b && has_whole (at_name g n) p) gc ∙
        (each n).wholes p (sym (ap (λ b. not b && has_whole (at_name f n) p) fc) ∙ t)

either_subset : (x y u v : Bool) → ((x || y) && not (u || v)) ≡ true → ((x && not u) || (y && not v)) ≡ true
either_subset true y false v h = refl
either_subset true y true v h = absurd (false≢true h)
either_subset false true true v h = absurd (false≢true h)
either_subset false true false true h = absurd (false≢true h)
either_subset false true false false h = refl
either_subset false false u v h = absurd (false≢true h)

either_whole : (x y u v : Bool) → (not (x || y) && (u || v)) ≡ true → ((not x && u) || (not y && v)) ≡ true
either_whole true y u v h = absurd (false≢true h)
either_whole false true u v h = absurd (false≢true h)
either_whole false false u v h = h

and_swap : (x y z : Bool) → (x && y) ≡ true → z ≡ true → (x && z) ≡ true
and_swap true y z h e = e
and_swap false y z h e = absurd (false≢true h)

-- a join has no other subsets and whole paths than its two sets
pub of_join : (a b c : NameSet) → IsJoin a b c → IsOfEither a b c
of_join a b c join = record { subsets = subsets; wholes = wholes a b c join }
  where
    subsets : (p : Path) → has_subset c p ≡ true → (has_subset a p || has_subset b p) ≡ true
    subsets p t = either_subset (a Touched p) (b Touched p) (a Covered p) (b Covered p)
        (sym (both_subsets (c Touched p) (a Touched p || b Touched p) (c Covered p) (a Covered p || b Covered p) (join Touched p)
        (join Covered p)) ∙ t)

    wholes : (a b c : NameSet) → IsJoin a b c → (p : Path) → has_whole c p ≡ true → (has_whole a p || has_whole b p) ≡ true
    wholes a b c j [] t = sym (j Covered []) ∙ t
    wholes a b c j (n ∷ p) t =
        let start : (not (a Covered [] || b Covered []) && has_whole (at_name c n) p) ≡ true =
        sym (ap (λ x. not x && has_whole (at_name c n) p) (j Covered [])) ∙ t in
        let below : (has_whole (at_name a n) p || has_whole (at_name b n) p) ≡ true =
        wholes (at_name a n) (at_name b n) (at_name c n) (λ part q. j part (n ∷ q)) p
        (and_right (not (a Covered [] || b Covered [])) (has_whole (at_name c n) p) start) in
        either_whole (a Covered []) (b Covered []) (has_whole (at_name a n) p) (has_whole (at_name b n) p)
        (and_swap (not (a Covered [] || b Covered [])) (has_whole (at_name c n) p)
        (has_whole (at_name a n) p || has_whole (at_name b n) p) start below)
