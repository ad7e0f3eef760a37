-- The ranges of the last references, when one reference more comes.
use Rattle.std.proofs.Common.{◌≡◌, ◌∙◌, ap, refl, ℕ, true, List, [], ◌∷◌, ◌++◌, if◌then◌else◌}
use Rattle.std.specs.Str.{bytes_eq}
use Rattle.std.proofs.lemmas.Slice.Eq.{bytes_eq-Decides}
use Rattle.fast_check_tree_syntax.specs.declared.source.SourceRange.{SourceRange}
use Rattle.fast_check_meaning_expandos.specs.declared.references.Reference.{Reference}
use Rattle.fast_check_meaning_expandos.specs.FirstPlaces.{placed_reference}
use Rattle.fast_check_meaning_expandos.specs.References.{last_range, last_ranges}
use Rattle.fast_check_meaning_expandos.proofs.Grouped.{placed, one_item_more}

last_of_more : (rs : List Reference) (r : Reference) → last_range (rs ++ r ∷ []) ≡ r.range
last_of_more [] r = refl
last_of_more (s ∷ []) r = refl
last_of_more (s ∷ t ∷ rs) r = last_of_more (t ∷ rs) r

pub one_text : (a b : List ℕ) → bytes_eq a b ≡ true → a ≡ b
one_text a b e = (bytes_eq-Decides a b).0 e

pub same_placed : (r : Reference) (es : List (List ℕ × SourceRange)) →
    placed bytes_eq (λ s. s.name) last_range (λ range s. s.range) r es ≡ placed_reference r es
same_placed r [] = refl
same_placed r (e ∷ es) = ap (λ rest. if bytes_eq r.name e.0 then (e.0, r.range) ∷ es else e ∷ rest) (same_placed r es)

pub one_reference_more : (rs : List Reference) (r : Reference) → last_ranges (rs ++ r ∷ []) ≡ placed_reference r (last_ranges rs)
one_reference_more rs r =
    one_item_more bytes_eq (λ s. s.name) last_range (λ range s. s.range) one_text last_of_more rs r
    ∙ same_placed r (last_ranges rs)
