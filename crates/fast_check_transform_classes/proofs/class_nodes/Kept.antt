-- The members that stay, one more.
use Rattle.std.specs.Prelude.{◌≡◌, ℕ, ◌+◌, ◌<◌, ◌≤◌, Bool, true, false, List, [], ◌∷◌, ◌++◌, map, length, drop, refl, if◌then◌else◌}
use lib.ListN.{get_or}
use Rattle.std.proofs.Common.{ap, ◌∙◌, sym, append-nil, append_assoc, add-one}
use Rattle.std.proofs.Math.Seq.{drop-cons}
use Rattle.std.proofs.lemmas.List.{drop_all, map-append}
use Rattle.fast_check_tree_syntax.specs.declared.part.Part.{Part}
use Rattle.fast_check_tree_syntax.specs.declared.tree.Tree.{Tree}
use Rattle.fast_check_tree_syntax.specs.Part.{seen}
use Rattle.fast_check_meaning_signatures.specs.Members.{stays_behind, each_behind, if_kept}

next_member : (ms : List Tree) (i : ℕ) (d : Tree) → i < length ms → (earlier : List Tree) →
    each_behind if_kept earlier (drop i ms) ≡ if_kept earlier (get_or ms i d) ++ each_behind if_kept (get_or ms i d ∷ earlier)
    (drop (i + 1) ms)
next_member ms i d h earlier = rw (add-one, drop-cons ms i d) refl

module _ (ms : List Tree) (i : ℕ) (m : Tree) (h : i < length ms) (e : m ≡ get_or ms i m) (earlier : List Tree) where
  rest_is : each_behind if_kept earlier (drop i ms) ≡ if_kept earlier m ++ each_behind if_kept (m ∷ earlier) (drop (i + 1) ms)
  rest_is = next_member ms i m h earlier ∙ ap (λ t. if_kept earlier t ++ each_behind if_kept (t ∷ earlier) (drop (i + 1) ms)) (sym e)

  abbrev with_test : Bool → List Tree
  with_test b = (if b then m ∷ [] else []) ++ each_behind if_kept (m ∷ earlier) (drop (i + 1) ms)

  pub kept_more : {stays : Bool} → stays ≡ true → stays ≡ stays_behind earlier m →
      {all : List Tree} (kept : List Part) {more : List Part} (p : Part) →
      all ≡ map seen kept ++ each_behind if_kept earlier (drop i ms) → seen p ≡ m → more ≡ kept ++ p ∷ [] →
      all ≡ map seen more ++ each_behind if_kept (m ∷ earlier) (drop (i + 1) ms)
  kept_more s t kept p x q k =
      x ∙ (ap (λ us. map seen kept ++ us) (rest_is ∙ ap with_test (sym t ∙ s))
      ∙ (sym (append_assoc (map seen kept) (m ∷ []) (each_behind if_kept (m ∷ earlier) (drop (i + 1) ms)))
      ∙ ap (λ us. us ++ each_behind if_kept (m ∷ earlier) (drop (i + 1) ms))
      (ap (λ t. map seen kept ++ t ∷ []) (sym q) ∙ (sym (map-append seen kept (p ∷ [])) ∙ ap (map seen) (sym k)))))

  pub kept_same : {stays : Bool} → stays ≡ false → stays ≡ stays_behind earlier m → {all : List Tree} (kept : List Tree) →
      all ≡ kept ++ each_behind if_kept earlier (drop i ms) → all ≡ kept ++ each_behind if_kept (m ∷ earlier) (drop (i + 1) ms)
  kept_same s t kept x = x ∙ ap (λ us. kept ++ us) (rest_is ∙ ap with_test (sym t ∙ s))

pub kept_all : (ms : List Tree) (i : ℕ) → length ms ≤ i → (earlier : List Tree) → {all : List Tree} (kept : List Tree) →
    all ≡ kept ++ each_behind if_kept earlier (drop i ms) → kept ≡ all
kept_all ms i h earlier kept x = sym (x ∙ (ap (λ us. kept ++ each_behind if_kept earlier us) (drop_all i ms h) ∙ append-nil kept))
