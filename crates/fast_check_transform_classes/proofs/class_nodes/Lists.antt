-- Lists that loops make, one more.
use Rattle.std.specs.Prelude.{◌≡◌, ℕ, ◌+◌, ◌<◌, ◌≤◌, Bool, true, false, List, [], ◌∷◌, ◌++◌, map, length, take, if◌then◌else◌}
use Rattle.std.specs.List.{filter}
use lib.ListN.{get_or}
use Rattle.std.proofs.Common.{ap, ◌∙◌, sym, append-nil}
use Rattle.std.proofs.lemmas.List.{take_more, take_all, map-append}
use Rattle.std.proofs.lemmas.List.Elements.{filter-append}
use Rattle.fast_check_tree_syntax.specs.declared.tree.Tree.{Tree}

-- what is made of each
pub mapped_more : (f : Tree → Tree) (ts : List Tree) (i : ℕ) (t : Tree) → i < length ts → t ≡ get_or ts i t →
    {xs ys : List Tree} {made : Tree} →
    xs ≡ map f (take i ts) → made ≡ f t → ys ≡ xs ++ made ∷ [] → ys ≡ map f (take (i + 1) ts)
mapped_more f ts i t h e {xs = xs} p m q =
    q ∙ (λ i. p i ++ m i ∷ []) ∙
    sym (ap (map f) (take_more ts i t h ∙ ap (λ u. take i ts ++ u ∷ []) (sym e)) ∙ map-append f (take i ts) (t ∷ []))

pub mapped_all : (f : Tree → Tree) {ts us : List Tree} (i : ℕ) → length ts ≤ i → ts ≡ us → {xs : List Tree} → xs ≡ map f (take i ts) →
    xs ≡ map f us
mapped_all f {ts} i h e p = p ∙ ap (map f) (take_all i ts h ∙ e)

-- what is made of those that pass a test
pub taken_all : (f : Tree → Tree) (p : Tree → Bool) {ts us : List Tree} (i : ℕ) → length ts ≤ i → ts ≡ us → {xs : List Tree} →
    xs ≡ map f (filter p (take i ts)) → xs ≡ map f (filter p us)
taken_all f p {ts} i h e x = x ∙ ap (λ vs. map f (filter p vs)) (take_all i ts h ∙ e)

module _ (f : Tree → Tree) (p : Tree → Bool) (ts : List Tree) (i : ℕ) (t : Tree) (h : i < length ts) (e : t ≡ get_or ts i t) where
  abbrev one : Bool → List Tree
  one b = map f (if b then t ∷ [] else [])

  more : map f (filter p (take (i + 1) ts)) ≡ map f (filter p (take i ts)) ++ one (p t)
  more = ap (λ us. map f (filter p us)) (take_more ts i t h ∙ ap (λ u. take i ts ++ u ∷ []) (sym e))
      ∙ (ap (map f) (filter-append p (take i ts) (t ∷ [])) ∙ map-append f (filter p (take i ts)) (filter p (t ∷ [])))

  pub taken_more : p t ≡ true → {xs ys : List Tree} {made : Tree} → xs ≡ map f (filter p (take i ts)) → made ≡ f t → ys ≡ xs ++ made ∷ [] →
      ys ≡ map f (filter p (take (i + 1) ts))
  taken_more b x m q = q ∙ ((λ i. x i ++ m i ∷ []) ∙ sym (more ∙ ap (λ c. map f (filter p (take i ts)) ++ one c) b))

  pub passed_more : p t ≡ false → {xs : List Tree} → xs ≡ map f (filter p (take i ts)) → xs ≡ map f (filter p (take (i + 1) ts))
  passed_more b x = x ∙ sym (more ∙ (ap (λ c. map f (filter p (take i ts)) ++ one c) b ∙ append-nil (map f (filter p (take i ts)))))
