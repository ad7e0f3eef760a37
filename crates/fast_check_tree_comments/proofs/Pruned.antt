-- What `retain` leaves of the places, where the closure prunes the comments of each and keeps those that have some left.
use Rattle.std.proofs.Common.{◌≡◌, Bool, not, cond, List, [], ◌∷◌, ◌∙◌, subst}
use Rattle.std.specs.Map.Calls.{RetainsPairs}
use Rattle.std.specs.List.{filter}
use Rattle.fast_check_tree_syntax.specs.declared.source.SourcePos.{SourcePos}
use Rattle.fast_check_tree_comments.specs.declared.comment.Comment.{Comment}
use Rattle.fast_check_tree_comments.specs.Kept.{is_kept, is_empty, pruned}
use Rattle.fast_check_tree_comments.specs.Places.{Places}

module _ {F : Type 0} (T : F → SourcePos → List Comment → Bool → List Comment → F → Type 0) (f : F)
    (says : (k : SourcePos) (v : List Comment) (b : Bool) (w : List Comment) (f' : F) → T f k v b w f' →
    (b ≡ not (is_empty (filter is_kept v))) ×
    (w ≡ filter is_kept v) × (f' ≡ f)) where
  pub pruned_from_retain : (es left : Places) → RetainsPairs T f es left → left ≡ pruned es
  pruned_from_retain [] left r = r
  pruned_from_retain (e ∷ es) left (b, w, f', rest, t, r, q) =
      let s = says e.0 e.1 b w f' t in
      let h = pruned_from_retain es rest (subst (λ g. RetainsPairs T g es rest) s.2 r) in
      q ∙ (λ i. cond (s.0 i) ((e.0, s.1 i) ∷ h i) (h i))
