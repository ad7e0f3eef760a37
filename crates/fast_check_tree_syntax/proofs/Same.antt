-- Equal under a renaming is: equal once each number is written by its partner.
use Rattle.std.specs.Prelude.{◌≡◌, ℕ, List, [], ◌∷◌, map, refl}
use Rattle.std.proofs.Common.{ap, ap₂, ◌∙◌, sym, subst}
use Rattle.fast_check_tree_syntax.specs.declared.source.SourceRange.{SourceRange}
use Rattle.fast_check_tree_syntax.specs.declared.tree.Tree.{Tree, out-Tree, roll-Tree, Absent}
use Rattle.fast_check_tree_syntax.specs.declared.tree.Tree.TheOpen.{Tree-F}
use Rattle.fast_check_tree_syntax.specs.declared.tree.Tree.TheFolds.{map-Tree}
use Rattle.fast_check_tree_syntax.specs.Shape.{parts_at, parts, OfAll}
use Rattle.fast_check_tree_syntax.specs.Moves.{Renaming, IsRenaming, partners, twice, moved, moved_level, moved_range}
use Rattle.fast_check_tree_syntax.specs.Same.{SameRange, SameTree, SameLevel, SameTrees}
use Rattle.fast_check_tree_syntax.specs.Same as s
use Rattle.fast_check_tree_syntax.proofs.Induction.{tree_ind}
use Rattle.fast_check_tree_syntax.proofs.Partners.{to_partner, from_partner}
use Rattle.fast_check_tree_syntax.proofs.Moved.{moved_out, out_moved}

abbrev number_at : Tree-F Tree → ℕ
number_at (Tree-F.Context c) = c.0
number_at _ = 0

module _ (r : Renaming) (ok : IsRenaming r) where
  pub range_to : (a b : SourceRange) → SameRange r a b → moved_range (partners r) a ≡ moved_range twice b
  range_to a b q = λ i. record {
    start = record { 0 = to_partner r.starts ok.starts a.start.0 b.start.0 q.start i };
    end =
        record { 0 = to_partner r.ends ok.ends a.end.0 b.end.0 q.end i };
  }

  pub range_from : (a b : SourceRange) → moved_range (partners r) a ≡ moved_range twice b → SameRange r a b
  range_from a b e = record {
    start = from_partner r.starts ok.starts a.start.0 b.start.0 (ap (λ x. x.start.0) e);
    end =
        from_partner r.ends ok.ends a.end.0 b.end.0 (ap (λ x. x.end.0) e);
  }

  mutual
    pub tree_to : {t u : Tree} → SameTree r t u → moved (partners r) t ≡ moved twice u
    tree_to (s.SameTree.at {t = t} {u = u} l) = moved_out (partners r) t ∙ (ap roll-Tree (level_to l) ∙ sym (moved_out twice u))

    level_to : {x y : Tree-F Tree} → SameLevel r x y →
        moved_level (partners r) (map-Tree Tree Tree (moved (partners r)) x) ≡ moved_level twice (map-Tree Tree Tree (moved twice) y)
    level_to s.absent = refl
    level_to s.flag = refl
    level_to (s.context {a = a} {b = b} p) = ap (λ n. Tree-F.Context (record { 0 = n })) (to_partner r.scopes ok.scopes a.0 b.0 p)
    level_to s.text = refl
    level_to (s.SameLevel.range {a = a} {b = b} p) = ap Tree-F.Range (range_to a b p)
    level_to s.word = refl
    level_to (s.node {k = k} p) = ap (λ ts. Tree-F.Node k ts) (trees_to p)

    trees_to : {ts us : List Tree} → SameTrees r ts us → map (moved (partners r)) ts ≡ map (moved twice) us
    trees_to s.SameTrees.end = refl
    trees_to (s.SameTrees.next p ps) = ap₂ (λ x xs. x ∷ xs) (tree_to p) (trees_to ps)

  -- ---- and back

  abbrev From : Tree → Type 0
  From t = (u : Tree) → moved (partners r) t ≡ moved twice u → SameTree r t u

  all_from : (ts us : List Tree) → OfAll From ts → map (moved (partners r)) ts ≡ map (moved twice) us → SameTrees r ts us
  all_from [] [] h e = s.SameTrees.end
  all_from (t ∷ ts) (u ∷ us) h e = s.SameTrees.next (h.0 u cc) (all_from ts us h.1 cc)
  all_from [] (u ∷ us) h e = cc
  all_from (t ∷ ts) [] h e = cc

  level_from : (x y : Tree-F Tree) → OfAll From (parts_at x) →
      moved_level (partners r) (map-Tree Tree Tree (moved (partners r)) x) ≡ moved_level twice (map-Tree Tree Tree (moved twice) y) →
      SameLevel r x y
  level_from Tree-F.Absent Tree-F.Absent h e = s.absent
  level_from (Tree-F.Flag x) (Tree-F.Flag y) h e = let p : x ≡ y = cc in subst (λ z. SameLevel r (Tree-F.Flag x) (Tree-F.Flag z)) p s.flag
  level_from (Tree-F.Context x) (Tree-F.Context y) h e = s.context (from_partner r.scopes ok.scopes x.0 y.0 (ap number_at e))
  level_from (Tree-F.Text x) (Tree-F.Text y) h e = let p : x ≡ y = cc in subst (λ z. SameLevel r (Tree-F.Text x) (Tree-F.Text z)) p s.text
  level_from (Tree-F.Range x) (Tree-F.Range y) h e = s.SameLevel.range (range_from x y cc)
  level_from (Tree-F.Word x) (Tree-F.Word y) h e = let p : x ≡ y = cc in subst (λ z. SameLevel r (Tree-F.Word x) (Tree-F.Word z)) p s.word
  level_from (Tree-F.Node k ts) (Tree-F.Node j us) h e = let p : k ≡ j = cc in
      subst (λ z. SameLevel r (Tree-F.Node k ts) (Tree-F.Node z us)) p (s.node (all_from ts us h cc))
  level_from _ _ h e = cc

  from_parts : (t : Tree) → OfAll From (parts t) → From t
  from_parts t h u e =
      s.SameTree.at (level_from (out-Tree t) (out-Tree u) h (sym (out_moved (partners r) t) ∙ (ap out-Tree e ∙ out_moved twice u)))

  no_parts : parts Absent ≡ []
  unfolding out-Tree denote.Hole.Carrier.out
  no_parts = refl

  pub tree_from : (t : Tree) → From t
  tree_from = tree_ind From (from_parts Absent (subst (OfAll From) (sym no_parts) tt)) (λ t n h. from_parts t h)

  pub trees_from : (ts us : List Tree) → map (moved (partners r)) ts ≡ map (moved twice) us → SameTrees r ts us
  trees_from [] [] e = s.SameTrees.end
  trees_from (t ∷ ts) (u ∷ us) e = s.SameTrees.next (tree_from t u cc) (trees_from ts us cc)
  trees_from [] (u ∷ us) e = cc
  trees_from (t ∷ ts) [] e = cc
