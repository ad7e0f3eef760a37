-- The equation of `references`.
use Rattle.std.proofs.Common.{◌≡◌, ◌∙◌, sym, ap, refl, ℕ, Bool, true, false, List, [], ◌∷◌, ◌++◌, map}
use Rattle.std.specs.List.{flat_map}
use Rattle.fast_check_tree_syntax.specs.declared.kind.Kind.TheVariants.{Leaf}
use Rattle.fast_check_tree_syntax.specs.declared.source.SyntaxContext.{SyntaxContext}
use Rattle.fast_check_tree_syntax.specs.declared.tree.Tree.{Tree}
use Rattle.fast_check_tree_syntax.specs.Shape.{kind_of, parts, is_absent}
use Rattle.fast_check_tree_syntax.specs.Recursion.{by_form_is, by_form_is_absent}
use Rattle.fast_check_tree_syntax.proofs.Leaves.{leaf_of_absent, no_parts}
use Rattle.fast_check_meaning_expandos.specs.declared.references.Reference.{Reference}
use Rattle.fast_check_meaning_expandos.specs.References.{references, references_form, own_reference}

module _ (scope : SyntaxContext) (exported : List ℕ → Bool) where
  each_found : (ts : List Tree) → flat_map (λ (found : List Reference). found) (map (references scope exported) ts) ≡ flat_map
      (references scope exported) ts
  each_found [] = refl
  each_found (t ∷ ts) = ap (λ rest. references scope exported t ++ rest) (each_found ts)

  nothing : (t : Tree) → kind_of t ≡ Leaf → parts t ≡ [] → own_reference scope exported t ++ flat_map (references scope exported)
      (parts t) ≡ []
  nothing t e f = rw (e, f) refl

  pub references_out : (t : Tree) → references scope exported t ≡ own_reference scope exported t ++ flat_map (references scope exported)
      (parts t)
  unfolding references
  references_out t = go (is_absent t) refl
    where
      go : (b : Bool) → is_absent t ≡ b →
          references scope exported t ≡ own_reference scope exported t ++ flat_map (references scope exported) (parts t)
      go true e = by_form_is_absent [] (references_form scope exported) t e ∙ sym (nothing t (leaf_of_absent t e) (no_parts t e))
      go false e =
          by_form_is [] (references_form scope exported) t e ∙ ap (λ rest. own_reference scope exported t ++ rest) (each_found (parts t))
