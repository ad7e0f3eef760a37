-- Trees that are equal under a renaming, as equations: made of such parts they are so again, and so is what is read of them.
use Rattle.std.specs.Prelude.{◌≡◌, ℕ, Bool, List, [], map, refl}
use Rattle.std.proofs.Common.{ap, ◌∙◌, sym}
use Rattle.fast_check_tree_syntax.specs.declared.kind.Kind.{Kind}
use Rattle.fast_check_tree_syntax.specs.declared.kind.Kind.TheVariants.{List as List'}
use Rattle.fast_check_tree_syntax.specs.declared.source.SourceRange.{SourceRange}
use Rattle.fast_check_tree_syntax.specs.declared.source.SyntaxContext.{SyntaxContext}
use Rattle.fast_check_tree_syntax.specs.declared.tree.Tree as tree
use Rattle.fast_check_tree_syntax.specs.declared.tree.Tree.{Tree}
use Rattle.fast_check_tree_syntax.specs.Shape.{kind_of, part, is_absent, node, list, range_of}
use Rattle.fast_check_tree_syntax.specs.Moves.{Moves, Keeps, Renaming, IsRenaming, IsPair, partners, twice, moved, moved_range}
use Rattle.fast_check_tree_syntax.proofs.Moved.{node_moved, kind_of_moved, is_absent_moved, range_moved, context_moved, flag_moved}
use Rattle.fast_check_tree_syntax.proofs.Partners.{partners-keep as partners_keep, twice-keeps as twice_keeps, to_partner}
use Rattle.fast_check_tree_helpers.proofs.GlobalCallsMoved.{moved_scope}
use Rattle.fast_check_meaning_signatures.proofs.MovedParts.{field_moved, range_field_moved}

module _ (r : Renaming) (ok : IsRenaming r) where
  abbrev pub TreeAlike : Tree → Tree → Type 0
  TreeAlike t u = moved (partners r) t ≡ moved twice u

  abbrev pub RangeAlike : SourceRange → SourceRange → Type 0
  RangeAlike a b = moved_range (partners r) a ≡ moved_range twice b

  -- the scope numbers of what nothing binds are partners
  pub scope_to : (c d : SyntaxContext) → IsPair r.scopes c.0 d.0 → moved_scope (partners r) c ≡ moved_scope twice d
  scope_to c d p = λ i. record { 0 = to_partner r.scopes ok.scopes c.0 d.0 p i }

  -- what becomes of trees in a way that commutes with moves
  pub image_alike : (f : Tree → Tree) → ((m : Moves) → Keeps m → (t : Tree) → f (moved m t) ≡ moved m (f t)) → (t u : Tree) →
      TreeAlike t u →
      TreeAlike (f t) (f u)
  image_alike f moves t u e = sym (moves (partners r) (partners_keep r ok) t) ∙ (ap f e ∙ moves twice twice_keeps u)

  -- what is read of trees, and stays under moves
  pub same_read : {A : Type 0} (f : Tree → A) → ((m : Moves) → Keeps m → (t : Tree) → f (moved m t) ≡ f t) → (t u : Tree) → TreeAlike t u →
      f t ≡ f u
  same_read f stays t u e = sym (stays (partners r) (partners_keep r ok) t) ∙ (ap f e ∙ stays twice twice_keeps u)

  -- a new node
  pub new_alike : (t : Tree) → ((m : Moves) → Keeps m → moved m t ≡ t) → TreeAlike t t
  new_alike t stays = stays (partners r) (partners_keep r ok) ∙ sym (stays twice twice_keeps)

  -- a field, with the place where it reads
  pub field_alike : (field : Tree → Tree) (n : ℕ) → ((t : Tree) → field t ≡ part n t) → (t u : Tree) → TreeAlike t u →
      TreeAlike (field t) (field u)
  field_alike field n reads t u e = image_alike field (λ m keeps t. field_moved m field n reads t) t u e

  pub range_field_alike : (field : Tree → SourceRange) (n : ℕ) → ((t : Tree) → field t ≡ range_of (part n t)) → (t u : Tree) →
      TreeAlike t u →
      RangeAlike (field t) (field u)
  range_field_alike field n reads t u e =
      sym (range_field_moved (partners r) (partners_keep r ok) field n reads t) ∙
      (ap field e ∙ range_field_moved twice twice_keeps field n reads u)

  pub absent_alike : (t u : Tree) → TreeAlike t u → is_absent t ≡ is_absent u
  absent_alike t u e = same_read is_absent (λ m keeps t. is_absent_moved m t) t u e

  pub kind_alike : (t u : Tree) → TreeAlike t u → kind_of t ≡ kind_of u
  kind_alike t u e = same_read kind_of (λ m keeps t. kind_of_moved m t) t u e

  -- ---- leaves and nodes

  pub range_leaf_alike : (a b : SourceRange) → RangeAlike a b → TreeAlike (tree.Range a) (tree.Range b)
  range_leaf_alike a b e = range_moved (partners r) a ∙ (ap tree.Range e ∙ sym (range_moved twice b))

  pub scope_leaf_alike : (a b : SyntaxContext) → IsPair r.scopes a.0 b.0 → TreeAlike (tree.Context a) (tree.Context b)
  scope_leaf_alike a b p = context_moved (partners r) a ∙ (ap tree.Context (scope_to a b p) ∙ sym (context_moved twice b))

  pub flag_leaf_alike : (x y : Bool) → x ≡ y → TreeAlike (tree.Flag x) (tree.Flag y)
  flag_leaf_alike x y e = flag_moved (partners r) x ∙ (ap tree.Flag e ∙ sym (flag_moved twice y))

  pub node_alike : (k : Kind) (ts us : List Tree) → map (moved (partners r)) ts ≡ map (moved twice) us → TreeAlike (node k ts) (node k us)
  node_alike k ts us e = node_moved (partners r) k ts ∙ (ap (node k) e ∙ sym (node_moved twice k us))

  pub empty_list_alike : TreeAlike (list []) (list [])
  empty_list_alike = node_alike List' [] [] refl
