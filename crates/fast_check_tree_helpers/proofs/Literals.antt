-- What is no literal shows no type.
use Rattle.std.proofs.Common.{◌≡◌, None, refl}
use Rattle.fast_check_tree_syntax.specs.declared.kind.Kind.{Kind}
use Rattle.fast_check_tree_syntax.specs.declared.kind.Kind.TheVariants as kinds
use Rattle.fast_check_tree_syntax.specs.declared.tree.Tree.{Tree}
use Rattle.fast_check_tree_helpers.specs.declared.literal_type.DeclMutabilityKind.{DeclMutabilityKind}
use Rattle.fast_check_tree_helpers.specs.LiteralType.{literal_by_kind}

pub no_literal : (k : Kind) (mutability : DeclMutabilityKind) (t : Tree) → (k ≡ kinds.Str → ⊥) → (k ≡ kinds.Bool → ⊥) →
    (k ≡ kinds.Number → ⊥) →
    (k ≡ kinds.BigInt → ⊥) → (k ≡ kinds.Null → ⊥) → (k ≡ kinds.Regex → ⊥) → None ≡ literal_by_kind k mutability t
no_literal kinds.Str m t a b c d e f = absurd (a refl)
no_literal kinds.Bool m t a b c d e f = absurd (b refl)
no_literal kinds.Number m t a b c d e f = absurd (c refl)
no_literal kinds.BigInt m t a b c d e f = absurd (d refl)
no_literal kinds.Null m t a b c d e f = absurd (e refl)
no_literal kinds.Regex m t a b c d e f = absurd (f refl)
no_literal _ m t a b c d e f = refl
