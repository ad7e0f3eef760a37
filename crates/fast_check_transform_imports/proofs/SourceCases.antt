-- The sources of a skeleton, item by item.
use Rattle.std.specs.Prelude.{◌≡◌, ℕ, ◌+◌, ◌<◌, ◌≤◌, List, [], ◌∷◌, ◌++◌, length, take}
use Rattle.std.specs.List.{flat_map}
use lib.ListN.{get_or}
use Rattle.std.proofs.Common.{ap, ◌∙◌, sym, append-nil}
use Rattle.std.proofs.lemmas.List.{take_more, take_all}
use Rattle.std.proofs.lemmas.List.Concat.{flat_map-append}
use Rattle.fast_check_tree_syntax.specs.declared.tree.Tree.{Tree}
use Rattle.fast_check_tables_diagnostics.specs.declared.parsed_source.tables.fast_check_module.StaticSource.{StaticSource}
use Rattle.fast_check_transform_imports.specs.StaticSources.{item_source}

pub one_more : (ts : List Tree) (i : ℕ) (t : Tree) → i < length ts → t ≡ get_or ts i t → {xs ys zs : List StaticSource} →
    xs ≡ flat_map item_source (take i ts) → ys ≡ item_source t → zs ≡ xs ++ ys → zs ≡ flat_map item_source (take (i + 1) ts)
one_more ts i t h e p q r =
    let more : flat_map item_source (take (i + 1) ts) ≡ flat_map item_source (take i ts) ++ item_source t =
    ap (flat_map item_source) (take_more ts i t h ∙ ap (λ u. take i ts ++ u ∷ []) (sym e))
    ∙ (flat_map-append item_source (take i ts) (t ∷ []) ∙ ap (λ ss. flat_map item_source (take i ts) ++ ss) (append-nil (item_source t))) in
    r ∙ ((λ i. p i ++ q i) ∙ sym more)

pub whole : {ts us : List Tree} (i : ℕ) → length ts ≤ i → ts ≡ us → {xs : List StaticSource} → xs ≡ flat_map item_source (take i ts) →
    xs ≡ flat_map item_source us
whole {ts = ts} i h e p = p ∙ ap (flat_map item_source) (take_all i ts h ∙ e)
