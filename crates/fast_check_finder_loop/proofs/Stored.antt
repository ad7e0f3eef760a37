-- A cache has finitely many items, so those that are used depend on finitely many packages.
use Rattle.std.proofs.Common.{◌≡◌, ◌∙◌, sym, ap, refl, subst, ℕ, ◌^◌, map, zero, suc, ◌<◌, ◌≤◌, Bool, true, false, List, Option, Some, None}
use Rattle.std.proofs.Common.{⊎_elim, ◌⊎◌, inl, inr, arith}
use Rattle.std.specs.Prelude.{nat_lt, if◌then◌else◌}
use Rattle.std.specs.List.{Contains}
use Rattle.std.proofs.lemmas.List.Elements.{Contains-append_left, Contains-append_right}
use Rattle.std.proofs.lemmas.Bool.{cases_Bool, ltb-true, ltb-false}
use Rattle.std.proofs.lemmas.Option.{none-some}
use Rattle.url.specs.Parts.{serialize}
use Rattle.fast_check_tables_packages.specs.Package.{Nv}
use Rattle.fast_check_tables_cache.specs.Cache.{ItemView}
use Rattle.fast_check_tables_graph.specs.declared.graph.ModuleGraph.{ModuleGraph}
use Rattle.fast_check_tables_cache.specs.CachedPackages.{usable, if_usable, at_key, used_item}
use Rattle.fast_check_finder_loop.specs.Lent.{used_of}
use Rattle.fast_check_finder_loop.specs.Reach.{dependencies_in, dependencies_below, lent_dependencies}
use Rattle.fast_check_finder_loop.proofs.Reach.{HasDependencies}

-- the dependencies of the item under a key that is lower
below : (stored : ℕ → Option ItemView) (n key : ℕ) (item : ItemView) → key < n → stored key ≡ Some item → (p : Nv) → Contains item.0 p →
    Contains (dependencies_below stored n) p
unfolding dependencies_below
below stored zero key item lt e p c = absurd (omega (arith, lt))
below stored (suc n) key item lt e p c = ⊎_elim
    (λ here. Contains-append_left (dependencies_in (stored n)) (dependencies_below stored n) p
    (subst (λ (o : Option ItemView). Contains (dependencies_in o) p) (sym (ap stored (sym here) ∙ e)) c))
    (λ lower. Contains-append_right (dependencies_in (stored n)) (dependencies_below stored n) p (below stored n key item lower e p c))
    (last key n lt)
  where
    same : (a b : ℕ) → a < suc b → b ≤ a → a ≡ b
    same a b h k = omega (arith, h, k)

    last : (a b : ℕ) → a < suc b → (a ≡ b) ⊎ (a < b)
    last a b h = ⊎_elim (λ t. inr (ltb-true a b t)) (λ f. inl (same a b h (ltb-false a b f))) (cases_Bool (nat_lt a b))

under_key : (stored : ℕ → Option ItemView) (n key : ℕ) (item : ItemView) → (if nat_lt key n then stored key else None) ≡ Some item →
    (p : Nv) → Contains item.0 p → Contains (dependencies_below stored n) p
under_key stored n key item e p c = go (nat_lt key n) (ltb-true key n) e
  where
    go : (b : Bool) → (b ≡ true → key < n) → (if b then stored key else None) ≡ Some item → Contains (dependencies_below stored n) p
    go true lower h = below stored n key item (lower refl) h p c
    go false lower h = absurd (none-some item h)

-- an item that is used is there
there : (g : ModuleGraph) (o : Option ItemView) (item : ItemView) → if_usable g o ≡ Some item → o ≡ Some item
there g None item e = absurd (none-some item e)
there g (Some x) item e = go (usable g x) e
  where
    go : (b : Bool) → (if b then Some x else None) ≡ Some item → Some x ≡ Some item
    go true h = h
    go false h = absurd (none-some item h)

pub has_lent : {C : Type 0} (lent : Option C) (key : C → Nv → List (List ℕ) → ℕ) (stored : C → ℕ → Option ItemView) (g : ModuleGraph) →
    HasDependencies (used_of lent (λ c. used_item (key c) (stored c) g)) (lent_dependencies lent stored)
has_lent None key stored g nv urls item e p c = absurd (none-some item e)
has_lent (Some x) key stored g nv urls item e p c =
    under_key (stored x) (2 ^ 64) (key x nv (map serialize urls)) item
    (there g (at_key (stored x) (key x nv (map serialize urls))) item e) p c
