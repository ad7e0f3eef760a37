-- An insert into a map of items, on what contracts see of it.
use Rattle.std.proofs.Common.{rules, ℕ, ◌==◌, Bool, true, false, cond, Option, Some, option_map, ◌≡◌, ◌∙◌, refl, ap, subst}
use Rattle.std.proofs.Math.Path.{fun_ext}
use Rattle.std.specs.Ordering.{nat_cmp}
use Rattle.std.specs.BTreeMap.{get, is_at}
use Rattle.fast_check_tables_cache.specs.declared.item.FastCheckCacheItem.{FastCheckCacheItem}
use Rattle.fast_check_tables_cache.specs.Cache.{item_of, with_item}
use Rattle.fast_check_cases_cache.specs.declared.items.Items.{Items}
use Rattle.fast_check_cases_cache.specs.Memory.{items_at}

at_key : (k q : ℕ) → is_at (nat_cmp k) q ≡ (q == k)
at_key k q = grind rules

view_of : (b : Bool) (item : FastCheckCacheItem) (o : Option FastCheckCacheItem)
    → option_map item_of (cond b (Some item) o) ≡ cond b (Some (item_of item)) (option_map item_of o)
view_of true item o = refl
view_of false item o = refl

-- what stands under any key is known at the hash of the key
at_hash : (m n : Items) (k : ℕ) (item : FastCheckCacheItem)
    → ((q : ℕ) → get nat_cmp n.by_hash q ≡ cond (is_at (nat_cmp k) q) (Some item) (get nat_cmp m.by_hash q))
    → items_at n ≡ with_item k (item_of item) (items_at m)
unfolding with_item
at_hash m n k item h = fun_ext (λ q. ap (option_map item_of) (h q) ∙ view_of (is_at (nat_cmp k) q) item (get nat_cmp m.by_hash q)
    ∙ ap (λ b. cond b (Some (item_of item)) (option_map item_of (get nat_cmp m.by_hash q))) (at_key k q))

-- items after an insert are those before with the item at the key
pub inserted : (m n : Items) (hash key : ℕ) (item : FastCheckCacheItem) → hash ≡ key
    → ((q : ℕ) → get nat_cmp n.by_hash q ≡ cond (is_at (nat_cmp hash) q) (Some item) (get nat_cmp m.by_hash q))
    → items_at n ≡ with_item key (item_of item) (items_at m)
inserted m n hash key item same h = subst (λ k. items_at n ≡ with_item k (item_of item) (items_at m)) same (at_hash m n hash item h)
