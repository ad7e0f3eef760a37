-- What a look-up finds in a map after a change.
use Rattle.std.proofs.Common.{◌≡◌, ◌∙◌, sym, Bool, true, false, cond, List, Option, ⊎_elim}
use Rattle.std.specs.Cmp.{IsTotalOrder, eq_by_cmp_equiv, on_total}
use Rattle.std.specs.Cmp.Lexicographic.{slice_cmp, nat_list_cmp_total, nat_list_eq_equiv}
use Rattle.std.specs.Ordering.{is_eq, eq_by_cmp, nat_cmp}
use Rattle.std.specs.declared.cmp.Ordering.{Ordering}
use Rattle.std.specs.BTreeMap.{BTreeMap, is_at}
use Rattle.std.specs.BTreeMap as tree
use Rattle.std.specs.Map.{lookup, IsKeyTest, AreApart, KeepsOthers}
use Rattle.std.proofs.lemmas.Bool.{cases_Bool, cond-true, cond-false, false≢true}
use Rattle.std.proofs.lemmas.Map.Text.{is_eq-slice_cmp}
use Rattle.url.specs.Parts.{Parts, serialize}
use Rattle.fast_check_tables_packages.specs.Package.{Nv, nv_of, nv_cmp}
use Rattle.fast_check_tables_packages.specs.PackageOrder.{nv_total}
use Rattle.fast_check_tables_packages.specs.declared.package.PackageNv.{PackageNv}
use Rattle.fast_check_tables_packages.proofs.MembersFound.{same_lookup as lookup_alike}
use Rattle.fast_check_finder_demands.specs.asked.Demands.{Text}
use Rattle.fast_check_finder_ranges.specs.Parts.{is_text, is_package}

kept : {K X : Type 0} (eq : K → K → Bool) (test : K → Bool) (old new : List (K × X)) → KeepsOthers eq test old new → (other : K → Bool) →
    IsKeyTest eq other → AreApart test other → lookup other new ≡ lookup other old
unfolding KeepsOthers
kept eq test old new h = h

apart : {K : Type 0} {cmp : K → K → Ordering} (o : IsTotalOrder cmp) (test : K → Bool) → IsKeyTest (eq_by_cmp cmp) test →
    (key k : K) → test key ≡ false → is_eq (cmp key k) ≡ true → test k ≡ false
apart o test one key k n y =
    ⊎_elim (λ t. absurd (false≢true (sym n ∙ (one k key t ∙ ((eq_by_cmp_equiv o).symm k key ∙ y))))) (λ f. f) (cases_Bool (test k))

module _ {K X : Type 0} {cmp : K → K → Ordering} (o : IsTotalOrder cmp) (test : K → Bool) (one : IsKeyTest (eq_by_cmp cmp) test) where
  -- a test that passes the key finds what the key finds
  pub lookup_key : (key : K) (es : List (K × X)) → test key ≡ true → lookup test es ≡ lookup (is_at (cmp key)) es
  lookup_key key es t = lookup_alike test (is_at (cmp key)) (λ k. one key k t) es

  -- after a change at a key
  pub lookup_after : (key : K) (old new : BTreeMap K X) (w : Option X) → tree.UpdatesBy cmp (cmp key) old new w →
      lookup test new.entries ≡ cond (test key) w (lookup test old.entries)
  lookup_after key old new w u = ⊎_elim
      (λ t. (lookup_key key new.entries t ∙ u.1) ∙ sym (cond-true (test key) w (lookup test old.entries) t))
      (λ f. kept (eq_by_cmp cmp) (is_at (cmp key)) old.entries new.entries u.3 test one (λ k y. apart o test one key k f y) ∙
      sym (cond-false (test key) w (lookup test old.entries) f))
      (cases_Bool (test key))

-- the tests of specifiers and of packages pick what compares alike
pub text_one : (t : Text) → IsKeyTest (eq_by_cmp (λ (a b : Parts). slice_cmp nat_cmp (serialize a) (serialize b))) (is_text t)
text_one t x y h = nat_list_eq_equiv.congr t (serialize x) (serialize y) h ∙ sym (is_eq-slice_cmp (serialize x) (serialize y))

pub text_total : IsTotalOrder (λ (a b : Parts). slice_cmp nat_cmp (serialize a) (serialize b))
text_total = on_total serialize nat_list_cmp_total

pub package_one : (nv : Nv) → IsKeyTest (eq_by_cmp (λ (a b : PackageNv). nv_cmp (nv_of a) (nv_of b))) (is_package nv)
package_one nv x y h = (eq_by_cmp_equiv nv_total).congr nv (nv_of x) (nv_of y) h

pub package_total : IsTotalOrder (λ (a b : PackageNv). nv_cmp (nv_of a) (nv_of b))
package_total = on_total nv_of nv_total
