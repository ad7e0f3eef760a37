-- A new package goes last, and the set has it too.
use Rattle.std.proofs.Common.{◌≡◌, ◌∙◌, sym, ap, refl, Bool, true, false, cond, ◌||◌, List, [], ◌∷◌, ◌++◌, map}
use Rattle.std.specs.List.{list_any}
use Rattle.std.specs.BTreeSet.{BTreeSet, contains, Updates}
use Rattle.std.specs.Cmp.{eq_by_cmp_equiv}
use Rattle.std.proofs.lemmas.List.{map_push}
use Rattle.std.proofs.lemmas.List.Folds.{list_any-append}
use Rattle.fast_check_tables_packages.specs.declared.package.PackageNv.{PackageNv}
use Rattle.fast_check_tables_packages.specs.Package.{Nv, nv_of}
use Rattle.fast_check_tables_packages.specs.PackageOrder.{nv_total}
use Rattle.fast_check_tables_packages.specs.Packages.{package_cmp}
use Rattle.fast_check_finder_demands.specs.asked.Demands.{same_nv}
use Rattle.fast_check_finder_demands.specs.asked.Places.{HasPackages}
use Rattle.fast_check_finder_demands.specs.asked.State.{AddsPackage}

-- a new package goes last
pub adds_new : (nv copy : PackageNv) (xs new : List PackageNv) → nv_of copy ≡ nv_of nv → list_any (same_nv (nv_of nv)) (map nv_of xs) ≡ false →
    new ≡ xs ++ copy ∷ [] → AddsPackage (nv_of nv) (map nv_of xs) (map nv_of new)
adds_new nv copy xs new same absent is =
    ap (map nv_of) is
    ∙ (map_push nv_of xs copy
    ∙ (ap (λ (p : Nv). map nv_of xs ++ p ∷ []) same
    ∙ sym (ap (λ (b : Bool). cond b (map nv_of xs) (map nv_of xs ++ nv_of nv ∷ [])) absent)))

either_way : (b l : Bool) → cond b true l ≡ (l || (b || false))
either_way true true = refl
either_way true false = refl
either_way false true = refl
either_way false false = refl

-- and the set has it too
pub package_more : (nv copy key : PackageNv) (xs : List PackageNv) (old new : BTreeSet PackageNv) → nv_of copy ≡ nv_of nv → nv_of key ≡ nv_of nv →
    Updates package_cmp old new key true → HasPackages xs old → HasPackages (xs ++ copy ∷ []) new
package_more nv copy key xs old new same alike u h = record {
  says = λ asked.
      let p = nv_of asked in
      u.0 asked
      ∙ (ap (λ (b : Bool). cond b true (contains package_cmp old asked))
      (ap (λ (q : Nv). same_nv q p) (alike ∙ sym same) ∙ (eq_by_cmp_equiv nv_total).symm (nv_of copy) p)
      ∙ (ap (λ (l : Bool). cond (same_nv p (nv_of copy)) true l) (h.says asked)
      ∙ (either_way (same_nv p (nv_of copy)) (list_any (same_nv p) (map nv_of xs))
      ∙ (sym (list_any-append (same_nv p) (map nv_of xs) (nv_of copy ∷ []))
      ∙ ap (list_any (same_nv p)) (sym (map_push nv_of xs copy))))));
}
