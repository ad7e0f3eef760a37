-- Inner: no contract of a public call cites what stands here.
-- The order of packages is total, and only equal packages tie.
use Rattle.std.proofs.Common.{◌≡◌, ◌∙◌, Bool, ◌&&◌, Some, ap}
use Rattle.std.specs.Ordering.{nat_cmp, eq_by_cmp, ordering_then, is_eq}
use Rattle.std.specs.Cmp.{IsTotalOrder, IsPartialOrder, nat_cmp_total, on_total, then_total, po, unsigned_ties}
use Rattle.std.specs.Cmp.Lexicographic.{nat_list_cmp_total, slice_cmp, texts_ties}
use Rattle.std.specs.declared.cmp.Ordering.{Ordering}
use Rattle.std.specs.declared.cmp.Ordering.TheVariants.{Less, Equal, Greater}
use Rattle.semver.specs.Order.{pre_cmp, build_cmp}
use Rattle.semver.specs.OrderLaws.{pre_total, build_total, order_ties, pre-anti, build-anti}
use Rattle.fast_check_tables_packages.specs.declared.package.PackageNv.{PackageNv}
use Rattle.fast_check_tables_packages.specs.contracts.package.PackageNvPartialEq.TheImpl as nv_eq
use Rattle.fast_check_tables_packages.specs.Package.{nv_of, nv_cmp, version_cmp}

version_total : IsTotalOrder version_cmp
version_total = then_total (on_total (λ v. v.0) nat_cmp_total)
    (then_total (on_total (λ v. v.1) nat_cmp_total)
    (then_total (on_total (λ v. v.2) nat_cmp_total)
    (then_total (on_total (λ v. v.3) pre_total) (on_total (λ v. v.4) build_total))))

pub nv_total : IsTotalOrder nv_cmp
nv_total = then_total (on_total (λ p. p.0) nat_list_cmp_total) (on_total (λ p. p.1) version_total)

-- two comparisons in turn tie where both do
tie : (e f : Bool) (r s : Ordering) → e ≡ is_eq r → f ≡ is_eq s → (e && f) ≡ is_eq (ordering_then r s)
tie e f Less s h k = ap (λ b. b && f) h
tie e f Equal s h k = ap (λ b. b && f) h ∙ k
tie e f Greater s h k = ap (λ b. b && f) h

-- `==` holds of the packages that tie
pub nv_ties : (a b : PackageNv) → nv_eq.eq-value.it a b ≡ eq_by_cmp nv_cmp (nv_of a) (nv_of b)
nv_ties a b =
    let x = nv_of a in
    let y = nv_of b in
    tie _ _ (slice_cmp nat_cmp x.0 y.0) (version_cmp x.1 y.1) (texts_ties x.0 y.0)
    (tie _ _ (nat_cmp x.1.0 y.1.0) _ (unsigned_ties x.1.0 y.1.0)
    (tie _ _ (nat_cmp x.1.1 y.1.1) _ (unsigned_ties x.1.1 y.1.1)
    (tie _ _ (nat_cmp x.1.2 y.1.2) _ (unsigned_ties x.1.2 y.1.2)
    (tie _ _ (pre_cmp x.1.3 y.1.3) (build_cmp x.1.4 y.1.4) (order_ties pre_cmp pre_total pre-anti x.1.3 y.1.3)
    (order_ties build_cmp build_total build-anti x.1.4 y.1.4)))))

pub nv_po : IsPartialOrder nv_eq.eq-value.it (λ a b. Some (nv_cmp (nv_of a) (nv_of b)))
nv_po = po (on_total nv_of nv_total) nv_ties
