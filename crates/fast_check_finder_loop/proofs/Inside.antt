-- Each chained demand is inside.
use Rattle.std.proofs.Common.{◌≡◌, ◌∙◌, sym, ap, subst, Bool, true, false, ◌&&◌, not, List, [], ◌∷◌, ⊎_elim}
use Rattle.std.specs.List.{Contains}
use Rattle.std.specs.Str.{bytes_eq}
use Rattle.std.proofs.lemmas.Bool.{cases_Bool, false≢true}
use Rattle.std.proofs.lemmas.Slice.Eq.{bytes_eq-Decides}
use Rattle.fast_check_tables_packages.specs.Package.{Nv}
use Rattle.fast_check_finder_lattice.specs.Names.{Name, Path, whole_path, has_whole}
use Rattle.fast_check_finder_lattice.specs.Imports.{default_name, NameDemand, names_but_default, each_name, subset_at, whole_at}
use Rattle.fast_check_finder_demands.specs.asked.Demands.{asked_by, DemandSet, to_package, to_module, to_symbol, Demand, of_package, of_module, of_symbol}
use Rattle.fast_check_finder_demands.specs.asked.Demands.{Followers, Includes}
use Rattle.fast_check_finder_loop.specs.Account.{Chained, root, step, widen, narrow}
use Rattle.fast_check_finder_loop.specs.Measure.{Universe, IsWithin, IsInside, IsSetInside, IsUniverse}
use Rattle.fast_check_finder_demands.proofs.asked.Single.{whole_covered}

module _ (ps : List Path) (default : Contains ps (default_name ∷ [])) (empty : Contains ps []) where
  no_subset : (b : Bool) → (b && true) && not (b && true) ≡ true → ⊥
  no_subset true h = false≢true h
  no_subset false h = false≢true h

  whole_default : (n : Name) (p : Path) → has_whole (whole_path (default_name ∷ [])) (n ∷ p) ≡ true → Contains ps (n ∷ p)
  whole_default n [] h =
      ⊎_elim (λ t. subst (λ (k : Name). Contains ps (k ∷ [])) ((bytes_eq-Decides default_name n).0 t) default)
      (λ f. absurd (false≢true (sym (ap (λ (b : Bool). b && true) f) ∙ h))) (cases_Bool (bytes_eq default_name n))
  whole_default n (m ∷ p) h = absurd (no_longer (bytes_eq default_name n) h)
    where
      no_longer : (b : Bool) → not (b && true) && has_whole (λ part q. b && true) p ≡ true → ⊥
      no_longer true h = false≢true h
      no_longer false h = false≢true (whole_covered (λ part q. false) p h)

  pub default_within : (c : NameDemand) → asked_by (whole_at (default_name ∷ [])) c ≡ true → IsWithin ps c
  default_within names_but_default h = absurd (false≢true h)
  default_within each_name h = absurd (false≢true h)
  default_within (subset_at []) h = empty
  default_within (subset_at (n ∷ p)) h = absurd (no_subset (bytes_eq default_name n) h)
  default_within (whole_at []) h = absurd (false≢true h)
  default_within (whole_at (n ∷ p)) h = whole_default n p h

module _ (followers : Followers) (roots : List Nv) (u : Universe) (is : IsUniverse followers roots u) where
  included_inside : (w : DemandSet) (e : Demand) → IsSetInside u w → Includes w e → IsInside u e
  included_inside (to_package p) (of_package q) i g = subst (Contains u.packages) g i
  included_inside (to_package p) (of_module q t d) i g = absurd g
  included_inside (to_package p) (of_symbol q t s) i g = absurd g
  included_inside (to_module p t w) (of_package q) i g = absurd g
  included_inside (to_module p t w) (of_module q v d) i g = (subst (Contains u.packages) g.0 i.0, subst (Contains u.texts) g.1 i.1, i.2 d g.2)
  included_inside (to_module p t w) (of_symbol q v s) i g = absurd g
  included_inside (to_symbol p t s) (of_package q) i g = absurd g
  included_inside (to_symbol p t s) (of_module q v d) i g = absurd g
  included_inside (to_symbol p t s) (of_symbol q v e) i g =
      (subst (Contains u.packages) g.0 i.0, subst (Contains u.own_texts) g.1 i.1, subst (Contains u.symbols) g.2 i.2)

  pub inside : (d : Demand) → Chained followers roots d → IsInside u d
  inside d (root {p = p} c) = is.has_roots p c
  inside d (step {d = c} h f) = included_inside f.demand_set d (is.closed c f.demand_set (inside c h) f.among) f.includes
  inside d (widen {p = p} {q = q} {r = r} {t = t} {a = a} {b = b} {c = c} f g w) =
      let i = inside (of_module p t a) f in
      let j = inside (of_module q t b) g in (
        ⊎_elim (λ e. subst (Contains u.packages) (sym e) i.0) (λ e. subst (Contains u.packages) (sym e) j.0) w.under,
        i.1,
        ⊎_elim (default_within u.paths is.default is.empty c) (λ e. subst (IsWithin u.paths) (sym e) tt) w.to,
      )
  inside d (narrow {p = p} {t = t} {d = c} {e = e} h n) = let i = inside (of_symbol p t c) h in (i.0, i.1, is.narrowed c e i.2 n)
