-- The demands of an input correspond to those of the input after a hidden edit.
use Rattle.std.proofs.Common.{◌≡◌, ◌∙◌, refl, sym, ap, subst, Bool, true, false, cond, List, [], ◌∷◌, ◌⊎◌, inl, inr, ⊎_elim}
use Rattle.std.specs.Prelude.{IsTrue}
use Rattle.std.specs.List.{Contains}
use Rattle.fast_check_tables_packages.specs.Package.{Nv}
use Rattle.fast_check_tables_symbols.specs.declared.symbol_id.SymbolId.{SymbolId}
use Rattle.fast_check_finder_lattice.specs.Imports.{NameDemand}
use Rattle.fast_check_finder_demands.specs.declared.symbol_demands.demand.Namespaces.{Namespaces}
use Rattle.fast_check_finder_demands.specs.declared.symbol_demands.demand.Namespaces.TheVariants.{Value, Type_}
use Rattle.fast_check_finder_demands.specs.symbol_demands.Demands.{Demand as SymbolDemand}
use Rattle.fast_check_finder_demands.specs.Account.{is_both, asked_within, narrowed, parts}
use Rattle.fast_check_finder_demands.specs.asked.Demands.{Text, Demand, of_package, of_module, of_symbol, Followers, Follows}
use Rattle.fast_check_finder_demands.proofs.Elements.{no_element, cases, only, first as here, later}
use Rattle.fast_check_finder_loop.specs.Account.{Chained, root, step, widen, narrow}
use Rattle.fast_check_finder_loop.proofs.Parts.{part_within}
use Rattle.fast_check_finder_unique.specs.Settled.{AreSettled}
use Rattle.fast_check_finder_unique.specs.Edits.{SymbolRenaming, IsRenamedSymbol, IsRenamed, IsIdle, IsHiddenEdit, ShowsAll}
use Rattle.fast_check_finder_unique.proofs.Alike.{forced_yields}

same_module : (renames : SymbolRenaming) (p : Nv) (t : Text) (d : NameDemand) (x : Demand) → IsRenamed renames (of_module p t d) x →
    of_module p t d ≡ x
same_module renames p t d (of_package q) r = absurd r
same_module renames p t d (of_module q u e) r =
    ap (λ x. of_module x t d) r.0 ∙ (ap (λ x. of_module q x d) r.1 ∙ ap (λ x. of_module q u x) r.2)
same_module renames p t d (of_symbol q u e) r = absurd r

narrowed_to : (renames : SymbolId → SymbolId → Bool) (n : Namespaces) (d f : SymbolDemand) → IsRenamedSymbol renames d f →
    IsRenamedSymbol renames (narrowed n d) (narrowed n f)
narrowed_to renames n d f r = record { symbol = r.symbol; asked = ap (asked_within n) r.asked; referrer = r.referrer }

part_to : (renames : SymbolId → SymbolId → Bool) (d f e : SymbolDemand) → IsRenamedSymbol renames d f → Contains (parts d) e →
    (g : SymbolDemand) × IsRenamedSymbol renames e g × Contains (parts f) g
part_to renames d f e r m =
    let found = go (is_both d.asked) m in (
      found.0,
      found.1,
      subst (λ (b : Bool). Contains (cond b (narrowed Value f ∷ narrowed Type_ f ∷ []) (f ∷ [])) found.0) (ap is_both r.asked) found.2,
    )
  where
    is : (x g : SymbolDemand) → x ≡ e → IsRenamedSymbol renames x g → IsRenamedSymbol renames e g
    is x g s h = subst (λ (y : SymbolDemand). IsRenamedSymbol renames y g) s h

    go : (b : Bool) → Contains (cond b (narrowed Value d ∷ narrowed Type_ d ∷ []) (d ∷ [])) e →
        (g : SymbolDemand) × IsRenamedSymbol renames e g × Contains (cond b (narrowed Value f ∷ narrowed Type_ f ∷ []) (f ∷ [])) g
    go true c = ⊎_elim
        (λ s. (
          narrowed Value f,
          is (narrowed Value d) (narrowed Value f) s (narrowed_to renames Value d f r),
          here (narrowed Value f) (narrowed Value f) (narrowed Type_ f ∷ []) refl,
        ))
        (λ more. (
          narrowed Type_ f,
          is (narrowed Type_ d) (narrowed Type_ f) (only (narrowed Type_ d) e more) (narrowed_to renames Type_ d f r),
          later (narrowed Value f) (narrowed Type_ f ∷ []) (narrowed Type_ f) (here (narrowed Type_ f) (narrowed Type_ f) [] refl),
        ))
        (cases (narrowed Value d) (narrowed Type_ d ∷ []) e c)
    go false c = (f, is d f (only d e c) r, here f f [] refl)

symbol_part : (renames : SymbolRenaming) (followers : Followers) (roots : List Nv) (p : Nv) (t : Text) (d e : SymbolDemand) (x : Demand) →
    IsRenamed renames (of_symbol p t d) x → Chained followers roots x → Contains (parts d) e →
    (g : Demand) × IsRenamed renames (of_symbol p t e) g × Chained followers roots g
symbol_part renames followers roots p t d e (of_package q) r c m = absurd r
symbol_part renames followers roots p t d e (of_module q u f) r c m = absurd r
symbol_part renames followers roots p t d e (of_symbol q u f) r c m =
    let g = part_to (renames t) d f e r.2 m in (of_symbol q u g.0, (r.0, r.1, g.1), narrow c g.2)

idle_part : {Y : Type 0} (followers : Followers) (demand_yields : Demand → List Y) (picks : Y → Bool) (p : Nv) (t : Text)
    (d e : SymbolDemand) → IsIdle followers demand_yields picks (of_symbol p t d) → Contains (parts d) e →
    IsIdle followers demand_yields picks (of_symbol p t e)
idle_part followers demand_yields picks p t d e idle m x w = idle x (inr (⊎_elim
    (λ is. subst (λ (z : SymbolDemand). Contains (parts d) z) (sym is) m)
    (λ c. part_within d e x (inr m) c) w))

idle_follows : {Y : Type 0} (followers : Followers) (demand_yields : Demand → List Y) (picks : Y → Bool) (d : Demand) →
    IsIdle followers demand_yields picks d → (e : Demand) → Follows followers d e → ⊥
idle_follows followers demand_yields picks (of_package p) idle e f = absurd idle
idle_follows followers demand_yields picks (of_module p t d) idle e f = absurd idle
idle_follows followers demand_yields picks (of_symbol p t d) idle e f = (idle d (inl refl)).follows e f

idle_yields : {Y : Type 0} (followers : Followers) (demand_yields : Demand → List Y) (picks : Y → Bool) (d : Demand) →
    IsIdle followers demand_yields picks d → (y : Y) → Contains (demand_yields d) y → IsTrue (picks y) → ⊥
idle_yields followers demand_yields picks (of_package p) idle y c h = absurd idle
idle_yields followers demand_yields picks (of_module p t d) idle y c h = absurd idle
idle_yields followers demand_yields picks (of_symbol p t d) idle y c h = (idle d (inl refl)).yields y c h

module _ {Y : Type 0} (first second : Followers) (first_yields second_yields : Demand → List Y) (roots : List Nv)
    (renames : SymbolRenaming) (shows : Y → Y → Bool) (picks : Y → Bool)
    (edit : IsHiddenEdit first second first_yields second_yields roots renames shows picks) where
  -- the demand corresponds to one of the second input, or is idle
  abbrev Stands : Demand → Type 0
  Stands d = ((f : Demand) × IsRenamed renames d f × Chained second roots f) ⊎ IsIdle first first_yields picks d

  pub chained_to : (d : Demand) → Chained first roots d → Stands d
  chained_to _ (root {p} c) = inl (of_package p, refl, root c)
  chained_to _ (step {d} {e} c f) = ⊎_elim
      (λ t. ⊎_elim (λ g. inl (g.0, g.1, step t.2 g.2)) (λ idle. inr idle) (edit.follows d e t.0 c t.1 f))
      (λ idle. absurd (idle_follows first first_yields picks d idle e f))
      (chained_to d c)
  chained_to _ (widen {p} {q} {r} {t} {a} {b} {c} x y w) = ⊎_elim
      (λ u. ⊎_elim
      (λ v. inl (
        of_module r t c,
        (refl, refl, refl),
        widen (subst (λ (z : Demand). Chained second roots z) (sym (same_module renames p t a u.0 u.1)) u.2)
            (subst (λ (z : Demand). Chained second roots z) (sym (same_module renames q t b v.0 v.1)) v.2) w,
      ))
      (λ idle. absurd idle)
      (chained_to (of_module q t b) y))
      (λ idle. absurd idle)
      (chained_to (of_module p t a) x)
  chained_to _ (narrow {p} {t} {d} {e} c m) = ⊎_elim
      (λ u. inl (symbol_part renames second roots p t d e u.0 u.1 u.2 m))
      (λ idle. inr (idle_part first first_yields picks p t d e idle m))
      (chained_to (of_symbol p t d) c)

  pub shows_all : AreSettled second second_yields roots picks → ShowsAll first second first_yields second_yields roots shows picks
  shows_all settled a b found_a found_b is_a is_b in_a in_b y picked h =
      let from = in_a.sound y h in
      let c = is_a.chained from.0 from.1 in ⊎_elim
      (λ to.
      let z = edit.yields from.0 to.0 y c to.1 from.2 picked in
      let at = forced_yields second second_yields roots b is_b z.0 []
      (settled to.0 z.0 to.2 z.2 z.3) (λ d none. absurd (no_element d none)) in
      (z.0, z.1, in_b.complete at.0 z.0 at.1 at.2))
      (λ idle. absurd (idle_yields first first_yields picks from.0 idle y from.2 picked))
      (chained_to from.0 c)
