-- One package more.
use Rattle.std.proofs.Common.{◌≡◌, ◌∙◌, sym, ap, refl, subst, ℕ, ◌==◌, Bool, true, false, List, [], ◌∷◌, ◌++◌, append-nil, append_assoc}
use Rattle.std.proofs.Common.{length, take, fold, Option}
use Rattle.std.specs.Prelude.{Result, Ok, Err, OnErr}
use Rattle.std.proofs.lemmas.List.Sums.{fold-append}
use Rattle.std.proofs.Math.Seq.{take-append_seam}
use Rattle.fast_check_tables_packages.specs.Package.{Nv, nv_of}
use Rattle.fast_check_tables_packages.specs.declared.package.PackageNv.{PackageNv}
use Rattle.fast_check_tables_graph.specs.declared.graph.ModuleGraph.{ModuleGraph}
use Rattle.fast_check_tables_graph.specs.declared.root_symbol.RootSymbol.{RootSymbol}
use Rattle.fast_check_tables_cache.specs.Cache.{ItemView}
use Rattle.fast_check_tables_cache.specs.declared.package_ranges.PackagePublicRanges.{PackagePublicRanges}
use Rattle.fast_check_build_answers.specs.PackageAnswer.{Answer}
use Rattle.fast_check_build_answers.specs.Kept.{with_package}
use Rattle.fast_check_build_answers.specs.Answered.{IsAnswered, AreAnswered, sets}
use Rattle.fast_check_build_answers.specs.Owned.{IsOwned, AreOwned}
use Rattle.fast_check_build_answers.proofs.Lists.{all_back}

-- the next package is owned
pub owned_next : (root : RootSymbol) (ps : List (PackageNv × PackagePublicRanges)) (p : PackageNv × PackagePublicRanges)
    (rest all : List (PackageNv × PackagePublicRanges)) → ps ++ p ∷ rest ≡ all → AreOwned root all → IsOwned root p.1
owned_next root ps p rest all e h = (all_back (λ (x : PackageNv × PackagePublicRanges). IsOwned root x.1) ps (p ∷ rest)
    (subst (λ (xs : List (PackageNv × PackagePublicRanges)). AreOwned root xs) (sym e) h)).0

-- one package more is answered
pub answered_more : (graph : ModuleGraph) (root : RootSymbol) (first : Bool) (ps : List (PackageNv × PackagePublicRanges))
    (p : PackageNv × PackagePublicRanges) (done part : List Answer) → AreAnswered graph root first ps done →
    IsAnswered graph root first p.1 part →
    AreAnswered graph root first (ps ++ p ∷ []) (done ++ part)
answered_more graph root first [] p done part e h = (part, [], ap (λ (xs : List Answer). xs ++ part) e ∙ sym (append-nil part), h, refl)
answered_more graph root first (q ∷ ps) p done part k h = (
  k.0,
  k.1 ++ part,
  ap (λ (xs : List Answer). xs ++ part) k.2 ∙ append_assoc k.0 k.1 part,
  k.3,
  answered_more graph root first ps p k.1 part k.4 h,
)

-- one turn more: the packages that are answered, and their answers
pub turned : (graph : ModuleGraph) (root : RootSymbol) (first : Bool) (ps : List (PackageNv × PackagePublicRanges))
    (p : PackageNv × PackagePublicRanges)
    (left rest all : List (PackageNv × PackagePublicRanges)) (done part answers : List Answer) → ps ++ left ≡ all → left ≡ p ∷ rest →
    AreAnswered graph root first ps done → IsAnswered graph root first p.1 part → answers ≡ done ++ part →
    ((ps ++ p ∷ []) ++ rest ≡ all) × AreAnswered graph root first (ps ++ p ∷ []) answers
turned graph root first ps p left rest all done part answers e step h k is = (
  append_assoc ps (p ∷ []) rest ∙ (sym (ap (λ (es : List (PackageNv × PackagePublicRanges)). ps ++ es) step) ∙ e),
  subst (λ (xs : List Answer). AreAnswered graph root first (ps ++ p ∷ []) xs) (sym is) (answered_more graph root first ps p done part h k),
)

abbrev Items : Type 0
Items = ℕ → Option ItemView

abbrev Key : Type 0
Key = Nv → List (List ℕ) → ℕ

-- the map after one package more
pub set_more : (key now : Key) (first : Bool) (graph : ModuleGraph) (root : RootSymbol) (ps : List (PackageNv × PackagePublicRanges))
    (p : PackageNv × PackagePublicRanges) (nv : Nv) (old middle new : Items) → now ≡ key → nv ≡ nv_of p.0 →
    middle ≡ sets key first graph root ps old →
    new ≡ with_package now first graph root nv p.1 middle → new ≡ sets key first graph root (ps ++ p ∷ []) old
set_more key now first graph root ps p nv old middle new same named before after =
    after ∙ (ap (λ (k : Key). with_package k first graph root nv p.1 middle) same
    ∙ (ap (λ n. with_package key first graph root n p.1 middle) named
    ∙ (ap (λ (items : Items). with_package key first graph root (nv_of p.0) p.1 items) before
    ∙ sym (fold-append (λ items q. with_package key first graph root (nv_of q.0) q.1 items) old ps (p ∷ [])))))

-- what was set is of the first packages
pub set_first : {T E : Type 0} (r : Result T E) (key : Key) (first : Bool) (graph : ModuleGraph) (root : RootSymbol)
    (ps rest all : List (PackageNv × PackagePublicRanges)) (old now : Items) → ps ++ rest ≡ all → now ≡ sets key first graph root ps old →
    OnErr r ((n : ℕ) × (now ≡ sets key first graph root (take n all) old))
set_first (Ok _) key first graph root ps rest all old now e is = tt
set_first (Err _) key first graph root ps rest all old now e is = (
  length ps,
  is ∙ ap (λ xs. sets key first graph root xs old) (sym (take-append_seam ps rest) ∙ ap (take (length ps)) e),
)
