-- Faults that are the same are reported alike, and skeletons that are the same shown alike.
use Rattle.std.specs.Prelude.{◌≡◌, false, List, [], ◌∷◌, Option, Some, Ok, Err, MatchOption, map}
use Rattle.std.proofs.Common.{sym, ap, subst, ◌∙◌}
use Rattle.std.specs.List.{AllZip}
use Rattle.url.specs.Parts.{Parts, serialize}
use Rattle.fast_check_tree_syntax.specs.Same.{Each}
use Rattle.fast_check_tables_diagnostics.specs.declared.diagnostics.FastCheckDiagnostic.{FastCheckDiagnostic}
use Rattle.fast_check_tables_modules.specs.EsModule.{EsModule}
use Rattle.fast_check_tables_graph.specs.declared.root_symbol.AnyModuleInfo.TheVariants.{Esm}
use Rattle.fast_check_tables_graph.specs.Root.{found_module}
use Rattle.fast_check_meaning_signatures.specs.declared.fault.Fault.{Fault}
use Rattle.fast_check_meaning_skeleton.specs.SameComments.{SameComments}
use Rattle.fast_check_meaning_skeleton.specs.Worlds.{SameSkeleton, SameFault}
use Rattle.fast_check_transform_module.specs.Transform.{skeleton, sources, comments}
use Rattle.fast_check_transform_module.specs.transform_faults.Diagnostics.{Diagnosed, IsPlaceOf, diagnosed_by}
use Rattle.fast_check_transform_pair.specs.Compared.{SameStaticSource, SameDiagnostic}
use Rattle.fast_check_transform_pair.specs.Worlds.{SameModule}
use Rattle.fast_check_transform_pair.proofs.SameDiagnosed.{diagnosed_same}
use Rattle.fast_check_finder_loop.specs.demands.facts.GraphFacts.{Known}
use Rattle.fast_check_build_answers.specs.PackageFaults.{PackageFault, found, transform_fault, Diagnoses}
use Rattle.fast_check_build_answers.specs.PackageAnswer.{Answer, TreeModule, IsShown, IsRefused}
use Rattle.fast_check_build_unique.specs.Moved.{Renamings}
use Rattle.fast_check_build_unique.specs.Builds.{SameInModule, SameBuilt}
use Rattle.fast_check_build_unique.proofs.Transformed.{both}
use Rattle.fast_check_build_unique.proofs.Zipped.{heads_are}

module _ (k l : Known) (moves : Renamings) where
  -- one fault of the transform, in two versions of a module
  pub record SameFaultAt (a b : EsModule) (f g : Fault) : Type 0 where
    pub name : Parts
    pub is_found : found_module k.root_symbol name ≡ Some (Esm a)
    pub specifier : a.specifier ≡ b.specifier
    pub same : SameFault (moves (serialize name)) f g

  abbrev pub SameFaults : PackageFault → PackageFault → Type 0
  SameFaults (transform_fault a f) (transform_fault b g) = SameFaultAt a b f g
  SameFaults _ _ = ⊥

  -- two versions of a module with a tree, and their skeletons
  pub record SameTrees (x y : TreeModule) : Type 0 where
    pub text : serialize x.specifier ≡ serialize y.specifier
    pub skeletons : SameSkeleton (moves (serialize x.specifier)) (skeleton k.graph x.info x.public) (skeleton l.graph y.info y.public)
    pub comment : SameComments (moves (serialize x.specifier)) (comments k.graph x.info x.public) (comments l.graph y.info y.public)
    pub depends : Each (SameStaticSource (moves (serialize x.specifier))) (sources k.graph x.info x.public) (sources l.graph y.info y.public)

  shown_one : (x y : TreeModule) (a b : Answer) → SameTrees x y → IsShown k.graph x a → IsShown l.graph y b → SameBuilt k moves a b
  shown_one x y (s, Ok m) (u, Ok n) h i j = (
    ap serialize i.0 ∙ (h.text ∙ ap serialize (sym j.0)),
    subst (λ (v : Parts). SameModule (moves (serialize v)) m n) (sym i.0) (record {
      program = both (SameSkeleton (moves (serialize x.specifier))) i.1.program j.1.program h.skeletons;
      comments = both (SameComments (moves (serialize x.specifier))) i.1.kept j.1.kept h.comment;
      sources = both (Each (SameStaticSource (moves (serialize x.specifier)))) i.1.depends j.1.depends h.depends;
    }),
  )
  shown_one x y (s, Ok m) (u, Err es) h i j = absurd j
  shown_one x y (s, Err ds) (u, Ok n) h i j = absurd i
  shown_one x y (s, Err ds) (u, Err es) h i j = absurd i

  pub shown_alike : (xs ys : List TreeModule) (ans bs : List Answer) → Each SameTrees xs ys → AllZip (IsShown k.graph) xs ans →
      AllZip (IsShown l.graph) ys bs → Each (SameBuilt k moves) ans bs
  shown_alike [] [] [] [] h i j = tt
  shown_alike [] [] [] (b ∷ bs) h i j = absurd j
  shown_alike [] [] (a ∷ ans) bs h i j = absurd i
  shown_alike [] (y ∷ ys) ans bs h i j = absurd h
  shown_alike (x ∷ xs) [] ans bs h i j = absurd h
  shown_alike (x ∷ xs) (y ∷ ys) [] bs h i j = absurd i
  shown_alike (x ∷ xs) (y ∷ ys) (a ∷ ans) [] h i j = absurd j
  shown_alike (x ∷ xs) (y ∷ ys) (a ∷ ans) (b ∷ bs) h i j = (shown_one x y a b h.0 i.0 j.0, shown_alike xs ys ans bs h.1 i.1 j.1)

  -- diagnostics

  place_of : (a : EsModule) (f : Fault) (o : Option Diagnosed) (x : Diagnosed) → o ≡ Some x →
      MatchOption o ⊥ (λ z. (f.kind ≡ z.0) × IsPlaceOf a f.range z.1) → IsPlaceOf a f.range x.1
  place_of a f o x e h = (subst (λ (v : Option Diagnosed). MatchOption v ⊥ (λ z. (f.kind ≡ z.0) × IsPlaceOf a f.range z.1)) e h).1

  reported_one : (x y : PackageFault) (d e : FastCheckDiagnostic) → SameFaults x y → Diagnoses x d → Diagnoses y e → SameInModule k moves d e
  reported_one (transform_fault a f) (transform_fault b g) d e h i j =
      let r = moves (serialize h.name) in
      let same : SameDiagnostic r d e =
      (diagnosed_same r a b h.specifier false (f ∷ []) (g ∷ []) (d ∷ []) (e ∷ []) (h.same, tt) (i, tt) (j, tt)).0 in
      record {
        name = h.name;
        info = a;
        is_found = h.is_found;
        same = same;
        specifier = (place_of a f (diagnosed_by d) (same.kind, same.first_place) same.first_diagnosed i).specifier;
      }
  reported_one (transform_fault a f) (found y) d e h i j = absurd h
  reported_one (found x) y d e h i j = absurd h

  pub reported_alike : (xs ys : List PackageFault) (ds es : List FastCheckDiagnostic) → Each SameFaults xs ys → AllZip Diagnoses xs ds →
      AllZip Diagnoses ys es → Each (SameInModule k moves) ds es
  reported_alike [] [] [] [] h i j = tt
  reported_alike [] [] [] (e ∷ es) h i j = absurd j
  reported_alike [] [] (d ∷ ds) es h i j = absurd i
  reported_alike [] (y ∷ ys) ds es h i j = absurd h
  reported_alike (x ∷ xs) [] ds es h i j = absurd h
  reported_alike (x ∷ xs) (y ∷ ys) [] es h i j = absurd i
  reported_alike (x ∷ xs) (y ∷ ys) (d ∷ ds) [] h i j = absurd j
  reported_alike (x ∷ xs) (y ∷ ys) (d ∷ ds) (e ∷ es) h i j = (reported_one x y d e h.0 i.0 j.0, reported_alike xs ys ds es h.1 i.1 j.1)

  module _ (ds es : List FastCheckDiagnostic) (same : Each (SameInModule k moves) ds es) where
    refused_one : (s u : Parts) (a b : Answer) → serialize s ≡ serialize u → IsRefused ds s a → IsRefused es u b → SameBuilt k moves a b
    refused_one s u (x, Err fs) (y, Err gs) e i j = (
      ap serialize i.0 ∙ (e ∙ ap serialize (sym j.0)),
      record { first = ds; second = es; same = same; first_copies = i.1; second_copies = j.1 },
    )
    refused_one s u (x, Ok m) b e i j = absurd i
    refused_one s u (x, Err fs) (y, Ok n) e i j = absurd j

    pub refused_alike : (ss us : List Parts) (ans bs : List Answer) → map serialize ss ≡ map serialize us → AllZip (IsRefused ds) ss ans →
        AllZip (IsRefused es) us bs → Each (SameBuilt k moves) ans bs
    refused_alike [] [] [] [] e i j = tt
    refused_alike [] [] [] (b ∷ bs) e i j = absurd j
    refused_alike [] [] (a ∷ ans) bs e i j = absurd i
    refused_alike [] (u ∷ us) ans bs e i j = absurd (no_more e)
      where
        no_more : [] ≡ map serialize (u ∷ us) → ⊥
        no_more h = cc
    refused_alike (s ∷ ss) [] ans bs e i j = absurd (no_more e)
      where
        no_more : map serialize (s ∷ ss) ≡ [] → ⊥
        no_more h = cc
    refused_alike (s ∷ ss) (u ∷ us) [] bs e i j = absurd i
    refused_alike (s ∷ ss) (u ∷ us) (a ∷ ans) [] e i j = absurd j
    refused_alike (s ∷ ss) (u ∷ us) (a ∷ ans) (b ∷ bs) e i j =
        let h = heads_are (serialize s) (serialize u) (map serialize ss) (map serialize us) e in
        (refused_one s u a b h.0 i.0 j.0, refused_alike ss us ans bs h.1 i.1 j.1)
