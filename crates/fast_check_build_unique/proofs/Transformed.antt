-- Two versions of a module, each in its own graph, that differ by hidden code alone are transformed alike.
use Rattle.std.specs.Prelude.{◌≡◌, Bool, Ok, Err, refl}
use Rattle.std.proofs.Common.{sym, subst, true≢false}
use Rattle.fast_check_tables_graph.specs.declared.graph.ModuleGraph.{ModuleGraph}
use Rattle.fast_check_transform_module.specs.Transform.{facts_of_module, faults}
use Rattle.fast_check_tables_modules.specs.EsModule.{EsModule}
use Rattle.fast_check_tables_modules.specs.diagnostics.PublicRanges.{PublicRanges}
use Rattle.fast_check_meaning_skeleton.specs.SameComments.{SameComments}
use Rattle.fast_check_meaning_skeleton.specs.Worlds.{SameSkeleton, SameFault, SameAnswers}
use Rattle.fast_check_tree_syntax.specs.Moves.{Renaming, IsRenaming}
use Rattle.fast_check_tree_syntax.specs.Same.{Each}
use Rattle.fast_check_transform_pair.specs.Transformed.{TransformResult, IsTransformed}
use Rattle.fast_check_transform_pair.specs.Compared.{SameStaticSource}
use Rattle.fast_check_transform_pair.specs.Worlds.{SameAnswer}
use Rattle.fast_check_transform_pair.proofs.SameSources.{sources_same}
use Rattle.fast_check_transform_pair.proofs.SameDiagnosed.{each_empty, diagnosed_same}

-- equal values on both sides, in place of those that are related
pub both : {A : Type 0} (R : A → A → Type 0) {x y v w : A} → x ≡ v → y ≡ w → R v w → R x y
both R {x = x} {w = w} p q h = subst (R x) (sym q) (subst (λ v. R v w) (sym p) h)

module _ (g h : ModuleGraph) (a b : EsModule) (m n : PublicRanges) where
  abbrev pub Same : Renaming → Type 0
  Same r = SameAnswers r (facts_of_module g a m) a.source.program a.source.comments (facts_of_module h b n) b.source.program
      b.source.comments

  pub transformed_alike : (first_alone : Bool) (r : Renaming) → IsRenaming r → a.specifier ≡ b.specifier → Same r → (x y : TransformResult) →
      IsTransformed g a m first_alone x → IsTransformed h b n first_alone y → SameAnswer r x y
  transformed_alike first_alone r ok one s (Ok x) (Ok y) i j = record {
    program = both (SameSkeleton r) i.skeleton j.skeleton s.skeletons;
    comments = both (SameComments r) i.comments j.comments s.comments;
    sources = both (Each (SameStaticSource r)) i.sources j.sources (sources_same r ok s.skeletons);
  }
  transformed_alike first_alone r ok one s (Err ds) (Err es) i j =
      diagnosed_same r a b one first_alone (faults g a m) (faults h b n) ds.items es.items s.faults i.faults j.faults
  transformed_alike first_alone r ok one s (Ok x) (Err es) i j =
      absurd (true≢false (sym (j.ok.1 ((each_empty (SameFault r) (faults g a m) (faults h b n) s.faults).0 (i.ok.0 refl)))))
  transformed_alike first_alone r ok one s (Err ds) (Ok y) i j =
      absurd (true≢false (sym (i.ok.1 ((each_empty (SameFault r) (faults g a m) (faults h b n) s.faults).1 (j.ok.0 refl)))))
