-- Of two modules that agree but for what is hidden, what `transform` answers is the same.
use Rattle.std.specs.Prelude.{◌≡◌, Bool, Ok, Err, refl}
use Rattle.std.proofs.Common.{sym, subst, true≢false}
use Rattle.fast_check_tables_graph.specs.declared.graph.ModuleGraph.{ModuleGraph}
use Rattle.fast_check_transform_module.specs.Transform.{facts_of_module, faults}
use Rattle.fast_check_tables_modules.specs.EsModule.{EsModule}
use Rattle.fast_check_tables_modules.specs.diagnostics.PublicRanges.{PublicRanges}
use Rattle.fast_check_meaning_skeleton.specs.SameComments.{SameComments}
use Rattle.fast_check_meaning_skeleton.specs.Worlds.{SameSkeleton, SameFault, SameAnswers}
use Rattle.fast_check_meaning_skeleton.proofs.CommentsAlike.{two_worlds}
use Rattle.fast_check_tree_syntax.specs.Moves.{Renaming, IsRenaming}
use Rattle.fast_check_tree_syntax.specs.Same.{Each}
use Rattle.fast_check_transform_pair.specs.Transformed.{TransformResult, IsTransformed}
use Rattle.fast_check_transform_pair.specs.Compared.{SameStaticSource}
use Rattle.fast_check_transform_pair.specs.Worlds.{SameAnswer, KeepsHidden}
use Rattle.fast_check_transform_pair.proofs.SameSources.{sources_same}
use Rattle.fast_check_transform_pair.proofs.SameDiagnosed.{each_empty, diagnosed_same}

-- equal values on both sides, in place of those that are related
both : {A : Type 0} (R : A → A → Type 0) {x y v w : A} → x ≡ v → y ≡ w → R v w → R x y
both R {x = x} {w = w} p q h = subst (R x) (sym q) (subst (λ v. R v w) (sym p) h)

module _ (graph : ModuleGraph) (a : EsModule) (ranges_a : PublicRanges) (b : EsModule) (ranges_b : PublicRanges) (first_alone : Bool) where
  abbrev Same : Renaming → Type 0
  Same r =
      SameAnswers r (facts_of_module graph a ranges_a) a.source.program a.source.comments
      (facts_of_module graph b ranges_b) b.source.program b.source.comments

  answer_same : (r : Renaming) → IsRenaming r → a.specifier ≡ b.specifier → Same r → (x y : TransformResult) →
      IsTransformed graph a ranges_a first_alone x → IsTransformed graph b ranges_b first_alone y → SameAnswer r x y
  answer_same r ok one h (Ok m) (Ok n) i j = record {
    program = both (SameSkeleton r) i.skeleton j.skeleton h.skeletons;
    comments = both (SameComments r) i.comments j.comments h.comments;
    sources = both (Each (SameStaticSource r)) i.sources j.sources (sources_same r ok h.skeletons);
  }
  answer_same r ok one h (Err ds) (Err es) i j =
      diagnosed_same r a b one first_alone (faults graph a ranges_a) (faults graph b ranges_b) ds.items es.items h.faults i.faults j.faults
  answer_same r ok one h (Ok m) (Err es) i j =
      absurd (true≢false
      (sym (j.ok.1 ((each_empty (SameFault r) (faults graph a ranges_a) (faults graph b ranges_b) h.faults).0 (i.ok.0 refl)))))
  answer_same r ok one h (Err ds) (Ok n) i j =
      absurd (true≢false
      (sym (i.ok.1 ((each_empty (SameFault r) (faults graph a ranges_a) (faults graph b ranges_b) h.faults).1 (j.ok.0 refl)))))

  pub keeps_hidden : (x y : TransformResult) → IsTransformed graph a ranges_a first_alone x → IsTransformed graph b ranges_b first_alone y →
      KeepsHidden graph a ranges_a b ranges_b x y
  keeps_hidden x y i j r ok h =
      answer_same r ok h.specifier
      (two_worlds (facts_of_module graph a ranges_a) a.source.program a.source.comments
      (facts_of_module graph b ranges_b) b.source.program b.source.comments
      r ok h.program h.comments) x y i j
