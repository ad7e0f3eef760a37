-- What is answered to a module. A tree that is the skeleton of a module without faults stands in the grammar.
use Rattle.std.specs.Prelude.{◌≡◌, List, [], ◌++◌}
use Rattle.std.proofs.Common.{ap, ◌∙◌, subst, sym}
use Rattle.fast_check_transform_statements.specs.nodes.Bindings.{bindings_of}
use Rattle.fast_check_tree_syntax.specs.declared.tree.Tree.{Tree}
use Rattle.fast_check_tree_syntax.specs.Shape.{parts, list}
use Rattle.fast_check_tree_forms_programs.specs.Programs.{Module-span, Module-body, Module-shebang, module'}
use Rattle.fast_check_tables_graph.specs.declared.graph.ModuleGraph.{ModuleGraph}
use Rattle.fast_check_tables_modules.specs.EsModule.{EsModule}
use Rattle.fast_check_tables_diagnostics.specs.parsed_source.MediaType.{is_declaration}
use Rattle.fast_check_tables_modules.specs.diagnostics.PublicRanges.{PublicRanges}
use Rattle.fast_check_meaning_signatures.specs.declared.fault.Fault.{Fault}
use Rattle.fast_check_meaning_signatures.specs.Answers.{Adds}
use Rattle.fast_check_transform_statements.specs.skeleton.Grammar.{IsSkeleton}
use Rattle.fast_check_transform_statements.specs.skeleton.ModuleFacts.{ModuleFacts}
use Rattle.fast_check_transform_statements.proofs.skeleton_proofs.Standing.{skeleton_stands}
use Rattle.fast_check_transform_module.specs.PartAnswers.{items_answer}
use Rattle.fast_check_transform_module.specs.Transform.{facts_of_module, skeleton, faults}

module _ (graph : ModuleGraph) (info : EsModule) (public : PublicRanges) {facts : ModuleFacts} {seen items : List Tree}
    {old fs : List Fault} (h : Adds (items_answer facts seen) items old fs) (e : facts ≡ facts_of_module graph info public)
    (p : seen ≡ parts (Module-body info.source.program)) (o : old ≡ []) where
  abbrev module_of : List Tree → Tree
  module_of ts = module' (Module-span info.source.program) (list ts) (Module-shebang info.source.program)

  pub skeleton_is : {t : Tree} → t ≡ module_of items → t ≡ skeleton graph info public
  unfolding items_answer
  skeleton_is q = q ∙ ap module_of (sym (ap (λ a. a.stays) h.is) ∙ (λ i. (items_answer (e i) (p i)).stays))

  pub faults_are : fs ≡ faults graph info public
  unfolding items_answer
  faults_are = h.faults ∙ (ap (λ old. old ++ h.added) o ∙ (sym (ap (λ a. a.faults) h.is) ∙ (λ i. (items_answer (e i) (p i)).faults)))

pub in_grammar : (graph : ModuleGraph) (info : EsModule) (public : PublicRanges) {t : Tree} → t ≡ skeleton graph info public →
    faults graph info public ≡ [] → IsSkeleton (bindings_of info) (is_declaration info.source.media_type) t
in_grammar graph info public e n =
    subst (IsSkeleton (bindings_of info) (is_declaration info.source.media_type)) (sym e)
    (skeleton_stands (facts_of_module graph info public) info.source.program n)
