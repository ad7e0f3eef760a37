-- The law of two worlds of what is answered: an edit of what is hidden leaves both answers the same, under each
-- renaming under which the modules agree.
use Rattle.std.specs.Prelude.{◌≡◌, Ok, Err}
use Rattle.fast_check_transform_module.specs.Transform.{facts_of_module}
use Rattle.fast_check_tree_comments.specs.Kept.{kept}
use Rattle.fast_check_tables_graph.specs.declared.graph.ModuleGraph.{ModuleGraph}
use Rattle.fast_check_tables_modules.specs.EsModule.{EsModule}
use Rattle.fast_check_tables_modules.specs.diagnostics.PublicRanges.{PublicRanges}
use Rattle.fast_check_tables_diagnostics.specs.declared.parsed_source.tables.fast_check_module.FastCheckModule.{FastCheckModule}
use Rattle.fast_check_meaning_skeleton.specs.Hidden.{AgreeHidden}
use Rattle.fast_check_meaning_skeleton.specs.SameComments.{SameComments}
use Rattle.fast_check_meaning_skeleton.specs.Worlds.{SameSkeleton}
use Rattle.fast_check_tree_syntax.specs.Moves.{Renaming, IsRenaming}
use Rattle.fast_check_tree_syntax.specs.Same.{Each}
use Rattle.fast_check_transform_pair.specs.Compared.{SameStaticSource, SameDiagnostic}
use Rattle.fast_check_transform_pair.specs.Transformed.{TransformResult}

-- Two modules of one name that agree but for what is hidden. Of their media types it is asked whether both are those of
-- declaration files, or neither (`is_ambient` of `AgreeHidden`); of their comments, that those which a skeleton may
-- keep are the same at renamed positions.
pub record AgreePair (r : Renaming) (graph : ModuleGraph) (a : EsModule) (ranges_a : PublicRanges) (b : EsModule)
    (ranges_b : PublicRanges) : Type 0 where
  pub specifier : a.specifier ≡ b.specifier
  pub program : AgreeHidden r (facts_of_module graph a ranges_a) (facts_of_module graph b ranges_b) a.source.program
      b.source.program
  pub comments : SameComments r (kept a.source.comments) (kept b.source.comments)

-- two skeletons, with what stays and what they depend on
pub record SameModule (r : Renaming) (m n : FastCheckModule) : Type 0 where
  pub program : SameSkeleton r m.program n.program
  pub comments : SameComments r m.comments n.comments
  pub sources : Each (SameStaticSource r) m.module_info.sources.items n.module_info.sources.items

-- two answers: both are skeletons, or both diagnostics
abbrev pub SameAnswer : Renaming → TransformResult → TransformResult → Type 0
SameAnswer r (Ok m) (Ok n) = SameModule r m n
SameAnswer r (Err ds) (Err es) = Each (SameDiagnostic r) ds.items es.items
SameAnswer r _ _ = ⊥

-- under each renaming under which the modules agree, these answers are the same
abbrev pub KeepsHidden : ModuleGraph → EsModule → PublicRanges → EsModule → PublicRanges → TransformResult → TransformResult →
    Type 0
KeepsHidden graph a ranges_a b ranges_b x y = (r : Renaming) → IsRenaming r → AgreePair r graph a ranges_a b ranges_b →
    SameAnswer r x y
