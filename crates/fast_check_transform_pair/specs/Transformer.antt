-- What a transformer is, what it answers of its module, and what it keeps.
use Rattle.std.specs.Prelude.{Bool, List, [], Option, Some, None, if◌then◌else◌}
use Rattle.std.specs.declared.alloc.Global.{Global}
use Rattle.std.specs.declared.vec.Vec.{Vec}
use Rattle.fast_check_tree_syntax.specs.declared.tree.Tree.{Tree}
use Rattle.fast_check_tree_comments.specs.declared.comments.Comments.{Comments}
use Rattle.fast_check_tables_graph.specs.declared.graph.ModuleGraph.{ModuleGraph}
use Rattle.fast_check_tables_modules.specs.EsModule.{EsModule}
use Rattle.fast_check_tables_modules.specs.diagnostics.PublicRanges.{PublicRanges}
use Rattle.fast_check_tables_modules.specs.diagnostics.declared.diagnostics.FastCheckDiagnostic.{FastCheckDiagnostic}
use Rattle.fast_check_meaning_signatures.specs.declared.fault.Fault.{Fault}
use Rattle.fast_check_transform_module.specs.Transform.{skeleton, comments, faults}
use Rattle.fast_check_transform_pair.specs.declared.transformer.FastCheckTransformer.{FastCheckTransformer}

-- a module of a graph with what is public of it, whether its first fault is answered alone, and the diagnostics that
-- are kept
pub record Transformer : Type 0 where
  pub graph : ModuleGraph
  pub es_module_info : EsModule
  pub public_ranges : PublicRanges
  pub first_alone : Bool
  pub diagnostics : List FastCheckDiagnostic

-- before the first call nothing is reported
abbrev pub diagnosed_so_far : Option (Vec FastCheckDiagnostic Global) → List FastCheckDiagnostic
diagnosed_so_far None = []
diagnosed_so_far (Some diagnostics) = diagnostics.items

-- what a transformer stands for
abbrev pub transformer_of : FastCheckTransformer → Transformer
transformer_of t = record {
  graph = t.graph.now;
  es_module_info = t.es_module_info.now;
  public_ranges = t.public_ranges.now;
  first_alone = t.should_error_on_first_diagnostic;
  diagnostics = diagnosed_so_far t.diagnostics;
}

-- the skeleton of its module, and the comments that stay with it
abbrev pub own_skeleton : Transformer → Tree
own_skeleton transformer = skeleton transformer.graph transformer.es_module_info transformer.public_ranges

abbrev pub own_comments : Transformer → Comments
own_comments transformer = comments transformer.graph transformer.es_module_info transformer.public_ranges

-- what is wrong with its module, in reading order
abbrev pub own_faults : Transformer → List Fault
own_faults transformer = faults transformer.graph transformer.es_module_info transformer.public_ranges

-- those of which it keeps the diagnostics: none where the first is answered alone, and else all
abbrev pub kept_faults : Transformer → List Fault
kept_faults transformer = if transformer.first_alone then [] else own_faults transformer
