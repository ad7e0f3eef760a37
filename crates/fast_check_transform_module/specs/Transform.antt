-- What a transform answers.
use Rattle.std.specs.Prelude.{List}
use Rattle.fast_check_tree_syntax.specs.declared.tree.Tree.{Tree}
use Rattle.fast_check_tables_graph.specs.declared.graph.ModuleGraph.{ModuleGraph}
use Rattle.fast_check_tables_modules.specs.EsModule.{EsModule}
use Rattle.fast_check_tables_graph.specs.Graph.{resolutions_of}
use Rattle.fast_check_transform_imports.specs.module_facts.ModuleFacts.{facts_by}
use Rattle.fast_check_transform_statements.specs.skeleton.ModuleFacts.{ModuleFacts}
use Rattle.fast_check_transform_imports.specs.StaticSources.{static_sources}
use Rattle.fast_check_tables_modules.specs.diagnostics.PublicRanges.{PublicRanges}
use Rattle.fast_check_tables_diagnostics.specs.declared.parsed_source.tables.fast_check_module.StaticSource.{StaticSource}
use Rattle.fast_check_meaning_signatures.specs.declared.fault.Fault.{Fault}
use Rattle.fast_check_transform_statements.specs.skeleton.Skeleton.{skeleton_of, faults_of}
use Rattle.fast_check_transform_statements.specs.skeleton.KeptComments.{kept_comments}
use Rattle.fast_check_tree_comments.specs.declared.comments.Comments.{Comments}

-- what it is asked beside its tree
abbrev pub facts_of_module : ModuleGraph → EsModule → PublicRanges → ModuleFacts
facts_of_module graph info public = facts_by (resolutions_of graph info.specifier) info public

-- the skeleton of a module
abbrev pub skeleton : ModuleGraph → EsModule → PublicRanges → Tree
skeleton graph info public = skeleton_of (facts_of_module graph info public) info.source.program

-- what it depends on
abbrev pub sources : ModuleGraph → EsModule → PublicRanges → List StaticSource
sources graph info public = static_sources (skeleton graph info public)

-- what is wrong with a module, in reading order
abbrev pub faults : ModuleGraph → EsModule → PublicRanges → List Fault
faults graph info public = faults_of (facts_of_module graph info public) info.source.program

-- the comments that stay with it
abbrev pub comments : ModuleGraph → EsModule → PublicRanges → Comments
comments graph info public = kept_comments (facts_of_module graph info public) info.source.program info.source.comments
