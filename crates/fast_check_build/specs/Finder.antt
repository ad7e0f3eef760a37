-- What a finder is made for.
use Rattle.std.specs.Prelude.{List}
use Rattle.fast_check_tables_packages.specs.declared.package.PackageNv.{PackageNv}
use Rattle.fast_check_tables_packages.specs.declared.package.WorkspaceMember.{WorkspaceMember}
use Rattle.fast_check_tables_graph.specs.declared.graph.ModuleGraph.{ModuleGraph}
use Rattle.fast_check_tables_graph.specs.declared.root_symbol.RootSymbol.{RootSymbol}
use Rattle.fast_check_build.specs.declared.finder.PublicRangeFinder.{PublicRangeFinder}

-- the graph, the modules by their names, the members of the workspace, and the packages that are handed in
pub record Finder : Type 0 where
  pub graph : ModuleGraph
  pub root_symbol : RootSymbol
  pub workspace_members : List WorkspaceMember
  pub pending_nvs : List PackageNv

abbrev pub finder_of : PublicRangeFinder → Finder
finder_of f =
    record {
      graph = f.graph.now;
      root_symbol = f.root_symbol.now;
      workspace_members =
          f.workspace_members.now;
      pending_nvs = f.pending_nvs.items;
    }
