-- What `build` is asked, as JSON.
use Rattle.std.specs.Prelude.{List, Bool, if◌then◌else◌, codes, Option, None, option_map, map}
use Rattle.serde_json.specs.Data.{Data}
use Rattle.serde_json.specs.Written.{has_float}
use Rattle.url.specs.Parts.{Parts}
use Rattle.fast_check_tables_packages.specs.Package.{Nv, nv_of}
use Rattle.fast_check_json_tables.specs.graph.Reads.{given, both_of, needed, listed, flagged, url_of}
use Rattle.fast_check_json_tables.specs.graph.Graph as graphs
use Rattle.fast_check_json_tables.specs.graph.Graph.{SeenGraph, graph_member_of, package_of}
use Rattle.fast_check_json_tables.specs.graph.Workspace.{SeenMember, workspace_member, workspace_member_of}
use Rattle.fast_check_program_requests.specs.build_requests.ModuleParts.{SeenModule, module_parts, module_parts_of}
use Rattle.fast_check_program_requests.specs.build_requests.Provider.{SeenProvider, provider, provider_of}
use Rattle.fast_check_program_requests.specs.declared.build_requests.request.BuildRequest.{BuildRequest}

-- what contracts see of a request: the graph of modules, the modules under their names, the names that stand for
-- others, the members of the workspace, the packages with their URLs, those that are followed, and whether the first
-- fault of each is answered alone
pub record SeenBuild : Type 0 where
  pub graph : SeenGraph
  pub modules : List (Parts × SeenModule)
  pub aliases : List (Parts × Parts)
  pub workspace_members : List SeenMember
  pub provider : SeenProvider
  pub pending : List Nv
  pub first : Bool

abbrev pub build : BuildRequest → SeenBuild
build b = record {
  graph = graphs.graph b.graph;
  modules = map (λ e. (e.0, module_parts e.1)) b.modules.items;
  aliases = b.aliases.items;
  workspace_members = map workspace_member b.workspace_members.items;
  provider = provider b.provider;
  pending = map nv_of b.pending.items;
  first = b.should_error_on_first_diagnostic;
}

-- an object of the members graph, modules, aliases, workspace_members, provider, pending and first: all may be left out
-- but the graph and the provider
abbrev pub members_of_build : Data → Option SeenBuild
members_of_build value =
    given (graph_member_of value) (λ graph.
    given (listed (both_of url_of module_parts_of) (codes "modules") value) (λ modules.
    given (listed (both_of url_of url_of) (codes "aliases") value) (λ aliases.
    given (listed workspace_member_of (codes "workspace_members") value) (λ workspace_members.
    given (needed provider_of (codes "provider") value) (λ provider.
    given (listed package_of (codes "pending") value) (λ pending.
    option_map (λ first. record {
      graph = graph;
      modules = modules;
      aliases = aliases;
      workspace_members = workspace_members;
      provider = provider;
      pending = pending;
      first = first;
    }) (flagged (codes "first") value)))))))

-- such an object, without a float anywhere
abbrev pub build_of : Data → Option SeenBuild
build_of value = if has_float value then None else members_of_build value
