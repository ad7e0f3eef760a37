-- The facts of a graph: what the finder may ask beside the tables of a module.
use Rattle.std.specs.Prelude.{Bool, false, cond, not, ◌||◌, List, Option, Some, None, option_map, codes, nat_eq}
use Rattle.std.specs.List.{starts_with}
use Rattle.std.specs.Map.{lookup}
use Rattle.std.specs.Option.{option_and_then, option_or}
use Rattle.std.specs.Str.{bytes_eq}
use Rattle.std.specs.Borrow.{Bor}
use Rattle.url.specs.Parts.{Parts, serialize}
use Rattle.fast_check_tables_packages.specs.Package.{Nv}
use Rattle.fast_check_tables_packages.specs.declared.package.WorkspaceMember.{WorkspaceMember}
use Rattle.fast_check_tables_packages.specs.Members.{member_nv, member_of}
use Rattle.fast_check_tables_packages.specs.MembersIn.{members_in}
use Rattle.fast_check_tables_cache.specs.Cache.{ItemView}
use Rattle.fast_check_tables_graph.specs.declared.graph.ModuleGraph.{ModuleGraph}
use Rattle.fast_check_tables_graph.specs.declared.module.Module.{Module}
use Rattle.fast_check_tables_graph.specs.declared.root_symbol.AnyModuleInfo.{AnyModuleInfo}
use Rattle.fast_check_tables_graph.specs.declared.root_symbol.RootSymbol.{RootSymbol}
use Rattle.fast_check_tables_graph.specs.Modules.{is_typed_module, is_external}
use Rattle.fast_check_tables_graph.specs.Root.{module_named}
use Rattle.fast_check_finder_demands.specs.declared.re_exports.modules.GraphModule.{GraphModule}
use Rattle.fast_check_finder_demands.specs.asked.Demands.{Text}
use Rattle.fast_check_finder_demands.specs.declared.facts.graph_facts.GraphFacts.{GraphFacts}

-- the item of a package with these entry points (in order, each once) that is used in place of what would be found
abbrev pub Used : Type 0
Used = Nv → List Parts → Option ItemView

-- without a cache no item is used
abbrev pub none_used : Used
none_used nv entry_points = None

-- the graph, the tables of modules by name, the members of the workspace, the URLs of packages, the package that a
-- specifier belongs to, and the items that are used
pub record Known : Type 0 where
  pub graph : ModuleGraph
  pub root_symbol : RootSymbol
  pub workspace_members : List WorkspaceMember
  pub url_of : Nv → Parts
  pub owner : Text → Option Nv
  pub used : Used

-- a file belongs to a member of the workspace, or to no package; other specifiers to what the provider says
abbrev pub owner_by : List WorkspaceMember → (Text → Option Nv) → Text → Option Nv
owner_by members nv_at t = cond (starts_with nat_eq t (codes "file:")) (option_map member_nv (member_of members t))
    (nv_at t)

abbrev pub known : GraphFacts → (Nv → Parts) → (Text → Option Nv) → Known
known s url_of nv_at = record {
  graph = s.graph.now;
  root_symbol = s.root_symbol.now;
  workspace_members = members_in s.workspace_members.now;
  url_of = url_of;
  owner = owner_by (members_in s.workspace_members.now) nv_at;
  used = none_used;
}

-- the same, with items that are used
abbrev pub with_used : Used → Known → Known
with_used used k = record {
  graph = k.graph;
  root_symbol = k.root_symbol;
  workspace_members = k.workspace_members;
  url_of = k.url_of;
  owner = k.owner;
  used = used;
}

abbrev pub is_text : Text → Parts → Bool
is_text t k = bytes_eq t (serialize k)

-- the module of the graph
abbrev pub node_at : ModuleGraph → Text → Option Module
node_at g t = lookup (is_text t) g.modules.entries

-- a module's own name goes before an alias
abbrev pub named_at : RootSymbol → Text → Option AnyModuleInfo
named_at r t = option_or (lookup (is_text t) r.modules.entries)
    (option_and_then (module_named r.modules.entries) (lookup (is_text t) r.aliases.entries))

abbrev pub lent : {X : Type 0} → X → Bor X
lent x = record { ref_ptr = (0, 0); now = x }

abbrev pub traced_as : Known → AnyModuleInfo → GraphModule
traced_as k info = record { graph = lent k.graph; root_symbol = lent k.root_symbol; info = lent info }

abbrev pub typed_info : RootSymbol → Text → Module → Option AnyModuleInfo
typed_info r t m = cond (is_typed_module m) (named_at r t) None

-- the module that is followed: one of the graph that is typed and has tables
abbrev pub info_at : ModuleGraph → RootSymbol → Text → Option AnyModuleInfo
info_at g r t = option_and_then (typed_info r t) (node_at g t)

abbrev pub module_at : Known → Text → Option GraphModule
module_at k t = option_map (traced_as k) (info_at k.graph k.root_symbol t)

-- a module of the graph whose types are not known, and which is not external
abbrev pub is_untyped : Option Module → Bool
is_untyped None = false
is_untyped (Some m) = not (is_typed_module m || is_external m)

abbrev pub untyped_at : ModuleGraph → Text → Bool
untyped_at g t = is_untyped (node_at g t)
