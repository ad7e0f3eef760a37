-- Inner: no contract of a public call cites what stands here.
-- Where a name comes from behind re-exports of all: the first that has it, with the module that answers it. It is found
-- in an index of the names behind them.
use Rattle.std.specs.Prelude.{◌≡◌, ℕ, Bool, true, is_some, List, [], ◌∷◌, Option, None, option_map, String}
use Rattle.std.specs.Option.{option_or, option_and_then}
use Rattle.std.specs.Borrow.{Bor}
use Rattle.std.specs.Map.{lookup}
use Rattle.std.specs.Str.{bytes_eq}
use Rattle.std.specs.declared.alloc.Global.{Global}
use Rattle.std.specs.BTreeMap as tree
use Rattle.std.specs.BTreeMap.{BTreeMap}
use Rattle.std.specs.BTreeSet.{BTreeSet, contains_by}
use Rattle.std.specs.Cmp.Lexicographic.{slice_cmp}
use Rattle.std.specs.Ordering.{nat_cmp}
use Rattle.url.specs.Parts.{Parts, serialize}
use Rattle.fast_check_finder_lattice.specs.Names.{Name}
use Rattle.fast_check_tables_modules.specs.symbols.declared.tables.ReExportAllNode.{ReExportAllNode}
use Rattle.fast_check_tables_modules.specs.symbols.Tables.{resolved_export, answered_names}
use Rattle.fast_check_tables_graph.specs.Root.{found_module}
use Rattle.fast_check_finder_demands.specs.declared.re_exports.modules.GraphModule.{GraphModule}
use Rattle.fast_check_finder_demands.specs.declared.re_exports.origins.Origin.{Origin}
use Rattle.fast_check_finder_demands.specs.declared.re_exports.origins.ReExportIndex.{ReExportIndex}
use Rattle.fast_check_finder_demands.specs.re_exports.Modules.{tables_in, own_tables, answer_of}

-- a re-export of all, with the module that answers a name behind it
abbrev pub Answered : Type 0
Answered = ReExportAllNode × Parts

abbrev pub origin_of : Origin → Answered
origin_of o = (o.node.now, o.module.now)

-- the first answer
abbrev pub first_some : {X Y : Type 0} → (X → Option Y) → List X → Option Y
first_some f [] = None
first_some f (x ∷ xs) = option_or (f x) (first_some f xs)

-- behind one re-export of all
abbrev pub origin_at : GraphModule → Name → ReExportAllNode → Option Answered
origin_at m name x = option_map (λ url. (x, url)) (answer_of m name x)

abbrev pub first_origin : GraphModule → Name → List ReExportAllNode → Option Answered
first_origin m name nodes = first_some (origin_at m name) nodes

-- behind the re-exports of all of a module
abbrev pub own_origin : GraphModule → Name → Option Answered
own_origin m name = first_origin m name (own_tables m).re_exports

-- among the exported names of one module
abbrev pub entries_origin : Name → ReExportAllNode → List (String Global × Parts) → Option Answered
entries_origin name x entries = option_map (λ url. (x, url)) (lookup (bytes_eq name) (answered_names entries))

-- in an index
abbrev pub indexed : Name → BTreeMap (Bor (List ℕ)) Origin → Option Answered
indexed name names = option_map origin_of (tree.get_by (λ k. slice_cmp nat_cmp name k.now) names)

-- each name is found where it comes from
abbrev pub IsIndexOf : GraphModule → ReExportIndex → Type 0
IsIndexOf m index = (name : Name) → indexed name index.names ≡ own_origin m name

-- how it is made

-- what the module at a URL answers
abbrev pub module_answer : GraphModule → Name → Parts → Option Parts
module_answer m name url = option_and_then (λ other. resolved_export (tables_in other) name)
    (found_module m.root_symbol.now url)

-- a URL was met
abbrev pub is_met : Parts → BTreeSet (Bor (List ℕ)) → Bool
is_met url met = contains_by (λ k. slice_cmp nat_cmp (serialize url) k.now) met

-- each name of the module at a URL that was met is in the index
abbrev pub AreFound : GraphModule → BTreeSet (Bor (List ℕ)) → BTreeMap (Bor (List ℕ)) Origin → Type 0
AreFound m met names = (url : Parts) (name : Name) → is_met url met ≡ true → is_some (module_answer m name url) ≡ true →
    is_some (indexed name names) ≡ true

-- what is answered of each name comes behind what the index has of it
pub record Puts (m : GraphModule) (answer : Name → Option Answered) (met : BTreeSet (Bor (List ℕ)))
    (old new : BTreeMap (Bor (List ℕ)) Origin) : Type 0 where
  pub adds : (name : Name) → indexed name new ≡ option_or (indexed name old) (answer name)
  pub found : AreFound m met new
