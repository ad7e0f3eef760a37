-- The entry points of a package, and what is wrong with them.
use Rattle.std.specs.Prelude.{◌≡◌, ℕ, cond, List, [], map, fold, Option, Some, None, option_map, is_none}
use Rattle.std.specs.Prelude.{option_to_list}
use Rattle.std.specs.Prelude.{String, string_bytes}
use Rattle.std.specs.List.{find, flat_map}
use Rattle.std.specs.Map.{values_of}
use Rattle.std.specs.Option.{option_or}
use Rattle.std.specs.Result.{result_ok}
use Rattle.std.specs.Ordering.{nat_cmp}
use Rattle.std.specs.Cmp.Lexicographic.{slice_cmp}
use Rattle.std.specs.BTreeSet.{BTreeSet, insert_key}
use Rattle.std.specs.declared.alloc.Global.{Global}
use Rattle.std.specs.declared.rc.Rc.{Rc}
use Rattle.url.specs.Parts.{Parts, serialize}
use Rattle.url.specs.Parser.{parse_url}
use Rattle.fast_check_tables_packages.specs.Package.{Nv, nv_of}
use Rattle.fast_check_tables_packages.specs.declared.package.WorkspaceMember.{WorkspaceMember}
use Rattle.fast_check_tables_packages.specs.Members.{member_named}
use Rattle.fast_check_tables_graph.specs.declared.graph.ModuleGraph.{ModuleGraph}
use Rattle.fast_check_tables_graph.specs.declared.module.Module.{Module}
use Rattle.fast_check_tables_graph.specs.Graph.{module_at, exports_of}
use Rattle.fast_check_tables_graph.specs.Modules.{is_typed_module}
use Rattle.fast_check_tables_packages.specs.declared.fault.BuildFault.{BuildFault}
use Rattle.fast_check_tables_packages.specs.declared.fault.BuildFault.TheVariants.{InvalidExport, OutOfMemory}
use Rattle.fast_check_finder_ranges.specs.declared.findings.found.EntryFault.{EntryFault}
use Rattle.fast_check_finder_ranges.specs.declared.findings.found.EntryFault.TheVariants.{NotFound, Untyped}

-- exports

-- export names with their texts
abbrev pub Exports : Type 0
Exports = List (String Global × String Global)

abbrev pub member_exports : WorkspaceMember → Exports
member_exports m = m.exports.entries

-- the exports of a package: those that the graph has, else those of the member
abbrev pub exports_at : ModuleGraph → Option WorkspaceMember → Nv → Option Exports
exports_at g member nv = option_or (exports_of g nv) (option_map member_exports member)

abbrev pub texts_of : Exports → List (List ℕ)
texts_of exports = map string_bytes (values_of exports)

-- what they are joined to: the base of the member, also where the graph has the exports, else the URL of the package
abbrev pub base_or : Parts → Option WorkspaceMember → Parts
base_or url None = url
base_or url (Some m) = m.base

-- entry points

abbrev pub joined : Parts → List ℕ → Option Parts
joined base text = result_ok (parse_url (Some base) text)

abbrev pub all_joined : Parts → List (List ℕ) → List Parts
all_joined base texts = flat_map (λ t. option_to_list (joined base t)) texts

-- the first text, in the order of the exports, that does not join
abbrev pub first_refused : Parts → List (List ℕ) → Option (List ℕ)
first_refused base texts = find (λ t. is_none (joined base t)) texts

-- a URL at its place in the order of their texts, unless its text stands there
abbrev pub put_url : List Parts → Parts → List Parts
put_url urls url = insert_key (λ a b. slice_cmp nat_cmp (serialize a) (serialize b)) urls url

-- in the order of their texts, each once
abbrev pub in_order : List Parts → List Parts
in_order urls = fold put_url [] urls

-- A package is passed over where its exports are not known, refused for a text that does not join, or entered at these
-- modules, which stand in the order of their texts, each once.
pub data Entrance : Type 0 where
  passed_over : Entrance
  refused : List ℕ → Entrance
  entered : List Parts → Entrance

abbrev pub unless_refused : Option (List ℕ) → List Parts → Entrance
unless_refused None urls = entered urls
unless_refused (Some text) urls = refused text

abbrev pub entrance_by : Parts → Option Exports → Entrance
entrance_by base None = passed_over
entrance_by base (Some exports) = unless_refused (first_refused base (texts_of exports))
    (in_order (all_joined base (texts_of exports)))

abbrev pub entrance_as : ModuleGraph → Option WorkspaceMember → (Nv → Parts) → Nv → Entrance
entrance_as g member url_of nv = entrance_by (base_or (url_of nv) member) (exports_at g member nv)

abbrev pub entrance_of : ModuleGraph → List WorkspaceMember → (Nv → Parts) → Nv → Entrance
entrance_of g members url_of nv = entrance_as g (member_named members nv) url_of nv

-- what is answered

abbrev pub entrance_seen : Option (Rc (BTreeSet Parts) Global) → Entrance
entrance_seen None = passed_over
entrance_seen (Some urls) = entered urls.value.keys

-- the fault tells the text of the package, if there is one. Where memory runs out nothing is said
abbrev pub Diagnoses : Nv → Option (List ℕ) → BuildFault → Type 0
Diagnoses nv text (InvalidExport p t) = (nv_of p ≡ nv) × (text ≡ Some (string_bytes t))
Diagnoses nv text OutOfMemory = Unit {0}

-- the fault tells the package, and the text for which it is refused
abbrev pub DiagnosesRefused : Nv → Entrance → BuildFault → Type 0
DiagnosesRefused nv entrance (InvalidExport p t) = (nv_of p ≡ nv) × (entrance ≡ refused (string_bytes t))
DiagnosesRefused nv entrance OutOfMemory = Unit {0}

-- faults of entry points

-- the graph does not have it, or has it and its types are not known, as those of an external module
abbrev pub fault_of : Option Module → Option EntryFault
fault_of None = Some NotFound
fault_of (Some m) = cond (is_typed_module m) None (Some Untyped)

abbrev pub fault_at : ModuleGraph → Parts → Option EntryFault
fault_at g url = fault_of (module_at g url)

abbrev pub faults_at : ModuleGraph → Parts → List (Parts × EntryFault)
faults_at g url = map (λ f. (url, f)) (option_to_list (fault_at g url))

abbrev pub all_faults : ModuleGraph → List Parts → List (Parts × EntryFault)
all_faults g urls = flat_map (faults_at g) urls
