-- What the command `build` answers to the bytes of a file.
use Rattle.std.specs.Prelude.{ℕ, List, map, String}
use Rattle.std.specs.declared.alloc.Global.{Global}
use Rattle.fast_check_tables_packages.specs.Package.{Nv, nv_of}
use Rattle.fast_check_tables_packages.specs.declared.package.PackageNv.{PackageNv}
use Rattle.fast_check_tables_packages.specs.declared.package.WorkspaceMember.{WorkspaceMember}
use Rattle.fast_check_tables_packages.specs.declared.fault.BuildFault.TheVariants as faults
use Rattle.fast_check_tables_packages.specs.declared.listed.ListedPackages.{ListedPackages}
use Rattle.fast_check_tables_packages.specs.Listed.{url_in, nv_in, row_of, row_at}
use Rattle.fast_check_tables_graph.specs.declared.graph.ModuleGraph.{ModuleGraph}
use Rattle.fast_check_tables_graph.specs.declared.root_symbol.RootSymbol.{RootSymbol}
use Rattle.fast_check_finder_demands.specs.facts.GraphFacts.{Known}
use Rattle.fast_check_build.specs.finder.Refusals.{IsRefusal}
use Rattle.fast_check_build.specs.answers.PackageAnswer.{Answer}
use Rattle.fast_check_build.specs.Found.{known_of}
use Rattle.fast_check_build.specs.Build.{IsBuilt}
use Rattle.fast_check_program_requests.specs.declared.refusal.Refusal.{Refusal}
use Rattle.fast_check_program_requests.specs.declared.refusal.Refusal.TheVariants as refusals
use Rattle.fast_check_program_requests.specs.Input.{RefusesBy}
use Rattle.fast_check_program_requests.specs.declared.build_requests.request.BuildRequest.{BuildRequest}
use Rattle.fast_check_program_requests.specs.build_requests.Input.{HoldsBuild}
use Rattle.fast_check_program_requests.specs.build_requests.Request.{build_of}
use Rattle.fast_check_program_requests.specs.build_requests.Root.{IsRootOfParts, StandUnderNames, IsBuildFault}
use Rattle.fast_check_program_commands.specs.build_command.Line.{IsLineOf}

-- ---- modules and packages

-- what is known of them, where the packages are listed with their URLs
abbrev pub known_by : ModuleGraph → RootSymbol → List WorkspaceMember → ListedPackages → Known
known_by graph root members listed =
    known_of graph root members (λ nv. url_in listed.fallback (row_of listed.packages.items nv))
    (λ text. nv_in (row_at listed.packages.items text))

-- a package that follows from these has an export text that does not join to its URL
pub record HasInvalidExport (k : Known) (roots : List Nv) : Type 0 where
  pub nv : PackageNv
  pub text : String Global
  pub refused : IsRefusal k roots (faults.InvalidExport nv text)

-- why packages have no answers; memory may run out at any
abbrev pub IsExportRefusal : Known → List Nv → Refusal → Type 0
IsExportRefusal k roots refusals.InvalidExport = HasInvalidExport k roots
IsExportRefusal k roots refusals.OutOfMemory = Unit {0}
IsExportRefusal k roots _ = ⊥

-- ---- a request

-- its modules by their names, each without fault and under its own
pub record IsRootIn (asked : BuildRequest) (root : RootSymbol) : Type 0 where
  pub of_parts : IsRootOfParts asked.modules.items asked.aliases.items root
  pub own_names : StandUnderNames asked.modules.items

-- what is known in it
abbrev pub known_in : BuildRequest → RootSymbol → Known
known_in asked root = known_by asked.graph root asked.workspace_members.items asked.provider

-- the packages that are handed in
abbrev pub roots_in : BuildRequest → List Nv
roots_in asked = map nv_of asked.pending.items

-- these are the answers of the packages that are handed in, and of all that follow from them
pub record BuildsAnswers (asked : BuildRequest) (answers : List Answer) : Type 0 where
  pub root : RootSymbol
  pub is_root : IsRootIn asked root
  pub built : IsBuilt (known_in asked root) (roots_in asked) asked.should_error_on_first_diagnostic answers

-- the line is that of its answers
pub record AnswersBuild (asked : BuildRequest) (line : List ℕ) (status : ℕ) : Type 0 where
  pub answers : List Answer
  pub answered : BuildsAnswers asked answers
  pub is_line : IsLineOf answers line status

-- its modules are without fault, and an export text does not join
pub record LacksExport (asked : BuildRequest) : Type 0 where
  pub root : RootSymbol
  pub is_root : IsRootIn asked root
  pub invalid : HasInvalidExport (known_in asked root) (roots_in asked)

-- why it is refused: faults of tables before all else; memory may run out at any request
abbrev pub RefusesBuild : BuildRequest → Refusal → Type 0
RefusesBuild asked (refusals.TableFault fault) = IsBuildFault asked.modules.items fault
RefusesBuild asked refusals.InvalidExport = LacksExport asked
RefusesBuild asked refusals.OutOfMemory = Unit {0}
RefusesBuild asked _ = ⊥

-- ---- the bytes of the file

-- the line is the answer to the request in them
abbrev pub IsAnswerTo : List ℕ → List ℕ → ℕ → Type 0
IsAnswerTo bytes line status = (asked : BuildRequest) × HoldsBuild bytes asked × AnswersBuild asked line status

-- why they are refused
abbrev pub RefusesBytes : Refusal → List ℕ → Type 0
RefusesBytes refusal bytes = RefusesBy build_of HoldsBuild RefusesBuild bytes refusal
