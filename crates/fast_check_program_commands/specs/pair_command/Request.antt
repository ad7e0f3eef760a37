-- What `pair` is asked, as JSON.
use Rattle.std.specs.Prelude.{◌≡◌, ℕ, List, Bool, if◌then◌else◌, codes, Option, Some, None}
use Rattle.serde_json.specs.Data.{Data}
use Rattle.serde_json.specs.Written.{has_float}
use Rattle.fast_check_tree_syntax.specs.declared.source.SourceRange.{SourceRange}
use Rattle.fast_check_read.specs.Pieces.{range_of_data}
use Rattle.fast_check_json_tables.specs.graph.Reads.{given, needed, listed, flagged}
use Rattle.fast_check_json_tables.specs.graph.Graph as graphs
use Rattle.fast_check_json_tables.specs.graph.Graph.{SeenGraph, graph_member_of}
use Rattle.fast_check_program_requests.specs.Request.{Module, es_module, module_of, IsPublic}
use Rattle.fast_check_program_commands.specs.declared.pair_command.request.PairRequest.{PairRequest}
use Rattle.fast_check_program_commands.specs.declared.pair_command.request.Side as made

-- a module, with what is public of it
pub record Side : Type 0 where
  pub es_module : Module
  pub ranges : List SourceRange
  pub implementations : List SourceRange

-- two modules in one graph of modules, and whether the first fault of each is answered alone
pub record Pair : Type 0 where
  pub graph : SeenGraph
  pub a : Side
  pub b : Side
  pub first : Bool

-- members of these names: a module, its public ranges, and those of its implementations; ranges may be left out, and
-- are then none
abbrev pub side_of : List ℕ → List ℕ → List ℕ → Data → Option Side
side_of name ranges_name implementations_name value =
    given (listed range_of_data ranges_name value) (λ ranges.
    given (listed range_of_data implementations_name value) (λ implementations.
    given (needed module_of name value) (λ es_module.
    Some (record { es_module = es_module; ranges = ranges; implementations = implementations }))))

-- an object of the members graph, a, ranges_a, impls_a, b, ranges_b, impls_b and first
abbrev pub members_of_pair : Data → Option Pair
members_of_pair value =
    given (flagged (codes "first") value) (λ first.
    given (graph_member_of value) (λ graph.
    given (side_of (codes "a") (codes "ranges_a") (codes "impls_a") value) (λ a.
    given (side_of (codes "b") (codes "ranges_b") (codes "impls_b") value) (λ b.
    Some (record { graph = graph; a = a; b = b; first = first })))))

-- such an object, without a float anywhere
abbrev pub pair_of : Data → Option Pair
pair_of value = if has_float value then None else members_of_pair value

-- ---- the values that are made of it

-- the parts of the module, of which exactly the ranges that are given are public, and implementations
pub record IsSide (asked : Side) (side : made.Side) : Type 0 where
  pub es_module : es_module side.es_module ≡ asked.es_module
  pub public_ranges : IsPublic asked.ranges asked.implementations side.public_ranges

pub record IsPair (asked : Pair) (pair : PairRequest) : Type 0 where
  pub graph : graphs.graph pair.graph ≡ asked.graph
  pub a : IsSide asked.a pair.a
  pub b : IsSide asked.b pair.b
  pub first : pair.should_error_on_first_diagnostic ≡ asked.first
