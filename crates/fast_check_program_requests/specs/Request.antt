-- What `transform` is asked, as JSON.
use Rattle.std.specs.Prelude.{◌≡◌, ℕ, List, Bool, if◌then◌else◌, codes, Option, Some, None, Result}
use Rattle.std.specs.Prelude.{MatchResult}
use Rattle.std.specs.List.{list_any}
use Rattle.std.specs.Rc.{rc_str_bytes}
use Rattle.serde_json.specs.Data.{Data}
use Rattle.serde_json.specs.Find.{as_str}
use Rattle.serde_json.specs.Written.{has_float}
use Rattle.url.specs.Parts.{Parts}
use Rattle.fast_check_tree_syntax.specs.declared.source.SourceRange.{SourceRange}
use Rattle.fast_check_tree_syntax.specs.declared.source.SyntaxContext.{SyntaxContext}
use Rattle.fast_check_tree_syntax.specs.declared.tree.Tree.{Tree}
use Rattle.fast_check_tree_comments.specs.declared.comments.Comments.{Comments}
use Rattle.fast_check_read.specs.declared.schema.form.Choice.TheVariants.{Program}
use Rattle.fast_check_read.specs.declared.schema.form.Form.TheVariants.{Choice}
use Rattle.fast_check_read.specs.declared.error.ReadError.{ReadError}
use Rattle.fast_check_read.specs.declared.error.ReadError.TheVariants.{BadForm}
use Rattle.fast_check_read.specs.Comments.{comments_of}
use Rattle.fast_check_read.specs.Pieces.{range_of_data}
use Rattle.fast_check_read.specs.Reading.{tree_of}
use Rattle.fast_check_tables_diagnostics.specs.declared.parsed_source.tables.parsed_source.ParsedSource.{ParsedSource}
use Rattle.fast_check_tables_diagnostics.specs.declared.parsed_source.tables.media_type.MediaType.{MediaType}
use Rattle.fast_check_tables_modules.specs.diagnostics.PublicRanges.{PublicRanges, is_public, is_implementation, same_range}
use Rattle.fast_check_json_tables.specs.graph.Reads.{given, needed, member_or, listed, flagged, context_of, url_of}
use Rattle.fast_check_json_tables.specs.graph.Modules.{media_type_of}
use Rattle.fast_check_json_tables.specs.Seen as seen
use Rattle.fast_check_json_tables.specs.Seen.{SeenTables}
use Rattle.fast_check_json_tables.specs.Tables.{tables_of}
use Rattle.fast_check_json_tables.specs.graph.Graph as graphs
use Rattle.fast_check_json_tables.specs.graph.Graph.{SeenGraph, graph_member_of}
use Rattle.fast_check_program_requests.specs.declared.request.EsModuleParts.{EsModuleParts}
use Rattle.fast_check_program_requests.specs.declared.request.TransformRequest.{TransformRequest}

-- a module's source
pub record Source : Type 0 where
  pub media_type : MediaType
  pub text : List ℕ
  pub program : Tree
  pub comments : Comments
  pub unresolved_context : SyntaxContext

-- a module: its name, its source and its tables
pub record Module : Type 0 where
  pub specifier : Parts
  pub source : Source
  pub tables : SeenTables

-- a module in the graph of modules, what is public of it, and whether its first fault is answered alone
pub record Request : Type 0 where
  pub graph : SeenGraph
  pub es_module : Module
  pub ranges : List SourceRange
  pub implementations : List SourceRange
  pub first : Bool

-- ---- what contracts see of the values that are made of it

abbrev pub source : ParsedSource → Source
source s = record {
  media_type = s.media_type;
  text = rc_str_bytes s.text;
  program = s.program;
  comments = s.comments;
  unresolved_context = s.unresolved_context;
}

abbrev pub es_module : EsModuleParts → Module
es_module m = record { specifier = m.specifier; source = source m.source; tables = seen.tables m.tables }

-- ---- what is read of JSON

-- a module or a script
abbrev pub program_of : Data → Option Tree
program_of value = tree_of value (Choice Program)

-- an object of the members media_type, text, program, comments and unresolved_context
abbrev pub source_of : Data → Option Source
source_of value =
    given (needed media_type_of (codes "media_type") value) (λ media_type.
    given (needed as_str (codes "text") value) (λ text.
    given (needed program_of (codes "program") value) (λ program.
    given (needed comments_of (codes "comments") value) (λ comments.
    given (member_or (record { 0 = 0 }) context_of (codes "unresolved_context") value) (λ unresolved_context.
    Some (record {
      media_type = media_type;
      text = text;
      program = program;
      comments = comments;
      unresolved_context =
          unresolved_context;
    }))))))

-- an object of the members specifier and source, and of those of tables
abbrev pub module_of : Data → Option Module
module_of value =
    given (needed url_of (codes "specifier") value) (λ specifier.
    given (needed source_of (codes "source") value) (λ source.
    given (tables_of value) (λ tables.
    Some (record { specifier = specifier; source = source; tables = tables }))))

-- an object of the members graph, module, ranges, impls and first
abbrev pub members_of_request : Data → Option Request
members_of_request value =
    given (listed range_of_data (codes "ranges") value) (λ ranges.
    given (listed range_of_data (codes "impls") value) (λ implementations.
    given (flagged (codes "first") value) (λ first.
    given (graph_member_of value) (λ graph.
    given (needed module_of (codes "module") value) (λ es_module.
    Some (record {
      graph = graph;
      es_module = es_module;
      ranges = ranges;
      implementations = implementations;
      first =
          first;
    }))))))

-- such an object, without a float anywhere
abbrev pub request_of : Data → Option Request
request_of value = if has_float value then None else members_of_request value

-- ---- the values that are made of it

-- exactly the ranges that are given are public, and implementations
pub record IsPublic (shown bodies : List SourceRange) (public : PublicRanges) : Type 0 where
  pub ranges : (r : SourceRange) → is_public public r ≡ list_any (same_range r) shown
  pub implementations : (r : SourceRange) → is_implementation public r ≡ list_any (same_range r) bodies

pub record IsRequest (asked : Request) (made : TransformRequest) : Type 0 where
  pub graph : graphs.graph made.graph ≡ asked.graph
  pub es_module : es_module made.es_module ≡ asked.es_module
  pub public_ranges : IsPublic asked.ranges asked.implementations made.public_ranges
  pub first : made.should_error_on_first_diagnostic ≡ asked.first

-- a call makes a value of what is expected, or answers `BadForm` where nothing is; it may run out of memory
abbrev pub Makes : {A B : Type 0} → (A → B → Type 0) → Option A → Result B ReadError → Type 0
Makes {A} Is expected result = MatchResult result (λ b. (a : A) × (expected ≡ Some a) × Is a b)
    (λ error. error ≡ BadForm → expected ≡ None)
