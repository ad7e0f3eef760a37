-- Modules that agree but for what is hidden, in any graph, so that the law of two worlds speaks of something, and
-- beside two pairs the nearest edit that is not hidden. The trees of all but the last pair are those of the examples of
-- `fast_check_meaning_skeleton`: what agrees stands at the place of no text, and what comes and goes at 7. There are no comments.
use Rattle.std.specs.Prelude.{◌≡◌, [], ◌∷◌, List}
use Rattle.fast_check_tables_graph.specs.declared.graph.ModuleGraph.{ModuleGraph}
use Rattle.fast_check_tables_modules.specs.EsModule.{EsModule}
use Rattle.fast_check_tables_modules.specs.diagnostics.PublicRanges.{PublicRanges}
use Rattle.fast_check_tables_modules.specs.symbols.Tables.{symbol_of_swc}
use Rattle.fast_check_tables_diagnostics.specs.declared.parsed_source.tables.media_type.MediaType.TheVariants.{TypeScript}
use Rattle.fast_check_meaning_signatures.specs.NewNodes.{no_scope}
use Rattle.fast_check_meaning_skeleton.specs.expandos.Objects.{exports_name, stands_exported}
use Rattle.fast_check_meaning_skeleton.specs.Example.{at}
use Rattle.fast_check_meaning_skeleton.specs.ClassExample.{function_f, empty_statement, module_of, no_places}
use Rattle.fast_check_meaning_skeleton.specs.ExpandoExample.{assigned}
use Rattle.fast_check_meaning_skeleton.specs.HiddenChangesExample as changes
use Rattle.fast_check_meaning_skeleton.specs.PrivateClassExample as class
use Rattle.fast_check_meaning_skeleton.specs.SilentAssignmentExample.{silent}
use Rattle.fast_check_tree_syntax.specs.declared.atom.Id.{Id}
use Rattle.fast_check_tree_syntax.specs.declared.kind.Kind.TheVariants as kinds
use Rattle.fast_check_tree_syntax.specs.declared.source.SourceRange.{SourceRange}
use Rattle.fast_check_tree_syntax.specs.declared.tree.Tree as tree
use Rattle.fast_check_tree_syntax.specs.declared.tree.Tree.{Tree}
use Rattle.fast_check_tree_syntax.specs.Moves.{Renaming, IsRenaming}
use Rattle.fast_check_tree_syntax.specs.Shape.{none_range, node}
use Rattle.fast_check_transform_pair.specs.ParsedExample as parsed
use Rattle.fast_check_transform_pair.specs.Worlds.{AgreePair}

-- a module of the same name and tables, of this program in TypeScript, in which nothing binds the scope of new names
abbrev pub with_program : EsModule → Tree → EsModule
with_program info program = record {
  specifier = info.specifier;
  source = record (info.source) {
    media_type = TypeScript;
    program = program;
    comments = record { leading = []; trailing = [] };
    unresolved_context = no_scope;
  };
  tables = info.tables;
}

-- public are the place of no text, and these ranges
abbrev pub public_at : List SourceRange → PublicRanges
public_at ranges = record { ranges = none_range ∷ ranges; implementations = []; diagnostics = [] }

-- Two modules agree with these programs in place of their own. Of the first these ranges are public besides.
abbrev pub AgreeAs : Renaming → ModuleGraph → List SourceRange → EsModule → EsModule → Tree → Tree → Type 0
AgreeAs r graph ranges m n t u =
    AgreePair r graph (with_program m t) (public_at ranges) (with_program n u) (public_at [])

-- ---- a class comes and goes

-- `class H {} export const x: number = 1;`, with H at 7, agrees with `export const x: number = 1;`, whatever the tables
-- of either say. Where H is public the two agree under no renaming.
pub record OfPrivateClasses (graph : ModuleGraph) (m n : EsModule) : Type 0 where
  pub agree : AgreeAs no_places graph [] m n class.first class.second
  pub public_class : (r : Renaming) → IsRenaming r → AgreeAs r graph (at 7 17 ∷ []) m n class.first class.second → ⊥

-- ---- an assignment comes and goes

abbrev pub null : Tree
null = node kinds.Null (tree.Range none_range ∷ [])

-- `function f(): void {} f.a = null; f.b = c;`, with the second assignment at 7
abbrev pub first_assigned : Tree
first_assigned = module_of (function_f [] ∷ assigned null ∷ silent ∷ [])

-- `function f(): void { ; } f.a = null;`
abbrev pub second_assigned : Tree
second_assigned = module_of (function_f (empty_statement ∷ []) ∷ assigned null ∷ [])

abbrev pub name_f : Id
name_f = record { 0 = 102 ∷ []; 1 = no_scope }

-- The tables of both say the same of `f`, but for what else it exports: whether it exports `a`, and whether it stands
-- behind the keyword `export`.
pub record SameOfF (m n : EsModule) : Type 0 where
  pub exports_a :
      exports_name (symbol_of_swc m.tables name_f) (97 ∷ []) ≡ exports_name (symbol_of_swc n.tables name_f) (97 ∷ [])
  pub is_exported :
      stands_exported (symbol_of_swc m.tables name_f) ≡ stands_exported (symbol_of_swc n.tables name_f)

-- They agree, also where `f` exports `b` in the first alone. Where the assignment to `f.b` is public they do under no
-- renaming.
pub record OfSilentAssignments (graph : ModuleGraph) (m n : EsModule) : Type 0 where
  pub agree : SameOfF m n → AgreeAs no_places graph [] m n first_assigned second_assigned
  pub public_assignment : (r : Renaming) → IsRenaming r →
      AgreeAs r graph (at 7 14 ∷ []) m n first_assigned second_assigned → ⊥

-- ---- of any modules of one name

abbrev pub PrivateClasses : Type 0
PrivateClasses = (graph : ModuleGraph) (m n : EsModule) → m.specifier ≡ n.specifier → OfPrivateClasses graph m n

abbrev pub SilentAssignments : Type 0
SilentAssignments = (graph : ModuleGraph) (m n : EsModule) → m.specifier ≡ n.specifier → OfSilentAssignments graph m n

-- two versions of one module that differ by hidden changes of all eight kinds agree
abbrev pub AllChanges : Type 0
AllChanges = (graph : ModuleGraph) (m : EsModule) → AgreeAs no_places graph [] m m changes.first changes.second

-- ---- at the positions that a parser gives

abbrev pub exactly : List SourceRange → PublicRanges
exactly ranges = record { ranges = ranges; implementations = []; diagnostics = [] }

-- two modules that differ by hidden changes of all eight kinds, under the renaming of what is not hidden
pub record OfParsedChanges (graph : ModuleGraph) (m n : EsModule) : Type 0 where
  pub one_to_one : IsRenaming parsed.renaming
  pub agree : AgreePair parsed.renaming graph (with_program m parsed.first) (exactly parsed.first_public)
      (with_program n parsed.second) (exactly parsed.second_public)

abbrev pub ParsedChanges : Type 0
ParsedChanges = (graph : ModuleGraph) (m n : EsModule) → m.specifier ≡ n.specifier → OfParsedChanges graph m n
