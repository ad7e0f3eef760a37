-- The modules of the examples agree, and their nearest edits do not.
use Rattle.std.specs.Prelude.{◌≡◌, ℕ, Option, List, [], ◌∷◌, map, refl}
use Rattle.std.proofs.Common.{inl, ap, ◌∙◌, sym}
use Rattle.fast_check_transform_nodes.specs.Bindings.{bindings_of}
use Rattle.fast_check_tree_comments.specs.declared.comments.Comments.{Comments}
use Rattle.fast_check_tree_comments.specs.Kept.{kept}
use Rattle.fast_check_transform_module.specs.Transform.{facts_of_module}
use Rattle.fast_check_tables_graph.specs.declared.graph.ModuleGraph.{ModuleGraph}
use Rattle.fast_check_tables_graph.specs.Graph.{resolutions_of}
use Rattle.fast_check_tables_modules.specs.EsModule.{EsModule}
use Rattle.fast_check_tables_modules.specs.diagnostics.PublicRanges.{PublicRanges, is_public}
use Rattle.fast_check_tables_modules.specs.symbols.Tables.{symbol_of_swc}
use Rattle.fast_check_meaning_signatures.specs.NewNodes.{no_scope}
use Rattle.fast_check_meaning_expandos.specs.Assignments.{is_declared, mentioned_by}
use Rattle.fast_check_meaning_expandos.specs.Expandos.{object_of}
use Rattle.fast_check_meaning_expandos.specs.ModuleObjects.{objects_of}
use Rattle.fast_check_meaning_expandos.specs.Objects.{Objects, exports_name, stands_exported}
use Rattle.fast_check_transform_imports.specs.module_facts.Sources.{relative_source}
use Rattle.fast_check_meaning_skeleton.specs.Example.{at}
use Rattle.fast_check_meaning_skeleton.specs.ModuleFacts.{ModuleFacts}
use Rattle.fast_check_meaning_skeleton.specs.ClassExample.{no_places}
use Rattle.fast_check_meaning_skeleton.specs.ExpandoExample.{target, assignment, x_value}
use Rattle.fast_check_meaning_skeleton.specs.HiddenChangesExample as changes
use Rattle.fast_check_meaning_skeleton.specs.PrivateClassExample as class
use Rattle.fast_check_meaning_skeleton.specs.SameComments.{SameComments}
use Rattle.fast_check_meaning_skeleton.specs.SameAssignments.{SameObject}
use Rattle.fast_check_meaning_skeleton.proofs.Example.{context_of_context}
use Rattle.fast_check_meaning_skeleton.proofs.SilentAssignmentExample.{property_is}
use Rattle.fast_check_meaning_skeleton.proofs.ExpandoExample.{object_name as object_text}
use Rattle.fast_check_tree_syntax.specs.declared.atom.Id.{Id}
use Rattle.fast_check_tree_syntax.specs.declared.tree.Tree.{Tree}
use Rattle.fast_check_tree_syntax.specs.Moves.{IsPair}
use Rattle.fast_check_tree_syntax.proofs.Made.{part_node}
use Rattle.fast_check_transform_pair.specs.Examples.{with_program, public_at, first_assigned, second_assigned, name_f, SameOfF}
use Rattle.fast_check_transform_pair.specs.Examples.{PrivateClasses, SilentAssignments, AllChanges, ParsedChanges}
use Rattle.fast_check_transform_pair.specs.ParsedExample as parsed
use Rattle.fast_check_transform_pair.proofs.ExampleModules.{classes_agree, assignments_agree, changes_agree, public_class_differs}
use Rattle.fast_check_transform_pair.proofs.ExampleModules.{public_assignment_differs}
use Rattle.fast_check_transform_pair.proofs.ParsedExample.{is_renaming, parsed_agree}

-- ---- what is known of these modules

abbrev objects : EsModule → Tree → Objects
objects m t = objects_of (with_program m t)

unresolved : (m n : EsModule) (t u : Tree) →
    IsPair no_places.scopes (bindings_of (with_program m t)).unresolved.0 (bindings_of (with_program n u)).unresolved.0
unfolding bindings_of
unresolved m n t u = inl (refl, refl)

-- by the tables alone
objects_one : (m : EsModule) (t u : Tree) → objects m t ≡ objects m u
unfolding objects_of
objects_one m t u = refl

exports_are : (m : EsModule) (t : Tree) (id : Id) (name : List ℕ) →
    (objects m t).exports id name ≡ exports_name (symbol_of_swc m.tables id) name
unfolding objects_of
exports_are m t id name = refl

keyword_is : (m : EsModule) (t : Tree) (id : Id) → (objects m t).has_export_keyword id ≡ stands_exported (symbol_of_swc m.tables id)
unfolding objects_of
keyword_is m t id = refl

object_scope : (object_of target).1 ≡ no_scope
object_scope = simp (part_node, context_of_context)

object_is : object_of target ≡ name_f
object_is = λ i. record { 0 = object_text i; 1 = object_scope i }

module _ (graph : ModuleGraph) where
  abbrev of : EsModule → PublicRanges → Tree → ModuleFacts
  of m ranges t = facts_of_module graph (with_program m t) ranges

  abbrev sources : EsModule → Tree → List ℕ → Option (List ℕ)
  sources m t = relative_source (resolutions_of graph m.specifier) (with_program m t).specifier

  same_object : (m n : EsModule) (t u : Tree) → SameOfF m n →
      SameObject no_places (of m (public_at []) t) (of n (public_at []) u) target target
  same_object m n t u e = record {
    is_declared = declared m t ∙ (e.exports_a ∙ sym (declared n u));
    has_export_keyword = keyword m t ∙ (e.is_exported ∙ sym (keyword n u));
  }
    where
      declared : (m : EsModule) (t : Tree) → is_declared (objects m t) target ≡ exports_name (symbol_of_swc m.tables name_f) (97 ∷ [])
      declared m t = (λ i. (objects m t).exports (object_is i) (property_is i)) ∙ exports_are m t name_f (97 ∷ [])

      keyword : (m : EsModule) (t : Tree) →
          (objects m t).has_export_keyword (object_of target) ≡ stands_exported (symbol_of_swc m.tables name_f)
      keyword m t = ap ((objects m t).has_export_keyword) object_is ∙ keyword_is m t name_f

  -- no comments agree with none
  abbrev none : Tree → EsModule → Comments
  none t m = (with_program m t).source.comments

  same_comments : (m n : EsModule) (t u : Tree) → SameComments no_places (kept (none t m)) (kept (none u n))
  same_comments m n t u = record { leading = λ p q e. tt; trailing = λ p q e. tt }

pub private_classes : PrivateClasses
private_classes graph m n one =
    let here = is_public (public_at []) in
    let there = is_public (public_at (at 7 17 ∷ [])) in
    let c = bindings_of (with_program m class.first) in
    let d = bindings_of (with_program n class.second) in
    let x = sources graph m class.first in
    let y = sources graph n class.second in
    let o = objects m class.first in
    let o' = objects n class.second in
    record {
      agree = record {
        specifier = one;
        program = classes_agree here c d x y o o' (unresolved m n class.first class.second) refl;
        comments = same_comments graph m n class.first class.second;
      };
      public_class = λ r ok g. public_class_differs r ok there here c d x y o o' refl refl refl g.program;
    }

pub silent_assignments : SilentAssignments
silent_assignments graph m n one =
    let here = is_public (public_at []) in
    let there = is_public (public_at (at 7 14 ∷ [])) in
    let c = bindings_of (with_program m first_assigned) in
    let d = bindings_of (with_program n second_assigned) in
    let x = sources graph m first_assigned in
    let y = sources graph n second_assigned in
    let o = objects m first_assigned in
    let o' = objects n second_assigned in
    record {
      agree = λ same. record {
        specifier = one;
        program = assignments_agree here c d x y o o' (unresolved m n first_assigned second_assigned) refl
            (same_object graph m n first_assigned second_assigned same);
        comments = same_comments graph m n first_assigned second_assigned;
      };
      public_assignment = λ r ok g. public_assignment_differs r ok there here c d x y o o' refl refl refl g.program;
    }

pub all_changes : AllChanges
all_changes graph m =
    let c = bindings_of (with_program m changes.first) in
    let d = bindings_of (with_program m changes.second) in
    let names = mentioned_by c (assignment x_value) in
    let one = objects_one m changes.first changes.second in
    record {
      specifier = refl;
      program = changes_agree (is_public (public_at [])) c d (sources graph m changes.first) (sources graph m changes.second)
          (objects m changes.first) (objects m changes.second) (unresolved m m changes.first changes.second)
          (same_object graph m m changes.first changes.second (record { exports_a = refl; is_exported = refl }))
          (ap (λ o. map (o.exports (object_of target)) names) one);
      comments = same_comments graph m m changes.first changes.second;
    }

-- ---- at the positions that a parser gives

parsed_unresolved : (m n : EsModule) →
    IsPair parsed.renaming.scopes (bindings_of (with_program m parsed.first)).unresolved.0
    (bindings_of (with_program n parsed.second)).unresolved.0
unfolding bindings_of
parsed_unresolved m n = inl (refl, refl)

pub parsed_changes : ParsedChanges
parsed_changes graph m n one = record {
  one_to_one = is_renaming;
  agree = record {
    specifier = one;
    program = parsed_agree (bindings_of (with_program m parsed.first)) (bindings_of (with_program n parsed.second))
        (sources graph m parsed.first) (sources graph n parsed.second) (objects m parsed.first) (objects n parsed.second)
        (parsed_unresolved m n);
    comments = record { leading = λ p q e. tt; trailing = λ p q e. tt };
  };
}
