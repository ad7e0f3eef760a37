-- Items of which the examples are made agree by facts with one public test, whatever is known of names and of objects.
use Rattle.std.specs.Prelude.{◌≡◌, ℕ, Bool, false, Option, List, [], ◌∷◌, refl}
use Rattle.std.specs.List.{list_any}
use Rattle.std.proofs.Common.{ap, ◌∙◌, sym, subst₂}
use Rattle.fast_check_tree_syntax.specs.declared.kind.Word.TheVariants as words
use Rattle.fast_check_tree_syntax.specs.declared.source.SourceRange.{SourceRange}
use Rattle.fast_check_tree_syntax.specs.declared.tree.Tree as tree
use Rattle.fast_check_tree_syntax.specs.declared.tree.Tree.{Tree, Absent}
use Rattle.fast_check_tree_syntax.specs.Shape.{none_range, list, parts, has_word}
use Rattle.fast_check_tree_syntax.proofs.Made.{kind_of_node, parts_node, part_node, is_absent_node, flag_of_flag, range_of_range}
use Rattle.fast_check_tree_syntax.proofs.Moved.{node_moved, range_moved, none_moved}
use Rattle.fast_check_tree_syntax.proofs.Moved.{word_moved}
use Rattle.fast_check_tree_forms_classes.specs.Classes.{Class-body}
use Rattle.fast_check_tree_forms_classes.specs.Functions.{Function-params, Param-span, param}
use Rattle.fast_check_tree_forms_expressions.specs.Operators.{AssignExpr-span, AssignExpr-right}
use Rattle.fast_check_tree_forms_programs.specs.Literals.{number}
use Rattle.fast_check_tree_forms_programs.specs.ModuleDecls.{ExportDecl-decl}
use Rattle.fast_check_tree_helpers.specs.ranges.Ranges.{range_of_node}
use Rattle.fast_check_tree_forms_statements.specs.Declarations.{ClassDecl-class, FnDecl-function, VarDecl-kind, VarDecl-decls, fn_decl}
use Rattle.fast_check_tree_forms_statements.specs.Statements.{ExprStmt-expr}
use Rattle.fast_check_tree_helpers.specs.Builders.{new_ident, type_ann}
use Rattle.fast_check_tables_modules.specs.Expandos.{is_expando_assignment}
use Rattle.fast_check_meaning_skeleton.specs.signatures.Bindings.{Bindings}
use Rattle.fast_check_meaning_skeleton.specs.signatures.Classes.{private_method_head}
use Rattle.fast_check_meaning_skeleton.specs.signatures.Members.{is_hash_named}
use Rattle.fast_check_meaning_skeleton.specs.signatures.NewNodes.{ident_name}
use Rattle.fast_check_meaning_expandos.specs.Assignments.{mentioned_by}
use Rattle.fast_check_meaning_expandos.specs.Objects.{Objects}
use Rattle.fast_check_meaning_skeleton.specs.SameClasses.{SamePropertyHead, SameMembers, SameClassHead, SameClass}
use Rattle.fast_check_meaning_skeleton.specs.SameClasses as s
use Rattle.fast_check_meaning_skeleton.specs.SameValues.{SameExpr, SameFunction, SameParams, SamePat}
use Rattle.fast_check_meaning_skeleton.specs.SameValues as v
use Rattle.fast_check_meaning_skeleton.specs.ModuleFacts.{ModuleFacts}
use Rattle.fast_check_meaning_skeleton.specs.Mutability.{mutability_of}
use Rattle.fast_check_meaning_skeleton.specs.Visible.{declarator_typing}
use Rattle.fast_check_meaning_skeleton.proofs.GivenTypes.{given_written}
use Rattle.fast_check_meaning_skeleton.specs.Hidden.{SameHead, SameDeclarator, SameDeclarators, SameStatement, SameFunctionDecl}
use Rattle.fast_check_meaning_skeleton.specs.Hidden.{SameClassDecl, SameDecl, SameItem}
use Rattle.fast_check_meaning_skeleton.specs.Hidden as h
use Rattle.fast_check_meaning_skeleton.specs.SameAssignments.{SameObject, SameExported, SameExpando, SameAssignment}
use Rattle.fast_check_meaning_skeleton.specs.SameAssignments as forms
use Rattle.fast_check_meaning_skeleton.specs.SameImportsExports as l
use Rattle.fast_check_meaning_skeleton.specs.Example.{at}
use Rattle.fast_check_meaning_skeleton.specs.ClassExample.{method_m, static_block, parameter, no_places}
use Rattle.fast_check_meaning_skeleton.specs.ExpandoExample.{as_number, target, assignment, assigned}
use Rattle.fast_check_meaning_skeleton.specs.HiddenChanges.{number_type, void_function, call, sequence, HiddenChanges}
use Rattle.fast_check_meaning_skeleton.specs.HiddenChangesExample.{parameters, decorated, class_of, assignment_z, assigned_z}
use Rattle.fast_check_meaning_skeleton.proofs.HiddenChanges.{hides_changes}
use Rattle.fast_check_meaning_skeleton.specs.PrivateClassExample.{class_h, declarator_x, statement_x, export_x, one}
use Rattle.fast_check_meaning_skeleton.proofs.ClassExample.{Same, SamePlace, new_same, same_absent, same_none, same_ident, at_places, in_scopes}
use Rattle.fast_check_meaning_skeleton.proofs.ClassExample.{are_same, is_renaming, same_name, block_alone}
use Rattle.fast_check_meaning_skeleton.proofs.ClassExample.{function_head, function_return, f, first_members, second_members, neither_hashed}
use Rattle.fast_check_meaning_skeleton.proofs.ClassExample.{word_read}
use Rattle.fast_check_meaning_skeleton.proofs.ExpandoExample.{same_target, left_made, right_made, assignment_made, is_one}
use Rattle.fast_check_meaning_skeleton.proofs.Example.{context_of_context}
use Rattle.fast_check_meaning_skeleton.proofs.ModuleExample.{text_of_text}
use Rattle.fast_check_meaning_skeleton.proofs.ExpandoExample.{span_made}

-- the facts of a module that is no declaration file and has no overloads
abbrev pub facts : (SourceRange → Bool) → Bindings → (List ℕ → Option (List ℕ)) → Objects → ModuleFacts
facts public bindings relative objects = record {
  is_public = public;
  is_implementation = λ r. false;
  bindings = bindings;
  is_ambient = false;
  relative = relative;
  objects = objects;
}

-- ---- where these items stand

pub class_place : range_of_node class_h ≡ at 7 17
class_place = simp (kind_of_node, part_node, range_of_range)

-- `function f(parameters): void { statements }`
abbrev pub declared : List Tree → List Tree → Tree
declared ps ss = fn_decl (new_ident (102 ∷ [])) false (void_function ps ss)

pub function_place : (ps ss : List Tree) → range_of_node (declared ps ss) ≡ none_range
function_place ps ss = simp (kind_of_node, part_node, range_of_range)

assigned_place : (value : Tree) → range_of_node (assigned value) ≡ none_range
assigned_place value = simp (kind_of_node, part_node, range_of_range)

decorated_place : (ds ms : List Tree) → range_of_node (class_of ds ms) ≡ none_range
decorated_place ds ms = simp (kind_of_node, part_node, range_of_range)

z_span : (value : Tree) → AssignExpr-span (assignment_z value) ≡ none_range
z_span value = simp (part_node, range_of_range)

-- ---- trees that agree with themselves

same_annotation : Same (type_ann number_type) (type_ann number_type)
same_annotation = new_same (type_ann number_type) (λ m ok. simp (node_moved, range_moved, none_moved m ok, word_moved))

same_word : (w : _) → Same (tree.Word w) (tree.Word w)
same_word w = new_same (tree.Word w) (λ m ok. word_moved m w)

-- ---- values, functions and classes

module _ (c d : Bindings) where
  abbrev Pats : Tree → Tree → Type 0
  Pats = SamePat no_places c d

  -- what is hidden under each renaming
  hidden : HiddenChanges no_places c d f f
  hidden = hides_changes no_places is_renaming c d f f

  placed : (pat pat' : Tree) → SamePlace (Param-span (param none_range (list []) pat)) (Param-span (param none_range (list []) pat'))
  placed pat pat' = at_places _ _ (simp (part_node, range_of_range)) (simp (part_node, range_of_range))

  pub all_parameters : (es ds : List Tree) (x y : List ℕ) → SameParams no_places c d (parameters es x) (parameters ds y)
  all_parameters es ds x y =
      v.SameParams.next_param (placed _ _) (subst₂ Pats (sym (part_node _ _ _)) (sym (part_node _ _ _)) (hidden.elements es ds))
      (v.SameParams.next_param (placed _ _)
      (subst₂ Pats (sym (part_node _ _ _)) (sym (part_node _ _ _)) (hidden.typed_defaults (number none_range x) (number none_range y)))
      (v.SameParams.next_param (placed _ _) (subst₂ Pats (sym (part_node _ _ _)) (sym (part_node _ _ _)) (hidden.shown_defaults x y))
      v.SameParams.no_params))

  params_made : (ps ss : List Tree) → parts (Function-params (void_function ps ss)) ≡ ps
  params_made ps ss = simp parts_node

  functions : (ps qs ss ts : List Tree) → SameParams no_places c d ps qs →
      SameFunction no_places c d (void_function ps ss) (void_function qs ts)
  functions ps qs ss ts same =
      let head = function_head ps qs ss ts in
      let returned = function_return ps qs ss ts in
      v.SameFunction.typed_function
      (record { span = head.span; ctxt = head.ctxt; type_params = head.type_params; has_body = head.has_body })
      (record { is_async = returned.is_async; is_generator = returned.is_generator; return_type = returned.return_type })
      (simp (part_node, is_absent_node))
      (subst₂ (SameParams no_places c d) (sym (params_made ps ss)) (sym (params_made qs ts)) same)

  -- any operands
  pub operands : (x y : Tree) → SameExpr no_places c d (as_number x) (as_number y)
  operands x y = hidden.operands x y

  method_heads : (ps qs : List Tree) →
      SamePropertyHead no_places c d f f (private_method_head (method_m ps)) (private_method_head (method_m qs))
  method_heads ps qs = record {
    span = at_places _ _ (simp (part_node, range_of_range)) (simp (part_node, range_of_range));
    key = are_same _ _ (ident_name none_range (109 ∷ [])) (part_node _ _ _) (part_node _ _ _) (same_name (109 ∷ []));
    is_static = simp (part_node, flag_of_flag);
    accessibility = are_same _ _ (tree.Word words.Private) (part_node _ _ _) (part_node _ _ _) (same_word words.Private);
    is_abstract = simp (part_node, flag_of_flag);
    is_optional = simp (part_node, flag_of_flag);
    readonly = refl;
  }

  members : SameMembers no_places c d f f [] [] first_members second_members
  members = s.SameMembers.right (s.IsSilentMember.static_block (kind_of_node _ _)) block_alone (s.SameMembers.next
      (s.SameMember.private_method (record { left = kind_of_node _ _; right = kind_of_node _ _ }) (method_heads [] (parameter ∷ []))
      (ap (has_word words.Private) (part_node _ _ _) ∙ word_read words.Private words.Private)) s.SameMembers.end)

  body_made : (ds ms : List Tree) → parts (Class-body (decorated ds ms)) ≡ ms
  body_made ds ms = simp parts_node

  class_heads : (cs ds ms ns : List Tree) → SameClassHead no_places c d f f (decorated cs ms) (decorated ds ns)
  class_heads cs ds ms ns = record {
    span = at_places _ _ (simp (part_node, range_of_range)) (simp (part_node, range_of_range));
    ctxt = in_scopes _ _ (simp (part_node, context_of_context)) (simp (part_node, context_of_context));
    is_abstract = simp (part_node, flag_of_flag);
    type_params = are_same _ _ Absent (part_node _ _ _) (part_node _ _ _) same_absent;
    super_type_params = are_same _ _ Absent (part_node _ _ _) (part_node _ _ _) same_absent;
    implements = are_same _ _ (list []) (part_node _ _ _) (part_node _ _ _) same_none;
  }

  classes : (cs ds : List Tree) → SameClass no_places c d f f (decorated cs first_members) (decorated ds second_members)
  classes cs ds = record {
    head = class_heads cs ds first_members second_members;
    superclass = s.SameSuperclass.same (are_same _ _ Absent (part_node _ _ _) (part_node _ _ _) same_absent);
    hash_named = subst₂ (λ x y. list_any is_hash_named x ≡ list_any is_hash_named y) (sym (body_made cs first_members))
        (sym (body_made ds second_members)) neither_hashed;
    members = subst₂ (SameMembers no_places c d f f [] []) (sym (body_made cs first_members)) (sym (body_made ds second_members)) members;
  }

-- ---- items

module _ (public : SourceRange → Bool) (c d : Bindings) (x y : List ℕ → Option (List ℕ)) (o o' : Objects) where
  abbrev a : ModuleFacts
  a = facts public c x o

  abbrev b : ModuleFacts
  b = facts public d y o'

  both_public : (p q : SourceRange) → p ≡ none_range → q ≡ none_range → public p ≡ public q
  both_public p q e f = ap public e ∙ sym (ap public f)

  -- `export const x: number = 1;`

  heads : SameHead no_places a b (declarator_x one) (declarator_x one)
  heads = record {
    span = at_places _ _ (simp (part_node, range_of_range)) (simp (part_node, range_of_range));
    names = record { left = simp (part_node, kind_of_node); right = simp (part_node, kind_of_node) };
    ident = are_same _ _ (new_ident (120 ∷ [])) (simp part_node) (simp part_node) (same_ident (120 ∷ []));
    definite = refl;
  }

  statements : SameStatement no_places a b (statement_x one) (statement_x one)
  statements = record {
    kinds = record { left = kind_of_node _ _; right = kind_of_node _ _ };
    span = at_places _ _ (simp (part_node, range_of_range)) (simp (part_node, range_of_range));
    ctxt = in_scopes _ _ (simp (part_node, context_of_context)) (simp (part_node, context_of_context));
    kind = are_same _ _ (tree.Word words.Const) (part_node _ _ _) (part_node _ _ _) (same_word words.Const);
    declare = refl;
  }

  abbrev Declarators : List Tree → List Tree → Type 0
  Declarators = SameDeclarators no_places a b (SameDeclarator no_places a b (mutability_of (VarDecl-kind (statement_x one))))

  declarators : Declarators (declarator_x one ∷ []) (declarator_x one ∷ [])
  declarators = l.SamePublic.next refl (h.SameDeclarator.given heads (given_written no_places a.bindings b.bindings
      (declarator_typing (mutability_of (VarDecl-kind (statement_x one))) (declarator_x one))
      (declarator_typing (mutability_of (VarDecl-kind (statement_x one))) (declarator_x one)) refl refl
      (simp (part_node, is_absent_node)) (simp (part_node, is_absent_node))
      (are_same _ _ (type_ann number_type) (simp part_node) (simp part_node) same_annotation))) l.SamePublic.end

  decls_made : parts (VarDecl-decls (statement_x one)) ≡ declarator_x one ∷ []
  decls_made = simp parts_node

  decls : (p q : SourceRange) → SameDecl no_places a b p q (statement_x one) (statement_x one)
  decls p q = h.SameDecl.variable statements (simp (part_node, flag_of_flag))
      (subst₂ Declarators (sym decls_made) (sym decls_made) declarators)

  pub exports : SameItem no_places a b (export_x one) (export_x one)
  exports = h.SameItem.exported (record { left = kind_of_node _ _; right = kind_of_node _ _ })
      (at_places _ _ (simp (part_node, range_of_range)) (simp (part_node, range_of_range)))
      (subst₂ (SameDecl no_places a b _ _) (sym made) (sym made) (decls _ _))
    where
      made : ExportDecl-decl (export_x one) ≡ statement_x one
      made = part_node _ _ _

  -- functions

  function_decls : (ps qs ss ts : List Tree) →
      SameFunctionDecl no_places a b (range_of_node (declared ps ss)) (range_of_node (declared qs ts)) (declared ps ss) (declared qs ts)
  function_decls ps qs ss ts = record {
    kinds = record { left = kind_of_node _ _; right = kind_of_node _ _ };
    is_public = both_public _ _ (function_place ps ss) (function_place qs ts);
    is_ambient = refl;
    ident = are_same _ _ (new_ident (102 ∷ [])) (part_node _ _ _) (part_node _ _ _) (same_ident (102 ∷ []));
    declare = simp (part_node, flag_of_flag);
  }

  function_made : (ps ss : List Tree) → FnDecl-function (declared ps ss) ≡ void_function ps ss
  function_made ps ss = part_node _ _ _

  pub function_items : (ps qs ss ts : List Tree) → SameParams no_places c d ps qs → SameItem no_places a b (declared ps ss) (declared qs ts)
  function_items ps qs ss ts same = h.SameItem.decl (h.SameDecl.function (function_decls ps qs ss ts) refl refl
      (subst₂ (SameFunction no_places c d) (sym (function_made ps ss)) (sym (function_made qs ts)) (functions c d ps qs ss ts same)))

  -- assignments to `f.a`

  expandos : (v w : Tree) → SameObject no_places a b target target →
      SameExported no_places a b (mentioned_by c (assignment v)) target target → SameExpando no_places a b (assignment v) (assignment w)
  expandos v w object exported = record {
    forms = (is_one v, is_one w);
    span = at_places _ _ (span_made v) (span_made w);
    target = are_same _ _ target (left_made v) (left_made w) same_target;
    object = subst₂ (SameObject no_places a b) (sym (left_made v)) (sym (left_made w)) object;
    exported = subst₂ (SameExported no_places a b (mentioned_by c (assignment v))) (sym (left_made v)) (sym (left_made w)) exported;
  }

  pub assigned_items : (v w : Tree) → range_of_node v ≡ none_range → range_of_node w ≡ none_range → SameExpr no_places c d v w →
      SameObject no_places a b target target → SameExported no_places a b (mentioned_by c (assignment v)) target target →
      SameItem no_places a b (assigned v) (assigned w)
  assigned_items v w e f same object exported = h.SameItem.assigned (record {
    kinds = record { left = kind_of_node _ _; right = kind_of_node _ _ };
    range = at_places _ _ (assigned_place v) (assigned_place w);
    assignments = subst₂ (SameAssignment no_places a b) (sym (assignment_made v)) (sym (assignment_made w)) (record {
      kinds = record { left = kind_of_node _ _; right = kind_of_node _ _ };
      is_public = both_public _ _ (span_made v) (span_made w);
      form = forms.SameForm.expando (expandos v w object exported);
      right = subst₂ (SameExpr no_places c d) (sym (right_made v)) (sym (right_made w)) same;
      right_range = at_places _ _ (ap range_of_node (right_made v) ∙ e) (ap range_of_node (right_made w) ∙ f);
    });
  })

  -- classes

  class_made : (ds ms : List Tree) → ClassDecl-class (class_of ds ms) ≡ decorated ds ms
  class_made ds ms = part_node _ _ _

  class_decls : (cs ds ms ns : List Tree) → SameClassDecl no_places a b (class_of cs ms) (class_of ds ns)
  class_decls cs ds ms ns = record {
    kinds = record { left = kind_of_node _ _; right = kind_of_node _ _ };
    ident = are_same _ _ (new_ident (67 ∷ [])) (part_node _ _ _) (part_node _ _ _) (same_ident (67 ∷ []));
    declare = simp (part_node, flag_of_flag);
  }

  pub class_items : (cs ds : List Tree) → SameItem no_places a b (class_of cs first_members) (class_of ds second_members)
  class_items cs ds = h.SameItem.decl (h.SameDecl.class (class_decls cs ds first_members second_members)
      (both_public _ _ (decorated_place cs first_members) (decorated_place ds second_members)) (simp (part_node, flag_of_flag))
      (subst₂ (SameClass no_places c d f f) (sym (class_made cs first_members)) (sym (class_made ds second_members)) (classes c d cs ds)))

  -- values that may not stay

  z_right : (value : Tree) → AssignExpr-right (assignment_z value) ≡ value
  z_right value = part_node _ _ _

  no_expando : (value : Tree) → is_expando_assignment (assignment_z value) ≡ false
  no_expando value = simp (kind_of_node, part_node, text_of_text)

  z_assignments : SameAssignment no_places a b (assignment_z call) (assignment_z sequence)
  z_assignments = record {
    kinds = record { left = kind_of_node _ _; right = kind_of_node _ _ };
    is_public = both_public _ _ (z_span call) (z_span sequence);
    form = forms.SameForm.other (no_expando call) (no_expando sequence);
    right = subst₂ (SameExpr no_places c d) (sym (z_right call)) (sym (z_right sequence))
        (hidden c d).refused;
    right_range = at_places _ _ (simp (part_node, kind_of_node, range_of_range)) (simp (part_node, kind_of_node, range_of_range));
  }

  z_made : (value : Tree) → ExprStmt-expr (assigned_z value) ≡ assignment_z value
  z_made value = part_node _ _ _

  pub refused_items : SameItem no_places a b (assigned_z call) (assigned_z sequence)
  refused_items = h.SameItem.assigned (record {
    kinds = record { left = kind_of_node _ _; right = kind_of_node _ _ };
    range = at_places _ _ (simp (kind_of_node, part_node, range_of_range)) (simp (kind_of_node, part_node, range_of_range));
    assignments = subst₂ (SameAssignment no_places a b) (sym (z_made call)) (sym (z_made sequence)) z_assignments;
  })
