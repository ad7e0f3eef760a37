-- The two modules of the example with classes agree but for what is hidden.
use Rattle.std.specs.Prelude.{◌≡◌, ℕ, Bool, false, List, [], ◌∷◌, refl, ◌↔◌}
use Rattle.std.specs.List.{list_any}
use Rattle.std.proofs.Common.{inl, arith, ap, ◌∙◌, sym, subst, subst₂}
use Rattle.fast_check_tree_syntax.specs.declared.kind.Kind.TheVariants as kinds
use Rattle.fast_check_tree_syntax.specs.declared.kind.Word.{Word}
use Rattle.fast_check_tree_syntax.specs.declared.kind.Word.TheVariants as words
use Rattle.fast_check_tree_syntax.specs.declared.source.SourceRange.{SourceRange}
use Rattle.fast_check_tree_syntax.specs.declared.tree.Tree as tree
use Rattle.fast_check_tree_syntax.specs.declared.tree.Tree.{Tree, Absent, roll-Tree, out-roll-Tree}
use Rattle.fast_check_tree_syntax.specs.declared.tree.Tree.TheOpen.{Tree-F}
use Rattle.fast_check_tree_syntax.specs.Shape.{parts, none_range, list, has_word, word_is_at}
use Rattle.fast_check_tree_syntax.specs.Moves.{Moves, Keeps, IsRenaming, IsPair, moved}
use Rattle.fast_check_tree_syntax.specs.Same.{SameTree, SameRange}
use Rattle.fast_check_tree_syntax.proofs.Made.{kind_of_node, parts_node, part_node, is_absent_node, flag_of_flag, range_of_range}
use Rattle.fast_check_tree_syntax.proofs.Moved.{node_moved, absent_moved, word_moved, text_moved, context_moved, flag_moved, range_moved}
use Rattle.fast_check_tree_syntax.proofs.Moved.{none_moved}
use Rattle.fast_check_tree_syntax.proofs.Same.{tree_from}
use Rattle.fast_check_tree_forms_classes.specs.Classes.{Class-body}
use Rattle.fast_check_tree_forms_classes.specs.Functions.{Function-params}
use Rattle.fast_check_tree_forms_statements.specs.Declarations.{ClassDecl-class, FnDecl-function}
use Rattle.fast_check_tree_helpers.specs.Builders.{new_ident, ts_keyword_type, type_ann}
use Rattle.fast_check_tree_helpers.specs.ranges.Ranges.{range_of_node}
use Rattle.fast_check_meaning_signatures.specs.NewNodes.{no_scope, ident_name}
use Rattle.fast_check_meaning_signatures.specs.Members.{is_hash_named}
use Rattle.fast_check_meaning_signatures.specs.Classes.{private_method_head}
use Rattle.fast_check_meaning_skeleton.specs.SameValues.{SameFunctionHead, SameReturn, SameFunction}
use Rattle.fast_check_meaning_skeleton.specs.SameValues as v
use Rattle.fast_check_meaning_skeleton.specs.SameClasses.{IsNoPartner, SamePropertyHead, SameMembers, SameClassHead, SameClass}
use Rattle.fast_check_meaning_skeleton.specs.SameClasses as s
use Rattle.fast_check_meaning_skeleton.proofs.AlikeTrees.{new_alike}
use Rattle.fast_check_meaning_skeleton.specs.Hidden.{AgreeHidden, SameFunctionDecl, SameClassDecl, SameItem, SameItems}
use Rattle.fast_check_meaning_skeleton.specs.Hidden as h
use Rattle.fast_check_meaning_skeleton.specs.Visible.{items_of}
use Rattle.fast_check_meaning_skeleton.specs.Skeleton.{skeleton_of}
use Rattle.fast_check_meaning_skeleton.specs.HiddenChanges.{void_function}
use Rattle.fast_check_meaning_skeleton.specs.ClassExample.{function_f, method_m, class_of_members, class_c, static_block}
use Rattle.fast_check_meaning_skeleton.specs.ClassExample.{empty_statement, parameter, module_of, first, second, no_places, no_classes, all_public}
use Rattle.fast_check_meaning_skeleton.specs.ClassExample.{property_m, ClassExample}
use Rattle.fast_check_meaning_skeleton.proofs.TypedFunctions.{absent}
use Rattle.fast_check_meaning_skeleton.specs.Example.{at}
use Rattle.fast_check_meaning_skeleton.proofs.Namespaces.{item_seen_is}
use Rattle.fast_check_meaning_skeleton.proofs.Example.{context_of_context}

one_pair : (a b x y : ℕ) → IsPair no_places.starts a x → IsPair no_places.starts b y → (a ≡ b) ↔ (x ≡ y)
one_pair a b x y p q = (λ e. grind arith, λ e. grind arith)

pub is_renaming : IsRenaming no_places
is_renaming = record {
  starts = record { zero = inl (refl, refl); same = one_pair };
  ends = record { zero = inl (refl, refl); same = one_pair };
  scopes = record { zero = inl (refl, refl); same = one_pair };
}

abbrev pub Same : Tree → Tree → Type 0
Same = SameTree no_places

abbrev pub SamePlace : SourceRange → SourceRange → Type 0
SamePlace = SameRange no_places

-- new nodes agree with themselves
pub new_same : (t : Tree) → ((m : Moves) → Keeps m → moved m t ≡ t) → Same t t
new_same t stays = tree_from no_places is_renaming t t (new_alike no_places is_renaming t stays)

pub same_absent : Same Absent Absent
same_absent = new_same Absent (λ m ok. absent_moved m)

pub same_none : Same (list []) (list [])
same_none = new_same (list []) (λ m ok. node_moved m kinds.List [])

same_private : Same (tree.Word words.Private) (tree.Word words.Private)
same_private = new_same (tree.Word words.Private) (λ m ok. word_moved m words.Private)

pub same_ident : (text : List ℕ) → Same (new_ident text) (new_ident text)
same_ident text =
    new_same (new_ident text)
    (λ m ok. simp (node_moved, range_moved, none_moved m ok, context_moved, text_moved, flag_moved, ok.scope_zero))

pub same_name : (text : List ℕ) → Same (ident_name none_range text) (ident_name none_range text)
same_name text = new_same (ident_name none_range text) (λ m ok. simp (node_moved, range_moved, none_moved m ok, text_moved))

abbrev void_type : Tree
void_type = type_ann (ts_keyword_type words.TsVoidKeyword)

same_void : Same void_type void_type
same_void = new_same void_type (λ m ok. simp (node_moved, range_moved, none_moved m ok, word_moved))

pub no_place : SamePlace none_range none_range
no_place = record { start = inl (refl, refl); end = inl (refl, refl) }

pub at_places : (a b : SourceRange) → a ≡ none_range → b ≡ none_range → SamePlace a b
at_places a b e f = subst₂ SamePlace (sym e) (sym f) no_place

pub in_scopes : (a b : _) → a ≡ no_scope → b ≡ no_scope → IsPair no_places.scopes a.0 b.0
in_scopes a b e f = subst₂ (λ x y. IsPair no_places.scopes x.0 y.0) (sym e) (sym f) (inl (refl, refl))

pub are_same : (t u x : Tree) → t ≡ x → u ≡ x → Same x x → Same t u
are_same t u x e f s = subst₂ Same (sym e) (sym f) s

-- ---- the function

pub function_head : (ps qs ss ts : List Tree) → SameFunctionHead no_places no_classes no_classes (void_function ps ss) (void_function qs ts)
function_head ps qs ss ts = record {
  span = at_places _ _ (simp (part_node, range_of_range)) (simp (part_node, range_of_range));
  ctxt = in_scopes _ _ (simp (part_node, context_of_context)) (simp (part_node, context_of_context));
  type_params = are_same _ _ Absent (part_node _ _ _) (part_node _ _ _) same_absent;
  has_body = simp (part_node, is_absent_node);
}

pub function_return : (ps qs ss ts : List Tree) → SameReturn no_places no_classes no_classes (void_function ps ss) (void_function qs ts)
function_return ps qs ss ts = record {
  is_async = simp (part_node, flag_of_flag);
  is_generator = simp (part_node, flag_of_flag);
  return_type = are_same _ _ void_type (part_node _ _ _) (part_node _ _ _) same_void;
}

no_params : (ss : List Tree) → parts (Function-params (void_function [] ss)) ≡ []
no_params ss = simp parts_node

pub functions : (ss ts : List Tree) → SameFunction no_places no_classes no_classes (void_function [] ss) (void_function [] ts)
functions ss ts = v.SameFunction.typed_function (function_head [] [] ss ts) (function_return [] [] ss ts) (simp (part_node, is_absent_node))
    (subst₂ (v.SameParams no_places no_classes no_classes) (sym (no_params ss)) (sym (no_params ts)) v.SameParams.no_params)

pub function_made : (ss : List Tree) → FnDecl-function (function_f ss) ≡ void_function [] ss
function_made ss = part_node _ _ _

function_decls : (p q : SourceRange) (ss ts : List Tree) → SameFunctionDecl no_places all_public all_public p q (function_f ss)
    (function_f ts)
function_decls p q ss ts = record {
  kinds = record { left = kind_of_node _ _; right = kind_of_node _ _ };
  is_public = refl;
  is_ambient = refl;
  ident = are_same _ _ (new_ident (102 ∷ [])) (part_node _ _ _) (part_node _ _ _) (same_ident (102 ∷ []));
  declare = simp (part_node, flag_of_flag);
}

pub function_items : (ss ts : List Tree) → SameItem no_places all_public all_public (function_f ss) (function_f ts)
function_items ss ts = h.SameItem.decl (h.SameDecl.function (function_decls _ _ ss ts) refl refl
    (subst₂ (SameFunction no_places no_classes no_classes) (sym (function_made ss)) (sym (function_made ts)) (functions ss ts)))

-- ---- the class

abbrev pub f : SourceRange → Bool
f place = false

method_heads : (ps qs : List Tree) → SamePropertyHead no_places no_classes no_classes f f (private_method_head (method_m ps))
    (private_method_head (method_m qs))
method_heads ps qs = record {
  span = at_places _ _ (simp (part_node, range_of_range)) (simp (part_node, range_of_range));
  key = are_same _ _ (ident_name none_range (109 ∷ [])) (part_node _ _ _) (part_node _ _ _) (same_name (109 ∷ []));
  is_static = simp (part_node, flag_of_flag);
  accessibility = are_same _ _ (tree.Word words.Private) (part_node _ _ _) (part_node _ _ _) same_private;
  is_abstract = simp (part_node, flag_of_flag);
  is_optional = simp (part_node, flag_of_flag);
  readonly = refl;
}

pub word_read : (w v : Word) → has_word w (tree.Word v) ≡ word_is_at w (Tree-F.Word v)
unfolding roll-Tree denote.Hole.Carrier.roll
word_read w v = ap (word_is_at w) (out-roll-Tree (Tree-F.Word v))

pub block_begins : range_of_node static_block ≡ at 7 16
block_begins = simp (kind_of_node, part_node, range_of_range)

pub block_alone : IsNoPartner no_places.starts (range_of_node static_block).start.0
block_alone n p = let q : IsPair no_places.starts n 7 = subst (λ s. IsPair no_places.starts n s.start.0) block_begins p in grind arith

pub members : SameMembers no_places no_classes no_classes f f [] [] (method_m [] ∷ []) (static_block ∷ method_m (parameter ∷ []) ∷ [])
members = s.SameMembers.right (s.IsSilentMember.static_block (kind_of_node _ _)) block_alone (s.SameMembers.next
    (s.SameMember.private_method (record { left = kind_of_node _ _; right = kind_of_node _ _ }) (method_heads [] (parameter ∷ []))
    (ap (has_word words.Private) (part_node _ _ _) ∙ word_read words.Private words.Private)) s.SameMembers.end)

body_made : (ms : List Tree) → parts (Class-body (class_of_members ms)) ≡ ms
body_made ms = simp parts_node

class_heads : (ms ns : List Tree) → SameClassHead no_places no_classes no_classes f f (class_of_members ms) (class_of_members ns)
class_heads ms ns = record {
  span = at_places _ _ (simp (part_node, range_of_range)) (simp (part_node, range_of_range));
  ctxt = in_scopes _ _ (simp (part_node, context_of_context)) (simp (part_node, context_of_context));
  is_abstract = simp (part_node, flag_of_flag);
  type_params = are_same _ _ Absent (part_node _ _ _) (part_node _ _ _) same_absent;
  super_type_params = are_same _ _ Absent (part_node _ _ _) (part_node _ _ _) same_absent;
  implements = are_same _ _ (list []) (part_node _ _ _) (part_node _ _ _) same_none;
}

abbrev pub first_members : List Tree
first_members = method_m [] ∷ []

abbrev pub second_members : List Tree
second_members = static_block ∷ method_m (parameter ∷ []) ∷ []

pub neither_hashed : list_any is_hash_named first_members ≡ list_any is_hash_named second_members
neither_hashed = simp kind_of_node

classes : SameClass no_places no_classes no_classes f f (class_of_members first_members) (class_of_members second_members)
classes = record {
  head = class_heads first_members second_members;
  superclass = s.SameSuperclass.same (are_same _ _ Absent (part_node _ _ _) (part_node _ _ _) same_absent);
  hash_named = subst₂ (λ x y. list_any is_hash_named x ≡ list_any is_hash_named y) (sym (body_made first_members))
      (sym (body_made second_members))
      neither_hashed;
  members = subst₂ (SameMembers no_places no_classes no_classes f f [] []) (sym (body_made first_members))
      (sym (body_made second_members)) members;
}

class_made : (ms : List Tree) → ClassDecl-class (class_c ms) ≡ class_of_members ms
class_made ms = part_node _ _ _

class_decls : (ms ns : List Tree) → SameClassDecl no_places all_public all_public (class_c ms) (class_c ns)
class_decls ms ns = record {
  kinds = record { left = kind_of_node _ _; right = kind_of_node _ _ };
  ident = are_same _ _ (new_ident (67 ∷ [])) (part_node _ _ _) (part_node _ _ _) (same_ident (67 ∷ []));
  declare = simp (part_node, flag_of_flag);
}

class_items : SameItem no_places all_public all_public (class_c first_members) (class_c second_members)
class_items = h.SameItem.decl (h.SameDecl.class (class_decls first_members second_members) refl (simp (part_node, flag_of_flag))
    (subst₂ (SameClass no_places no_classes no_classes f f) (sym (class_made first_members)) (sym (class_made second_members)) classes))

-- ---- the modules

pub items_made : (items : List Tree) → items_of (module_of items) ≡ items
items_made items = simp parts_node

agree : AgreeHidden no_places all_public all_public first second
agree = record {
  bindings = record { unresolved = inl (refl, refl) };
  is_ambient = refl;
  items = subst₂ (SameItems no_places all_public all_public) (sym (items_made _)) (sym (items_made _))
      (h.SameItems.next (function_items [] (empty_statement ∷ [])) (h.SameItems.next class_items h.SameItems.end));
  shebang = are_same _ _ Absent (part_node _ _ _) (part_node _ _ _) same_absent;
}

first_is : skeleton_of all_public first ≡ module_of (function_f [] ∷ class_c (property_m ∷ []) ∷ [])
first_is =
    simp (item_seen_is, parts_node, kind_of_node, range_of_range, flag_of_flag, context_of_context, is_absent_node, absent, word_read)

second_is : skeleton_of all_public second ≡ module_of (function_f [] ∷ class_c (property_m ∷ []) ∷ [])
second_is =
    simp (item_seen_is, parts_node, kind_of_node, range_of_range, flag_of_flag, context_of_context, is_absent_node, absent, word_read)

pub class_example : ClassExample
class_example = record { one_to_one = is_renaming; agree = agree; first_skeleton = first_is; second_skeleton = second_is }
