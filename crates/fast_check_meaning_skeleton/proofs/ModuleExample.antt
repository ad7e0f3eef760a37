-- The two modules of the example with an import agree but for what is hidden.
use Rattle.std.specs.Prelude.{◌≡◌, ℕ, false, List, [], ◌∷◌, refl}
use Rattle.std.proofs.Common.{inl, ap, sym, subst₂}
use Rattle.fast_check_tree_syntax.specs.declared.tree.Tree as tree
use Rattle.fast_check_tree_syntax.specs.declared.tree.Tree.{Tree, Absent, roll-Tree, out-roll-Tree}
use Rattle.fast_check_tree_syntax.specs.declared.tree.Tree.TheOpen.{Tree-F}
use Rattle.fast_check_tree_syntax.specs.Shape.{parts, text_at, text_of}
use Rattle.fast_check_tree_syntax.proofs.Made.{kind_of_node, parts_node, part_node, is_absent_node, flag_of_flag, range_of_range}
use Rattle.fast_check_tree_syntax.proofs.Moved.{node_moved, absent_moved, text_moved, context_moved, flag_moved, range_moved, none_moved}
use Rattle.fast_check_tree_forms_expressions.specs.Expressions.{FnExpr-ident, FnExpr-function}
use Rattle.fast_check_tree_forms_programs.specs.ModuleDecls.{ImportDecl-specifiers, ImportDecl-src, ExportDefaultDecl-decl}
use Rattle.fast_check_meaning_skeleton.specs.SameValues.{SameFunction}
use Rattle.fast_check_meaning_skeleton.proofs.TypedFunctions.{absent}
use Rattle.fast_check_meaning_skeleton.specs.Hidden.{AgreeHidden, SameItem, SameItems}
use Rattle.fast_check_meaning_skeleton.specs.Hidden as h
use Rattle.fast_check_meaning_skeleton.specs.ImportsExports.{is_public_specifier}
use Rattle.fast_check_meaning_skeleton.specs.SameDefaults.{SameDefaultFunction}
use Rattle.fast_check_meaning_skeleton.specs.SameDefaults as d
use Rattle.fast_check_meaning_skeleton.specs.SameImportsExports.{SamePublic, SameSource, SameImport}
use Rattle.fast_check_meaning_skeleton.specs.SameImportsExports as l
use Rattle.fast_check_meaning_skeleton.specs.Skeleton.{skeleton_of}
use Rattle.fast_check_meaning_skeleton.specs.HiddenChanges.{void_function}
use Rattle.fast_check_meaning_skeleton.specs.ClassExample.{empty_statement, no_places, no_classes}
use Rattle.fast_check_meaning_skeleton.specs.ModuleExample as e
use Rattle.fast_check_meaning_skeleton.specs.ModuleExample.{written_source, import_of, default_function, first, second, facts, answered}
use Rattle.fast_check_meaning_skeleton.specs.ModuleExample.{ModuleExample}
use Rattle.fast_check_meaning_skeleton.proofs.ClassExample.{is_renaming, Same, new_same, same_absent, at_places, are_same, functions, word_read}
use Rattle.fast_check_meaning_skeleton.proofs.ClassExample.{items_made}
use Rattle.fast_check_meaning_skeleton.proofs.Namespaces.{item_seen_is}
use Rattle.fast_check_meaning_skeleton.proofs.Example.{context_of_context}

-- ---- the import

same_specifier : Same e.x e.x
same_specifier =
    new_same e.x
    (λ m ok. simp (node_moved, range_moved, none_moved m ok, context_moved, text_moved, flag_moved, absent_moved, ok.scope_zero))

same_source : Same written_source written_source
same_source = new_same written_source (λ m ok. simp (node_moved, range_moved, none_moved m ok, text_moved, absent_moved))

abbrev first_specifiers : List Tree
first_specifiers = e.h ∷ e.x ∷ []

abbrev second_specifiers : List Tree
second_specifiers = e.x ∷ e.g ∷ e.h ∷ []

g_hidden : is_public_specifier facts e.g ≡ false
g_hidden = simp (kind_of_node, part_node, range_of_range)

h_hidden : is_public_specifier facts e.h ≡ false
h_hidden = simp (kind_of_node, part_node, range_of_range)

specifiers : SamePublic (is_public_specifier facts) (is_public_specifier facts) Same first_specifiers second_specifiers
specifiers =
    l.SamePublic.left h_hidden
    (l.SamePublic.next refl same_specifier (l.SamePublic.right g_hidden (l.SamePublic.right h_hidden l.SamePublic.end)))

specifiers_made : (ts : List Tree) → parts (ImportDecl-specifiers (import_of ts written_source)) ≡ ts
specifiers_made ts = simp parts_node

source_made : (ts : List Tree) → ImportDecl-src (import_of ts written_source) ≡ written_source
source_made ts = part_node _ _ _

sources : SameSource no_places facts facts written_source written_source
sources = record { tree = same_source; relative = λ e. refl }

imports : SameImport no_places facts facts (import_of first_specifiers written_source) (import_of second_specifiers written_source)
imports = record {
  kinds = record { left = kind_of_node _ _; right = kind_of_node _ _ };
  span = at_places _ _ (simp (part_node, range_of_range)) (simp (part_node, range_of_range));
  specifiers = subst₂ (SamePublic (is_public_specifier facts) (is_public_specifier facts) Same) (sym (specifiers_made first_specifiers))
      (sym (specifiers_made second_specifiers)) specifiers;
  src = subst₂ (SameSource no_places facts facts) (sym (source_made first_specifiers)) (sym (source_made second_specifiers)) sources;
  type_only = simp (part_node, flag_of_flag);
  with = are_same _ _ Absent (part_node _ _ _) (part_node _ _ _) same_absent;
  phase = simp part_node;
}

-- ---- the default export

ident_made : (ss : List Tree) → FnExpr-ident (ExportDefaultDecl-decl (default_function ss)) ≡ Absent
ident_made ss = simp part_node

function_made : (ss : List Tree) → FnExpr-function (ExportDefaultDecl-decl (default_function ss)) ≡ void_function [] ss
function_made ss = simp part_node

default_functions : (ss ts : List Tree) → SameDefaultFunction no_places facts facts (default_function ss) (default_function ts)
default_functions ss ts = record {
  head = record {
    kinds = record { left = kind_of_node _ _; right = kind_of_node _ _ };
    decls = record { left = simp (part_node, kind_of_node); right = simp (part_node, kind_of_node) };
    span = at_places _ _ (simp (part_node, range_of_range)) (simp (part_node, range_of_range));
    is_public = simp (part_node, range_of_range);
  };
  is_ambient = refl;
  ident = are_same _ _ Absent (ident_made ss) (ident_made ts) same_absent;
}

defaults : (ss ts : List Tree) → SameItem no_places facts facts (default_function ss) (default_function ts)
defaults ss ts = h.SameItem.default (d.SameDefault.function (default_functions ss ts) refl refl
    (subst₂ (SameFunction no_places no_classes no_classes) (sym (function_made ss)) (sym (function_made ts)) (functions ss ts)))

-- ---- the modules

agree : AgreeHidden no_places facts facts first second
agree = record {
  bindings = record { unresolved = inl (refl, refl) };
  is_ambient = refl;
  items = subst₂ (SameItems no_places facts facts) (sym (items_made _)) (sym (items_made _))
      (h.SameItems.next (h.SameItem.import_export (l.SameImportExport.import imports))
      (h.SameItems.next (defaults [] (empty_statement ∷ [])) h.SameItems.end));
  shebang = are_same _ _ Absent (part_node _ _ _) (part_node _ _ _) same_absent;
}

pub text_of_text : (text : List ℕ) → text_of (tree.Text text) ≡ text
unfolding roll-Tree denote.Hole.Carrier.roll
text_of_text text = ap text_at (out-roll-Tree (Tree-F.Text text))

first_is : skeleton_of facts first ≡ answered
first_is =
    simp (
      item_seen_is,
      parts_node,
      kind_of_node,
      range_of_range,
      flag_of_flag,
      context_of_context,
      text_of_text,
      is_absent_node,
      absent,
      word_read,
    )

second_is : skeleton_of facts second ≡ answered
second_is =
    simp (
      item_seen_is,
      parts_node,
      kind_of_node,
      range_of_range,
      flag_of_flag,
      context_of_context,
      text_of_text,
      is_absent_node,
      absent,
      word_read,
    )

other_source : SameSource no_places facts e.unresolving written_source written_source → ⊥
other_source s = let e = s.relative (is_absent_node _ _) in cc

pub module_example : ModuleExample
module_example =
    record { one_to_one = is_renaming; agree = agree; first_skeleton = first_is; second_skeleton = second_is; other_source = other_source }
