-- The two modules of the example with a class that is not public agree but for what is hidden.
use Rattle.std.specs.Prelude.{◌≡◌, Bool, true, false, ◌||◌, not, [], ◌∷◌, refl}
use Rattle.std.proofs.Common.{arith, inl, ap, ◌∙◌, sym, subst, subst₂, true≢false}
use Rattle.fast_check_tree_syntax.specs.declared.kind.Kind.{Kind}
use Rattle.fast_check_tree_syntax.specs.declared.kind.Kind.TheVariants as kinds
use Rattle.fast_check_tree_syntax.specs.declared.kind.Word.TheVariants as words
use Rattle.fast_check_tree_syntax.specs.declared.source.SourceRange.{SourceRange}
use Rattle.fast_check_tree_syntax.specs.declared.tree.Tree as tree
use Rattle.fast_check_tree_syntax.specs.declared.tree.Tree.{Tree, Absent}
use Rattle.fast_check_tree_syntax.specs.Shape.{◌is◌, kind_of, parts}
use Rattle.fast_check_tree_syntax.specs.Moves.{IsPair}
use Rattle.fast_check_tree_syntax.proofs.Made.{kind_of_node, parts_node, part_node, is_absent_node, flag_of_flag, range_of_range}
use Rattle.fast_check_tree_syntax.proofs.Moved.{node_moved, range_moved, none_moved, word_moved}
use Rattle.fast_check_tree_helpers.specs.ranges.Ranges.{range_of_node}
use Rattle.fast_check_tree_forms_programs.specs.ModuleDecls.{ExportDecl-decl}
use Rattle.fast_check_tree_forms_statements.specs.Declarations.{VarDecl-kind, VarDecl-decls}
use Rattle.fast_check_tree_helpers.specs.Builders.{new_ident, ts_keyword_type, type_ann, never_value}
use Rattle.fast_check_meaning_signatures.specs.Bindings.{Bindings}
use Rattle.fast_check_meaning_signatures.specs.Expressions.{is_plain, is_compound, is_among, other_kinds, freezes, is_made, known_by_kind, is_known}
use Rattle.fast_check_meaning_signatures.specs.Expressions.{is_refused, makes_plain}
use Rattle.fast_check_meaning_skeleton.proofs.TypedFunctions.{absent}
use Rattle.fast_check_meaning_signatures.proofs.Choices.{both_true}
use Rattle.fast_check_meaning_skeleton.specs.SameClasses.{HasNoPartner}
use Rattle.fast_check_meaning_skeleton.specs.SameValues.{SameExpr}
use Rattle.fast_check_meaning_skeleton.specs.SameValues as v
use Rattle.fast_check_meaning_skeleton.specs.Mutability.{mutability_of}
use Rattle.fast_check_meaning_skeleton.specs.Visible.{declarator_typing, is_public_declarator}
use Rattle.fast_check_meaning_skeleton.proofs.GivenTypes.{given_written}
use Rattle.fast_check_meaning_skeleton.specs.ModuleFacts.{ModuleFacts}
use Rattle.fast_check_meaning_skeleton.specs.Hidden.{AgreeHidden, SameHead, SameDeclarator, SameDeclarators, SameStatement, SameDecl, SameItem}
use Rattle.fast_check_meaning_skeleton.specs.Hidden.{SameItems}
use Rattle.fast_check_meaning_skeleton.specs.Hidden as h
use Rattle.fast_check_meaning_skeleton.specs.SameImportsExports as l
use Rattle.fast_check_meaning_skeleton.specs.Skeleton.{skeleton_of}
use Rattle.fast_check_meaning_skeleton.specs.ClassExample.{module_of, no_places, no_classes}
use Rattle.fast_check_meaning_skeleton.specs.PrivateClassExample.{class_h, declarator_x, statement_x, export_x, one, new_h, first, second}
use Rattle.fast_check_meaning_skeleton.specs.PrivateClassExample.{class_h_known, facts, PrivateClassExample}
use Rattle.fast_check_meaning_skeleton.proofs.ClassExample.{is_renaming, Same, new_same, same_absent, same_ident, at_places, in_scopes, are_same}
use Rattle.fast_check_meaning_skeleton.proofs.ClassExample.{items_made}
use Rattle.fast_check_meaning_skeleton.proofs.Example.{context_of_context}
use Rattle.fast_check_meaning_skeleton.proofs.ModuleExample.{text_of_text}
use Rattle.fast_check_meaning_skeleton.proofs.Namespaces.{item_seen_is}

abbrev a : ModuleFacts
a = facts class_h_known

abbrev b : ModuleFacts
b = facts no_classes

-- ---- the class is silent

begins_at : (range_of_node class_h).start.0 ≡ 7
begins_at = simp (kind_of_node, part_node, range_of_range)

not_public : a.is_public (range_of_node class_h) ≡ false
not_public = simp (kind_of_node, part_node, range_of_range)

pub begins_alone : HasNoPartner no_places.starts (range_of_node class_h).start.0
begins_alone n p = let q : IsPair no_places.starts 7 n = subst (λ s. IsPair no_places.starts s n) begins_at p in grind arith

-- ---- the statement agrees

same_type : Same (type_ann (ts_keyword_type words.TsNumberKeyword)) (type_ann (ts_keyword_type words.TsNumberKeyword))
same_type = new_same (type_ann (ts_keyword_type words.TsNumberKeyword))
    (λ m ok. simp (node_moved, range_moved, none_moved m ok, word_moved))

same_const : Same (tree.Word words.Const) (tree.Word words.Const)
same_const = new_same (tree.Word words.Const) (λ m ok. word_moved m words.Const)

heads : SameHead no_places a b (declarator_x one) (declarator_x one)
heads = record {
  span = at_places _ _ (simp (part_node, range_of_range)) (simp (part_node, range_of_range));
  names = record { left = simp (part_node, kind_of_node); right = simp (part_node, kind_of_node) };
  ident = are_same _ _ (new_ident (120 ∷ [])) (simp part_node) (simp part_node) (same_ident (120 ∷ []));
  definite = refl;
}

public_same : l.SamePublic (is_public_declarator a) (is_public_declarator b)
    (SameDeclarator no_places a b (mutability_of (VarDecl-kind (statement_x one))))
    (declarator_x one ∷ []) (declarator_x one ∷ [])
public_same = l.SamePublic.next refl (h.SameDeclarator.given heads (given_written no_places a.bindings b.bindings
    (declarator_typing (mutability_of (VarDecl-kind (statement_x one))) (declarator_x one))
    (declarator_typing (mutability_of (VarDecl-kind (statement_x one))) (declarator_x one)) refl refl
    (simp (part_node, is_absent_node)) (simp (part_node, is_absent_node))
    (are_same _ _ (type_ann (ts_keyword_type words.TsNumberKeyword)) (simp part_node) (simp part_node) same_type))) l.SamePublic.end

statements : SameStatement no_places a b (statement_x one) (statement_x one)
statements = record {
  kinds = record { left = kind_of_node _ _; right = kind_of_node _ _ };
  span = at_places _ _ (simp (part_node, range_of_range)) (simp (part_node, range_of_range));
  ctxt = in_scopes _ _ (simp (part_node, context_of_context)) (simp (part_node, context_of_context));
  kind = are_same _ _ (tree.Word words.Const) (part_node _ _ _) (part_node _ _ _) same_const;
  declare = refl;
}

decls_made : parts (VarDecl-decls (statement_x one)) ≡ declarator_x one ∷ []
decls_made = simp parts_node

decls : (p q : SourceRange) → SameDecl no_places a b p q (statement_x one) (statement_x one)
decls p q = h.SameDecl.variable statements (simp (part_node, flag_of_flag))
    (subst₂ (SameDeclarators no_places a b (SameDeclarator no_places a b (mutability_of (VarDecl-kind (statement_x one))))) (sym decls_made)
    (sym decls_made)
    public_same)

exports : SameItem no_places a b (export_x one) (export_x one)
exports = h.SameItem.exported (record { left = kind_of_node _ _; right = kind_of_node _ _ })
    (at_places _ _ (simp (part_node, range_of_range)) (simp (part_node, range_of_range)))
    (subst₂ (SameDecl no_places a b _ _) (sym made) (sym made) (decls _ _))
  where
    made : ExportDecl-decl (export_x one) ≡ statement_x one
    made = part_node _ _ _

agree : AgreeHidden no_places a b first second
agree = record {
  bindings = record { unresolved = inl (refl, refl) };
  is_ambient = refl;
  items = subst₂ (SameItems no_places a b) (sym (items_made _)) (sym (items_made _))
      (h.SameItems.left (h.IsSilent.decl (h.IsSilentDecl.class (kind_of_node _ _) not_public)) begins_alone
      (h.SameItems.next exports h.SameItems.end));
  shebang = are_same _ _ Absent (part_node _ _ _) (part_node _ _ _) same_absent;
}

first_skeleton : skeleton_of a first ≡ module_of (export_x never_value ∷ [])
first_skeleton = simp (item_seen_is, parts_node, kind_of_node, range_of_range, flag_of_flag, context_of_context, is_absent_node)

second_skeleton : skeleton_of b second ≡ module_of (export_x never_value ∷ [])
second_skeleton = simp (item_seen_is, parts_node, kind_of_node, range_of_range, flag_of_flag, context_of_context, is_absent_node)

-- ---- a call of the class

not_kind : {A : Type 0} (k : Kind) (test : Kind → Bool) (t : Tree) → kind_of t ≡ k → test k ≡ false → test (kind_of t) ≡ true → A
not_kind k test t e differs holds = absurd (true≢false (sym holds ∙ (ap test e ∙ differs)))

made_known : (c : Bindings) (t : Tree) → kind_of t ≡ kinds.NewExpr → is_made c t ≡ true → is_refused c t ≡ false
made_known c t e made =
    let known : is_known c t ≡ true = ap (λ k. known_by_kind k c t) e ∙ (both_true (kind_of t is kinds.NewExpr) (makes_plain c t) made).1 in
    λ i. not (is_plain (e i) || (is_compound (e i) || (is_among other_kinds (e i) || known i)))

-- a call that is known on one side agrees with none that is not
no_agreement : (c d : Bindings) {t u : Tree} → kind_of t ≡ kinds.NewExpr → is_made c t ≡ true → is_made d u ≡ false →
    SameExpr no_places c d t u → ⊥
no_agreement c d k e n (v.SameExpr.plain {t = t} {u = u} p x) = not_kind kinds.NewExpr is_plain t k refl p
no_agreement c d k e n (v.SameExpr.refused {t = t} {u = u} x y) = true≢false (sym x ∙ made_known c t k e)
no_agreement c d k e n (v.SameExpr.compound {t = t} {u = u} j x y z) =
    not_kind kinds.NewExpr is_compound t k refl (ap is_compound x.left ∙ y)
no_agreement c d k e n (v.SameExpr.satisfies x y z w) = let j = sym k ∙ x.left in cc
no_agreement c d k e n (v.SameExpr.as_type x y z) = let j = sym k ∙ x.left in cc
no_agreement c d k e n (v.SameExpr.assertion x y z) = let j = sym k ∙ x.left in cc
no_agreement c d k e n (v.SameExpr.frozen {t = t} {u = u} x y z w m o q) =
    not_kind kinds.NewExpr (λ j. j is kinds.CallExpr) t k refl (both_true (kind_of t is kinds.CallExpr) (freezes c t) x).0
no_agreement c d k e n (v.SameExpr.made x y z w m o q) = true≢false (sym y ∙ n)
no_agreement c d k e n (v.SameExpr.function x y z) = let j = sym k ∙ x.left in cc
no_agreement c d k e n (v.SameExpr.arrow x y z w) = let j = sym k ∙ x.left in cc

other_class : SameExpr no_places class_h_known no_classes new_h new_h → ⊥
other_class s = no_agreement class_h_known no_classes (kind_of_node _ _) is_known_call is_unknown_call s
  where
    is_known_call : is_made class_h_known new_h ≡ true
    is_known_call = simp (kind_of_node, part_node, text_of_text, absent)

    is_unknown_call : is_made no_classes new_h ≡ false
    is_unknown_call = simp (kind_of_node, part_node, absent)

pub private_class_example : PrivateClassExample
private_class_example = record {
  one_to_one = is_renaming;
  agree = agree;
  first_skeleton = first_skeleton;
  second_skeleton = second_skeleton;
  other_class = other_class;
}
