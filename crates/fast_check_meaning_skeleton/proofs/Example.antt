-- The two modules of the example agree but for what is hidden.
use Rattle.std.specs.Prelude.{◌≡◌, ℕ, Bool, false, List, [], ◌∷◌, refl, ◌↔◌, slice_get, unwrap_or}
use Rattle.std.proofs.Common.{inl, inr, arith, ap, ◌∙◌, sym, subst, subst₂}
use Rattle.fast_check_tree_syntax.specs.declared.kind.Kind.{Kind}
use Rattle.fast_check_tree_syntax.specs.declared.kind.Kind.TheVariants.{Module, VarDecl, VarDeclarator, ExportDecl, BindingIdent}
use Rattle.fast_check_tree_syntax.specs.declared.kind.Kind.TheVariants.{List as List'}
use Rattle.fast_check_tree_syntax.specs.declared.kind.Word.TheVariants as words
use Rattle.fast_check_tree_syntax.specs.declared.source.SourceRange.{SourceRange}
use Rattle.fast_check_tree_syntax.specs.declared.source.SyntaxContext.{SyntaxContext}
use Rattle.fast_check_tree_syntax.specs.declared.tree.Tree as tree
use Rattle.fast_check_tree_syntax.specs.declared.tree.Tree.{Tree, Absent, roll-Tree, out-roll-Tree}
use Rattle.fast_check_tree_syntax.specs.declared.tree.Tree.TheOpen.{Tree-F}
use Rattle.fast_check_tree_syntax.specs.Shape.{parts, part, node, list, range_of, flag_of, context_at, context_of}
use Rattle.fast_check_tree_syntax.specs.Moves.{IsRenaming, IsPair, partners, twice, moved}
use Rattle.fast_check_tree_syntax.specs.Same.{SameTree, SameRange, Each}
use Rattle.fast_check_tree_syntax.proofs.Made.{kind_of_node, parts_node, part_node, is_absent_node, flag_of_flag, range_of_range}
use Rattle.fast_check_tree_syntax.proofs.Moved.{node_moved, absent_moved, flag_moved, word_moved, text_moved, context_moved, range_moved}
use Rattle.fast_check_tree_syntax.proofs.Same.{tree_from}
use Rattle.fast_check_tree_comments.specs.Kept.{kept}
use Rattle.fast_check_tree_forms_programs.specs.Names.{BindingIdent-id, BindingIdent-type_ann, binding_ident}
use Rattle.fast_check_tree_forms_programs.specs.ModuleDecls.{ExportDecl-span, ExportDecl-decl, export_decl}
use Rattle.fast_check_tree_forms_programs.specs.Programs.{module'}
use Rattle.fast_check_tree_forms_statements.specs.Declarations.{VarDecl-ctxt, VarDecl-kind, VarDecl-declare, VarDecl-decls, VarDeclarator-span}
use Rattle.fast_check_tree_forms_statements.specs.Declarations.{VarDeclarator-definite, var_decl, var_declarator}
use Rattle.fast_check_tree_helpers.specs.Builders.{never_value}
use Rattle.fast_check_meaning_skeleton.specs.ModuleFacts.{ModuleFacts}
use Rattle.fast_check_meaning_skeleton.specs.Mutability.{mutability_of}
use Rattle.fast_check_tree_helpers.specs.ranges.Ranges.{range_of_node}
use Rattle.fast_check_meaning_skeleton.specs.Visible.{declared_ident, declared_type, declarator_typing, is_public_declarator, items_of}
use Rattle.fast_check_meaning_skeleton.specs.SameValues.{SameGiven}
use Rattle.fast_check_meaning_skeleton.proofs.GivenTypes.{given_written}
use Rattle.fast_check_meaning_skeleton.specs.Hidden.{AgreeHidden, SameHead, SameDeclarator, SameDeclarators, SameStatement, SameDecl, SameItem}
use Rattle.fast_check_meaning_skeleton.specs.Hidden.{SameItems}
use Rattle.fast_check_meaning_skeleton.specs.SameClasses.{IsNoPartner}
use Rattle.fast_check_meaning_skeleton.specs.Hidden as h
use Rattle.fast_check_meaning_skeleton.specs.SameImportsExports as l
use Rattle.fast_check_meaning_skeleton.specs.KeptComments.{kept_comments}
use Rattle.fast_check_meaning_skeleton.specs.SameComments.{all_comments_at, SameComment, SameComments}
use Rattle.fast_check_meaning_skeleton.specs.Skeleton.{skeleton_of}
use Rattle.fast_check_meaning_skeleton.specs.Example.{at, scope, name, annotation, declarator, statement, exported, documented, before_tokens}
use Rattle.fast_check_meaning_skeleton.specs.Example.{with_trailing, text_value, first, first_comments, hidden_function, name_value, second}
use Rattle.fast_check_meaning_skeleton.specs.Example.{second_comments, renaming, facts, Example}
use Rattle.fast_check_meaning_skeleton.proofs.Namespaces.{item_seen_is, removed_start_is}
use Rattle.fast_check_meaning_skeleton.proofs.CommentsAlike.{two_worlds}

-- ---- the renaming

starts_one : (a b x y : ℕ) → IsPair renaming.starts a x → IsPair renaming.starts b y → (a ≡ b) ↔ (x ≡ y)
starts_one a b x y p q = (λ e. grind arith, λ e. grind arith)

ends_one : (a b x y : ℕ) → IsPair renaming.ends a x → IsPair renaming.ends b y → (a ≡ b) ↔ (x ≡ y)
ends_one a b x y p q = (λ e. grind arith, λ e. grind arith)

scopes_one : (a b x y : ℕ) → IsPair renaming.scopes a x → IsPair renaming.scopes b y → (a ≡ b) ↔ (x ≡ y)
scopes_one a b x y p q = (λ e. grind arith, λ e. grind arith)

is_renaming : IsRenaming renaming
is_renaming = record {
  starts = record { zero = inl (refl, refl); same = starts_one };
  ends = record { zero = inl (refl, refl); same = ends_one };
  scopes = record { zero = inl (refl, refl); same = scopes_one };
}

-- ---- what the forms read as

pub context_of_context : (c : SyntaxContext) → context_of (tree.Context c) ≡ c
unfolding roll-Tree denote.Hole.Carrier.roll
context_of_context c = ap context_at (out-roll-Tree (Tree-F.Context c))

span_made : (kind : Kind) (span : SourceRange) (ts : List Tree) → range_of (part 0 (node kind (tree.Range span ∷ ts))) ≡ span
span_made kind span ts = ap range_of (part_node _ kind (tree.Range span ∷ ts)) ∙ range_of_range span

items_made : (span : SourceRange) (items : List Tree) (shebang : Tree) → items_of (module' span (list items) shebang) ≡ items
items_made span items shebang = ap parts (part_node _ Module (tree.Range span ∷ list items ∷ shebang ∷ [])) ∙ parts_node List' items

decl_made : (span : SourceRange) (decl : Tree) → ExportDecl-decl (export_decl span decl) ≡ decl
decl_made span decl = part_node _ ExportDecl (tree.Range span ∷ decl ∷ [])

module _ (span : SourceRange) (ctxt : SyntaxContext) (kind : Tree) (declare : Bool) (ds : List Tree) where
  abbrev statement_parts : List Tree
  statement_parts = tree.Range span ∷ tree.Context ctxt ∷ kind ∷ tree.Flag declare ∷ list ds ∷ []

  ctxt_made : VarDecl-ctxt (var_decl span ctxt kind declare (list ds)) ≡ ctxt
  ctxt_made = ap context_of (part_node _ VarDecl statement_parts) ∙ context_of_context ctxt

  kind_made : VarDecl-kind (var_decl span ctxt kind declare (list ds)) ≡ kind
  kind_made = part_node _ VarDecl statement_parts

  declare_made : VarDecl-declare (var_decl span ctxt kind declare (list ds)) ≡ declare
  declare_made = ap flag_of (part_node _ VarDecl statement_parts) ∙ flag_of_flag declare

  decls_made : parts (VarDecl-decls (var_decl span ctxt kind declare (list ds))) ≡ ds
  decls_made = ap parts (part_node _ VarDecl statement_parts) ∙ parts_node List' ds

module _ (span : SourceRange) (id type init : Tree) (definite : Bool) where
  abbrev declarator_parts : List Tree
  declarator_parts = tree.Range span ∷ binding_ident id type ∷ init ∷ tree.Flag definite ∷ []

  ident_made : declared_ident (var_declarator span (binding_ident id type) init definite) ≡ id
  ident_made = ap BindingIdent-id (part_node _ VarDeclarator declarator_parts) ∙ part_node _ BindingIdent (id ∷ type ∷ [])

  type_made : declared_type (var_declarator span (binding_ident id type) init definite) ≡ type
  type_made = ap BindingIdent-type_ann (part_node _ VarDeclarator declarator_parts) ∙ part_node _ BindingIdent (id ∷ type ∷ [])

  definite_made : VarDeclarator-definite (var_declarator span (binding_ident id type) init definite) ≡ definite
  definite_made = ap flag_of (part_node _ VarDeclarator declarator_parts) ∙ flag_of_flag definite

-- ---- what agrees

abbrev a : ModuleFacts
a = facts 23

abbrev b : ModuleFacts
b = facts 48

same_names : moved (partners renaming) (name 23 2) ≡ moved twice (name 48 3)
same_names = simp (node_moved, range_moved, context_moved, text_moved, flag_moved)

same_types : moved (partners renaming) (annotation 23) ≡ moved twice (annotation 48)
same_types = simp (node_moved, range_moved, word_moved)

same_consts : moved (partners renaming) (tree.Word words.Const) ≡ moved twice (tree.Word words.Const)
same_consts = simp word_moved

same_absent : moved (partners renaming) Absent ≡ moved twice Absent
same_absent = simp absent_moved

abbrev Same : Tree → Tree → Type 0
Same = SameTree renaming

same : (t u : Tree) → moved (partners renaming) t ≡ moved twice u → Same t u
same t u e = tree_from renaming is_renaming t u e

abbrev first_declarator : Tree
first_declarator = declarator 23 2 text_value 38

abbrev second_declarator : Tree
second_declarator = declarator 48 3 name_value 61

first_span : VarDeclarator-span first_declarator ≡ at 23 38
first_span = span_made VarDeclarator (at 23 38) (binding_ident (name 23 2) (annotation 23) ∷ text_value ∷ tree.Flag false ∷ [])

second_span : VarDeclarator-span second_declarator ≡ at 48 61
second_span = span_made VarDeclarator (at 48 61) (binding_ident (name 48 3) (annotation 48) ∷ name_value ∷ tree.Flag false ∷ [])

both_public : is_public_declarator a first_declarator ≡ is_public_declarator b second_declarator
both_public = ap a.is_public first_span ∙ sym (ap b.is_public second_span)

heads : SameHead renaming a b first_declarator second_declarator
heads = record {
  span = subst₂ (SameRange renaming) (sym first_span) (sym second_span)
      (record { start = inr (inr (inr (inr (inl (refl, refl))))); end = inr (inr (inr (inr (inl (refl, refl))))) });
  names = record { left = simp (part_node, kind_of_node); right = simp (part_node, kind_of_node) };
  ident = subst₂ Same (sym (ident_made (at 23 38) (name 23 2) (annotation 23) text_value false))
      (sym (ident_made (at 48 61) (name 48 3) (annotation 48) name_value false))
      (same (name 23 2) (name 48 3) same_names);
  definite = definite_made (at 23 38) (name 23 2) (annotation 23) text_value false
      ∙ sym (definite_made (at 48 61) (name 48 3) (annotation 48) name_value false);
}

abbrev first_statement : Tree
first_statement = statement 17 2 text_value 38

abbrev second_statement : Tree
second_statement = statement 42 3 name_value 61

-- the same type is written, so the values do not count
types : SameGiven renaming a.bindings b.bindings (declarator_typing (mutability_of (VarDecl-kind first_statement)) first_declarator)
    (declarator_typing (mutability_of (VarDecl-kind first_statement)) second_declarator)
types = given_written renaming a.bindings b.bindings _ _ refl refl (simp (part_node, is_absent_node)) (simp (part_node, is_absent_node))
    (subst₂ Same (sym (type_made (at 23 38) (name 23 2) (annotation 23) text_value false))
    (sym (type_made (at 48 61) (name 48 3) (annotation 48) name_value false))
    (same (annotation 23) (annotation 48) same_types))

abbrev const : Tree
const = tree.Word words.Const

statements : SameStatement renaming a b first_statement second_statement
statements = record {
  kinds = record { left = simp kind_of_node; right = simp kind_of_node };
  span = subst₂ (SameRange renaming)
      (sym (span_made VarDecl (at 17 39) (tree.Context (scope 0) ∷ const ∷ tree.Flag false ∷ list (first_declarator ∷ []) ∷ [])))
      (sym (span_made VarDecl (at 42 62) (tree.Context (scope 0) ∷ const ∷ tree.Flag false ∷ list (second_declarator ∷ []) ∷ [])))
      (record { start = inr (inr (inr (inl (refl, refl)))); end = inr (inr (inr (inr (inr (inl (refl, refl)))))) });
  ctxt = subst₂ (λ (x y : SyntaxContext). IsPair renaming.scopes x.0 y.0)
      (sym (ctxt_made (at 17 39) (scope 0) const false (first_declarator ∷ [])))
      (sym (ctxt_made (at 42 62) (scope 0) const false (second_declarator ∷ [])))
      (inl (refl, refl));
  kind = subst₂ Same (sym (kind_made (at 17 39) (scope 0) const false (first_declarator ∷ [])))
      (sym (kind_made (at 42 62) (scope 0) const false (second_declarator ∷ [])))
      (same const const same_consts);
  declare = declare_made (at 17 39) (scope 0) const false (first_declarator ∷ [])
      ∙ sym (declare_made (at 42 62) (scope 0) const false (second_declarator ∷ []));
}

decls : (p q : SourceRange) → SameDecl renaming a b p q first_statement second_statement
decls p q = h.SameDecl.variable statements (declare_made (at 17 39) (scope 0) const false (first_declarator ∷ []))
    (subst₂ (SameDeclarators renaming a b (SameDeclarator renaming a b (mutability_of (VarDecl-kind first_statement))))
    (sym (decls_made (at 17 39) (scope 0) const false (first_declarator ∷ [])))
    (sym (decls_made (at 42 62) (scope 0) const false (second_declarator ∷ [])))
    (l.SamePublic.next both_public (h.SameDeclarator.given heads types) l.SamePublic.end))

abbrev first_export : SourceRange
first_export = ExportDecl-span (exported 10 2 text_value 38)

abbrev second_export : SourceRange
second_export = ExportDecl-span (exported 35 3 name_value 61)

exports : SameItem renaming a b (exported 10 2 text_value 38) (exported 35 3 name_value 61)
exports = h.SameItem.exported (record { left = simp kind_of_node; right = simp kind_of_node })
    (subst₂ (SameRange renaming) (sym (span_made ExportDecl (at 10 39) (first_statement ∷ [])))
    (sym (span_made ExportDecl (at 35 62) (second_statement ∷ [])))
    (record { start = inr (inr (inl (refl, refl))); end = inr (inr (inr (inr (inr (inl (refl, refl)))))) }))
    (subst₂ (SameDecl renaming a b first_export second_export) (sym (decl_made (at 10 39) first_statement))
    (sym (decl_made (at 35 62) second_statement))
    (decls first_export second_export))

begins_at : range_of_node hidden_function ≡ at 10 25
begins_at = simp (kind_of_node, part_node, range_of_range)

silent : h.IsSilent b hidden_function
silent = h.IsSilent.decl (h.IsSilentDecl.function (simp kind_of_node) (ap b.is_public begins_at))

begins_alone : IsNoPartner renaming.starts (range_of_node hidden_function).start.0
begins_alone n p = let q : IsPair renaming.starts n 10 = subst (λ s. IsPair renaming.starts n s.start.0) begins_at p in grind arith

agree : AgreeHidden renaming a b first second
agree = record {
  bindings = record { unresolved = inr (inl (refl, refl)) };
  is_ambient = refl;
  items = subst₂ (SameItems renaming a b)
      (sym (items_made (at 10 39) (exported 10 2 text_value 38 ∷ []) Absent))
      (sym (items_made (at 10 62) (hidden_function ∷ exported 35 3 name_value 61 ∷ []) Absent))
      (h.SameItems.right silent begins_alone (h.SameItems.next exports h.SameItems.end));
  shebang = subst₂ Same
      (sym (part_node _ Module (tree.Range (at 10 39) ∷ list (exported 10 2 text_value 38 ∷ []) ∷ Absent ∷ [])))
      (sym (part_node _ Module (tree.Range (at 10 62) ∷ list (hidden_function ∷ exported 35 3 name_value 61 ∷ []) ∷ Absent ∷ [])))
      (same Absent Absent same_absent);
}

skeleton_is : skeleton_of a first ≡ module' (at 10 39) (list (exported 10 2 never_value 38 ∷ [])) Absent
skeleton_is = simp (item_seen_is, parts_node, kind_of_node, range_of_range, flag_of_flag, context_of_context, is_absent_node)

-- ---- the comments

abbrev SameLeading : ℕ → ℕ → Type 0
SameLeading p q = Each (SameComment renaming) (all_comments_at p (kept first_comments).leading)
    (all_comments_at q (kept second_comments).leading)

is_at : (p q x y : ℕ) → (p ≡ x) × (q ≡ y) → SameLeading p q → SameLeading x y
is_at p q x y e s = subst₂ SameLeading e.0 e.1 s

-- at each pair of starts there is none, but at that of the exports
agree_leading : (x y : ℕ) → IsPair renaming.starts x y → SameLeading x y
agree_leading x y (inl e) = is_at 0 0 x y e tt
agree_leading x y (inr (inl e)) = is_at 1 26 x y e tt
agree_leading x y (inr (inr (inl e))) =
    is_at 10 35 x y e
    (record { kind = refl; span = record { start = inr (inl (refl, refl)); end = inr (inl (refl, refl)) }; text = refl }, tt)
agree_leading x y (inr (inr (inr (inl e)))) = is_at 17 42 x y e tt
agree_leading x y (inr (inr (inr (inr (inl e))))) = is_at 23 48 x y e tt
agree_leading x y (inr (inr (inr (inr (inr (inl e)))))) = is_at 24 49 x y e tt
agree_leading x y (inr (inr (inr (inr (inr (inr (inl e))))))) = is_at 26 51 x y e tt
agree_leading x y (inr (inr (inr (inr (inr (inr (inr e))))))) = absurd e

agree_comments : SameComments renaming (kept first_comments) (kept second_comments)
agree_comments = record { leading = agree_leading; trailing = λ p q pair. tt }

other_text : SameComments renaming (kept first_comments) (kept (before_tokens (documented 122 26 ∷ []))) → ⊥
other_text s = let e : 120 ≡ 122 = ap (λ text. unwrap_or (slice_get text 2) 0)
    (s.leading 10 35 (inr (inr (inl (refl, refl))))).0.text in omega (arith, e)

other_trailing : SameComments renaming (kept with_trailing) (kept second_comments) → ⊥
other_trailing s = s.trailing 39 62 (inr (inr (inr (inr (inr (inl (refl, refl)))))))

first_stay : kept_comments a first first_comments ≡ before_tokens (documented 120 1 ∷ [])
first_stay = simp (item_seen_is, removed_start_is, parts_node, kind_of_node, range_of_range, flag_of_flag)

second_stay : kept_comments b second second_comments ≡ before_tokens (documented 120 26 ∷ [])
second_stay = simp (item_seen_is, removed_start_is, parts_node, kind_of_node, range_of_range, flag_of_flag)

pub example : Example
example = record {
  one_to_one = is_renaming;
  agree = agree;
  agree_comments = agree_comments;
  other_text = other_text;
  other_trailing = other_trailing;
  answers = two_worlds a first first_comments b second second_comments renaming is_renaming agree agree_comments;
  skeleton = skeleton_is;
  first_stay = first_stay;
  second_stay = second_stay;
}
