-- The two modules of the example with a namespace agree but for what is hidden.
use Rattle.std.specs.Prelude.{◌≡◌, true, false, List, [], ◌∷◌, ◌++◌, refl}
use Rattle.std.proofs.Common.{arith, inl, ap, ◌∙◌, sym, subst, subst₂}
use Rattle.fast_check_tree_syntax.specs.declared.kind.Kind.TheVariants.{TsNamespaceDecl, List as List'}
use Rattle.fast_check_tree_syntax.specs.declared.kind.Kind.TheVariants as kinds
use Rattle.fast_check_tree_syntax.specs.declared.tree.Tree.{Tree, Absent}
use Rattle.fast_check_tree_syntax.specs.Shape.{◌is◌, kind_of, parts}
use Rattle.fast_check_tree_syntax.specs.Moves.{IsPair}
use Rattle.fast_check_tree_syntax.proofs.Made.{kind_of_node, parts_node, part_node, is_absent_node, flag_of_flag, range_of_range}
use Rattle.fast_check_tree_forms_statements.specs.TsDeclarations.{TsModuleDecl-span, TsModuleDecl-declare, TsModuleDecl-global}
use Rattle.fast_check_tree_forms_statements.specs.TsDeclarations.{TsModuleDecl-namespace, TsModuleDecl-id, TsModuleDecl-body}
use Rattle.fast_check_tree_forms_statements.specs.TsDeclarations.{TsNamespaceDecl-body}
use Rattle.fast_check_tree_helpers.specs.Builders.{new_ident}
use Rattle.fast_check_tree_helpers.specs.ranges.Ranges.{range_of_node}
use Rattle.fast_check_meaning_skeleton.specs.SameClasses.{IsNoPartner}
use Rattle.fast_check_meaning_signatures.specs.Seen.{Seen, written, range, flag, round, seens}
use Rattle.fast_check_meaning_expandos.specs.Expandos.{namespaces_seen}
use Rattle.fast_check_meaning_skeleton.specs.ClassExample.{no_places, all_public}
use Rattle.fast_check_meaning_skeleton.specs.Example.{at}
use Rattle.fast_check_meaning_skeleton.specs.Hidden.{SameNamespaceHead, SameInnerHead, SameBody, SameItem, SameItems, IsSilent, AgreeHidden}
use Rattle.fast_check_meaning_skeleton.specs.Hidden as h
use Rattle.fast_check_meaning_skeleton.specs.NamespaceExample.{block, inner, namespace_n, hidden, first, second, NamespaceExample}
use Rattle.fast_check_meaning_skeleton.specs.Namespaces.{is_namespace, innermost, block_items, items_inside, body_round, namespace_round}
use Rattle.fast_check_meaning_skeleton.specs.Skeleton.{skeleton_of}
use Rattle.fast_check_meaning_skeleton.specs.ModuleFacts.{ModuleFacts, inside}
use Rattle.fast_check_meaning_skeleton.specs.Visible.{item_look, body_seen, item_seen, seen_by_rule}
use Rattle.fast_check_meaning_skeleton.proofs.Agreeing.{silent_item, silent_properties}
use Rattle.fast_check_meaning_skeleton.proofs.ClassExample.{is_renaming, same_absent, same_ident, at_places, are_same, items_made}
use Rattle.fast_check_meaning_skeleton.proofs.Namespaces.{inner_round, block_round, innermost_block, innermost_inner, body_of_block, body_of_inner}
use Rattle.fast_check_meaning_skeleton.proofs.Namespaces.{item_seen_is, namespace_if}
use Rattle.fast_check_meaning_skeleton.proofs.Ruled.{namespace_rule}

-- ---- what they are made of

block_made : (ts : List Tree) → block_items (block ts) ≡ ts
block_made ts = ap parts (part_node _ _ _) ∙ parts_node List' ts

inner_made : (ts : List Tree) → TsNamespaceDecl-body (inner ts) ≡ block ts
inner_made ts = part_node _ _ _

body_made : (ts : List Tree) → TsModuleDecl-body (namespace_n ts) ≡ inner ts
body_made ts = part_node _ _ _

inner_kind : (ts : List Tree) → kind_of (inner ts) is TsNamespaceDecl ≡ true
inner_kind ts = simp kind_of_node

block_kind : (ts : List Tree) → kind_of (block ts) is TsNamespaceDecl ≡ false
block_kind ts = simp kind_of_node

is_one : (ts : List Tree) → is_namespace (namespace_n ts) ≡ true
is_one ts = simp (part_node, kind_of_node, flag_of_flag, is_absent_node)

-- ---- they agree

silent : (facts : ModuleFacts) → IsSilent facts hidden
silent facts = h.IsSilent.statement (simp kind_of_node)

begins_at : range_of_node hidden ≡ at 7 8
begins_at = simp (kind_of_node, part_node, range_of_range)

alone : IsNoPartner no_places.starts (range_of_node hidden).start.0
alone n p = let q : IsPair no_places.starts n 7 = subst (λ s. IsPair no_places.starts n s.start.0) begins_at p in grind arith

module _ (a b : ModuleFacts) where
  blocks : SameBody no_places a b (block []) (block (hidden ∷ []))
  blocks = h.SameBody.block (record { left = block_kind []; right = block_kind (hidden ∷ []) })
      (at_places _ _ (simp (part_node, range_of_range)) (simp (part_node, range_of_range)))
      (subst₂ (SameItems no_places a b) (sym (block_made [])) (sym (block_made (hidden ∷ [])))
      (h.SameItems.right (silent b) alone h.SameItems.end))

  inner_heads : (ts us : List Tree) → SameInnerHead no_places (inner ts) (inner us)
  inner_heads ts us = record {
    kinds = record { left = kind_of_node _ _; right = kind_of_node _ _ };
    span = at_places _ _ (simp (part_node, range_of_range)) (simp (part_node, range_of_range));
    declare = simp (part_node, flag_of_flag);
    global = simp (part_node, flag_of_flag);
    id = are_same _ _ (new_ident (109 ∷ [])) (part_node _ _ _) (part_node _ _ _) (same_ident (109 ∷ []));
  }

  bodies : SameBody no_places a b (inner []) (inner (hidden ∷ []))
  bodies = h.SameBody.inner (inner_heads [] (hidden ∷ []))
      (subst₂ (SameBody no_places a b) (sym (inner_made [])) (sym (inner_made (hidden ∷ []))) blocks)

heads : (ts us : List Tree) → SameNamespaceHead no_places all_public all_public (range_of_node (namespace_n ts))
    (range_of_node (namespace_n us))
    (namespace_n ts) (namespace_n us)
heads ts us = record {
  kinds = record { left = kind_of_node _ _; right = kind_of_node _ _ };
  namespaces = (is_one ts, is_one us);
  public = refl;
  span = at_places _ _ (simp (part_node, range_of_range)) (simp (part_node, range_of_range));
  declare = simp (part_node, flag_of_flag);
  namespace = simp (part_node, flag_of_flag);
  id = are_same _ _ (new_ident (110 ∷ [])) (part_node _ _ _) (part_node _ _ _) (same_ident (110 ∷ []));
}

namespaces : SameItem no_places all_public all_public (namespace_n []) (namespace_n (hidden ∷ []))
namespaces = h.SameItem.namespace (h.SameNamespace.bodies (heads [] (hidden ∷ []))
    (subst₂ (SameBody no_places (inside all_public (namespace_n [])) (inside all_public (namespace_n (hidden ∷ []))))
    (sym (body_made [])) (sym (body_made (hidden ∷ [])))
    (bodies (inside all_public (namespace_n [])) (inside all_public (namespace_n (hidden ∷ []))))))

agree : AgreeHidden no_places all_public all_public first second
agree = record {
  bindings = record { unresolved = inl (refl, refl) };
  is_ambient = refl;
  items = subst₂ (SameItems no_places all_public all_public) (sym (items_made _)) (sym (items_made _))
      (h.SameItems.next namespaces h.SameItems.end);
  shebang = are_same _ _ Absent (part_node _ _ _) (part_node _ _ _) same_absent;
}

-- ---- their skeletons

inside_is : (ts : List Tree) → items_inside (namespace_n ts) ≡ ts
inside_is ts =
    ap (λ t. block_items (innermost t)) (body_made ts)
    ∙ (ap block_items
    (innermost_inner (inner ts) (inner_kind ts) ∙ (ap innermost (inner_made ts) ∙ innermost_block (block ts) (block_kind ts)))
    ∙ block_made ts)

body_is : (ts : List Tree) → body_round [] (TsModuleDecl-body (namespace_n ts)) ≡ inner_round (inner ts) (block_round (block ts) [])
body_is ts =
    ap (body_round []) (body_made ts)
    ∙ (body_of_inner (λ us. []) (inner ts) (inner_kind ts)
    ∙ ap (inner_round (inner ts)) (ap (body_round []) (inner_made ts) ∙ body_of_block (λ us. []) (block ts) (block_kind ts)))

abbrev round_body : Tree → Seen → Seen
round_body decl body =
    round kinds.TsModuleDecl (seens (range (TsModuleDecl-span decl) ∷ flag (TsModuleDecl-declare decl) ∷ flag (TsModuleDecl-global decl) ∷
    flag (TsModuleDecl-namespace decl) ∷ written (TsModuleDecl-id decl) ∷ body ∷ []))

seen_as : (ts : List Tree) → body_seen item_look (inside all_public (namespace_n ts)) ts ≡ [] →
    item_seen all_public (namespace_n ts) ≡ round_body (namespace_n ts) (inner_round (inner ts) (block_round (block ts) [])) ∷ []
seen_as ts e =
    let decl = namespace_n ts in
    item_seen_is all_public decl
    ∙ (ap (seen_by_rule all_public decl) (namespace_rule decl (kind_of_node _ _))
    ∙ (namespace_if all_public (range_of_node decl) decl (is_one ts)
    ∙ (ap (λ items. namespace_round items decl ∷ []) (ap (body_seen item_look (inside all_public decl)) (inside_is ts) ∙ e)
    ∙ ap (λ body. round_body decl body ∷ []) (body_is ts))))

nothing_hidden : (facts : ModuleFacts) → body_seen item_look facts (hidden ∷ []) ≡ []
nothing_hidden facts = λ i. (silent_item facts hidden (silent facts) i ++ []) ++ namespaces_seen
    (silent_properties facts hidden (silent facts) i ++ [])

first_is : skeleton_of all_public first ≡ first
first_is = simp (seen_as [] refl, parts_node, kind_of_node, range_of_range, flag_of_flag)

second_is : skeleton_of all_public second ≡ first
second_is = simp (
  seen_as (hidden ∷ []) (nothing_hidden (inside all_public (namespace_n (hidden ∷ [])))),
  parts_node,
  kind_of_node,
  range_of_range,
  flag_of_flag,
)

pub namespace_example : NamespaceExample
namespace_example = record { one_to_one = is_renaming; agree = agree; first_skeleton = first_is; second_skeleton = second_is }
