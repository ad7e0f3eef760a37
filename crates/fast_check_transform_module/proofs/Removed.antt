-- The starts of the items that go, item by item.
use Rattle.std.specs.Prelude.{◌≡◌, ℕ, ◌+◌, ◌<◌, List, [], ◌∷◌, ◌++◌, length, take, refl}
use lib.ListN.{get_or}
use Rattle.std.proofs.Common.{ap, ◌∙◌, sym, subst, append-nil}
use Rattle.std.proofs.lemmas.List.{take_more}
use Rattle.std.proofs.lemmas.List.Concat.{flat_map-append}
use Rattle.fast_check_tree_syntax.specs.declared.source.SourcePos.{SourcePos}
use Rattle.fast_check_tree_syntax.specs.declared.tree.Tree.{Tree}
use Rattle.fast_check_tree_syntax.specs.Shape.{parts}
use Rattle.fast_check_tree_syntax.specs.Height.{height, height_read}
use Rattle.fast_check_tree_comments.specs.declared.comments.Comments.{Comments}
use Rattle.fast_check_tree_comments.specs.Kept.{without_leading}
use Rattle.fast_check_transform_statements.specs.skeleton.ModuleFacts.{ModuleFacts}
use Rattle.fast_check_meaning_signatures.specs.Seen.{Seen}
use Rattle.fast_check_tree_helpers.specs.ranges.Ranges.{range_of_node}
use Rattle.fast_check_transform_statements.specs.skeleton.Rules.{is_assigned, item_rule}
use Rattle.std.specs.Prelude.{Bool, true, false, if◌then◌else◌}
use Rattle.fast_check_tree_forms_expressions.specs.Operators.{AssignExpr-span}
use Rattle.fast_check_tree_forms_programs.specs.ModuleDecls.{ExportDecl-span, ExportDecl-decl}
use Rattle.fast_check_tree_forms_statements.specs.Statements.{ExprStmt-expr}
use Rattle.fast_check_meaning_signatures.specs.Seen.{tested}
use Rattle.fast_check_transform_statements.specs.expandos.Assignments.{right_seen, missing_place}
use Rattle.fast_check_tree_syntax.specs.declared.source.SourceRange.{SourceRange}
use Rattle.fast_check_transform_statements.specs.skeleton.declared.rules.DeclRule.{DeclRule}
use Rattle.fast_check_transform_statements.specs.skeleton.declared.rules.ItemRule.{ItemRule}
use Rattle.fast_check_transform_statements.specs.skeleton.declared.rules.ItemRule.TheVariants.{Assigned, Declared, Exported}
use Rattle.fast_check_transform_statements.specs.skeleton.Visible.{seen_by_rule}
use Rattle.fast_check_transform_statements.specs.skeleton.Visible.{item_seen}
use Rattle.fast_check_meaning_signatures.specs.declared.fault.Fault.{Fault}
use Rattle.fast_check_meaning_signatures.specs.Answers.{Adds, with_tree, answer_of}
use Rattle.fast_check_transform_statements.specs.skeleton.KeptComments.{start_of_unseen, starts_inside, starts_in_body, starts_below}
use Rattle.fast_check_transform_statements.specs.skeleton.KeptComments.{start_look, removed_start, removed_from, without_all_leading}
use Rattle.fast_check_transform_statements.proofs.skeleton_proofs.Namespaces.{item_seen_is, removed_start_is}
use Rattle.fast_check_transform_statements.proofs.skeleton_proofs.Standing.{OneTree, item_one}
use Rattle.fast_check_transform_module.specs.PartAnswers.{item_answer}

pub without_append : (xs ys : List SourcePos) (c : Comments) → without_all_leading (xs ++ ys) c ≡ without_all_leading ys
    (without_all_leading xs c)
without_append [] ys c = refl
without_append (x ∷ xs) ys c = without_append xs ys (without_leading x c)

module _ (facts : ModuleFacts) (item : Tree) where
  unseen : (ss : List Seen) → OneTree facts ss → (answer_of ss).stays ≡ [] → start_of_unseen item ss ≡ (range_of_node item).start ∷ []
  unseen [] one e = refl
  unseen (s ∷ []) one e = let f : one.0 ∷ [] ≡ [] = sym (ap (λ o. with_tree o []) one.1) ∙ e in cc
  unseen (s ∷ t ∷ ss) one e = absurd one

  seen_one : (ss : List Seen) (t : Tree) → (answer_of ss).stays ≡ t ∷ [] → start_of_unseen item ss ≡ []
  seen_one [] t e = cc
  seen_one (s ∷ ss) t e = refl

  abbrev pub inside : List SourcePos
  inside = starts_inside facts item (item_rule item)

  abbrev pub below : List SourcePos
  below = starts_below start_look facts item (item_rule item)

  pub removed_if_none : is_assigned (item_rule item) ≡ false → {xs : List Tree} {old new : List Fault} →
      Adds (item_answer facts item) xs old new → xs ≡ [] →
      removed_start facts item ≡ below ++ ((range_of_node item).start ∷ inside)
  unfolding item_answer
  removed_if_none n h e =
      removed_start_is facts item
      ∙ ap (λ ps. below ++ (ps ++ inside)) (unseen (item_seen facts item)
      (subst (OneTree facts) (sym (item_seen_is facts item)) (item_one facts item (item_rule item) n)) (ap (λ a. a.stays) h.is ∙ e))

  pub removed_if_some : {t : Tree} {xs : List Tree} {old new : List Fault} → Adds (item_answer facts item) xs old new → xs ≡ t ∷ [] →
      removed_start facts item ≡ below ++ inside
  unfolding item_answer
  removed_if_some {t} h e =
      removed_start_is facts item ∙ ap (λ ps. below ++ (ps ++ inside)) (seen_one (item_seen facts item) t (ap (λ a. a.stays) h.is ∙ e))

  -- the start of an assignment
  pub removed_if_assigned : item_rule item ≡ Assigned → removed_start facts item ≡ (range_of_node item).start ∷ []
  removed_if_assigned e =
      removed_start_is facts item
      ∙ (λ i. starts_below start_look facts item
      (e i) ++ (start_of_unseen item ((item_seen_is facts item ∙ ap (seen_by_rule facts item) e) i)
      ++ starts_inside facts item (e i)))
      ∙ go (facts.is_public (AssignExpr-span (ExprStmt-expr item)))
    where
      go : (p : Bool) → start_of_unseen item (if p then tested (missing_place facts.objects (ExprStmt-expr item))
          (right_seen facts.bindings (ExprStmt-expr item)) ∷ []
          else []) ++ (if p then (range_of_node item).start ∷ [] else []) ≡ (range_of_node item).start ∷ []
      go true = refl
      go false = refl

  -- what goes below it, by its rule
  pub below_nothing : {rule : ItemRule} (c : Comments) → item_rule item ≡ rule → starts_below start_look facts item rule ≡ [] →
      c ≡ without_all_leading below c
  below_nothing c e n = ap (λ ss. without_all_leading ss c) (sym n ∙ ap (starts_below start_look facts item) (sym e))

  pub below_declared : {rule : DeclRule} {place : SourceRange} {new : Comments} (c : Comments) → item_rule item ≡ Declared rule →
      place ≡ range_of_node item → new ≡ without_all_leading (starts_in_body start_look facts place item rule) c →
      new ≡ without_all_leading below c
  below_declared {rule} c e at h = h ∙ ap (λ ss. without_all_leading ss c)
      (ap (λ p. starts_in_body start_look facts p item rule) at ∙ ap (starts_below start_look facts item) (sym e))

  pub below_exported : {rule : DeclRule} {place : SourceRange} {decl : Tree} {new : Comments} (c : Comments) →
      item_rule item ≡ Exported rule → place ≡ ExportDecl-span item → decl ≡ ExportDecl-decl item →
      new ≡ without_all_leading (starts_in_body start_look facts place decl rule) c → new ≡ without_all_leading below c
  below_exported {rule} c e at of h = h ∙ ap (λ ss. without_all_leading ss c)
      ((λ i. starts_in_body start_look facts (at i) (of i) rule) ∙ ap (starts_below start_look facts item) (sym e))

-- nothing goes inside of a declaration, by what is done with it
pub none_in_body : (facts : ModuleFacts) (place : SourceRange) (decl : Tree) {rule done : DeclRule} (c : Comments) → rule ≡ done →
    starts_in_body start_look facts place decl done ≡ [] → c ≡ without_all_leading (starts_in_body start_look facts place decl rule) c
none_in_body facts place decl c e n = ap (λ ss. without_all_leading ss c) (sym n ∙ ap (starts_in_body start_look facts place decl) (sym e))

-- an item is lower than its body
pub item_lower : (body item : Tree) (items : List Tree) (i : ℕ) → i < length items → items ≡ parts body → item ≡ get_or items i item →
    height item < height body
item_lower body item items i h e p =
    subst (λ t. height t < height body) (sym (p ∙ ap (λ ts. get_or ts i item) e))
    (height_read body i item (subst (λ ts. i < length ts) e h))

-- the comments without those before one more item
pub one_more : (facts : ModuleFacts) (items : List Tree) (i : ℕ) (item : Tree) (starts : List SourcePos) (c : Comments) →
    i < length items →
    item ≡ get_or items i item →
    removed_start facts item ≡ starts →
    without_all_leading (removed_from facts (take (i + 1) items)) c ≡ without_all_leading starts
    (without_all_leading (removed_from facts (take i items)) c)
one_more facts items i item starts c h e r =
    ap (λ ts. without_all_leading (removed_from facts ts) c) (take_more items i item h ∙ ap (λ t. take i items ++ t ∷ []) (sym e))
    ∙ (ap (λ ps. without_all_leading ps c)
    (flat_map-append (removed_start facts) (take i items) (item ∷ [])
    ∙ ap (λ ps. removed_from facts (take i items) ++ ps) (append-nil (removed_start facts item) ∙ r))
    ∙ without_append (removed_from facts (take i items)) starts c)
