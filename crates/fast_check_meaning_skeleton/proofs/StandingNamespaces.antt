-- What stands of namespaces, and that it stands in the grammar.
use Rattle.std.specs.Prelude.{◌≡◌, ℕ, zero, suc, ◌<◌, Bool, true, false, not, ◌&&◌, ◌||◌, Option, Some, List, [], ◌∷◌, refl, if◌then◌else◌}
use Rattle.std.proofs.Common.{arith, ap, ◌∙◌, sym, subst, subst₂, append-nil}
use Rattle.fast_check_tree_syntax.specs.declared.kind.Kind.TheVariants.{Str, TsModuleDecl, TsNamespaceDecl}
use Rattle.fast_check_tree_syntax.specs.declared.kind.Kind.TheVariants.{List as List'}
use Rattle.fast_check_tree_syntax.specs.declared.tree.Tree.{Tree, Absent}
use Rattle.fast_check_tree_syntax.specs.declared.tree.Tree as tree
use Rattle.fast_check_tree_syntax.specs.Shape.{◌is◌, is_kind, kind_of, parts, is_absent, flag_of, list}
use Rattle.fast_check_tree_syntax.specs.Descent.{by_descent_is, given, given_part}
use Rattle.fast_check_tree_syntax.specs.Height.{height, height_part}
use Rattle.fast_check_tree_syntax.proofs.Made.{part_node, parts_node, kind_of_node, is_absent_node, flag_of_flag}
use Rattle.fast_check_tree_forms_statements.specs.TsDeclarations.{TsModuleDecl-span, TsModuleDecl-declare, TsModuleDecl-global}
use Rattle.fast_check_tree_forms_statements.specs.TsDeclarations.{TsModuleDecl-namespace, TsModuleDecl-id, TsModuleDecl-body, TsModuleBlock-span}
use Rattle.fast_check_tree_forms_statements.specs.TsDeclarations.{TsModuleBlock-body, TsNamespaceDecl-span, TsNamespaceDecl-declare}
use Rattle.fast_check_tree_forms_statements.specs.TsDeclarations.{TsNamespaceDecl-global, TsNamespaceDecl-id, TsNamespaceDecl-body}
use Rattle.fast_check_tree_forms_statements.specs.TsDeclarations.{ts_module_block}
use Rattle.fast_check_meaning_signatures.specs.Bindings.{Bindings}
use Rattle.fast_check_meaning_signatures.specs.Seen.{Seen}
use Rattle.fast_check_meaning_signatures.specs.Answers.{Answer, answer_to, answer_of, faultless, round_answer, visited}
use Rattle.fast_check_meaning_skeleton.proofs.Staying.{Holds, items_hold}
use Rattle.fast_check_meaning_skeleton.proofs.StayingLists.{AllStay}
use Rattle.fast_check_meaning_skeleton.specs.Grammar.{IsTypedItem, IsTypedNamespace, IsTypedBody, AllTypedItems}
use Rattle.fast_check_meaning_skeleton.specs.Grammar as g
use Rattle.fast_check_meaning_skeleton.specs.Namespaces.{is_namespace, body_round, namespace_round, inner_namespace, with_form, body_with}
use Rattle.fast_check_meaning_skeleton.specs.Namespaces.{namespace_with}
use Rattle.fast_check_meaning_skeleton.proofs.Namespaces.{is_inner, inner_round, block_round, body_round_is, no_global, no_ambient_module}

abbrev inner_with : Tree → Tree → Tree
inner_with t body = inner_namespace (TsNamespaceDecl-span t) (TsNamespaceDecl-declare t) (TsNamespaceDecl-global t)
    (TsNamespaceDecl-id t) body

abbrev block_with : Tree → List Tree → Tree
block_with t items = ts_module_block (TsModuleBlock-span t) (list items)

-- the equation of `body_with`
pub body_with_is : (items : List Tree) (t : Tree) →
    body_with items t ≡ (if is_inner t then inner_with t (body_with items (TsNamespaceDecl-body t)) else block_with t items)
unfolding body_with
body_with_is items t = by_descent_is Absent (with_form items) t ∙ go (is_inner t) refl
  where
    go : (b : Bool) → is_inner t ≡ b →
        (if b then inner_with t (given Absent (with_form items) t (TsNamespaceDecl-body t)) else block_with t items) ≡
        (if b then inner_with t (body_with items (TsNamespaceDecl-body t)) else block_with t items)
    go false e = refl
    go true e = ap (inner_with t) (given_part Absent (with_form items) t 4 (λ l. let k = is_kind (kind_of t) TsNamespaceDecl e in cc))

-- ---- what is answered

-- one tree stays, with the faults of the items
abbrev One : Tree → List Seen → Answer (Option Tree)
One t items = record { stays = Some t; faults = (answer_of items).faults }

block_answer : (t : Tree) (items : List Seen) → answer_to (block_round t items) ≡ One (block_with t (answer_of items).stays) items
block_answer t items = λ i. record { stays = Some (block_with t (answer_of items).stays); faults = append-nil (answer_of items).faults i }

abbrev inner_answer_of : Tree → Answer (Option Tree) → Answer (Option Tree)
inner_answer_of t a =
    round_answer TsNamespaceDecl (visited (faultless (Some (tree.Range (TsNamespaceDecl-span t)))) (visited (faultless (Some (tree.Flag
    (TsNamespaceDecl-declare t))))
    (visited (faultless (Some (tree.Flag (TsNamespaceDecl-global t)))) (visited (faultless (Some (TsNamespaceDecl-id t)))
    (visited a (faultless (Some [])))))))

inner_answer : (t u : Tree) (s : Seen) (items : List Seen) → answer_to s ≡ One u items →
    answer_to (inner_round t s) ≡ One (inner_with t u) items
inner_answer t u s items e =
    ap (inner_answer_of t) e ∙ (λ i. record { stays = Some (inner_with t u); faults = append-nil (answer_of items).faults i })

-- what follows a name is lower
inner_lower : (n : ℕ) (t : Tree) → is_inner t ≡ true → height t < suc n → height (TsNamespaceDecl-body t) < n
inner_lower n t e h =
    let k = is_kind (kind_of t) TsNamespaceDecl e in
    let lower : height (TsNamespaceDecl-body t) < height t = height_part t 4 (λ l. cc) in omega (arith, lower, h)

-- of a body
module _ (items : List Seen) where
  abbrev Answered : Tree → Type 0
  Answered t = answer_to (body_round items t) ≡ One (body_with (answer_of items).stays t) items

  by_kind : (t : Tree) (b : Bool) → (b ≡ true → Answered (TsNamespaceDecl-body t)) →
      answer_to (if b then inner_round t (body_round items (TsNamespaceDecl-body t)) else block_round t items) ≡
      One (if b then inner_with t (body_with (answer_of items).stays (TsNamespaceDecl-body t)) else block_with t
      (answer_of items).stays) items
  by_kind t false below = block_answer t items
  by_kind t true below =
      inner_answer t (body_with (answer_of items).stays (TsNamespaceDecl-body t)) (body_round items (TsNamespaceDecl-body t)) items
      (below refl)

  answered_to : (n : ℕ) (t : Tree) → height t < n → Answered t
  answered_to zero t h = absurd (omega arith)
  answered_to (suc n) t h =
      ap answer_to (body_round_is items t)
      ∙ (by_kind t (is_inner t) (λ e. answered_to n (TsNamespaceDecl-body t) (inner_lower n t e h))
      ∙ ap (λ u. One u items) (sym (body_with_is (answer_of items).stays t)))

  pub body_is : (t : Tree) → answer_to (body_round items t) ≡ One (body_with (answer_of items).stays t) items
  body_is t = answered_to (suc (height t)) t (omega arith)

abbrev namespace_answer_of : Tree → Answer (Option Tree) → Answer (Option Tree)
namespace_answer_of t a =
    round_answer TsModuleDecl (visited (faultless (Some (tree.Range (TsModuleDecl-span t)))) (visited (faultless (Some (tree.Flag
    (TsModuleDecl-declare t)))) (visited (faultless (Some (tree.Flag (TsModuleDecl-global t)))) (visited (faultless (Some (tree.Flag
    (TsModuleDecl-namespace t)))) (visited (faultless (Some (TsModuleDecl-id t))) (visited a (faultless (Some []))))))))

-- of a namespace
pub namespace_is : (items : List Seen) (decl : Tree) →
    answer_to
    (namespace_round items decl) ≡
    (record { stays = Some (namespace_with (answer_of items).stays decl); faults = (answer_of items).faults })
namespace_is items decl =
    ap (namespace_answer_of decl) (body_is items (TsModuleDecl-body decl))
    ∙ (λ i. record { stays = Some (namespace_with (answer_of items).stays decl); faults = append-nil (answer_of items).faults i })

-- ---- the grammar

module _ (bindings : Bindings) (is_ambient : Bool) where
  abbrev Item : Tree → Type 0
  Item = IsTypedItem bindings is_ambient

  abbrev Items : List Tree → Type 0
  Items = AllTypedItems bindings is_ambient

  pub items_stand : (ss : List Seen) → AllStay Item ss → Holds Items (answer_of ss)
  items_stand [] h = λ f. g.AllTypedItems.no_items
  items_stand (s ∷ ss) h = items_hold Item Items (λ t ts p q. g.AllTypedItems.next_item p q) (answer_to s) (answer_of ss) h.0
      (items_stand ss h.1)

  module _ (ts : List Tree) (typed : Items ts) where
    block_typed : (t : Tree) → IsTypedBody bindings is_ambient (block_with t ts)
    block_typed t =
        let made = block_with t ts in
        let same : TsModuleBlock-body made ≡ list ts = part_node _ _ _ in
        g.IsTypedBody.block (kind_of_node _ _) (subst Items (sym (ap parts same ∙ parts_node List' ts)) typed)

    inner_typed : (t u : Tree) → IsTypedBody bindings is_ambient u → IsTypedBody bindings is_ambient (inner_with t u)
    inner_typed t u h =
        let same : TsNamespaceDecl-body (inner_with t u) ≡ u = part_node _ _ _ in
        g.IsTypedBody.inner (kind_of_node _ _) (subst (IsTypedBody bindings is_ambient) (sym same) h)

    typed_by_kind : (t : Tree) (b : Bool) → (b ≡ true → IsTypedBody bindings is_ambient (body_with ts (TsNamespaceDecl-body t))) →
        IsTypedBody bindings is_ambient (if b then inner_with t (body_with ts (TsNamespaceDecl-body t)) else block_with t ts)
    typed_by_kind t false below = block_typed t
    typed_by_kind t true below = inner_typed t (body_with ts (TsNamespaceDecl-body t)) (below refl)

    typed_to : (n : ℕ) (t : Tree) → height t < n → IsTypedBody bindings is_ambient (body_with ts t)
    typed_to zero t h = absurd (omega arith)
    typed_to (suc n) t h =
        subst (IsTypedBody bindings is_ambient) (sym (body_with_is ts t))
        (typed_by_kind t (is_inner t) (λ e. typed_to n (TsNamespaceDecl-body t) (inner_lower n t e h)))

    pub body_typed : (t : Tree) → IsTypedBody bindings is_ambient (body_with ts t)
    body_typed t = typed_to (suc (height t)) t (omega arith)

body_present : (ts : List Tree) (t : Tree) → is_absent (body_with ts t) ≡ false
body_present ts t = ap is_absent (body_with_is ts t) ∙ go (is_inner t)
  where
    go : (b : Bool) → is_absent (if b then inner_with t (body_with ts (TsNamespaceDecl-body t)) else block_with t ts) ≡ false
    go true = is_absent_node _ _
    go false = is_absent_node _ _

-- a namespace is one with other items too
still_namespace : (decl : Tree) (ts : List Tree) → is_namespace decl ≡ true → is_namespace (namespace_with ts decl) ≡ true
still_namespace decl ts e =
    let made = namespace_with ts decl in
    let global : TsModuleDecl-global made ≡ false = ap flag_of (part_node _ _ _) ∙
    (flag_of_flag (TsModuleDecl-global decl) ∙ no_global decl e) in
    let id : TsModuleDecl-id made ≡ TsModuleDecl-id decl = part_node _ _ _ in
    let body : TsModuleDecl-body made ≡ body_with ts (TsModuleDecl-body decl) = part_node _ _ _ in
    (λ i. not (global i) && not ((kind_of (id i) is Str) || (ap is_absent body ∙ body_present ts (TsModuleDecl-body decl)) i))
    ∙ named (kind_of (TsModuleDecl-id decl) is Str) (is_absent (TsModuleDecl-body decl)) (no_ambient_module decl e)
  where
    named : (x y : Bool) → (x || y) ≡ false → (not false && not (x || false)) ≡ true
    named false y f = refl
    named true y f = cc

pub namespace_typed : (bindings : Bindings) (is_ambient : Bool) (decl : Tree) (ts : List Tree) → is_namespace decl ≡ true →
    AllTypedItems bindings (is_ambient || TsModuleDecl-declare decl) ts → IsTypedNamespace bindings is_ambient (namespace_with ts decl)
namespace_typed bindings is_ambient decl ts e typed =
    let made = namespace_with ts decl in
    let declare : TsModuleDecl-declare made ≡ TsModuleDecl-declare decl = ap flag_of (part_node _ _ _) ∙
    flag_of_flag (TsModuleDecl-declare decl) in
    let body : TsModuleDecl-body made ≡ body_with ts (TsModuleDecl-body decl) = part_node _ _ _ in
    g.IsTypedNamespace.namespace (kind_of_node _ _) (still_namespace decl ts e)
    (subst₂ (λ d b. IsTypedBody bindings (is_ambient || d) b) (sym declare) (sym body)
    (body_typed bindings (is_ambient || TsModuleDecl-declare decl) ts typed (TsModuleDecl-body decl)))
