-- Items and namespaces, level by level: what is given of the lower items is what they give by themselves.
use Rattle.std.specs.Prelude.{◌≡◌, ℕ, zero, suc, ◌<◌, ◌≤◌, Bool, true, false, not, ◌&&◌, Some, List, [], ◌∷◌, ◌++◌, slice_get, refl}
use Rattle.std.specs.Prelude.{if◌then◌else◌}
use Rattle.std.specs.List.{flat_map}
use Rattle.std.proofs.Common.{arith, ap, ap₂, ◌∙◌, sym, subst}
use Rattle.fast_check_tree_syntax.specs.declared.kind.Kind.TheVariants.{TsModuleBlock, TsNamespaceDecl}
use Rattle.fast_check_tree_syntax.specs.declared.source.SourcePos.{SourcePos}
use Rattle.fast_check_tree_syntax.specs.declared.source.SourceRange.{SourceRange}
use Rattle.fast_check_tree_syntax.specs.declared.tree.Tree.{Tree, Absent}
use Rattle.fast_check_tree_syntax.specs.Shape.{◌is◌, is_kind, kind_of, OfAll}
use Rattle.fast_check_tree_syntax.specs.Descent.{by_descent_is, given, given_lower, given_part}
use Rattle.fast_check_tree_syntax.specs.Height.{height, height_part, height_at_most, height_one}
use Rattle.fast_check_tree_helpers.specs.ranges.Ranges.{range_of_node}
use Rattle.fast_check_tree_forms_programs.specs.ModuleDecls.{ExportDecl-span, ExportDecl-decl}
use Rattle.fast_check_tree_forms_statements.specs.TsDeclarations.{TsModuleDecl-span, TsModuleDecl-global, TsModuleDecl-id, TsModuleDecl-body}
use Rattle.fast_check_tree_forms_statements.specs.TsDeclarations.{TsModuleBlock-span, TsModuleBlock-body, TsNamespaceDecl-span}
use Rattle.fast_check_tree_forms_statements.specs.TsDeclarations.{TsNamespaceDecl-declare, TsNamespaceDecl-global, TsNamespaceDecl-id}
use Rattle.fast_check_tree_forms_statements.specs.TsDeclarations.{TsNamespaceDecl-body}
use Rattle.fast_check_meaning_signatures.specs.declared.fault.FaultKind.TheVariants.{UnsupportedGlobalModule, UnsupportedAmbientModule}
use Rattle.fast_check_meaning_signatures.specs.Seen.{Seen, written, range, flag, round, listed, faulty, refused, seens}
use Rattle.fast_check_meaning_skeleton.specs.declared.rules.DeclRule.{DeclRule}
use Rattle.fast_check_meaning_skeleton.specs.declared.rules.DeclRule.TheVariants.{Namespace}
use Rattle.fast_check_meaning_skeleton.specs.declared.rules.ItemRule.{ItemRule}
use Rattle.fast_check_meaning_skeleton.specs.declared.rules.ItemRule.TheVariants.{Declared, Exported}
use Rattle.fast_check_meaning_skeleton.specs.KeptComments.{starts_inside, start_of_unseen, starts_in_body, starts_below, start_form, start_look}
use Rattle.fast_check_meaning_skeleton.specs.KeptComments.{removed_start}
use Rattle.fast_check_meaning_skeleton.specs.Namespaces.{is_ambient_module, is_namespace, innermost_form, innermost, block_items, items_inside}
use Rattle.fast_check_meaning_skeleton.specs.Namespaces.{body_form, body_round, namespace_round}
use Rattle.fast_check_meaning_skeleton.specs.Rules.{item_rule}
use Rattle.fast_check_meaning_skeleton.specs.ModuleFacts.{ModuleFacts, inside}
use Rattle.fast_check_meaning_expandos.specs.Expandos.{namespaces_seen}
use Rattle.fast_check_meaning_skeleton.specs.Visible.{item_properties, body_seen, namespace_seen, decl_form, exported_seen, form_by_rule, item_form}
use Rattle.fast_check_meaning_skeleton.specs.Visible.{item_look, item_seen, seen_by_rule}

-- ---- bodies of namespaces

abbrev pub is_inner : Tree → Bool
is_inner t = kind_of t is TsNamespaceDecl

-- the block of what follows a name
pub innermost_is : (t : Tree) → innermost t ≡ (if is_inner t then innermost (TsNamespaceDecl-body t) else t)
unfolding innermost
innermost_is t = by_descent_is Absent innermost_form t ∙ go (is_inner t) refl
  where
    go : (b : Bool) → is_inner t ≡ b → (if b then given Absent innermost_form t (TsNamespaceDecl-body t) else t) ≡
        (if b then innermost (TsNamespaceDecl-body t) else t)
    go false e = refl
    go true e = given_part Absent innermost_form t 4 (λ l. let k = is_kind (kind_of t) TsNamespaceDecl e in cc)

abbrev pub inner_round : Tree → Seen → Seen
inner_round t body = round TsNamespaceDecl (seens (range (TsNamespaceDecl-span t) ∷ flag (TsNamespaceDecl-declare t) ∷
    flag (TsNamespaceDecl-global t) ∷ written (TsNamespaceDecl-id t) ∷ body ∷ []))

abbrev pub block_round : Tree → List Seen → Seen
block_round t items = round TsModuleBlock (seens (range (TsModuleBlock-span t) ∷ listed (seens items) ∷ []))

pub body_round_is : (items : List Seen) (t : Tree) →
    body_round items t ≡ (if is_inner t then inner_round t (body_round items (TsNamespaceDecl-body t)) else block_round t items)
unfolding body_round
body_round_is items t = by_descent_is refused (body_form items) t ∙ go (is_inner t) refl
  where
    go : (b : Bool) → is_inner t ≡ b →
        (if b then inner_round t (given refused (body_form items) t (TsNamespaceDecl-body t)) else block_round t items) ≡
        (if b then inner_round t (body_round items (TsNamespaceDecl-body t)) else block_round t items)
    go false e = refl
    go true e = ap (inner_round t) (given_part refused (body_form items) t 4 (λ l. let k = is_kind (kind_of t) TsNamespaceDecl e in cc))

pub innermost_block : (t : Tree) → is_inner t ≡ false → innermost t ≡ t
innermost_block t e = innermost_is t ∙ ap (λ b. if b then innermost (TsNamespaceDecl-body t) else t) e

pub innermost_inner : (t : Tree) → is_inner t ≡ true → innermost t ≡ innermost (TsNamespaceDecl-body t)
innermost_inner t e = innermost_is t ∙ ap (λ b. if b then innermost (TsNamespaceDecl-body t) else t) e

-- the same, of a body whose items are seen in some way
pub body_of_block : (f : List Tree → List Seen) (t : Tree) → is_inner t ≡ false →
    body_round (f (block_items (innermost t))) t ≡ block_round t (f (block_items t))
body_of_block f t e =
    body_round_is (f (block_items (innermost t))) t
    ∙ (ap (λ b. if b then inner_round t (body_round (f (block_items (innermost t))) (TsNamespaceDecl-body t))
    else block_round t (f (block_items (innermost t)))) e
    ∙ ap (λ u. block_round t (f (block_items u))) (innermost_block t e))

pub body_of_inner : (f : List Tree → List Seen) (t : Tree) → is_inner t ≡ true →
    body_round (f (block_items (innermost t))) t ≡
    inner_round t (body_round (f (block_items (innermost (TsNamespaceDecl-body t)))) (TsNamespaceDecl-body t))
body_of_inner f t e =
    body_round_is (f (block_items (innermost t))) t
    ∙ (ap (λ b. if b then inner_round t (body_round (f (block_items (innermost t))) (TsNamespaceDecl-body t))
    else block_round t (f (block_items (innermost t)))) e
    ∙ ap (λ u. inner_round t (body_round (f (block_items u)) (TsNamespaceDecl-body t)))
    (innermost_inner t e))

-- a block is no higher than the body
up_to : (n : ℕ) (t : Tree) → height t < n → height (innermost t) ≤ height t
up_to zero t h = absurd (omega arith)
up_to (suc n) t h = subst (λ u. height u ≤ height t) (sym (innermost_is t)) (go (is_inner t) refl (up_to n (TsNamespaceDecl-body t)))
  where
    go : (b : Bool) → is_inner t ≡ b →
        (height (TsNamespaceDecl-body t) < n → height (innermost (TsNamespaceDecl-body t)) ≤ height (TsNamespaceDecl-body t)) →
        height (if b then innermost (TsNamespaceDecl-body t) else t) ≤ height t
    go false e below = omega arith
    go true e below =
        let k = is_kind (kind_of t) TsNamespaceDecl e in
        let lower : height (TsNamespaceDecl-body t) < height t = height_part t 4 (λ l. cc) in
        omega (arith, below (omega (arith, lower, h)), lower)

pub innermost_at_most : (t : Tree) → height (innermost t) ≤ height t
innermost_at_most t = up_to (suc (height t)) t (omega arith)

-- each part of a tree is lower than it
all_below : (limit : ℕ) (ts : List Tree) → ((i : ℕ) (u : Tree) → slice_get ts i ≡ Some u → height u < limit) →
    OfAll (λ u. height u < limit) ts
all_below limit [] below = tt
all_below limit (t ∷ ts) below = (below zero t refl, all_below limit ts (λ i. below (suc i)))

-- and each item of a namespace
pub items_below : (limit : ℕ) (decl : Tree) → height decl ≤ limit → OfAll (λ u. height u < limit) (items_inside decl)
items_below limit decl h =
    let body = TsModuleDecl-body decl in
    let block = innermost body in
    all_below limit (items_inside decl) (λ i u e. omega (
      arith,
      height_one (TsModuleBlock-body block) i u e,
      height_at_most block 1,
      innermost_at_most body,
      height_at_most decl 5,
      h,
    ))

-- ---- what is seen of items

module _ (facts : ModuleFacts) (item : Tree) where
  abbrev look : Tree → ModuleFacts → List Seen
  look = given (λ facts. []) item_form item

  same_each : (here : ModuleFacts) (ts : List Tree) → OfAll (λ u. height u < height item) ts →
      flat_map (λ u. look u here) ts ≡ flat_map (λ u. item_look u here) ts
  unfolding item_look
  same_each here [] below = refl
  same_each here (t ∷ ts) below =
      ap₂ (λ x y. x ++ y) (ap (λ f. f here) (given_lower (λ facts. []) item_form item t below.0)) (same_each here ts below.1)

  same_items : (here : ModuleFacts) (ts : List Tree) → OfAll (λ u. height u < height item) ts →
      body_seen look here ts ≡ body_seen item_look here ts
  same_items here ts below = ap (λ xs. xs ++ namespaces_seen (flat_map (item_properties here) ts)) (same_each here ts below)

  same_decl : (place : SourceRange) (decl : Tree) → height decl ≤ height item → (rule : DeclRule) →
      decl_form look facts place decl rule ≡ decl_form item_look facts place decl rule
  same_decl place decl h Namespace =
      ap (λ items. if TsModuleDecl-global decl then faulty UnsupportedGlobalModule (TsModuleDecl-span decl) ∷ []
      else (if is_ambient_module decl then faulty UnsupportedAmbientModule (range_of_node (TsModuleDecl-id decl)) ∷ []
      else (if facts.is_public place then namespace_round items decl ∷ [] else [])))
      (same_items (inside facts decl) (items_inside decl) (items_below (height item) decl h))
  same_decl place decl h _ = refl

  same_by_rule : (rule : ItemRule) → form_by_rule look facts item rule ≡ seen_by_rule facts item rule
  same_by_rule (Declared rule) = same_decl (range_of_node item) item (omega arith) rule
  same_by_rule (Exported rule) =
      ap (exported_seen item) (same_decl (ExportDecl-span item) (ExportDecl-decl item) (height_at_most item 1) rule)
  same_by_rule _ = refl

-- the equation of `item_seen`
pub item_seen_is : (facts : ModuleFacts) (item : Tree) → item_seen facts item ≡ seen_by_rule facts item (item_rule item)
unfolding item_look
item_seen_is facts item = ap (λ f. f facts) (by_descent_is (λ facts. []) item_form item) ∙ same_by_rule facts item (item_rule item)

-- ---- what goes of items

module _ (facts : ModuleFacts) (item : Tree) where
  abbrev start_given : Tree → ModuleFacts → List SourcePos
  start_given = given (λ facts. []) start_form item

  same_starts : (here : ModuleFacts) (ts : List Tree) → OfAll (λ u. height u < height item) ts →
      flat_map (λ u. start_given u here) ts ≡ flat_map (λ u. start_look u here) ts
  unfolding start_look
  same_starts here [] below = refl
  same_starts here (t ∷ ts) below =
      ap₂ (λ x y. x ++ y) (ap (λ f. f here) (given_lower (λ facts. []) start_form item t below.0)) (same_starts here ts below.1)

  same_in_body : (place : SourceRange) (decl : Tree) → height decl ≤ height item → (rule : DeclRule) →
      starts_in_body start_given facts place decl rule ≡ starts_in_body start_look facts place decl rule
  same_in_body place decl h Namespace =
      ap (λ starts. if is_namespace decl && facts.is_public place then starts else [])
      (same_starts (inside facts decl) (items_inside decl) (items_below (height item) decl h))
  same_in_body place decl h _ = refl

  same_below : (rule : ItemRule) → starts_below start_given facts item rule ≡ starts_below start_look facts item rule
  same_below (Declared rule) = same_in_body (range_of_node item) item (omega arith) rule
  same_below (Exported rule) = same_in_body (ExportDecl-span item) (ExportDecl-decl item) (height_at_most item 1) rule
  same_below _ = refl

-- the equation of `removed_start`
pub removed_start_is : (facts : ModuleFacts) (item : Tree) → removed_start facts item ≡
    starts_below start_look facts item
    (item_rule item) ++ (start_of_unseen item (item_seen facts item) ++ starts_inside facts item (item_rule item))
unfolding start_look
removed_start_is facts item =
    ap (λ f. f facts) (by_descent_is (λ facts. []) start_form item)
    ∙ ap (λ starts. starts ++ (start_of_unseen item (item_seen facts item) ++ starts_inside facts item (item_rule item)))
    (same_below facts item (item_rule item))

-- ---- modules, by what they are

abbrev module_if : ModuleFacts → SourceRange → Tree → Bool → Bool → Bool → List Seen
module_if facts place decl global ambient public =
    if global then faulty UnsupportedGlobalModule (TsModuleDecl-span decl) ∷ []
    else (if ambient then faulty UnsupportedAmbientModule (range_of_node (TsModuleDecl-id decl)) ∷ []
    else (if public then namespace_round (body_seen item_look (inside facts decl) (items_inside decl)) decl ∷ [] else []))

-- a namespace is neither `declare global` nor one that a text names, nor one without a body
pub no_global : (decl : Tree) → is_namespace decl ≡ true → TsModuleDecl-global decl ≡ false
no_global decl e = go (TsModuleDecl-global decl) (is_ambient_module decl) e
  where
    go : (g m : Bool) → (not g && not m) ≡ true → g ≡ false
    go false m e = refl
    go true m e = cc

pub no_ambient_module : (decl : Tree) → is_namespace decl ≡ true → is_ambient_module decl ≡ false
no_ambient_module decl e = go (TsModuleDecl-global decl) (is_ambient_module decl) e
  where
    go : (g m : Bool) → (not g && not m) ≡ true → m ≡ false
    go g false e = refl
    go true true e = cc
    go false true e = cc

pub global_no_namespace : (decl : Tree) → TsModuleDecl-global decl ≡ true → is_namespace decl ≡ false
global_no_namespace decl e = ap (λ g. not g && not (is_ambient_module decl)) e

pub ambient_no_namespace : (decl : Tree) → is_ambient_module decl ≡ true → is_namespace decl ≡ false
ambient_no_namespace decl e = go (TsModuleDecl-global decl) (is_ambient_module decl) e
  where
    go : (g m : Bool) → m ≡ true → (not g && not m) ≡ false
    go true m f = refl
    go false true f = refl
    go false false f = cc

pub namespace_if : (facts : ModuleFacts) (place : SourceRange) (decl : Tree) → is_namespace decl ≡ true →
    namespace_seen item_look facts place decl ≡
    (if facts.is_public place then namespace_round (body_seen item_look (inside facts decl) (items_inside decl)) decl ∷ [] else [])
namespace_if facts place decl e =
    λ i. module_if facts place decl (no_global decl e i) (no_ambient_module decl e i) (facts.is_public place)

pub hidden_namespace : (facts : ModuleFacts) (place : SourceRange) (decl : Tree) → is_namespace decl ≡ true →
    facts.is_public place ≡ false →
    namespace_seen item_look facts place decl ≡ []
hidden_namespace facts place decl e p =
    λ i. module_if facts place decl (no_global decl e i) (no_ambient_module decl e i) (p i)

-- `declare global`, and modules without a block of their own
pub global_is : (facts : ModuleFacts) (place : SourceRange) (decl : Tree) → TsModuleDecl-global decl ≡ true →
    namespace_seen item_look facts place decl ≡ faulty UnsupportedGlobalModule (TsModuleDecl-span decl) ∷ []
global_is facts place decl e = ap (λ g. module_if facts place decl g (is_ambient_module decl) (facts.is_public place)) e

pub ambient_module_is : (facts : ModuleFacts) (place : SourceRange) (decl : Tree) → TsModuleDecl-global decl ≡ false →
    is_ambient_module decl ≡ true →
    namespace_seen item_look facts place decl ≡ faulty UnsupportedAmbientModule (range_of_node (TsModuleDecl-id decl)) ∷ []
ambient_module_is facts place decl e f = λ i. module_if facts place decl (e i) (f i) (facts.is_public place)
