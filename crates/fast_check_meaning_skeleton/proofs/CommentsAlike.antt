-- Modules that agree but for what is hidden, and so do their comments, keep the same comments.
use Rattle.std.specs.Prelude.{◌≡◌, ℕ, ◌==◌, Bool, true, false, not, ◌&&◌, ◌||◌, List, [], ◌∷◌, ◌++◌, refl, if◌then◌else◌}
use Rattle.std.specs.Cmp.{unsigned_ties}
use Rattle.std.specs.Ordering.{is_eq, nat_cmp}
use Rattle.std.proofs.Common.{ap, ap₂, ◌∙◌, sym, subst₂, cond, eqb-true, eq-eqb}
use Rattle.std.proofs.lemmas.List.Folds.{list_any-append}
use Rattle.fast_check_tree_syntax.specs.declared.kind.Kind.{Kind}
use Rattle.fast_check_tree_syntax.specs.declared.kind.Kind.TheVariants as kinds
use Rattle.fast_check_tree_syntax.specs.declared.kind.Kind.TheVariants.{VarDecl, FnDecl, ClassDecl, UsingDecl, TsModuleDecl, TsNamespaceDecl}
use Rattle.fast_check_tree_syntax.specs.declared.source.SourcePos.{SourcePos}
use Rattle.fast_check_tree_syntax.specs.declared.source.SourceRange.{SourceRange}
use Rattle.fast_check_tree_syntax.specs.declared.tree.Tree.{Tree}
use Rattle.fast_check_tree_syntax.specs.Shape.{◌is◌, kind_of}
use Rattle.fast_check_tree_syntax.specs.Moves.{Renaming, IsRenaming, IsPair}
use Rattle.fast_check_tree_syntax.specs.Same.{SameRange, Each}
use Rattle.fast_check_tree_comments.specs.declared.comment.Comment.{Comment}
use Rattle.fast_check_tree_comments.specs.declared.comments.Comments.{Comments}
use Rattle.fast_check_tree_comments.specs.Kept.{kept, without_leading}
use Rattle.fast_check_tree_comments.specs.Places.{Places, is_place_at, without_comments}
use Rattle.fast_check_tree_forms_classes.specs.Classes.{Class-span}
use Rattle.fast_check_tree_forms_classes.specs.Functions.{Function-span}
use Rattle.fast_check_tree_forms_expressions.specs.Expressions.{ClassExpr-class}
use Rattle.fast_check_tree_forms_programs.specs.ModuleDecls.{ExportDecl-span, ExportDecl-decl, ExportDefaultDecl-span, ExportDefaultDecl-decl}
use Rattle.fast_check_tree_forms_statements.specs.Declarations.{ClassDecl-class, FnDecl-function, VarDecl-span}
use Rattle.fast_check_tree_forms_statements.specs.TsDeclarations.{TsModuleDecl-span}
use Rattle.fast_check_tree_helpers.specs.ranges.Ranges.{range_of_node}
use Rattle.fast_check_meaning_skeleton.specs.ModuleFacts.{ModuleFacts, inside}
use Rattle.fast_check_meaning_skeleton.specs.Namespaces.{is_namespace, innermost, block_items, items_inside}
use Rattle.fast_check_meaning_signatures.specs.Seen.{Seen}
use Rattle.fast_check_meaning_skeleton.specs.Visible.{is_ambient_class, item_seen}
use Rattle.fast_check_meaning_skeleton.specs.KeptComments.{start_of_unseen, starts_of_removed, starts_in_decl, starts_in_default, starts_inside}
use Rattle.fast_check_meaning_skeleton.specs.KeptComments.{removed_start, starts_in_namespace, starts_in_body, starts_below, start_look}
use Rattle.fast_check_meaning_skeleton.specs.KeptComments.{removed_from, removed_starts, without_all_leading, kept_comments}
use Rattle.fast_check_meaning_skeleton.specs.SameComments.{all_comments_at, SameComment, SameAtPairs, SameComments}
use Rattle.fast_check_meaning_skeleton.specs.Hidden.{SameDecl, SameNamespaceHead, SameItem, SameNamespace, SameBody, SameItems, AgreeHidden}
use Rattle.fast_check_meaning_skeleton.specs.SameClasses.{HasNoPartner, IsNoPartner}
use Rattle.fast_check_meaning_skeleton.specs.Hidden as h
use Rattle.fast_check_meaning_skeleton.specs.SameDefaults.{SameDefaultDecl, SameDefault}
use Rattle.fast_check_meaning_skeleton.specs.SameDefaults as defaults
use Rattle.fast_check_meaning_skeleton.specs.SameValues.{SameBindings, Both}
use Rattle.fast_check_meaning_skeleton.specs.SameValues as v
use Rattle.fast_check_meaning_skeleton.specs.Worlds.{TwoWorlds}
use Rattle.fast_check_meaning_skeleton.proofs.AlikeSeen.{AllAlike}
use Rattle.fast_check_meaning_skeleton.specs.Kinds.{is_standing}
use Rattle.fast_check_meaning_skeleton.specs.declared.rules.DefaultRule.{DefaultRule}
use Rattle.fast_check_meaning_skeleton.specs.declared.rules.DefaultRule.TheVariants.{Value, Class, Function, Interface}
use Rattle.fast_check_meaning_skeleton.specs.declared.rules.ItemRule.{ItemRule}
use Rattle.fast_check_meaning_skeleton.specs.declared.rules.ItemRule.TheVariants.{Declared, Exported, ImportExport, Default, Refused, Assigned}
use Rattle.fast_check_meaning_skeleton.specs.declared.rules.DeclRule.TheVariants.{Namespace}
use Rattle.fast_check_meaning_skeleton.specs.Rules.{decl_rule, default_rule, rule_of_kind, item_rule}
use Rattle.fast_check_meaning_skeleton.proofs.Ruled.{assigned_rule, rule_by_kind, default_by_kind, declared_rule, silent_rule, namespace_rule}
use Rattle.fast_check_meaning_skeleton.proofs.Ruled.{exported_namespace_rule}
use Rattle.fast_check_meaning_skeleton.proofs.Namespaces.{innermost_block, innermost_inner, removed_start_is, global_no_namespace}
use Rattle.fast_check_meaning_skeleton.proofs.Namespaces.{ambient_no_namespace}
use Rattle.fast_check_meaning_skeleton.proofs.AgreeingImportsExports.{silent_import_export, imports_exports_alike}
use Rattle.fast_check_meaning_skeleton.proofs.AgreeingDefaults.{silent_default, defaults_alike}
use Rattle.fast_check_meaning_skeleton.proofs.RemovedMembers.{is_among, one_start, no_left, no_right, class_removed}
use Rattle.fast_check_meaning_skeleton.proofs.Agreeing.{silent_declares, silent_item, ambient_class_same, decl_taken, namespace_kinds, item_alike}
use Rattle.fast_check_meaning_skeleton.proofs.Agreeing.{same_trees}
use Rattle.fast_check_meaning_skeleton.proofs.ItemRanges.{range_of_variables, range_of_function, range_of_class, range_of_module, range_of_using}
use Rattle.fast_check_meaning_skeleton.proofs.ItemRanges.{range_of_export, range_alike}

-- ---- what is left at a position

-- no place is at two positions
at_one : (s p n : ℕ) → (s == p) ≡ false → is_eq (nat_cmp s n) ≡ true → is_eq (nat_cmp p n) ≡ false
at_one s p n e f = go (is_eq (nat_cmp p n)) refl
  where
    go : (b : Bool) → is_eq (nat_cmp p n) ≡ b → b ≡ false
    go false g = refl
    go true g =
        let s_is = eqb-true s n (unsigned_ties s n ∙ f) in
        let p_is = eqb-true p n (unsigned_ties p n ∙ g) in
        sym (eq-eqb s p (s_is ∙ sym p_is)) ∙ e

-- at the position nothing, at another what stood there
without_at : (p : ℕ) (s : SourcePos) (places : Places) → all_comments_at p
    (without_comments s places) ≡ (if s.0 == p then [] else all_comments_at p places)
without_at p s [] = go (s.0 == p)
  where
    go : (m : Bool) → all_comments_at p [] ≡ (if m then [] else all_comments_at p [])
    go true = refl
    go false = refl
without_at p s (x ∷ xs) =
    go (s.0 == p) (is_place_at s x) (λ e. ap (λ n. is_eq (nat_cmp n x.0.0)) (eqb-true s.0 p e)) (at_one s.0 p x.0.0) (without_at p s xs)
  where
    go : (m u : Bool) → (m ≡ true → u ≡ is_place_at (record { 0 = p }) x) →
        (m ≡ false → u ≡ true → is_place_at (record { 0 = p }) x ≡ false) →
        all_comments_at p (without_comments s xs) ≡ (if m then [] else all_comments_at p xs) →
        all_comments_at p (cond (not u) (x ∷ without_comments s xs) (without_comments s xs)) ≡
        (if m then [] else all_comments_at p (x ∷ xs))
    go true true f g e = e
    go true false f g e = ap (λ b. (if b then x.1 else []) ++ all_comments_at p (without_comments s xs)) (sym (f refl)) ∙ e
    go false true f g e = e ∙ ap (λ b. (if b then x.1 else []) ++ all_comments_at p xs) (sym (g refl refl))
    go false false f g e = ap (λ cs. (if is_place_at (record { 0 = p }) x then x.1 else []) ++ cs) e

-- at the starts nothing, elsewhere what stood there
all_without : (p : ℕ) (starts : List SourcePos) (c : Comments) →
    all_comments_at p (without_all_leading starts c).leading ≡ (if is_among p starts then [] else all_comments_at p c.leading)
all_without p [] c = refl
all_without p (s ∷ ss) c =
    all_without p ss (without_leading s c) ∙
    (ap (λ cs. if is_among p ss then [] else cs) (without_at p s c.leading) ∙ go (is_among p ss) (s.0 == p))
  where
    go : (m n : Bool) → (if m then [] else (if n then [] else all_comments_at p c.leading)) ≡
        (if n || m then [] else all_comments_at p c.leading)
    go true true = refl
    go true false = refl
    go false true = refl
    go false false = refl

trailing_stay : (starts : List SourcePos) (c : Comments) → (without_all_leading starts c).trailing ≡ c.trailing
trailing_stay [] c = refl
trailing_stay (s ∷ ss) c = trailing_stay ss (without_leading s c)

-- ---- what goes inside of items

abbrev is_class_kind : Kind → Bool
is_class_kind k = k is ClassDecl

-- nothing goes inside of other declarations than classes
nothing_by_kind : (facts : ModuleFacts) (place : SourceRange) (t : Tree) (k : Kind) → is_class_kind k ≡ false →
    starts_in_decl facts place t (decl_rule k) ≡ []
nothing_by_kind facts place t kinds.ClassDecl e = cc
nothing_by_kind facts place t _ e = refl

nothing_inside : (facts : ModuleFacts) (place : SourceRange) (t : Tree) (k : Kind) → kind_of t ≡ k → is_class_kind k ≡ false →
    starts_in_decl facts place t (decl_rule (kind_of t)) ≡ []
nothing_inside facts place t k d e = ap (λ j. starts_in_decl facts place t (decl_rule j)) d ∙ nothing_by_kind facts place t k e

standing_no_class : (k : Kind) → is_standing k ≡ true → is_class_kind k ≡ false
standing_no_class kinds.ClassDecl e = cc
standing_no_class _ e = refl

-- nor inside of a silent one
silent_decl_inside : (facts : ModuleFacts) (place : SourceRange) (t : Tree) → h.IsSilentDecl facts place t →
    starts_in_decl facts place t (decl_rule (kind_of t)) ≡ []
silent_decl_inside facts place t (h.IsSilentDecl.namespace k n e) = nothing_inside facts place t TsModuleDecl k refl
silent_decl_inside facts place t (h.IsSilentDecl.variable k e) = nothing_inside facts place t VarDecl k refl
silent_decl_inside facts place t (h.IsSilentDecl.standing k e) =
    nothing_inside facts place t (kind_of t) refl (standing_no_class (kind_of t) k)
silent_decl_inside facts place t (h.IsSilentDecl.function k e) = nothing_inside facts place t FnDecl k refl
silent_decl_inside facts place t (h.IsSilentDecl.class k e) =
    ap (λ j. starts_in_decl facts place t (decl_rule j)) k
    ∙ ap (λ b. if b && not (is_ambient_class facts t) then starts_of_removed (ClassDecl-class t) else []) e
silent_decl_inside facts place t (h.IsSilentDecl.using k e) = nothing_inside facts place t UsingDecl k refl

silent_default_inside : (facts : ModuleFacts) (t : Tree) (rule : DefaultRule) →
    (rule ≡ Class → facts.is_public (ExportDefaultDecl-span t) ≡ false) →
    starts_in_default facts t rule ≡ []
silent_default_inside facts t Class e = ap (λ b. if b then starts_of_removed (ClassExpr-class (ExportDefaultDecl-decl t)) else []) (e refl)
silent_default_inside facts t Value e = refl
silent_default_inside facts t Function e = refl
silent_default_inside facts t Interface e = refl

silent_inside : (facts : ModuleFacts) (t : Tree) → h.IsSilent facts t → starts_inside facts t (item_rule t) ≡ []
silent_inside facts t (h.IsSilent.decl s) =
    ap (starts_inside facts t) (declared_rule (kind_of t) t (silent_declares facts (range_of_node t) t s)) ∙
    silent_decl_inside facts (range_of_node t) t s
silent_inside facts t (h.IsSilent.statement s) = ap (starts_inside facts t) (silent_rule t s)
silent_inside facts t (h.IsSilent.exported k s) =
    ap (λ j. starts_inside facts t (rule_of_kind j t)) k ∙ silent_decl_inside facts (ExportDecl-span t) (ExportDecl-decl t) s
silent_inside facts t (h.IsSilent.assigned k n e) =
    ap (starts_inside facts t) (assigned_rule t k n) ∙ ap (λ b. if b then (range_of_node t).start ∷ [] else []) e
silent_inside facts t (h.IsSilent.import_export s) = ap (starts_inside facts t) (silent_import_export facts t s).is
silent_inside facts t (h.IsSilent.default s) =
    let e = silent_default facts t s in ap (starts_inside facts t) e.is ∙ silent_default_inside facts t e.rule e.goes

-- ---- what goes of the items of namespaces

abbrev is_module_kind : Kind → Bool
is_module_kind k = k is TsModuleDecl

-- other declarations have none
none_by_kind : (facts : ModuleFacts) (place : SourceRange) (t : Tree) (k : Kind) → is_module_kind k ≡ false →
    starts_in_body start_look facts place t (decl_rule k) ≡ []
none_by_kind facts place t kinds.TsModuleDecl e = cc
none_by_kind facts place t _ e = refl

none_below : (facts : ModuleFacts) (place : SourceRange) (t : Tree) (k : Kind) → kind_of t ≡ k → is_module_kind k ≡ false →
    starts_in_body start_look facts place t (decl_rule (kind_of t)) ≡ []
none_below facts place t k d e = ap (λ j. starts_in_body start_look facts place t (decl_rule j)) d ∙ none_by_kind facts place t k e

standing_no_module : (k : Kind) → is_standing k ≡ true → is_module_kind k ≡ false
standing_no_module kinds.TsModuleDecl e = cc
standing_no_module _ e = refl

abbrev starts_if : ModuleFacts → Tree → Bool → Bool → List SourcePos
starts_if facts t namespace public = if namespace && public then removed_from (inside facts t) (items_inside t) else []

module_below : (facts : ModuleFacts) (place : SourceRange) (t : Tree) → kind_of t ≡ TsModuleDecl →
    starts_in_body start_look facts place t (decl_rule (kind_of t)) ≡ starts_if facts t (is_namespace t) (facts.is_public place)
module_below facts place t k = ap (λ j. starts_in_body start_look facts place t (decl_rule j)) k

-- nor has a module that no skeleton has
refused_below : (facts : ModuleFacts) (place : SourceRange) (t : Tree) → kind_of t ≡ TsModuleDecl → is_namespace t ≡ false →
    starts_in_body start_look facts place t (decl_rule (kind_of t)) ≡ []
refused_below facts place t k n = module_below facts place t k ∙ ap (λ x. starts_if facts t x (facts.is_public place)) n

-- nor a silent declaration
silent_decl_below : (facts : ModuleFacts) (place : SourceRange) (t : Tree) → h.IsSilentDecl facts place t →
    starts_in_body start_look facts place t (decl_rule (kind_of t)) ≡ []
silent_decl_below facts place t (h.IsSilentDecl.variable k e) = none_below facts place t VarDecl k refl
silent_decl_below facts place t (h.IsSilentDecl.standing k e) =
    none_below facts place t (kind_of t) refl (standing_no_module (kind_of t) k)
silent_decl_below facts place t (h.IsSilentDecl.function k e) = none_below facts place t FnDecl k refl
silent_decl_below facts place t (h.IsSilentDecl.class k e) = none_below facts place t ClassDecl k refl
silent_decl_below facts place t (h.IsSilentDecl.using k e) = none_below facts place t UsingDecl k refl
silent_decl_below facts place t (h.IsSilentDecl.namespace k n e) =
    module_below facts place t k ∙ (λ i. starts_if facts t (n i) (e i))

silent_below : (facts : ModuleFacts) (t : Tree) → h.IsSilent facts t → starts_below start_look facts t (item_rule t) ≡ []
silent_below facts t (h.IsSilent.decl s) =
    ap (starts_below start_look facts t) (declared_rule (kind_of t) t (silent_declares facts (range_of_node t) t s))
    ∙ silent_decl_below facts (range_of_node t) t s
silent_below facts t (h.IsSilent.statement s) = ap (starts_below start_look facts t) (silent_rule t s)
silent_below facts t (h.IsSilent.exported k s) =
    ap (λ j. starts_below start_look facts t (rule_of_kind j t)) k ∙ silent_decl_below facts (ExportDecl-span t) (ExportDecl-decl t) s
silent_below facts t (h.IsSilent.assigned k n e) = ap (starts_below start_look facts t) (assigned_rule t k n)
silent_below facts t (h.IsSilent.import_export s) = ap (starts_below start_look facts t) (silent_import_export facts t s).is
silent_below facts t (h.IsSilent.default s) = ap (starts_below start_look facts t) (silent_default facts t s).is

-- ---- where items begin

module _ (r : Renaming) (ok : IsRenaming r) where
  of_variables : (t u : Tree) → Both VarDecl t u → SameRange r (VarDecl-span t) (VarDecl-span u) →
      SameRange r (range_of_node t) (range_of_node u)
  of_variables t u k s = subst₂ (SameRange r) (sym (range_of_variables t k.left)) (sym (range_of_variables u k.right)) s

  of_functions : (t u : Tree) → Both FnDecl t u → SameRange r (Function-span (FnDecl-function t)) (Function-span (FnDecl-function u)) →
      SameRange r (range_of_node t) (range_of_node u)
  of_functions t u k s = subst₂ (SameRange r) (sym (range_of_function t k.left)) (sym (range_of_function u k.right)) s

  of_modules : (t u : Tree) → Both TsModuleDecl t u → SameRange r (TsModuleDecl-span t) (TsModuleDecl-span u) →
      SameRange r (range_of_node t) (range_of_node u)
  of_modules t u k s = subst₂ (SameRange r) (sym (range_of_module t k.left)) (sym (range_of_module u k.right)) s

  of_classes : (t u : Tree) → Both ClassDecl t u → SameRange r (Class-span (ClassDecl-class t)) (Class-span (ClassDecl-class u)) →
      SameRange r (range_of_node t) (range_of_node u)
  of_classes t u k s = subst₂ (SameRange r) (sym (range_of_class t k.left)) (sym (range_of_class u k.right)) s

  module _ (a b : ModuleFacts) where
    decl_begins : (p q : SourceRange) (t u : Tree) → SameDecl r a b p q t u → SameRange r (range_of_node t) (range_of_node u)
    decl_begins p q t u (h.SameDecl.variable d n rest) = of_variables t u d.kinds d.span
    decl_begins p q t u (h.SameDecl.ambient d n rest) = of_variables t u d.kinds d.span
    decl_begins p q t u (h.SameDecl.standing k d s e f) = range_alike r ok t u f
    decl_begins p q t u (h.SameDecl.function d e f (v.SameFunction.typed_function g x y z)) = of_functions t u d.kinds g.span
    decl_begins p q t u (h.SameDecl.function d e f (v.SameFunction.classed_function g x y k z)) = of_functions t u d.kinds g.span
    decl_begins p q t u (h.SameDecl.implementation d e f g) = of_functions t u d.kinds g.head.span
    decl_begins p q t u (h.SameDecl.ambient_function k e f s) = range_alike r ok t u s
    decl_begins p q t u (h.SameDecl.class d e n s) = of_classes t u d.kinds s.head.span
    decl_begins p q t u (h.SameDecl.ambient_class d e n s) = of_classes t u d.kinds s.head.span
    decl_begins p q t u (h.SameDecl.using k s e f) = subst₂ (SameRange r) (sym (range_of_using t k.left)) (sym (range_of_using u k.right)) s
    decl_begins p q t u (h.SameDecl.global k e f s) = of_modules t u k s
    decl_begins p q t u (h.SameDecl.ambient_module k e f n n' s s') = of_modules t u k s

    item_begins : SameBindings r a.bindings b.bindings → a.is_ambient ≡ b.is_ambient → (t u : Tree) → SameItem r a b t u →
        SameRange r (range_of_node t) (range_of_node u)
    item_begins c m t u (h.SameItem.decl d) = decl_begins (range_of_node t) (range_of_node u) t u d
    item_begins c m t u (h.SameItem.exported k s d) = subst₂ (SameRange r) (sym (range_of_export t k.left))
        (sym (range_of_export u k.right)) s
    item_begins c m t u (h.SameItem.namespace (h.SameNamespace.bodies d s)) = of_modules t u d.kinds d.span
    item_begins c m t u (h.SameItem.exported_namespace k s d) =
        subst₂ (SameRange r) (sym (range_of_export t k.left)) (sym (range_of_export u k.right)) s
    item_begins c m t u (h.SameItem.import_export d) = (imports_exports_alike r ok a b t u d).begins
    item_begins c m t u (h.SameItem.default d) = (defaults_alike r ok a b c m t u d).begins
    item_begins c m t u (h.SameItem.assigned d) = d.range
    item_begins c m t u (h.SameItem.refused kind e f s) = s

    -- ---- where what goes begins

    module _ (p q : ℕ) (pair : IsPair r.starts p q) where
      unseen_alike : (t u : Tree) (ss ts : List Seen) → SameRange r (range_of_node t) (range_of_node u) → AllAlike r ok ss ts →
          is_among p (start_of_unseen t ss) ≡ is_among q (start_of_unseen u ts)
      unseen_alike t u [] [] s e =
          ap (λ m. m || false) (one_start r ok p q (range_of_node t).start.0 (range_of_node u).start.0 pair s.start)
      unseen_alike t u (x ∷ xs) (y ∷ ys) s e = refl
      unseen_alike t u [] (y ∷ ys) s e = cc
      unseen_alike t u (x ∷ xs) [] s e = cc

      among_parts : (n : ℕ) (xs ys : List SourcePos) → is_among n (xs ++ ys) ≡ (is_among n xs || is_among n ys)
      among_parts n xs ys = list_any-append (λ (s : SourcePos). s.0 == n) xs ys

      removed_left : (t : Tree) → h.IsSilent a t → HasNoPartner r.starts (range_of_node t).start.0 → is_among p (removed_start a t) ≡ false
      removed_left t s n =
          ap (is_among p) (removed_start_is a t
          ∙ (λ i. silent_below a t s i ++ (start_of_unseen t (silent_item a t s i) ++ silent_inside a t s i)))
          ∙ ap (λ m. m || false) (no_left r ok p q (range_of_node t).start.0 pair n)

      removed_right : (u : Tree) → h.IsSilent b u → IsNoPartner r.starts (range_of_node u).start.0 → is_among q (removed_start b u) ≡ false
      removed_right u s n =
          ap (is_among q) (removed_start_is b u
          ∙ (λ i. silent_below b u s i ++ (start_of_unseen u (silent_item b u s i) ++ silent_inside b u s i)))
          ∙ ap (λ m. m || false) (no_right r ok p q (range_of_node u).start.0 pair n)

      -- inside of declarations that agree
      abbrev InsideAlike : SourceRange → SourceRange → Tree → Tree → Type 0
      InsideAlike x y t u = is_among p (starts_in_decl a x t (decl_rule (kind_of t))) ≡ is_among q
          (starts_in_decl b y u (decl_rule (kind_of u)))

      none_inside : (x y : SourceRange) (t u : Tree) (k : Kind) → Both k t u → is_class_kind k ≡ false → InsideAlike x y t u
      none_inside x y t u k d n =
          ap (λ z. is_among p z) (nothing_inside a x t k d.left n) ∙ sym (ap (λ z. is_among q z) (nothing_inside b y u k d.right n))

      inside_if : (i j m n : Bool) (xs ys : List SourcePos) → i ≡ j → m ≡ n → (m ≡ false → is_among p xs ≡ is_among q ys) →
          is_among p (if i && not m then xs else []) ≡ is_among q (if j && not n then ys else [])
      inside_if true true false false xs ys e f g = g refl
      inside_if true true true true xs ys e f g = refl
      inside_if false false m n xs ys e f g = refl
      inside_if true false m n xs ys e f g = cc
      inside_if false true m n xs ys e f g = cc
      inside_if true true true false xs ys e f g = cc
      inside_if true true false true xs ys e f g = cc

      class_inside : (x y : SourceRange) (t u : Tree) → a.is_ambient ≡ b.is_ambient → h.SameClassDecl r a b t u →
          a.is_public x ≡ b.is_public y →
          (is_ambient_class a t ≡ false → is_among p (starts_of_removed (ClassDecl-class t)) ≡ is_among q
          (starts_of_removed (ClassDecl-class u))) →
          InsideAlike x y t u
      class_inside x y t u m d f e =
          subst₂ (λ k j. is_among p (starts_in_decl a x t (decl_rule k)) ≡ is_among q (starts_in_decl b y u (decl_rule j)))
          (sym d.kinds.left)
          (sym d.kinds.right) (inside_if (a.is_public x) (b.is_public y) (is_ambient_class a t) (is_ambient_class b u) _ _ f
          (ambient_class_same r ok a b t u m d.declare) e)

      by_rules : (t u : Tree) (rule : ItemRule) → item_rule t ≡ rule → item_rule u ≡ rule →
          is_among p (starts_inside a t rule) ≡ is_among q (starts_inside b u rule) →
          is_among p (starts_inside a t (item_rule t)) ≡ is_among q (starts_inside b u (item_rule u))
      by_rules t u rule e f s = subst₂ (λ x y. is_among p (starts_inside a t x) ≡ is_among q (starts_inside b u y)) (sym e) (sym f) s

      among_if : (m n : Bool) (xs ys : List SourcePos) → m ≡ n → is_among p xs ≡ is_among q ys →
          is_among p (if m then xs else []) ≡ is_among q (if n then ys else [])
      among_if true true xs ys e f = f
      among_if false false xs ys e f = refl
      among_if true false xs ys e f = cc
      among_if false true xs ys e f = cc

      -- of default exports of declarations that are no classes nothing goes
      no_class : (t u : Tree) (k : Kind) (rule : DefaultRule) → SameDefaultDecl r a b k t u → default_rule k ≡ Default rule →
          is_among p (starts_in_default a t rule) ≡ is_among q (starts_in_default b u rule) →
          is_among p (starts_inside a t (item_rule t)) ≡ is_among q (starts_inside b u (item_rule u))
      no_class t u k rule h e f = by_rules t u (Default rule) (default_by_kind t k h.kinds.left h.decls.left ∙ e)
          (default_by_kind u k h.kinds.right h.decls.right ∙ e) f

      decl_inside : (x y : SourceRange) (t u : Tree) → a.is_ambient ≡ b.is_ambient → SameDecl r a b x y t u → InsideAlike x y t u
      decl_inside x y t u m (h.SameDecl.variable d n rest) = none_inside x y t u VarDecl d.kinds refl
      decl_inside x y t u m (h.SameDecl.ambient d n rest) = none_inside x y t u VarDecl d.kinds refl
      decl_inside x y t u m (h.SameDecl.standing k d e f g) = none_inside x y t u k d (standing_no_class k e)
      decl_inside x y t u m (h.SameDecl.function d e f g) = none_inside x y t u FnDecl d.kinds refl
      decl_inside x y t u m (h.SameDecl.implementation d e f g) = none_inside x y t u FnDecl d.kinds refl
      decl_inside x y t u m (h.SameDecl.ambient_function k e f g) = none_inside x y t u FnDecl k refl
      decl_inside x y t u m (h.SameDecl.class d e n s) = class_inside x y t u m d e (λ k.
          class_removed r ok a.bindings b.bindings a.is_implementation b.is_implementation p q pair (ClassDecl-class t)
          (ClassDecl-class u) s)
      decl_inside x y t u m (h.SameDecl.ambient_class d e n s) = class_inside x y t u m d e (λ k. cc)
      decl_inside x y t u m (h.SameDecl.using k s e f) = none_inside x y t u UsingDecl k refl
      decl_inside x y t u m (h.SameDecl.global k e f s) = none_inside x y t u TsModuleDecl k refl
      decl_inside x y t u m (h.SameDecl.ambient_module k e f n n' s s') = none_inside x y t u TsModuleDecl k refl

      -- inside of default exports that agree
      default_inside : (t u : Tree) → SameDefault r a b t u → is_among p (starts_inside a t (item_rule t)) ≡ is_among q
          (starts_inside b u (item_rule u))
      default_inside t u (defaults.SameDefault.value k e f g) =
          by_rules t u (Default Value) (rule_by_kind t kinds.ExportDefaultExpr k.left) (rule_by_kind u kinds.ExportDefaultExpr k.right) refl
      default_inside t u (defaults.SameDefault.class h n e) =
          by_rules t u (Default Class) (default_by_kind t kinds.ClassExpr h.kinds.left h.decls.left)
          (default_by_kind u kinds.ClassExpr h.kinds.right h.decls.right)
          (among_if (a.is_public (ExportDefaultDecl-span t)) (b.is_public (ExportDefaultDecl-span u)) _ _ h.is_public
          (class_removed r ok a.bindings b.bindings a.is_implementation b.is_implementation p q pair
          (ClassExpr-class (ExportDefaultDecl-decl t))
          (ClassExpr-class (ExportDefaultDecl-decl u)) e))
      default_inside t u (defaults.SameDefault.function h e f g) = no_class t u kinds.FnExpr Function h.head refl refl
      default_inside t u (defaults.SameDefault.implementation h e f g) = no_class t u kinds.FnExpr Function h.head refl refl
      default_inside t u (defaults.SameDefault.ambient_function h e f) = no_class t u kinds.FnExpr Function h refl refl
      default_inside t u (defaults.SameDefault.interface h e) = no_class t u kinds.TsInterfaceDecl Interface h refl refl

      item_inside : SameBindings r a.bindings b.bindings → a.is_ambient ≡ b.is_ambient → (t u : Tree) → SameItem r a b t u →
          is_among p (starts_inside a t (item_rule t)) ≡ is_among q (starts_inside b u (item_rule u))
      item_inside c m t u (h.SameItem.decl d) =
          let e = decl_taken r ok a b c m (range_of_node t) (range_of_node u) t u d in
          subst₂ (λ x y. is_among p (starts_inside a t x) ≡ is_among q (starts_inside b u y)) (sym (declared_rule (kind_of t) t e.0))
          (sym (declared_rule (kind_of u) u e.1)) (decl_inside (range_of_node t) (range_of_node u) t u m d)
      item_inside c m t u (h.SameItem.exported k s d) =
          subst₂ (λ x y. is_among p (starts_inside a t (rule_of_kind x t)) ≡ is_among q (starts_inside b u (rule_of_kind y u))) (sym k.left)
          (sym k.right)
          (decl_inside (ExportDecl-span t) (ExportDecl-span u) (ExportDecl-decl t) (ExportDecl-decl u) m d)
      item_inside c m t u (h.SameItem.namespace d) =
          let k = namespace_kinds r ok d in
          by_rules t u (Declared Namespace) (namespace_rule t k.left) (namespace_rule u k.right) refl
      item_inside c m t u (h.SameItem.exported_namespace k s d) =
          let n = namespace_kinds r ok d in
          by_rules t u (Exported Namespace) (exported_namespace_rule t k.left n.left) (exported_namespace_rule u k.right n.right) refl
      item_inside c m t u (h.SameItem.import_export d) =
          let e = imports_exports_alike r ok a b t u d in by_rules t u (ImportExport e.rule) e.left e.right refl
      item_inside c m t u (h.SameItem.default d) = default_inside t u d
      item_inside c m t u (h.SameItem.assigned d) =
          by_rules t u Assigned (assigned_rule t d.kinds.left d.assignments.kinds.left)
          (assigned_rule u d.kinds.right d.assignments.kinds.right)
          (among_if _ _ ((range_of_node t).start ∷ []) ((range_of_node u).start ∷ []) d.assignments.is_public
          (ap (λ n. n || false) (one_start r ok p q (range_of_node t).start.0 (range_of_node u).start.0 pair d.range.start)))
      item_inside c m t u (h.SameItem.refused kind e f s) = by_rules t u (Refused kind) e f refl

      -- of declarations that are no namespaces nothing goes below
      nothing_below : (x y : SourceRange) (t u : Tree) (k : Kind) → Both k t u → is_module_kind k ≡ false →
          (starts_in_body start_look a x t (decl_rule (kind_of t)) ≡ []) × (starts_in_body start_look b y u (decl_rule (kind_of u)) ≡ [])
      nothing_below x y t u k d n = (none_below a x t k d.left n, none_below b y u k d.right n)

      decl_below : (x y : SourceRange) (t u : Tree) → SameDecl r a b x y t u →
          (starts_in_body start_look a x t (decl_rule (kind_of t)) ≡ []) × (starts_in_body start_look b y u (decl_rule (kind_of u)) ≡ [])
      decl_below x y t u (h.SameDecl.variable d n rest) = nothing_below x y t u VarDecl d.kinds refl
      decl_below x y t u (h.SameDecl.ambient d n rest) = nothing_below x y t u VarDecl d.kinds refl
      decl_below x y t u (h.SameDecl.standing k d e f g) = nothing_below x y t u k d (standing_no_module k e)
      decl_below x y t u (h.SameDecl.function d e f g) = nothing_below x y t u FnDecl d.kinds refl
      decl_below x y t u (h.SameDecl.implementation d e f g) = nothing_below x y t u FnDecl d.kinds refl
      decl_below x y t u (h.SameDecl.ambient_function k e f g) = nothing_below x y t u FnDecl k refl
      decl_below x y t u (h.SameDecl.class d e n s) = nothing_below x y t u ClassDecl d.kinds refl
      decl_below x y t u (h.SameDecl.ambient_class d e n s) = nothing_below x y t u ClassDecl d.kinds refl
      decl_below x y t u (h.SameDecl.using k s e f) = nothing_below x y t u UsingDecl k refl
      decl_below x y t u (h.SameDecl.global k e f s) =
          (refused_below a x t k.left (global_no_namespace t e), refused_below b y u k.right (global_no_namespace u f))
      decl_below x y t u (h.SameDecl.ambient_module k e f n n' s s') =
          (refused_below a x t k.left (ambient_no_namespace t n), refused_below b y u k.right (ambient_no_namespace u n'))

      among_none : (xs ys : List SourcePos) → xs ≡ [] → ys ≡ [] → is_among p xs ≡ is_among q ys
      among_none xs ys e f = ap (is_among p) e ∙ sym (ap (is_among q) f)

      below_by_rules : (t u : Tree) (rule : ItemRule) → item_rule t ≡ rule → item_rule u ≡ rule →
          is_among p (starts_below start_look a t rule) ≡ is_among q (starts_below start_look b u rule) →
          is_among p (starts_below start_look a t (item_rule t)) ≡ is_among q (starts_below start_look b u (item_rule u))
      below_by_rules t u rule e f s =
          subst₂ (λ x y. is_among p (starts_below start_look a t x) ≡ is_among q (starts_below start_look b u y)) (sym e) (sym f) s

      all_removed : (t u : Tree) → is_among p (starts_below start_look a t (item_rule t)) ≡ is_among q
          (starts_below start_look b u (item_rule u)) →
          is_among p (start_of_unseen t (item_seen a t)) ≡ is_among q (start_of_unseen u (item_seen b u)) →
          is_among p (starts_inside a t (item_rule t)) ≡ is_among q (starts_inside b u (item_rule u)) →
          is_among p (removed_start a t) ≡ is_among q (removed_start b u)
      all_removed t u e f g =
          ap (is_among p) (removed_start_is a t)
          ∙ (among_parts p (starts_below start_look a t (item_rule t))
          (start_of_unseen t (item_seen a t) ++ starts_inside a t (item_rule t))
          ∙ (ap₂ (λ x y. x || y) e
          (among_parts p (start_of_unseen t (item_seen a t)) (starts_inside a t (item_rule t)) ∙ (ap₂ (λ x y. x || y) f g
          ∙ sym (among_parts q (start_of_unseen u (item_seen b u)) (starts_inside b u (item_rule u)))))
          ∙ (sym (among_parts q (starts_below start_look b u (item_rule u))
          (start_of_unseen u (item_seen b u) ++ starts_inside b u (item_rule u)))
          ∙ sym (ap (is_among q) (removed_start_is b u)))))

      among_more : (n : ℕ) (facts : ModuleFacts) (t : Tree) (ts : List Tree) →
          is_among n (removed_from facts (t ∷ ts)) ≡ (is_among n (removed_start facts t) || is_among n (removed_from facts ts))
      among_more n facts t ts = list_any-append (λ (s : SourcePos). s.0 == n) (removed_start facts t) (removed_from facts ts)

      namespace_removed : (x y : SourceRange) (t u : Tree) → SameNamespaceHead r a b x y t u →
          is_among p (removed_from (inside a t) (items_inside t)) ≡ is_among q (removed_from (inside b u) (items_inside u)) →
          is_among p (starts_in_namespace start_look a x t) ≡ is_among q (starts_in_namespace start_look b y u)
      namespace_removed x y t u d e =
          among_if (is_namespace t && a.is_public x) (is_namespace u && b.is_public y) _ _
          (ap₂ (λ m n. m && n) (d.namespaces.0 ∙ sym d.namespaces.1) d.public) e

  module _ (p q : ℕ) (pair : IsPair r.starts p q) where
    item_removed : (a b : ModuleFacts) (t u : Tree) → SameBindings r a.bindings b.bindings → a.is_ambient ≡ b.is_ambient →
        SameItem r a b t u → is_among p (starts_below start_look a t (item_rule t)) ≡ is_among q
        (starts_below start_look b u (item_rule u)) →
        is_among p (removed_start a t) ≡ is_among q (removed_start b u)
    item_removed a b t u c m s below =
        all_removed a b p q pair t u below
        (unseen_alike a b p q pair t u (item_seen a t) (item_seen b u) (item_begins a b c m t u s) (item_alike r ok c m s))
        (item_inside a b p q pair c m t u s)

    mutual
      item_below : {a b : ModuleFacts} {t u : Tree} → SameBindings r a.bindings b.bindings → a.is_ambient ≡ b.is_ambient →
          SameItem r a b t u → is_among p (starts_below start_look a t (item_rule t)) ≡ is_among q
          (starts_below start_look b u (item_rule u))
      item_below c m (h.SameItem.decl {a = a} {b = b} {t = t} {u = u} d) =
          let e = decl_taken r ok a b c m (range_of_node t) (range_of_node u) t u d in
          let f = decl_below a b p q pair (range_of_node t) (range_of_node u) t u d in
          among_none a b p q pair _ _ (ap (starts_below start_look a t) (declared_rule (kind_of t) t e.0) ∙ f.0)
          (ap (starts_below start_look b u) (declared_rule (kind_of u) u e.1) ∙ f.1)
      item_below c m (h.SameItem.exported {a = a} {b = b} {t = t} {u = u} k s d) =
          let f = decl_below a b p q pair (ExportDecl-span t) (ExportDecl-span u) (ExportDecl-decl t) (ExportDecl-decl u) d in
          among_none a b p q pair _ _ (ap (λ x. starts_below start_look a t (rule_of_kind x t)) k.left ∙ f.0)
          (ap (λ x. starts_below start_look b u (rule_of_kind x u)) k.right ∙ f.1)
      item_below c m (h.SameItem.namespace {a = a} {b = b} {t = t} {u = u} d) =
          let k = namespace_kinds r ok d in
          below_by_rules a b p q pair t u (Declared Namespace) (namespace_rule t k.left) (namespace_rule u k.right)
          (namespaces_removed c m d)
      item_below c m (h.SameItem.exported_namespace {a = a} {b = b} {t = t} {u = u} k s d) =
          let n = namespace_kinds r ok d in
          below_by_rules a b p q pair t u (Exported Namespace) (exported_namespace_rule t k.left n.left)
          (exported_namespace_rule u k.right n.right)
          (namespaces_removed c m d)
      item_below c m (h.SameItem.import_export {a = a} {b = b} {t = t} {u = u} d) =
          let e = imports_exports_alike r ok a b t u d in below_by_rules a b p q pair t u (ImportExport e.rule) e.left e.right refl
      item_below c m (h.SameItem.default {a = a} {b = b} {t = t} {u = u} d) =
          let e = defaults_alike r ok a b c m t u d in below_by_rules a b p q pair t u (Default e.rule) e.left e.right refl
      item_below c m (h.SameItem.assigned {a = a} {b = b} {t = t} {u = u} d) =
          below_by_rules a b p q pair t u Assigned (assigned_rule t d.kinds.left d.assignments.kinds.left)
          (assigned_rule u d.kinds.right d.assignments.kinds.right) refl
      item_below c m (h.SameItem.refused {a = a} {b = b} {t = t} {u = u} kind e f s) =
          below_by_rules a b p q pair t u (Refused kind) e f refl

      namespaces_removed : {a b : ModuleFacts} {x y : SourceRange} {t u : Tree} → SameBindings r a.bindings b.bindings →
          a.is_ambient ≡ b.is_ambient → SameNamespace r a b x y t u →
          is_among p (starts_in_namespace start_look a x t) ≡ is_among q (starts_in_namespace start_look b y u)
      namespaces_removed c m (h.SameNamespace.bodies {a = a} {b = b} {p = x} {q = y} {t = t} {u = u} d s) =
          namespace_removed a b p q pair x y t u d (body_removed c (ap₂ (λ x y. x || y) m d.declare) s)

      body_removed : {a b : ModuleFacts} {t u : Tree} → SameBindings r a.bindings b.bindings → a.is_ambient ≡ b.is_ambient →
          SameBody r a b t u → is_among p (removed_from a (block_items (innermost t))) ≡ is_among q
          (removed_from b (block_items (innermost u)))
      body_removed c m (h.SameBody.block {a = a} {b = b} {t = t} {u = u} n s rest) =
          subst₂ (λ x y. is_among p (removed_from a (block_items x)) ≡ is_among q (removed_from b (block_items y)))
          (sym (innermost_block t n.left))
          (sym (innermost_block u n.right)) (removed_alike c m rest)
      body_removed c m (h.SameBody.inner {a = a} {b = b} {t = t} {u = u} d s) =
          subst₂ (λ x y. is_among p (removed_from a (block_items x)) ≡ is_among q (removed_from b (block_items y)))
          (sym (innermost_inner t (ap (λ k. k is TsNamespaceDecl) d.kinds.left)))
          (sym (innermost_inner u (ap (λ k. k is TsNamespaceDecl) d.kinds.right)))
          (body_removed c m s)

      removed_alike : {a b : ModuleFacts} {ts us : List Tree} → SameBindings r a.bindings b.bindings → a.is_ambient ≡ b.is_ambient →
          SameItems r a b ts us → is_among p (removed_from a ts) ≡ is_among q (removed_from b us)
      removed_alike c m h.SameItems.end = refl
      removed_alike c m (h.SameItems.left {a = a} {b = b} {t = t} {ts = ts} {us = us} s n rest) =
          among_more a b p q pair p a t ts ∙
          (ap (λ x. x || is_among p (removed_from a ts)) (removed_left a b p q pair t s n) ∙ removed_alike c m rest)
      removed_alike c m (h.SameItems.right {a = a} {b = b} {u = u} {ts = ts} {us = us} s n rest) =
          removed_alike c m rest
          ∙ sym (among_more a b p q pair q b u us ∙ ap (λ x. x || is_among q (removed_from b us)) (removed_right a b p q pair u s n))
      removed_alike c m (h.SameItems.next {a = a} {b = b} {t = t} {u = u} {ts = ts} {us = us} s rest) =
          among_more a b p q pair p a t ts ∙ (ap₂ (λ x y. x || y) (item_removed a b t u c m s (item_below c m s)) (removed_alike c m rest)
          ∙ sym (among_more a b p q pair q b u us))

  module _ (a b : ModuleFacts) where
    -- ---- the comments that stay

    each_if : (m n : Bool) (xs ys : List Comment) → m ≡ n → Each (SameComment r) xs ys →
        Each (SameComment r) (if m then [] else xs) (if n then [] else ys)
    each_if true true xs ys e s = tt
    each_if false false xs ys e s = s
    each_if true false xs ys e s = cc
    each_if false true xs ys e s = cc

    same_comments : (t u : Tree) (c d : Comments) → AgreeHidden r a b t u → SameComments r (kept c) (kept d) →
        SameComments r (kept_comments a t c) (kept_comments b u d)
    same_comments t u c d g s = record {
      leading = λ p q pair.
          subst₂ (Each (SameComment r)) (sym (all_without p (removed_starts a t) (kept c)))
          (sym (all_without q (removed_starts b u) (kept d)))
          (each_if (is_among p (removed_starts a t)) (is_among q (removed_starts b u)) (all_comments_at p (kept c).leading)
          (all_comments_at q (kept d).leading)
          (removed_alike p q pair g.bindings g.is_ambient g.items) (s.leading p q pair));
      trailing = subst₂ (SameAtPairs r r.ends) (sym (trailing_stay (removed_starts a t) (kept c)))
          (sym (trailing_stay (removed_starts b u) (kept d))) s.trailing;
    }

-- under each renaming
pub two_worlds : (a : ModuleFacts) (t : Tree) (c : Comments) (b : ModuleFacts) (u : Tree) (d : Comments) → TwoWorlds a t c b u d
two_worlds a t c b u d r ok g s =
    let trees = same_trees r ok a b t u g in
    record { skeletons = trees.0; faults = trees.1; comments = same_comments r ok a b t u c d g s }
