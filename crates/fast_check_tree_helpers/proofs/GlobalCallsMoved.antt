-- A call of a global function stays one when its scopes are moved, those of the unresolved with them.
use Rattle.std.proofs.Common.{◌≡◌, ℕ, Bool, true, false, ◌==◌, ◌&&◌, ◌||◌, Some, None, List, [], ◌∷◌, map, refl, ap, ap₂, ◌∙◌, sym}
use Rattle.std.proofs.Common.{true≢false, eqb-true, eq-eqb}
use Rattle.std.specs.Prelude.{codes, if◌then◌else◌}
use Rattle.std.specs.Option.{option_map}
use Rattle.std.specs.Str.{bytes_eq}
use Rattle.fast_check_tree_syntax.specs.declared.source.SyntaxContext.{SyntaxContext}
use Rattle.fast_check_tree_syntax.specs.declared.tree.Tree.{Tree, out-Tree}
use Rattle.fast_check_tree_syntax.specs.declared.tree.Tree.TheOpen.{Tree-F}
use Rattle.fast_check_tree_syntax.specs.declared.tree.Tree.TheFolds.{map-Tree}
use Rattle.fast_check_tree_syntax.specs.declared.kind.Kind.TheVariants.{Ident, IdentName, MemberExpr, Str}
use Rattle.fast_check_tree_syntax.specs.Shape.{◌is◌, kind_of, part, parts, context_of, context_at, text_of, is_absent}
use Rattle.fast_check_tree_syntax.specs.Moves.{Moves, Keeps, moved, moved_level}
use Rattle.fast_check_tree_syntax.proofs.Moved.{out_moved, kind_of_moved, part_moved, parts_moved, is_absent_moved, text_of_moved}
use Rattle.fast_check_tree_forms_expressions.specs.Calls.{MemberExpr-obj, MemberExpr-prop}
use Rattle.fast_check_tree_forms_expressions.specs.Expressions.{ExprOrSpread-expr, ExprOrSpread-spread}
use Rattle.fast_check_tree_forms_programs.specs.Names.{Ident-ctxt}
use Rattle.fast_check_tree_helpers.specs.Places.{at-ExprOrSpread-expr, at-ExprOrSpread-spread, at-MemberExpr-obj, at-MemberExpr-prop}
use Rattle.fast_check_tree_helpers.specs.Places.{at-Ident-ctxt, at-Ident-sym, at-IdentName-sym}
use Rattle.fast_check_tree_helpers.specs.GlobalCalls.{is_global, is_plain_name, is_global_member, sole_argument, object_freeze_call_arg}
use Rattle.fast_check_tree_helpers.specs.GlobalCalls.{is_symbol_description, is_symbol_call}

-- the scope number of the unresolved, moved
abbrev pub moved_scope : Moves → SyntaxContext → SyntaxContext
moved_scope m c = record { 0 = m.scopes c.0 }

module _ (m : Moves) (ok : Keeps m) where
  context_level : (l : Tree-F Tree) → context_at (moved_level m (map-Tree Tree Tree (moved m) l)) ≡ moved_scope m (context_at l)
  context_level (Tree-F.Context x) = refl
  context_level Tree-F.Absent = λ i. record { 0 = sym ok.scope_zero i }
  context_level (Tree-F.Node k ts) = λ i. record { 0 = sym ok.scope_zero i }
  context_level (Tree-F.Flag x) = λ i. record { 0 = sym ok.scope_zero i }
  context_level (Tree-F.Text x) = λ i. record { 0 = sym ok.scope_zero i }
  context_level (Tree-F.Range x) = λ i. record { 0 = sym ok.scope_zero i }
  context_level (Tree-F.Word x) = λ i. record { 0 = sym ok.scope_zero i }

  pub context_of_moved : (t : Tree) → context_of (moved m t) ≡ moved_scope m (context_of t)
  context_of_moved t = ap context_at (out_moved m t) ∙ context_level (out-Tree t)

  same_scope : (a b : ℕ) → (m.scopes a == m.scopes b) ≡ (a == b)
  same_scope a b = go (a == b) (m.scopes a == m.scopes b) refl refl
    where
      go : (p q : Bool) → (a == b) ≡ p → (m.scopes a == m.scopes b) ≡ q → (m.scopes a == m.scopes b) ≡ (a == b)
      go true true e f = f ∙ sym e
      go false false e f = f ∙ sym e
      go true false e f = absurd (true≢false (sym (eq-eqb (m.scopes a) (m.scopes b) (ap m.scopes (eqb-true a b e))) ∙ f))
      go false true e f = absurd (true≢false (sym (eq-eqb a b (ok.scopes_apart a b (eqb-true (m.scopes a) (m.scopes b) f))) ∙ e))

  pub is_global_moved : (name : List ℕ) (u : SyntaxContext) (t : Tree) → is_global name (moved_scope m u) (moved m t) ≡ is_global name u t
  is_global_moved name u t =
      ap₂ (λ k b. (k is Ident) && b) (kind_of_moved m t)
      (ap₂ (λ x y. bytes_eq x name && y) (ap text_of (part_moved m at-Ident-sym.place t) ∙ text_of_moved m (part at-Ident-sym.place t))
      (ap (λ c. c.0 == m.scopes u.0) (ap context_of (part_moved m at-Ident-ctxt.place t) ∙ context_of_moved (part at-Ident-ctxt.place t))
      ∙ same_scope (Ident-ctxt t).0 u.0))

  pub is_plain_name_moved : (name : List ℕ) (t : Tree) → is_plain_name name (moved m t) ≡ is_plain_name name t
  is_plain_name_moved name t =
      ap₂ (λ k x. (k is IdentName) && bytes_eq x name) (kind_of_moved m t)
      (ap text_of (part_moved m at-IdentName-sym.place t) ∙ text_of_moved m (part at-IdentName-sym.place t))

  pub is_global_member_moved : (object name : List ℕ) (u : SyntaxContext) (t : Tree) →
      is_global_member object name (moved_scope m u) (moved m t) ≡ is_global_member object name u t
  is_global_member_moved object name u t =
      ap₂ (λ k b. (k is MemberExpr) && b) (kind_of_moved m t)
      (ap₂ ◌&&◌
      (ap (is_global object (moved_scope m u)) (part_moved m at-MemberExpr-obj.place t) ∙ is_global_moved object u (MemberExpr-obj t))
      (ap (is_plain_name name) (part_moved m at-MemberExpr-prop.place t) ∙ is_plain_name_moved name (MemberExpr-prop t)))

  description_moved : (ts : List Tree) → is_symbol_description (map (moved m) ts) ≡ is_symbol_description ts
  description_moved [] = refl
  description_moved (t ∷ []) =
      ap (λ k. k is Str) (ap kind_of (part_moved m at-ExprOrSpread-expr.place t) ∙ kind_of_moved m (ExprOrSpread-expr t))
  description_moved (t ∷ u ∷ us) = refl

  pub is_symbol_call_moved : (u : SyntaxContext) (callee args : Tree) →
      is_symbol_call (moved_scope m u) (moved m callee) (moved m args) ≡ is_symbol_call u callee args
  is_symbol_call_moved u callee args =
      ap₂ ◌&&◌
      (ap₂ ◌||◌ (is_global_moved (codes "Symbol") u callee) (is_global_member_moved (codes "Symbol") (codes "for") u callee))
      (ap is_symbol_description (parts_moved m args) ∙ description_moved (parts args))

  sole_argument_moved : (ts : List Tree) → sole_argument (map (moved m) ts) ≡ option_map (moved m) (sole_argument ts)
  sole_argument_moved [] = refl
  sole_argument_moved (t ∷ []) =
      ap (λ b. if b then Some (moved m t) else None) (ap is_absent (part_moved m at-ExprOrSpread-spread.place t)
      ∙ is_absent_moved m (ExprOrSpread-spread t)) ∙ go (is_absent (ExprOrSpread-spread t))
    where
      go : (b : Bool) → (if b then Some (moved m t) else None) ≡ option_map (moved m) (if b then Some t else None)
      go true = refl
      go false = refl
  sole_argument_moved (t ∷ u ∷ us) = refl

  pub object_freeze_call_arg_moved : (u : SyntaxContext) (callee args : Tree) →
      object_freeze_call_arg (moved_scope m u) (moved m callee) (moved m args) ≡ option_map (moved m) (object_freeze_call_arg u callee args)
  object_freeze_call_arg_moved u callee args =
      ap₂ (λ b arg. if b then arg else None) (is_global_member_moved (codes "Object") (codes "freeze") u callee)
      (ap sole_argument (parts_moved m args) ∙ sole_argument_moved (parts args))
      ∙ go (is_global_member (codes "Object") (codes "freeze") u callee)
    where
      go : (b : Bool) →
          (if b then option_map (moved m) (sole_argument (parts args)) else None) ≡ option_map (moved m)
          (if b then sole_argument (parts args) else None)
      go true = refl
      go false = refl
