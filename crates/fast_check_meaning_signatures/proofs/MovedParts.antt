-- What is seen, moved; what the fields of a moved node read as; and choices between moved things.
use Rattle.std.specs.Prelude.{◌≡◌, ℕ, Bool, true, false, option_map, List, [], ◌∷◌, map, refl, if◌then◌else◌}
use Rattle.std.proofs.Common.{ap, ◌∙◌, sym}
use Rattle.fast_check_tree_syntax.specs.declared.source.SourceRange.{SourceRange}
use Rattle.fast_check_tree_syntax.specs.declared.source.SyntaxContext.{SyntaxContext}
use Rattle.fast_check_tree_syntax.specs.declared.tree.Tree.{Tree}
use Rattle.fast_check_tree_syntax.specs.Shape.{kind_of, part, parts, range_of, context_of}
use Rattle.fast_check_tree_syntax.specs.Moves.{Moves, Keeps, moved, moved_range}
use Rattle.fast_check_tree_syntax.proofs.Moved.{kind_of_moved, part_moved, parts_moved, range_of_moved}
use Rattle.fast_check_tree_helpers.proofs.GlobalCallsMoved.{moved_scope, context_of_moved}
use Rattle.fast_check_meaning_signatures.specs.Seen.{DeclaratorHead, DefaultHead, FunctionHead, ArrowHead, ClassHead, PropertyHead, Seen, written}
use Rattle.fast_check_meaning_signatures.specs.Seen.{round, listed, declarator, default, function, typed_arrow, valued_arrow, class, property}
use Rattle.fast_check_meaning_signatures.specs.Seen.{default_export, tested, faulty, refused, Seens, end, also, seens}

abbrev pub moved_declarator : Moves → DeclaratorHead → DeclaratorHead
moved_declarator m d = record { span = moved_range m d.span; ident = moved m d.ident; definite = d.definite }

abbrev pub moved_default : Moves → DefaultHead → DefaultHead
moved_default m d = record { span = moved_range m d.span; left = moved m d.left; place = moved_range m d.place }

abbrev pub moved_function : Moves → FunctionHead → FunctionHead
moved_function m f =
    record { span = moved_range m f.span; ctxt = moved_scope m f.ctxt; lacks_body = f.lacks_body; type_params = moved m f.type_params }

abbrev pub moved_arrow : Moves → ArrowHead → ArrowHead
moved_arrow m a =
    record { span = moved_range m a.span; ctxt = moved_scope m a.ctxt; is_generator = a.is_generator; type_params = moved m a.type_params }

abbrev pub moved_class : Moves → ClassHead → ClassHead
moved_class m c = record {
  span = moved_range m c.span;
  ctxt = moved_scope m c.ctxt;
  is_abstract = c.is_abstract;
  type_params = moved m c.type_params;
  super_type_params = moved m c.super_type_params;
  implements = moved m c.implements;
}

abbrev pub moved_property : Moves → PropertyHead → PropertyHead
moved_property m p = record {
  span = moved_range m p.span;
  key = moved m p.key;
  is_static = p.is_static;
  accessibility = moved m p.accessibility;
  is_abstract = p.is_abstract;
  is_optional = p.is_optional;
  is_override = p.is_override;
  readonly = p.readonly;
}

abbrev mutual
  pub moved_seen : Moves → Seen → Seen
  moved_seen m (written t) = written (moved m t)
  moved_seen m (round kind ss) = round kind (moved_seens m ss)
  moved_seen m (listed ss) = listed (moved_seens m ss)
  moved_seen m (declarator d value) = declarator (moved_declarator m d) (moved_seen m value)
  moved_seen m (default d value) = default (moved_default m d) (moved_seen m value)
  moved_seen m (function f type params) = function (moved_function m f) (moved_seen m type) (moved_seens m params)
  moved_seen m (typed_arrow a type params) = typed_arrow (moved_arrow m a) (moved_seen m type) (moved_seens m params)
  moved_seen m (valued_arrow a is_async place value params) =
      valued_arrow (moved_arrow m a) is_async (moved_range m place) (moved_seen m value) (moved_seens m params)
  moved_seen m (class c superclass members) = class (moved_class m c) (moved_seen m superclass) (moved_seens m members)
  moved_seen m (property p value) = property (moved_property m p) (moved_seen m value)
  moved_seen m (default_export span value) = default_export (moved_range m span) (moved_seen m value)
  moved_seen m (tested place value) = tested (option_map (moved_range m) place) (moved_seen m value)
  moved_seen m (faulty kind place) = faulty kind (moved_range m place)
  moved_seen m refused = refused

  pub moved_seens : Moves → Seens → Seens
  moved_seens m end = end
  moved_seens m (also s ss) = also (moved_seen m s) (moved_seens m ss)

pub seens_moved : (m : Moves) (ss : List Seen) → seens (map (moved_seen m) ss) ≡ moved_seens m (seens ss)
seens_moved m [] = refl
seens_moved m (s ∷ ss) = ap (also (moved_seen m s)) (seens_moved m ss)

-- ---- fields, each with the place where it reads, which the form tells

module _ (m : Moves) where
  pub field_moved : (field : Tree → Tree) (n : ℕ) → ((t : Tree) → field t ≡ part n t) → (t : Tree) → field (moved m t) ≡ moved m (field t)
  field_moved field n reads t = reads (moved m t) ∙ (part_moved m n t ∙ ap (moved m) (sym (reads t)))

  pub kind_moved_at : (field : Tree → Tree) (n : ℕ) → ((t : Tree) → field t ≡ part n t) → (t : Tree) →
      kind_of (field (moved m t)) ≡ kind_of (field t)
  kind_moved_at field n reads t = ap kind_of (field_moved field n reads t) ∙ kind_of_moved m (field t)

  pub items_moved_at : (field : Tree → Tree) (n : ℕ) → ((t : Tree) → field t ≡ part n t) → (t : Tree) →
      parts (field (moved m t)) ≡ map (moved m) (parts (field t))
  items_moved_at field n reads t = ap parts (field_moved field n reads t) ∙ parts_moved m (field t)

  pub range_field_moved : Keeps m → (field : Tree → SourceRange) (n : ℕ) → ((t : Tree) → field t ≡ range_of (part n t)) → (t : Tree) →
      field (moved m t) ≡ moved_range m (field t)
  range_field_moved ok field n reads t =
      reads (moved m t) ∙ (ap range_of (part_moved m n t) ∙ (range_of_moved m ok (part n t) ∙ ap (moved_range m) (sym (reads t))))

  pub scope_field_moved : Keeps m → (field : Tree → SyntaxContext) (n : ℕ) → ((t : Tree) → field t ≡ context_of (part n t)) → (t : Tree) →
      field (moved m t) ≡ moved_scope m (field t)
  scope_field_moved ok field n reads t =
      reads (moved m t) ∙ (ap context_of (part_moved m n t) ∙ (context_of_moved m ok (part n t) ∙ ap (moved_scope m) (sym (reads t))))

-- ---- choices

pub tree_chosen : (m : Moves) (b' b : Bool) (x x' y y' : Tree) → b' ≡ b → x ≡ moved m x' → y ≡ moved m y' →
    (if b' then x else y) ≡ moved m (if b then x' else y')
tree_chosen m b' true x x' y y' e p q = ap (λ b. if b then x else y) e ∙ p
tree_chosen m b' false x x' y y' e p q = ap (λ b. if b then x else y) e ∙ q
