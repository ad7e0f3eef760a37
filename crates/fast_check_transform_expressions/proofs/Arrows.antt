-- What is added by a body that shows its return type, and by an arrow: its return type where it is known, or else its value, and its
-- parameters.
use Rattle.std.specs.Prelude.{◌≡◌, Bool, true, false, Option, Some, None, List, ◌++◌, option_map, unwrap_or, refl, if◌then◌else◌}
use Rattle.std.proofs.Common.{ap, ◌∙◌, sym, subst, append-nil}
use Rattle.fast_check_tree_syntax.specs.declared.kind.Kind.TheVariants as kinds
use Rattle.fast_check_tree_syntax.specs.declared.source.SourceRange.{SourceRange}
use Rattle.fast_check_tree_syntax.specs.declared.source.SyntaxContext.{SyntaxContext}
use Rattle.fast_check_tree_syntax.specs.declared.tree.Tree.{Tree, Absent}
use Rattle.fast_check_tree_syntax.specs.Shape.{◌is◌, kind_of, parts, is_absent}
use Rattle.fast_check_tree_forms_expressions.specs.Expressions.{ArrowExpr-span, ArrowExpr-params, ArrowExpr-body, ArrowExpr-is_async}
use Rattle.fast_check_tree_forms_expressions.specs.Expressions.{ArrowExpr-is_generator, ArrowExpr-return_type}
use Rattle.fast_check_tree_helpers.specs.declared.literal_type.DeclMutabilityKind.TheVariants.{Mutable}
use Rattle.fast_check_tree_helpers.specs.Builders.{type_ann}
use Rattle.fast_check_tree_helpers.specs.InferredType.{inferred_type}
use Rattle.fast_check_tree_helpers.specs.NamedBodies.{named_return}
use Rattle.fast_check_tree_helpers.specs.ReturnClass.{return_class}
use Rattle.fast_check_meaning_signatures.specs.declared.fault.Fault.{Fault}
use Rattle.fast_check_meaning_signatures.specs.declared.function_kind.FunctionKind.{FunctionKind}
use Rattle.fast_check_meaning_signatures.specs.declared.function_kind.FunctionKind.TheVariants.{ExpressionLike}
use Rattle.fast_check_meaning_signatures.specs.Bindings.{Bindings}
use Rattle.fast_check_meaning_signatures.specs.Seen.{Seen, written}
use Rattle.fast_check_meaning_signatures.specs.NewNodes.{promised}
use Rattle.fast_check_meaning_signatures.specs.Parameters.{pats_seen}
use Rattle.fast_check_meaning_signatures.specs.Functions.{return_type_missing, class_seen, named_seen, body_seen, or_own, arrow_head}
use Rattle.fast_check_meaning_signatures.specs.Functions.{typed_arrow_seen, valued_arrow_seen, by_value, arrow_seen}
use Rattle.fast_check_meaning_signatures.specs.Expressions.{expr_seen}
use Rattle.fast_check_meaning_signatures.specs.Answers.{Adds, fault_at, answer_to, answer_of, demanded, faultless, settled, signed_arrow}
use Rattle.fast_check_meaning_signatures.specs.Answers.{kept_arrow}
use Rattle.fast_check_meaning_signatures.proofs.Adding.{adds_same, adds_joined, adds_made, adds_nothing, adds_settled}
use Rattle.fast_check_transform_expressions.specs.Looked.{known_type, known_answer}

-- ---- the return type that a body shows

module _ (unresolved : SyntaxContext) (kind : FunctionKind) (is_async is_generator : Bool) (place : SourceRange) (body : Tree) where
  abbrev by_name : Option Tree → Seen
  by_name found = named_seen unresolved is_async found (class_seen kind is_async place (return_class body))

  pub body_named : {type ty : Tree} {old : List Fault} → named_return unresolved is_generator body ≡ Some ty →
      type ≡ type_ann (promised unresolved is_async ty) →
      Adds (answer_to (body_seen unresolved kind is_async is_generator place body)) (Some type) old old
  body_named {type = type} {old = old} e w =
      adds_same (ap (λ found. answer_to (by_name found)) e ∙ ap (λ ty. faultless (Some ty)) (sym w)) (adds_nothing (Some type) old)

  pub body_classed : {type : Tree} {old new : List Fault} → named_return unresolved is_generator body ≡ None →
      Adds (answer_to (class_seen kind is_async place (return_class body))) (Some type) old new →
      Adds (answer_to (body_seen unresolved kind is_async is_generator place body)) (Some type) old new
  body_classed e h = adds_same (ap (λ found. answer_to (by_name found)) e) h

-- ---- an arrow

-- the place that a parent gives, or else one's own
pub own_place : (place : Option SourceRange) {given own : SourceRange} → given ≡ own → unwrap_or place given ≡ or_own place own
own_place (Some place) e = refl
own_place None e = e

module _ (bindings : Bindings) (own : Option SourceRange) (t : Tree) where
  abbrev at : SourceRange
  at = or_own own (ArrowExpr-span t)

  abbrev pats : List Seen
  pats = pats_seen bindings (expr_seen bindings) (parts (ArrowExpr-params t))

  abbrev by_block : Seen
  by_block = body_seen bindings.unresolved ExpressionLike (ArrowExpr-is_async t) (ArrowExpr-is_generator t) at (ArrowExpr-body t)

  abbrev by_known : Option Seen → Seen
  by_known (Some type) = typed_arrow_seen t pats type
  by_known None = valued_arrow_seen t at pats (expr_seen bindings (ArrowExpr-body t) None)

  abbrev seen_arrow : Seen
  seen_arrow = arrow_seen bindings (expr_seen bindings) own t

  arrow_is : seen_arrow ≡ by_known (known_type bindings.unresolved at t)
  arrow_is = go (is_absent (ArrowExpr-return_type t)) (kind_of (ArrowExpr-body t) is kinds.BlockStmt)
      (inferred_type Mutable bindings.unresolved (ArrowExpr-body t))
    where
      go : (absent block : Bool) (shown : Option Tree) →
          (if absent then (if block then typed_arrow_seen t pats by_block else by_value bindings (expr_seen bindings) t at pats shown)
          else typed_arrow_seen t pats (written (ArrowExpr-return_type t))) ≡
          by_known (if absent then (if block then Some by_block else option_map
          (λ ty. written (type_ann (promised bindings.unresolved (ArrowExpr-is_async t) ty)))
          shown)
          else Some (written (ArrowExpr-return_type t)))
      go true true shown = refl
      go true false (Some ty) = refl
      go true false None = refl
      go false block shown = refl

  abbrev missing : Fault
  missing = fault_at (return_type_missing false (ArrowExpr-is_async t)) at

  module _ {old mid : List Fault} where
    pub arrow_known : {type : Tree} {items : List Tree} {new : List Fault} →
        Adds (known_answer (known_type bindings.unresolved at t)) (Some type) old mid →
        Adds (answer_of pats) items mid new →
        Adds (answer_to seen_arrow) (Some (signed_arrow (arrow_head t) type items)) old new
    arrow_known {type = type} {items = items} {new = new} g h = adds_same (ap answer_to arrow_is)
        (go (known_type bindings.unresolved at t) g)
      where
        go : (known : Option Seen) → Adds (known_answer known) (Some type) old mid →
            Adds (answer_to (by_known known)) (Some (signed_arrow (arrow_head t) type items)) old new
        go None g = let e : None ≡ Some type = ap (λ a. a.stays) g.is in cc
        go (Some s) g = adds_joined (λ type ps. Some (signed_arrow (arrow_head t) type ps)) (type_known s g) h
          where
            type_known : (s : Seen) → Adds (known_answer (Some s)) (Some type) old mid → Adds (settled (answer_to s)) type old mid
            type_known s g =
                record {
                  added = g.added;
                  is = ap (λ a. record { stays = unwrap_or a.stays Absent; faults = a.faults }) g.is;
                  faults =
                      g.faults;
                }

    pub arrow_valued : {value : Tree} {items : List Tree} {more new : List Fault} →
        Adds (known_answer (known_type bindings.unresolved at t)) None old mid →
        Adds (demanded missing (answer_to (expr_seen bindings (ArrowExpr-body t) None))) value mid more →
        Adds (answer_of pats) items more new →
        Adds (answer_to seen_arrow) (Some (kept_arrow (arrow_head t) (ArrowExpr-is_async t) value items)) old new
    arrow_valued {value = value} {items = items} {new = new} g v h =
        adds_same (ap answer_to arrow_is) (go (known_type bindings.unresolved at t) g)
      where
        go : (known : Option Seen) → Adds (known_answer known) None old mid →
            Adds (answer_to (by_known known)) (Some (kept_arrow (arrow_head t) (ArrowExpr-is_async t) value items)) old new
        go (Some s) g = let e : Some (unwrap_or (answer_to s).stays Absent) ≡ None = ap (λ a. a.stays) g.is in cc
        go None g =
            subst (λ fs. Adds (answer_to (by_known None)) (Some (kept_arrow (arrow_head t) (ArrowExpr-is_async t) value items)) fs new)
            (g.faults ∙ (ap (λ a. old ++ a.faults) (sym g.is) ∙ append-nil old))
            (adds_joined (λ v ps. Some (kept_arrow (arrow_head t) (ArrowExpr-is_async t) v ps)) v h)

-- ---- the return type of an arrow, by what the code asks of it

module _ (unresolved : SyntaxContext) (place : SourceRange) (t : Tree) where
  abbrev known : Option Seen
  known = known_type unresolved place t

  abbrev shown : Option Tree → Option Seen
  shown type = option_map (λ ty. written (type_ann (promised unresolved (ArrowExpr-is_async t) ty))) type

  abbrev of_block : Seen
  of_block = body_seen unresolved ExpressionLike (ArrowExpr-is_async t) (ArrowExpr-is_generator t) place (ArrowExpr-body t)

  abbrev unwritten : Bool → Option Tree → Option Seen
  unwritten block type = if block then Some of_block else shown type

  abbrev inferred : Option Tree
  inferred = inferred_type Mutable unresolved (ArrowExpr-body t)

  by_absence : {absent : Bool} → is_absent (ArrowExpr-return_type t) ≡ absent →
      known ≡ (if absent then unwritten (kind_of (ArrowExpr-body t) is kinds.BlockStmt) inferred else Some
      (written (ArrowExpr-return_type t)))
  by_absence e =
      ap (λ b. if b then unwritten (kind_of (ArrowExpr-body t) is kinds.BlockStmt) inferred else Some (written (ArrowExpr-return_type t))) e

  by_body : {block : Bool} → is_absent (ArrowExpr-return_type t) ≡ true → kind_of (ArrowExpr-body t) is kinds.BlockStmt ≡ block →
      known ≡ unwritten block inferred
  by_body e b = by_absence e ∙ ap (λ block. unwritten block inferred) b

  module _ {old : List Fault} where
    pub type_written : {type : Tree} → is_absent (ArrowExpr-return_type t) ≡ false → type ≡ ArrowExpr-return_type t →
        Adds (known_answer known) (Some type) old old
    type_written {type = type} e w = adds_same (ap known_answer (by_absence e) ∙ ap (λ ty. faultless (Some ty)) (sym w))
        (adds_nothing (Some type) old)

    pub type_of_block : {type : Tree} {new : List Fault} → is_absent (ArrowExpr-return_type t) ≡ true →
        kind_of (ArrowExpr-body t) is kinds.BlockStmt ≡ true → Adds (answer_to of_block) (Some type) old new →
        Adds (known_answer known) (Some type) old new
    type_of_block e b h = adds_same (ap known_answer (by_body e b)) (adds_made Some (adds_settled h))

    pub type_shown : {type : Tree} (ty : Tree) → is_absent (ArrowExpr-return_type t) ≡ true →
        kind_of (ArrowExpr-body t) is kinds.BlockStmt ≡ false →
        inferred ≡ Some ty → type ≡ type_ann (promised unresolved (ArrowExpr-is_async t) ty) → Adds (known_answer known) (Some type) old old
    type_shown {type = type} ty e b i w =
        adds_same (ap known_answer (by_body e b ∙ ap shown i) ∙ ap (λ ty. faultless (Some ty)) (sym w)) (adds_nothing (Some type) old)

    pub type_unknown : is_absent (ArrowExpr-return_type t) ≡ true → kind_of (ArrowExpr-body t) is kinds.BlockStmt ≡ false →
        inferred ≡ None →
        Adds (known_answer known) None old old
    type_unknown e b i = adds_same (ap known_answer (by_body e b ∙ ap shown i)) (adds_nothing None old)
