-- Each parameter that stands without a fault is typed, where values that may stay give their types.
use Rattle.std.specs.Prelude.{◌≡◌, Bool, true, false, Option, Some, None, List, [], ◌∷◌, refl}
use Rattle.std.specs.List.{list_all}
use Rattle.std.proofs.Common.{ap, ◌∙◌, sym, subst}
use Rattle.fast_check_tree_syntax.specs.declared.kind.Kind.{Kind}
use Rattle.fast_check_tree_syntax.specs.declared.kind.Kind.TheVariants as kinds
use Rattle.fast_check_tree_syntax.specs.declared.source.SourceRange.{SourceRange}
use Rattle.fast_check_tree_syntax.specs.declared.tree.Tree.{Tree}
use Rattle.fast_check_tree_syntax.specs.Shape.{kind_of, is_absent, list, flag_of, range_of}
use Rattle.fast_check_tree_syntax.proofs.Made.{kind_of_node, part_node, is_absent_node, flag_of_flag, range_of_range}
use Rattle.fast_check_tree_forms_expressions.specs.Patterns.{ArrayPat-span, ArrayPat-optional, ArrayPat-type_ann, array_pat, ObjectPat-span}
use Rattle.fast_check_tree_forms_expressions.specs.Patterns.{ObjectPat-optional, ObjectPat-type_ann, object_pat, RestPat-span, RestPat-dot3_token}
use Rattle.fast_check_tree_forms_expressions.specs.Patterns.{RestPat-arg, RestPat-type_ann, rest_pat, AssignPat-span, AssignPat-left}
use Rattle.fast_check_tree_forms_expressions.specs.Patterns.{AssignPat-right, assign_pat}
use Rattle.fast_check_tree_forms_programs.specs.Names.{Ident-span, BindingIdent-id, BindingIdent-type_ann, binding_ident}
use Rattle.fast_check_tree_helpers.specs.Builders.{never_value}
use Rattle.fast_check_tree_helpers.specs.OptionalParams.{is_optional_param}
use Rattle.fast_check_meaning_signatures.specs.Bindings.{Bindings}
use Rattle.fast_check_meaning_signatures.specs.declared.fault.FaultKind.TheVariants.{MissingExplicitType}
use Rattle.fast_check_meaning_signatures.specs.Seen.{Seen}
use Rattle.fast_check_meaning_signatures.specs.NewNodes.{never_array, empty_object_pat, or_undefined}
use Rattle.fast_check_meaning_signatures.specs.Parameters.{Look, emptied_array, emptied_object, typed, arg_by_kind, rest_arg, rest_seen}
use Rattle.fast_check_meaning_signatures.specs.Parameters.{with_optional, without_default, default_seen, default_typing, ident_default_seen}
use Rattle.fast_check_meaning_signatures.specs.Parameters.{pattern_default_seen, assign_by_left, pat_by_kind, pat_seen, pats_seen}
use Rattle.fast_check_meaning_signatures.specs.Answers.{fault_at, answer_to, answer_of}
use Rattle.fast_check_meaning_signatures.proofs.Choices.{of_choice, of_typing, not_empty}
use Rattle.fast_check_meaning_skeleton.specs.TypedGrammar.{IsEmptiedArray, IsEmptiedObject, IsLeavable, IsTypedPat, AllTypedPats}
use Rattle.fast_check_meaning_skeleton.proofs.Staying.{Holds, Stays, items_hold, demanded_holds}

-- ---- emptied patterns

pub emptied_array_is : (pat : Tree) → IsEmptiedArray (emptied_array pat)
emptied_array_is pat = record { kind = kind_of_node _ _; elems = part_node _ _ _ }

pub emptied_object_is : (pat : Tree) → IsEmptiedObject (emptied_object pat)
emptied_object_is pat = record { kind = kind_of_node _ _; props = part_node _ _ _ }

emptied_array_twice : (pat : Tree) → emptied_array (emptied_array pat) ≡ emptied_array pat
emptied_array_twice pat =
    let again = emptied_array pat in
    let span : ArrayPat-span again ≡ ArrayPat-span pat = ap range_of (part_node _ _ _) ∙ range_of_range (ArrayPat-span pat) in
    let optional : ArrayPat-optional again ≡ ArrayPat-optional pat = ap flag_of (part_node _ _ _) ∙ flag_of_flag (ArrayPat-optional pat) in
    let type : ArrayPat-type_ann again ≡ ArrayPat-type_ann pat = part_node _ _ _ in
    λ i. array_pat (span i) (list []) (optional i) (type i)

emptied_object_twice : (pat : Tree) → emptied_object (emptied_object pat) ≡ emptied_object pat
emptied_object_twice pat =
    let again = emptied_object pat in
    let span : ObjectPat-span again ≡ ObjectPat-span pat = ap range_of (part_node _ _ _) ∙ range_of_range (ObjectPat-span pat) in
    let optional : ObjectPat-optional again ≡ ObjectPat-optional pat = ap flag_of (part_node _ _ _) ∙
    flag_of_flag (ObjectPat-optional pat) in
    let type : ObjectPat-type_ann again ≡ ObjectPat-type_ann pat = part_node _ _ _ in
    λ i. object_pat (span i) (list []) (optional i) (type i)

empty_twice : rest_arg empty_object_pat ≡ empty_object_pat
empty_twice = ap (λ k. arg_by_kind k empty_object_pat) (kind_of_node _ _)

-- what is emptied already stays as it is, by the kind of what was emptied
arg_twice : (kind : Kind) (arg : Tree) → kind_of arg ≡ kind → rest_arg (arg_by_kind kind arg) ≡ arg_by_kind kind arg
arg_twice kinds.ArrayPat arg e = ap (λ k. arg_by_kind k (emptied_array arg)) (kind_of_node _ _) ∙ emptied_array_twice arg
arg_twice kinds.ObjectPat arg e = ap (λ k. arg_by_kind k (emptied_object arg)) (kind_of_node _ _) ∙ emptied_object_twice arg
arg_twice kinds.RestPat arg e = empty_twice
arg_twice kinds.AssignPat arg e = empty_twice
arg_twice kinds.PatExpr arg e = empty_twice
arg_twice _ arg e = ap (λ k. arg_by_kind k arg) e

rest_arg_twice : (arg : Tree) → rest_arg (rest_arg arg) ≡ rest_arg arg
rest_arg_twice arg = arg_twice (kind_of arg) arg refl

-- an identifier is gathered in as it is
pub ident_gathered : (id type : Tree) → rest_arg (binding_ident id type) ≡ binding_ident id type
ident_gathered id type = ap (λ k. arg_by_kind k (binding_ident id type)) (kind_of_node _ _)

-- ---- what stays

-- a pattern of a written type
typed_stays : (P : Tree → Type 0) (type : Tree) (place : SourceRange) (pat : Tree) → (is_absent type ≡ false → P pat) →
    Stays P (answer_to (typed type place pat))
typed_stays P type place pat p = of_choice (λ s. Stays P (answer_to s)) (is_absent type) _ _ (λ e f. not_empty f) (λ e f. p e)

module _ (bindings : Bindings) where
  abbrev TypedPat : Tree → Type 0
  TypedPat = IsTypedPat bindings

  abbrev Leavable : Tree → Type 0
  Leavable = IsLeavable bindings

  abbrev StaysTyped : Seen → Type 0
  StaysTyped s = Stays TypedPat (answer_to s)

  -- of each lower expression holds that it gives its type, where it may stay
  abbrev pub LookStays : Look → Type 0
  LookStays look = (t : Tree) (place : Option SourceRange) → Stays Leavable (answer_to (look t place))

  -- an identifier of a type
  pub typed_ident : (id type : Tree) → is_absent type ≡ false → TypedPat (binding_ident id type)
  typed_ident id type e = let same : BindingIdent-type_ann (binding_ident id type) ≡ type = part_node _ _ _ in
      IsTypedPat.ident (kind_of_node _ _) (ap is_absent same ∙ e)

  typed_array : (pat : Tree) → is_absent (ArrayPat-type_ann pat) ≡ false → TypedPat (emptied_array pat)
  typed_array pat e = let same : ArrayPat-type_ann (emptied_array pat) ≡ ArrayPat-type_ann pat = part_node _ _ _ in
      IsTypedPat.array (emptied_array_is pat) (ap is_absent same ∙ e)

  typed_object : (pat : Tree) → is_absent (ObjectPat-type_ann pat) ≡ false → TypedPat (emptied_object pat)
  typed_object pat e = let same : ObjectPat-type_ann (emptied_object pat) ≡ ObjectPat-type_ann pat = part_node _ _ _ in
      IsTypedPat.object (emptied_object_is pat) (ap is_absent same ∙ e)

  -- a rest of a type
  pub typed_rest : (span dots : SourceRange) (arg type : Tree) → rest_arg arg ≡ arg → is_absent type ≡ false →
      TypedPat (rest_pat span dots arg type)
  typed_rest span dots arg type twice e =
      let made = rest_pat span dots arg type in
      let same : RestPat-arg made ≡ arg = part_node _ _ _ in
      let same_type : RestPat-type_ann made ≡ type = part_node _ _ _ in
      IsTypedPat.rest (kind_of_node _ _) (same ∙ (sym twice ∙ ap rest_arg (sym same))) (ap is_absent same_type ∙ e)

  typed_without_default : (b : Bool) (id type : Tree) → is_absent type ≡ false → TypedPat (without_default b id type)
  typed_without_default true id type e = typed_ident (with_optional true id) type e
  typed_without_default false id type e = typed_ident (with_optional false id) (or_undefined type) (is_absent_node _ _)

  -- ---- defaults

  -- a pattern emptied behind a written type, with `never` for its default
  never_array_typed : (span : SourceRange) (left : Tree) → is_absent (ArrayPat-type_ann left) ≡ false →
      TypedPat (assign_pat span (emptied_array left) never_array)
  never_array_typed span left e =
      let made = assign_pat span (emptied_array left) never_array in
      let same : AssignPat-left made ≡ emptied_array left = part_node _ _ _ in
      let type : ArrayPat-type_ann (emptied_array left) ≡ ArrayPat-type_ann left = part_node _ _ _ in
      IsTypedPat.array_never (kind_of_node _ _) (subst IsEmptiedArray (sym same) (emptied_array_is left))
      (ap (λ l. is_absent (ArrayPat-type_ann l)) same ∙ (ap is_absent type ∙ e)) (part_node _ _ _)

  never_object_typed : (span : SourceRange) (left : Tree) → is_absent (ObjectPat-type_ann left) ≡ false →
      TypedPat (assign_pat span (emptied_object left) never_value)
  never_object_typed span left e =
      let made = assign_pat span (emptied_object left) never_value in
      let same : AssignPat-left made ≡ emptied_object left = part_node _ _ _ in
      let type : ObjectPat-type_ann (emptied_object left) ≡ ObjectPat-type_ann left = part_node _ _ _ in
      IsTypedPat.object_never (kind_of_node _ _) (subst IsEmptiedObject (sym same) (emptied_object_is left))
      (ap (λ l. is_absent (ObjectPat-type_ann l)) same ∙ (ap is_absent type ∙ e)) (part_node _ _ _)

  -- what has a default that gives its type
  abbrev GivesType : Tree → Type 0
  GivesType left = (span : SourceRange) (right : Tree) → Leavable right → TypedPat (assign_pat span left right)

  ident_gives : (left : Tree) → kind_of left ≡ kinds.BindingIdent → GivesType left
  ident_gives left e span right h =
      let made = assign_pat span left right in
      let same : AssignPat-left made ≡ left = part_node _ _ _ in
      let value : AssignPat-right made ≡ right = part_node _ _ _ in
      IsTypedPat.ident_default (kind_of_node _ _) (ap kind_of same ∙ e) (subst Leavable (sym value) h)

  array_gives : (left : Tree) → IsEmptiedArray left → GivesType left
  array_gives left e span right h =
      let made = assign_pat span left right in
      let same : AssignPat-left made ≡ left = part_node _ _ _ in
      let value : AssignPat-right made ≡ right = part_node _ _ _ in
      IsTypedPat.array_default (kind_of_node _ _) (subst IsEmptiedArray (sym same) e) (subst Leavable (sym value) h)

  object_gives : (left : Tree) → IsEmptiedObject left → GivesType left
  object_gives left e span right h =
      let made = assign_pat span left right in
      let same : AssignPat-left made ≡ left = part_node _ _ _ in
      let value : AssignPat-right made ≡ right = part_node _ _ _ in
      IsTypedPat.object_default (kind_of_node _ _) (subst IsEmptiedObject (sym same) e) (subst Leavable (sym value) h)

  default_stays : (span place : SourceRange) (left : Tree) (value : Seen) → GivesType left → Stays Leavable (answer_to value) →
      StaysTyped (default_seen span place left value)
  default_stays span place left value gives stays f = gives span _
      (demanded_holds Leavable (fault_at MissingExplicitType place) (answer_to value) stays f)

module _ (bindings : Bindings) (look : Look) (stays : LookStays bindings look) where
  abbrev Typed : Seen → Type 0
  Typed s = StaysTyped bindings s

  ident_default_stays : (b : Bool) (pat : Tree) → kind_of (AssignPat-left pat) ≡ kinds.BindingIdent →
      Typed (ident_default_seen bindings look b pat)
  ident_default_stays b pat kind =
      let left = AssignPat-left pat in
      let place = Ident-span (BindingIdent-id left) in
      of_typing Typed bindings.unresolved (default_typing pat) _ _
      (λ type e f. typed_without_default bindings b (BindingIdent-id left) type e)
      (default_stays bindings (AssignPat-span pat) place left (look (AssignPat-right pat) (Some place))
      (ident_gives bindings left kind) (stays (AssignPat-right pat) (Some place)))

  pattern_default_stays : (type : Tree) (place : SourceRange) (emptied never pat : Tree) → GivesType bindings emptied →
      (is_absent type ≡ false → IsTypedPat bindings (assign_pat (AssignPat-span pat) emptied never)) →
      Typed (pattern_default_seen bindings look type place emptied never pat)
  pattern_default_stays type place emptied never pat gives stands =
      of_choice Typed (is_absent type) _ _
      (λ e. default_stays bindings (AssignPat-span pat) place emptied (look (AssignPat-right pat) None) gives
      (stays (AssignPat-right pat) None))
      (λ e f. stands e)

  assign_stays : (kind : Kind) (b : Bool) (pat : Tree) → kind_of (AssignPat-left pat) ≡ kind →
      Typed (assign_by_left bindings look kind b pat)
  assign_stays kinds.BindingIdent b pat e = ident_default_stays b pat e
  assign_stays kinds.ArrayPat b pat e = let left = AssignPat-left pat in
      pattern_default_stays (ArrayPat-type_ann left) (ArrayPat-span left) (emptied_array left) never_array pat
      (array_gives bindings (emptied_array left) (emptied_array_is left)) (never_array_typed bindings (AssignPat-span pat) left)
  assign_stays kinds.ObjectPat b pat e = let left = AssignPat-left pat in
      pattern_default_stays (ObjectPat-type_ann left) (ObjectPat-span left) (emptied_object left) never_value pat
      (object_gives bindings (emptied_object left) (emptied_object_is left)) (never_object_typed bindings (AssignPat-span pat) left)
  assign_stays _ b pat e = λ f. not_empty f

  rest_stays : (pat : Tree) → Typed (rest_seen pat)
  rest_stays pat = typed_stays (IsTypedPat bindings) (RestPat-type_ann pat) (RestPat-span pat) _
      (typed_rest bindings (RestPat-span pat) (RestPat-dot3_token pat) (rest_arg (RestPat-arg pat)) (RestPat-type_ann pat)
      (rest_arg_twice (RestPat-arg pat)))

  -- a parameter, by its kind
  by_kind_stays : (kind : Kind) (b : Bool) (pat : Tree) → kind_of pat ≡ kind → Typed (pat_by_kind bindings look kind b pat)
  by_kind_stays kinds.BindingIdent b pat e =
      typed_stays (IsTypedPat bindings) (BindingIdent-type_ann pat) (Ident-span (BindingIdent-id pat)) pat (IsTypedPat.ident e)
  by_kind_stays kinds.AssignPat b pat e = assign_stays (kind_of (AssignPat-left pat)) b pat refl
  by_kind_stays kinds.RestPat b pat e = rest_stays pat
  by_kind_stays kinds.ArrayPat b pat e =
      typed_stays (IsTypedPat bindings) (ArrayPat-type_ann pat) (ArrayPat-span pat) (emptied_array pat) (typed_array bindings pat)
  by_kind_stays kinds.ObjectPat b pat e =
      typed_stays (IsTypedPat bindings) (ObjectPat-type_ann pat) (ObjectPat-span pat) (emptied_object pat) (typed_object bindings pat)
  by_kind_stays _ b pat e = λ f. not_empty f

  pub pat_stays : (b : Bool) (pat : Tree) → Typed (pat_seen bindings look b pat)
  pat_stays b pat = by_kind_stays (kind_of pat) b pat refl

  -- parameters, in order
  pub pats_hold : (pats : List Tree) → Holds (AllTypedPats bindings) (answer_of (pats_seen bindings look pats))
  pats_hold [] = λ f. AllTypedPats.no_pats
  pats_hold (pat ∷ pats) =
      items_hold (IsTypedPat bindings) (AllTypedPats bindings) (λ t ts. AllTypedPats.next_pat)
      (answer_to (pat_seen bindings look (list_all is_optional_param (pat ∷ pats)) pat)) (answer_of (pats_seen bindings look pats))
      (pat_stays (list_all is_optional_param (pat ∷ pats)) pat) (pats_hold pats)
