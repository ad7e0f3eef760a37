-- What is seen of an expression that gives a type by itself, if it may stay in a skeleton.
use Rattle.std.specs.Prelude.{ℕ, suc, Bool, true, false, not, ◌&&◌, ◌||◌, Option, None, List, [], ◌∷◌, map, is_some}
use Rattle.std.specs.Prelude.{if◌then◌else◌}
use Rattle.std.specs.List.{list_any}
use Rattle.fast_check_tree_syntax.specs.declared.kind.Kind.{Kind}
use Rattle.fast_check_tree_syntax.specs.declared.kind.Kind.TheVariants as kinds
use Rattle.fast_check_tree_syntax.specs.declared.source.SourceRange.{SourceRange}
use Rattle.fast_check_tree_syntax.specs.declared.tree.Tree.{Tree}
use Rattle.fast_check_tree_syntax.specs.Shape.{◌is◌, kind_of, part, parts, is_absent, range_of, context_of}
use Rattle.fast_check_tree_syntax.specs.Descent.{by_descent}
use Rattle.fast_check_tree_forms_classes.specs.Functions.{Function-span}
use Rattle.fast_check_tree_forms_expressions.specs.Calls.{CallExpr-callee, CallExpr-args, NewExpr-callee, NewExpr-type_args}
use Rattle.fast_check_tree_helpers.specs.GlobalCalls.{object_freeze_call_arg}
use Rattle.fast_check_meaning_signatures.specs.Rows.{satisfies_row, assertion_row, fn_expr_row, arguments_row}
use Rattle.fast_check_meaning_signatures.specs.declared.rules.Slot.{Slot}
use Rattle.fast_check_meaning_signatures.specs.declared.rules.Slot.TheVariants as slots
use Rattle.fast_check_meaning_signatures.specs.declared.function_kind.FunctionKind.TheVariants.{ExpressionLike}
use Rattle.fast_check_meaning_signatures.specs.Bindings.{Bindings, id_of}
use Rattle.fast_check_meaning_signatures.specs.Seen.{Seen, written, range, scope, round, refused, seens}
use Rattle.fast_check_meaning_signatures.specs.NewNodes.{never_in_parens}
use Rattle.fast_check_meaning_signatures.specs.Parameters.{Look}
use Rattle.fast_check_meaning_signatures.specs.Functions.{or_own, function_seen, arrow_seen}

abbrev pub is_among : List Kind → Kind → Bool
is_among kinds kind = list_any (λ other. other is kind) kinds

-- an expression that stays as it is, or a name or a text inside of one
abbrev pub is_plain : Kind → Bool
is_plain kinds.Leaf = true
is_plain kinds.ThisExpr = true
is_plain kinds.Ident = true
is_plain kinds.IdentName = true
is_plain kinds.Str = true
is_plain kinds.Bool = true
is_plain kinds.Null = true
is_plain kinds.Number = true
is_plain kinds.BigInt = true
is_plain kinds.Regex = true
is_plain kinds.TplElement = true
is_plain _ = false

-- one that stays if its parts do
abbrev pub is_compound : Kind → Bool
is_compound kinds.List = true
is_compound kinds.ArrayLit = true
is_compound kinds.ExprOrSpread = true
is_compound kinds.ObjectLit = true
is_compound kinds.SpreadElement = true
is_compound kinds.KeyValueProp = true
is_compound kinds.AssignProp = true
is_compound kinds.ComputedPropName = true
is_compound kinds.UnaryExpr = true
is_compound kinds.UpdateExpr = true
is_compound kinds.AwaitExpr = true
is_compound kinds.ParenExpr = true
is_compound kinds.TsNonNullExpr = true
is_compound kinds.TsConstAssertion = true
is_compound kinds.BinExpr = true
is_compound kinds.CondExpr = true
is_compound kinds.MemberExpr = true
is_compound kinds.Tpl = true
is_compound _ = false

-- other expressions that may stay
abbrev pub other_kinds : List Kind
other_kinds = kinds.TsSatisfiesExpr ∷ kinds.TsAsExpr ∷ kinds.TsTypeAssertion ∷ kinds.FnExpr ∷ kinds.ArrowExpr ∷ []

-- whether an expression is `Object.freeze(x)`, which has the type of its argument
abbrev pub freezes : Bindings → Tree → Bool
freezes bindings t = is_some (object_freeze_call_arg bindings.unresolved (CallExpr-callee t) (CallExpr-args t))

abbrev pub is_frozen : Bindings → Tree → Bool
is_frozen bindings t = (kind_of t is kinds.CallExpr) && freezes bindings t

-- whether an expression is `new C(..)` of a class C without type parameters, which has the type of that class
abbrev pub makes_plain : Bindings → Tree → Bool
makes_plain bindings t =
    (kind_of (NewExpr-callee t) is kinds.Ident) &&
    (is_absent (NewExpr-type_args t) && bindings.is_plain_class (id_of (NewExpr-callee t)))

abbrev pub is_made : Bindings → Tree → Bool
is_made bindings t = (kind_of t is kinds.NewExpr) && makes_plain bindings t

-- whether an expression is one of these, by its kind
abbrev pub known_by_kind : Kind → Bindings → Tree → Bool
known_by_kind kinds.CallExpr bindings t = freezes bindings t
known_by_kind kinds.NewExpr bindings t = makes_plain bindings t
known_by_kind _ bindings t = false

abbrev pub is_known : Bindings → Tree → Bool
is_known bindings t = known_by_kind (kind_of t) bindings t

-- whether an expression may not stay, whatever its parts are
abbrev pub is_refused : Bindings → Tree → Bool
is_refused bindings t =
    let kind = kind_of t in
    not (is_plain kind || (is_compound kind || (is_among other_kinds kind || is_known bindings t)))

-- how an expression stays: as it is, if all its parts do, slot by slot, as an arrow, or not
pub data Rule : Type 0 where
  whole : Rule
  parted : Rule
  slotted : List Slot → Rule
  arrow : Rule
  not_at_all : Rule

-- by its kind, and for a call and for `new` by whether it is one that is known
abbrev pub other_rule : Kind → Bool → Rule
other_rule kinds.TsSatisfiesExpr known = slotted satisfies_row
other_rule kinds.TsAsExpr known = slotted assertion_row
other_rule kinds.TsTypeAssertion known = slotted assertion_row
other_rule kinds.CallExpr true = slotted arguments_row
other_rule kinds.NewExpr true = slotted arguments_row
other_rule kinds.FnExpr known = slotted fn_expr_row
other_rule kinds.ArrowExpr known = arrow
other_rule _ known = not_at_all

abbrev pub rule : Kind → Bool → Rule
rule kind known = if is_compound kind then parted else (if is_plain kind then whole else other_rule kind known)

abbrev pub expr_rule : Bindings → Tree → Rule
expr_rule bindings t = rule (kind_of t) (is_known bindings t)

module _ (bindings : Bindings) where
  -- what is seen of a part, where `look` is what is seen of the lower trees, and a parent that names the expression
  -- gives the place
  abbrev pub slot_seen : Slot → Tree → Look → Option SourceRange → Seen
  slot_seen slots.Span p look place = range (range_of p)
  slot_seen slots.Scope p look place = scope (context_of p)
  slot_seen slots.Written p look place = written p
  slot_seen slots.Never p look place = written never_in_parens
  slot_seen slots.Value p look place = look p None
  slot_seen slots.Function p look place = function_seen bindings look ExpressionLike (or_own place (Function-span p)) p

  -- of the parts from the nth on
  abbrev pub slots_seen : List Slot → ℕ → Tree → Look → Option SourceRange → List Seen
  slots_seen [] n t look place = []
  slots_seen (s ∷ ss) n t look place = slot_seen s (part n t) look place ∷ slots_seen ss (suc n) t look place

  abbrev pub by_rule : Rule → Kind → Tree → Look → Option SourceRange → Seen
  by_rule whole kind t look place = written t
  by_rule parted kind t look place = round kind (seens (map (λ p. look p None) (parts t)))
  by_rule (slotted slots) kind t look place = round kind (seens (slots_seen slots 0 t look place))
  by_rule arrow kind t look place = arrow_seen bindings look place t
  by_rule not_at_all kind t look place = refused

  abbrev pub expr_form : Tree → Look → Option SourceRange → Seen
  expr_form t = by_rule (expr_rule bindings t) (kind_of t) t

  unfoldable pub expr_seen : Look
  expr_seen = by_descent (λ place. refused) expr_form
