-- What is seen of functions and arrows: their parameters and their return type. A body is seen where it shows the
-- return type, by the type that it names, by its return class or by its value.
use Rattle.std.specs.Prelude.{ℕ, suc, Bool, true, false, Option, Some, None, List, [], ◌∷◌, map, if◌then◌else◌}
use Rattle.fast_check_tree_syntax.specs.declared.kind.Kind.TheVariants.{Param, BlockStmt, RestPat}
use Rattle.fast_check_tree_syntax.specs.declared.source.SourceRange.{SourceRange}
use Rattle.fast_check_tree_syntax.specs.declared.source.SyntaxContext.{SyntaxContext}
use Rattle.fast_check_tree_syntax.specs.declared.tree.Tree.{Tree, Absent}
use Rattle.fast_check_tree_syntax.specs.Shape.{◌is◌, kind_of, parts, is_absent, list}
use Rattle.fast_check_tree_forms_classes.specs.Functions.{Function-span, Function-params, Function-ctxt, Function-body}
use Rattle.fast_check_tree_forms_classes.specs.Functions.{Function-is_generator, Function-is_async, Function-type_params}
use Rattle.fast_check_tree_forms_classes.specs.Functions.{Function-return_type, Param-span, Param-pat}
use Rattle.fast_check_tree_forms_expressions.specs.Expressions.{ArrowExpr-span, ArrowExpr-ctxt, ArrowExpr-params}
use Rattle.fast_check_tree_forms_expressions.specs.Expressions.{ArrowExpr-body, ArrowExpr-is_async, ArrowExpr-is_generator}
use Rattle.fast_check_tree_forms_expressions.specs.Expressions.{ArrowExpr-type_params, ArrowExpr-return_type}
use Rattle.fast_check_tree_helpers.specs.declared.literal_type.DeclMutabilityKind.TheVariants.{Mutable}
use Rattle.fast_check_tree_helpers.specs.declared.return_class.ReturnStatementAnalysis.{ReturnStatementAnalysis}
use Rattle.fast_check_tree_helpers.specs.declared.return_class.ReturnStatementAnalysis.TheVariants as class
use Rattle.fast_check_tree_helpers.specs.Builders.{type_ann, any_type_ann}
use Rattle.fast_check_tree_helpers.specs.InferredType.{inferred_type}
use Rattle.fast_check_tree_helpers.specs.NamedBodies.{named_return}
use Rattle.fast_check_tree_helpers.specs.ReturnClass.{return_class}
use Rattle.fast_check_meaning_signatures.specs.declared.fault.FaultKind.{FaultKind}
use Rattle.fast_check_meaning_signatures.specs.declared.fault.FaultKind.TheVariants.{MissingExplicitReturnType}
use Rattle.fast_check_meaning_signatures.specs.declared.function_kind.FunctionKind.{FunctionKind}
use Rattle.fast_check_meaning_signatures.specs.declared.function_kind.FunctionKind.TheVariants.{DeclarationLike, ExpressionLike}
use Rattle.fast_check_meaning_signatures.specs.declared.function_kind.FunctionKind.TheVariants.{Getter, Setter}
use Rattle.fast_check_meaning_signatures.specs.Bindings.{Bindings}
use Rattle.fast_check_meaning_signatures.specs.Seen.{FunctionHead, ArrowHead, Seen, written, range, round, function}
use Rattle.fast_check_meaning_signatures.specs.Seen.{typed_arrow, valued_arrow, faulty, seens}
use Rattle.fast_check_meaning_signatures.specs.NewNodes.{promised, void_or_promise_void, any_param}
use Rattle.fast_check_meaning_signatures.specs.Parameters.{Look, pats_seen}

abbrev pub return_type_missing : Bool → Bool → FaultKind
return_type_missing is_definitely_void_or_never is_async =
    MissingExplicitReturnType is_definitely_void_or_never is_async

-- the return type of a body that returns nothing
abbrev pub void_seen : Bool → Seen
void_seen is_async = written (type_ann (void_or_promise_void is_async))

-- the return type of a body of which no `return` has an argument; a getter has to give something
abbrev pub void_class_seen : FunctionKind → Bool → SourceRange → Seen
void_class_seen Getter is_async place = faulty (return_type_missing false is_async) place
void_class_seen _ is_async place = void_seen is_async

-- of one with no `return` at all: a declaration returns nothing, and an expression may also never return
abbrev pub no_return_seen : FunctionKind → Bool → SourceRange → Seen
no_return_seen DeclarationLike is_async place = void_seen is_async
no_return_seen ExpressionLike is_async place = faulty (return_type_missing true is_async) place
no_return_seen _ is_async place = faulty (return_type_missing false is_async) place

-- the return type that a body shows by its class: that of one that returns nothing
abbrev pub class_seen : FunctionKind → Bool → SourceRange → ReturnStatementAnalysis → Seen
class_seen kind is_async place class.Void = void_class_seen kind is_async place
class_seen kind is_async place class.None = no_return_seen kind is_async place
class_seen kind is_async place _ = faulty (return_type_missing false is_async) place

-- the return type that a body names, in a promise where the function is async, or else what is seen by its class
abbrev pub named_seen : SyntaxContext → Bool → Option Tree → Seen → Seen
named_seen unresolved is_async (Some type) classed = written (type_ann (promised unresolved is_async type))
named_seen unresolved is_async None classed = classed

-- the return type that the body of a function shows; that of a generator names none
abbrev pub body_seen : SyntaxContext → FunctionKind → Bool → Bool → SourceRange → Tree → Seen
body_seen unresolved kind is_async is_generator place body =
    named_seen unresolved is_async (named_return unresolved is_generator body)
    (class_seen kind is_async place (return_class body))

abbrev pub is_setter : FunctionKind → Bool
is_setter Setter = true
is_setter _ = false

-- the return type of a function where none is written: that its body shows; of a generator it must be written, and a
-- setter has none
abbrev pub shown_return_seen : SyntaxContext → FunctionKind → SourceRange → Tree → Seen
shown_return_seen unresolved kind place t =
    if is_setter kind then written Absent
    else (if Function-is_generator t then faulty (return_type_missing false (Function-is_async t)) place
    else (if is_absent (Function-body t) then written Absent
    else body_seen unresolved kind (Function-is_async t) (Function-is_generator t) place (Function-body t)))

-- the return type of a function: the written one, or that its body shows
abbrev pub return_type_seen : SyntaxContext → FunctionKind → SourceRange → Tree → Seen
return_type_seen unresolved kind place t =
    if is_absent (Function-return_type t) then shown_return_seen unresolved kind place t else written
    (Function-return_type t)

-- a function, but for its return type and its parameters
abbrev pub function_head : Tree → FunctionHead
function_head t =
    record {
      span = Function-span t;
      ctxt = Function-ctxt t;
      lacks_body = is_absent (Function-body t);
      type_params =
          Function-type_params t;
    }

abbrev pub signature_seen : Tree → Seen → List Seen → Seen
signature_seen t type params = function (function_head t) type (seens params)

-- the parameters of an implementation behind overloads: what they are is not seen, but how many they are and which is a
-- rest
abbrev pub any_params_from : ℕ → List Tree → List Seen
any_params_from place [] = []
any_params_from place (p ∷ ps) = written (any_param place (kind_of (Param-pat p) is RestPat)) ∷
    any_params_from (suc place) ps

-- an implementation behind overloads
abbrev pub implementation_seen : Tree → Seen
implementation_seen t = signature_seen t (written any_type_ann) (any_params_from 0 (parts (Function-params t)))

-- a parameter without its decorators
abbrev pub param_seen : Tree → Seen → Seen
param_seen p pat = round Param (seens (range (Param-span p) ∷ written (list []) ∷ pat ∷ []))

abbrev pub params_seen : List Tree → List Seen → List Seen
params_seen (p ∷ ps) (pat ∷ pats) = param_seen p pat ∷ params_seen ps pats
params_seen _ _ = []

-- an arrow, but for its return type, its parameters and its body
abbrev pub arrow_head : Tree → ArrowHead
arrow_head t =
    record {
      span = ArrowExpr-span t;
      ctxt = ArrowExpr-ctxt t;
      is_generator = ArrowExpr-is_generator t;
      type_params =
          ArrowExpr-type_params t;
    }

-- an arrow whose return type is known
abbrev pub typed_arrow_seen : Tree → List Seen → Seen → Seen
typed_arrow_seen t pats type = typed_arrow (arrow_head t) type (seens pats)

-- an arrow whose value gives the return type, if it may stay
abbrev pub valued_arrow_seen : Tree → SourceRange → List Seen → Seen → Seen
valued_arrow_seen t place pats value = valued_arrow (arrow_head t) (ArrowExpr-is_async t) place value (seens pats)

-- the place that is given, or else one's own
abbrev pub or_own : Option SourceRange → SourceRange → SourceRange
or_own (Some place) own = place
or_own None own = own

module _ (bindings : Bindings) (look : Look) where
  -- a function, with its kind and the place of a fault of its return type
  abbrev pub function_seen : FunctionKind → SourceRange → Tree → Seen
  function_seen kind place t =
      let params = parts (Function-params t) in
      signature_seen t (return_type_seen bindings.unresolved kind place t)
      (params_seen params (pats_seen bindings look (map (λ p. Param-pat p) params)))

  -- an arrow without a written return type, by the type that its value shows
  abbrev pub by_value : Tree → SourceRange → List Seen → Option Tree → Seen
  by_value t place pats (Some type) = typed_arrow_seen t pats
      (written (type_ann (promised bindings.unresolved (ArrowExpr-is_async t) type)))
  by_value t place pats None = valued_arrow_seen t place pats (look (ArrowExpr-body t) None)

  abbrev pub untyped_arrow_seen : Tree → SourceRange → List Seen → Seen
  untyped_arrow_seen t place pats =
      let body = ArrowExpr-body t in
      if kind_of body is BlockStmt then
      typed_arrow_seen t pats
      (body_seen bindings.unresolved ExpressionLike (ArrowExpr-is_async t) (ArrowExpr-is_generator t) place body)
      else by_value t place pats (inferred_type Mutable bindings.unresolved body)

  abbrev pub arrow_by_type : Tree → SourceRange → List Seen → Seen
  arrow_by_type t place pats =
      if is_absent (ArrowExpr-return_type t) then untyped_arrow_seen t place pats
      else typed_arrow_seen t pats (written (ArrowExpr-return_type t))

  -- an arrow
  abbrev pub arrow_seen : Option SourceRange → Tree → Seen
  arrow_seen place t = arrow_by_type t (or_own place (ArrowExpr-span t))
      (pats_seen bindings look (parts (ArrowExpr-params t)))
