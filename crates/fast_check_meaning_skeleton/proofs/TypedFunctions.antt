-- Each function that stands without a fault is typed, where values that may stay give the types of its parameters.
use Rattle.std.specs.Prelude.{◌≡◌, ℕ, suc, Bool, true, false, ◌⊎◌, Option, Some, None, List, [], ◌∷◌, map, refl, if◌then◌else◌}
use Rattle.std.specs.List.{list_all}
use Rattle.std.proofs.Common.{ap, ◌∙◌, sym, subst, inl, inr}
use Rattle.std.proofs.lemmas.Bool.{false≢true}
use Rattle.fast_check_tree_syntax.specs.declared.kind.Kind.TheVariants.{Param, RestPat}
use Rattle.fast_check_tree_syntax.specs.declared.source.SourceRange.{SourceRange}
use Rattle.fast_check_tree_syntax.specs.declared.source.SyntaxContext.{SyntaxContext}
use Rattle.fast_check_tree_syntax.specs.declared.tree.Tree as tree
use Rattle.fast_check_tree_syntax.specs.declared.tree.Tree.{Tree, Absent, roll-Tree, out-roll-Tree}
use Rattle.fast_check_tree_syntax.specs.declared.tree.Tree.TheOpen.{Tree-F}
use Rattle.fast_check_tree_syntax.specs.Shape.{◌is◌, kind_of, parts, flag_of, is_absent, is_absent_at, none_range, node, list}
use Rattle.fast_check_tree_syntax.proofs.Made.{kind_of_node, parts_node, part_node, is_absent_node, flag_of_flag}
use Rattle.fast_check_tree_forms_classes.specs.Functions.{Function-params, Function-body, Function-decorators, Function-is_generator}
use Rattle.fast_check_tree_forms_classes.specs.Functions.{Function-is_async, Function-return_type, Param-span, Param-decorators, Param-pat}
use Rattle.fast_check_tree_forms_classes.specs.Functions.{param}
use Rattle.fast_check_tree_forms_programs.specs.Names.{binding_ident}
use Rattle.fast_check_tree_helpers.specs.declared.return_class.ReturnStatementAnalysis.{ReturnStatementAnalysis}
use Rattle.fast_check_tree_helpers.specs.declared.return_class.ReturnStatementAnalysis.TheVariants as class
use Rattle.fast_check_tree_helpers.specs.Builders.{any_type_ann}
use Rattle.fast_check_tree_helpers.specs.OptionalParams.{is_optional_param}
use Rattle.fast_check_tree_helpers.specs.NamedBodies.{named_return}
use Rattle.fast_check_tree_helpers.specs.ReturnClass.{return_class}
use Rattle.fast_check_meaning_signatures.specs.Bindings.{Bindings}
use Rattle.fast_check_meaning_signatures.specs.declared.function_kind.FunctionKind.{FunctionKind}
use Rattle.fast_check_meaning_signatures.specs.declared.function_kind.FunctionKind.TheVariants.{DeclarationLike, Getter, Setter}
use Rattle.fast_check_meaning_signatures.specs.Seen.{FunctionHead, Seen, written, seens}
use Rattle.fast_check_meaning_signatures.specs.NewNodes.{function_body, param_ident, any_param}
use Rattle.fast_check_meaning_signatures.specs.Parameters.{Look, pat_seen, pats_seen}
use Rattle.fast_check_meaning_signatures.specs.Functions.{void_class_seen, no_return_seen, class_seen, is_setter, return_type_seen, function_head}
use Rattle.fast_check_meaning_signatures.specs.Functions.{named_seen, body_seen, signature_seen, any_params_from, implementation_seen, param_seen}
use Rattle.fast_check_meaning_signatures.specs.Functions.{params_seen, function_seen}
use Rattle.fast_check_meaning_signatures.specs.Answers.{settled, visited, faultless, signed_function, answer_to, parts_answer, answer_of}
use Rattle.fast_check_meaning_signatures.proofs.Choices.{of_choice, not_empty}
use Rattle.fast_check_meaning_skeleton.specs.TypedGrammar.{IsTypedFunction, IsTypedPat, AllTypedParams}
use Rattle.fast_check_meaning_skeleton.specs.ClassGrammar.{IsTypedSetter}
use Rattle.fast_check_meaning_skeleton.proofs.Staying.{Holds, Stays, round_stays, written_before, last_stays, items_hold, joined_stays}
use Rattle.fast_check_meaning_skeleton.proofs.TypedPatterns.{LookStays, pat_stays, typed_ident, typed_rest, ident_gathered}

-- ---- return types

pub absent : is_absent Absent ≡ true
unfolding roll-Tree denote.Hole.Carrier.roll
absent = ap is_absent_at (out-roll-Tree Tree-F.Absent)

-- what is seen of a return type is one, if nothing is wrong with it
abbrev pub IsType : Seen → Type 0
IsType type = Holds (λ t. is_absent t ≡ false) (settled (answer_to type))

void_class_shows : (kind : FunctionKind) (is_async : Bool) (place : SourceRange) → IsType (void_class_seen kind is_async place)
void_class_shows Getter is_async place f = not_empty f
void_class_shows _ is_async place f = is_absent_node _ _

no_return_shows : (kind : FunctionKind) (is_async : Bool) (place : SourceRange) → IsType (no_return_seen kind is_async place)
no_return_shows DeclarationLike is_async place f = is_absent_node _ _
no_return_shows _ is_async place f = not_empty f

class_shows : (kind : FunctionKind) (is_async : Bool) (place : SourceRange) (c : ReturnStatementAnalysis) →
    IsType (class_seen kind is_async place c)
class_shows kind is_async place class.Void f = void_class_shows kind is_async place f
class_shows kind is_async place class.None f = no_return_shows kind is_async place f
class_shows kind is_async place class.Single f = not_empty f
class_shows kind is_async place class.Multiple f = not_empty f

named_shows : (unresolved : SyntaxContext) (is_async : Bool) (found : Option Tree) (classed : Seen) → IsType classed →
    IsType (named_seen unresolved is_async found classed)
named_shows unresolved is_async (Some type) classed shows f = is_absent_node _ _
named_shows unresolved is_async None classed shows f = shows f

pub body_shows : (unresolved : SyntaxContext) (kind : FunctionKind) (is_async is_generator : Bool) (place : SourceRange) (body : Tree) →
    IsType (body_seen unresolved kind is_async is_generator place body)
body_shows unresolved kind is_async is_generator place body =
    named_shows unresolved is_async (named_return unresolved is_generator body) (class_seen kind is_async place (return_class body))
    (class_shows kind is_async place (return_class body))

-- it is one, or there is no body
abbrev Shows : Bool → Tree → Type 0
Shows lacks_body type = (lacks_body ≡ true) ⊎ (is_absent type ≡ false)

abbrev IsTypeOrBodiless : Tree → Seen → Type 0
IsTypeOrBodiless body type = Holds (Shows (is_absent body)) (settled (answer_to type))

return_type_shows : (unresolved : SyntaxContext) (kind : FunctionKind) (place : SourceRange) (t : Tree) → is_setter kind ≡ false →
    IsTypeOrBodiless (Function-body t) (return_type_seen unresolved kind place t)
return_type_shows unresolved kind place t n = let P : Seen → Type 0 = IsTypeOrBodiless (Function-body t) in
    of_choice P (is_absent (Function-return_type t)) _ _ (λ none.
    of_choice P (is_setter kind) _ _ (λ setter f. absurd (false≢true (sym n ∙ setter))) (λ gives.
    of_choice P (Function-is_generator t) _ _ (λ generator f. not_empty f) (λ plain.
    of_choice P (is_absent (Function-body t)) _ _ (λ bodiless f. inl bodiless) (λ body f.
    inr (body_shows unresolved kind (Function-is_async t) (Function-is_generator t) place (Function-body t) f))))) (λ type f. inr type)

-- a body that stands behind a return type
abbrev Behind : Tree → Tree → Type 0
Behind type body = (is_absent body ≡ true) ⊎ ((is_absent type ≡ false) × (body ≡ function_body type))

stands_behind : (lacks_body : Bool) (type : Tree) → Shows lacks_body type → Behind type (if lacks_body then Absent else function_body type)
stands_behind true type shown = inl absent
stands_behind false type (inl e) = cc
stands_behind false type (inr e) = inr (e, refl)

-- the body of a setter
abbrev IsSetterBody : Tree → Tree → Type 0
IsSetterBody type body = (is_absent body ≡ true) ⊎ (body ≡ function_body type)

setter_body : (lacks_body : Bool) (type : Tree) → IsSetterBody type (if lacks_body then Absent else function_body type)
setter_body true type = inl absent
setter_body false type = inr refl

-- ---- nothing is at fault in an implementation behind overloads

any_params_faultless : (place : ℕ) (params : List Tree) → (answer_of (any_params_from place params)).faults ≡ []
any_params_faultless place [] = refl
any_params_faultless place (p ∷ ps) = any_params_faultless (suc place) ps

pub implementation_faultless : (t : Tree) → (answer_to (implementation_seen t)).faults ≡ []
implementation_faultless t = any_params_faultless 0 (parts (Function-params t))

module _ (bindings : Bindings) where
  -- a parameter of a function
  pub record IsTypedParam (t : Tree) : Type 0 where
    pub kind : kind_of t ≡ Param
    pub decorators : Param-decorators t ≡ list []
    pub pat : IsTypedPat bindings (Param-pat t)

  next_typed_param : (t : Tree) (ts : List Tree) → IsTypedParam t → AllTypedParams bindings ts → AllTypedParams bindings (t ∷ ts)
  next_typed_param t ts p ps = AllTypedParams.next_param p.kind p.decorators p.pat ps

  typed_param : (span : SourceRange) (pat : Tree) → IsTypedPat bindings pat → IsTypedParam (param span (list []) pat)
  typed_param span pat p =
      let same : Param-pat (param span (list []) pat) ≡ pat = part_node _ _ _ in
      record { kind = kind_of_node _ _; decorators = part_node _ _ _; pat = subst (IsTypedPat bindings) (sym same) p }

  param_stays : (p : Tree) (pat : Seen) → Stays (IsTypedPat bindings) (answer_to pat) → Stays IsTypedParam (answer_to (param_seen p pat))
  param_stays p pat stays =
      let span = tree.Range (Param-span p) in
      let end' = visited (answer_to pat) (faultless (Some [])) in
      round_stays Param (λ ts. IsTypedParam (node Param ts)) IsTypedParam (λ ts h. h)
      (parts_answer (seens (written span ∷ written (list []) ∷ pat ∷ [])))
      (written_before (λ ts. IsTypedParam (node Param ts)) span (visited (faultless (Some (list []))) end')
      (written_before (λ ts. IsTypedParam (node Param (span ∷ ts))) (list []) end'
      (last_stays (IsTypedPat bindings) (λ ts. IsTypedParam (node Param (span ∷ list [] ∷ ts))) (typed_param (Param-span p))
      (answer_to pat) stays)))

  -- parameters are typed
  abbrev pub ParamsHold : List Seen → Type 0
  ParamsHold params = Holds (AllTypedParams bindings) (answer_of params)

  next_holds : (param : Seen) (params : List Seen) → Stays IsTypedParam (answer_to param) → ParamsHold params → ParamsHold (param ∷ params)
  next_holds param params p ps = items_hold IsTypedParam (AllTypedParams bindings) next_typed_param (answer_to param)
      (answer_of params) p ps

  typed_signature : (f : FunctionHead) (type : Tree) (params : List Tree) → Shows f.lacks_body type → AllTypedParams bindings params →
      IsTypedFunction bindings (signed_function f type params)
  typed_signature f type params shown typed =
      let made = signed_function f type params in
      let body = if f.lacks_body then Absent else function_body type in
      let same_body : Function-body made ≡ body = part_node _ _ _ in
      let same_type : Function-return_type made ≡ type = part_node _ _ _ in
      let same_params : Function-params made ≡ list params = part_node _ _ _ in
      let decorators : Function-decorators made ≡ list [] = part_node _ _ _ in
      let generator : Function-is_generator made ≡ false = ap flag_of (part_node _ _ _) ∙ flag_of_flag false in
      let async : Function-is_async made ≡ false = ap flag_of (part_node _ _ _) ∙ flag_of_flag false in
      IsTypedFunction.typed_function (kind_of_node _ _) decorators async generator
      (subst (λ b. Behind (Function-return_type made) b) (sym same_body)
      (subst (λ u. Behind u body) (sym same_type) (stands_behind f.lacks_body type shown)))
      (subst (AllTypedParams bindings) (sym (ap parts same_params ∙ parts_node _ _)) typed)

  abbrev StaysFunction : Seen → Type 0
  StaysFunction s = Stays (IsTypedFunction bindings) (answer_to s)

  signature_stays : (t : Tree) (type : Seen) (params : List Seen) → IsTypeOrBodiless (Function-body t) type → ParamsHold params →
      StaysFunction (signature_seen t type params)
  signature_stays t type params shows hold =
      joined_stays (Shows (is_absent (Function-body t))) (AllTypedParams bindings) (IsTypedFunction bindings)
      (signed_function (function_head t))
      (typed_signature (function_head t)) (settled (answer_to type)) (answer_of params) shows hold

  -- ---- an implementation behind overloads

  any_param_typed : (place : ℕ) (is_rest : Bool) → IsTypedParam (any_param place is_rest)
  any_param_typed place true =
      let arg = binding_ident (param_ident place false) Absent in
      typed_param none_range _ (typed_rest bindings none_range none_range arg any_type_ann (ident_gathered (param_ident place false) Absent)
      (is_absent_node _ _))
  any_param_typed place false = typed_param none_range _ (typed_ident bindings (param_ident place true) any_type_ann (is_absent_node _ _))

  pub any_params_hold : (place : ℕ) (params : List Tree) → ParamsHold (any_params_from place params)
  any_params_hold place [] = λ f. AllTypedParams.no_params
  any_params_hold place (p ∷ ps) = let is_rest = kind_of (Param-pat p) is RestPat in
      next_holds (written (any_param place is_rest)) (any_params_from (suc place) ps) (λ f. any_param_typed place is_rest)
      (any_params_hold (suc place) ps)

  pub implementation_stays : (t : Tree) → StaysFunction (implementation_seen t)
  implementation_stays t = let params = parts (Function-params t) in
      signature_stays t (written any_type_ann) (any_params_from 0 params) (λ f. inr (is_absent_node _ _)) (any_params_hold 0 params)

  -- ---- a function

  module _ (look : Look) (stays : LookStays bindings look) where
    pub params_hold : (params pats : List Tree) → ParamsHold (params_seen params (pats_seen bindings look pats))
    params_hold [] pats = λ f. AllTypedParams.no_params
    params_hold (p ∷ ps) [] = λ f. AllTypedParams.no_params
    params_hold (p ∷ ps) (pat ∷ pats) =
        let is_optional = list_all is_optional_param (pat ∷ pats) in let seen = pat_seen bindings look is_optional pat in
        next_holds (param_seen p seen) (params_seen ps (pats_seen bindings look pats))
        (param_stays p seen (pat_stays bindings look stays is_optional pat)) (params_hold ps pats)

    pub function_stays : (kind : FunctionKind) (place : SourceRange) (t : Tree) → is_setter kind ≡ false →
        StaysFunction (function_seen bindings look kind place t)
    function_stays kind place t n =
        let params = parts (Function-params t) in
        let pats = map (λ p. Param-pat p) params in
        signature_stays t (return_type_seen bindings.unresolved kind place t) (params_seen params (pats_seen bindings look pats))
        (return_type_shows bindings.unresolved kind place t n) (params_hold params pats)

    -- the function of a setter: no type shows its body
    typed_setter : (f : FunctionHead) (type : Tree) (params : List Tree) → Unit {0} → AllTypedParams bindings params →
        IsTypedSetter bindings (signed_function f type params)
    typed_setter f type params shown typed =
        let made = signed_function f type params in
        let body = if f.lacks_body then Absent else function_body type in
        let same_body : Function-body made ≡ body = part_node _ _ _ in
        let same_type : Function-return_type made ≡ type = part_node _ _ _ in
        let same_params : Function-params made ≡ list params = part_node _ _ _ in
        record {
          kind = kind_of_node _ _;
          decorators = part_node _ _ _;
          is_async = ap flag_of (part_node _ _ _) ∙ flag_of_flag false;
          is_generator = ap flag_of (part_node _ _ _) ∙ flag_of_flag false;
          body = subst (λ b. IsSetterBody (Function-return_type made) b) (sym same_body) (subst (λ u. IsSetterBody u body) (sym same_type)
              (setter_body f.lacks_body type));
          params = subst (AllTypedParams bindings) (sym (ap parts same_params ∙ parts_node _ _)) typed;
        }

    pub setter_stays : (place : SourceRange) (t : Tree) → Stays (IsTypedSetter bindings)
        (answer_to (function_seen bindings look Setter place t))
    setter_stays place t =
        let params = parts (Function-params t) in
        let pats = map (λ p. Param-pat p) params in
        joined_stays (λ (type : Tree). Unit {0}) (AllTypedParams bindings) (IsTypedSetter bindings) (signed_function (function_head t))
        (typed_setter (function_head t)) (settled (answer_to (return_type_seen bindings.unresolved Setter place t)))
        (answer_of (params_seen params (pats_seen bindings look pats))) (λ f. tt) (params_hold params pats)
