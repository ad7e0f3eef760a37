-- Each class that stands without a fault is in the grammar.
use Rattle.std.specs.Prelude.{◌≡◌, Bool, true, false, not, ◌&&◌, ◌⊎◌, Some, List, [], ◌∷◌, ◌++◌, map, flat_map, refl}
use Rattle.std.specs.Prelude.{if◌then◌else◌}
use Rattle.std.specs.List.{list_all, list_any, filter}
use Rattle.std.proofs.Common.{ap, ◌∙◌, sym, subst, subst₂, inl, inr}
use Rattle.fast_check_tree_syntax.specs.declared.kind.Kind.{Kind}
use Rattle.fast_check_tree_syntax.specs.declared.kind.Kind.TheVariants as kinds
use Rattle.fast_check_tree_syntax.specs.declared.kind.Word.TheVariants as words
use Rattle.fast_check_tree_syntax.specs.declared.source.SourceRange.{SourceRange}
use Rattle.fast_check_tree_syntax.specs.declared.tree.Tree as tree
use Rattle.fast_check_tree_syntax.specs.declared.tree.Tree.{Tree, Absent}
use Rattle.fast_check_tree_syntax.specs.Shape.{◌is◌, kind_of, parts, is_absent, flag_of, has_word, node, list, OfAll}
use Rattle.fast_check_tree_syntax.proofs.Made.{kind_of_node, parts_node, part_node, flag_of_flag}
use Rattle.fast_check_tree_helpers.specs.ranges.Ranges.{range_of_node}
use Rattle.fast_check_tree_forms_classes.specs.Classes.{Class-body, Class-super_class, Constructor-span, Constructor-ctxt}
use Rattle.fast_check_tree_forms_classes.specs.Classes.{Constructor-key, Constructor-params, Constructor-body, Constructor-accessibility}
use Rattle.fast_check_tree_forms_classes.specs.Classes.{Constructor-is_optional}
use Rattle.fast_check_tree_forms_classes.specs.Fields.{ClassProp-value, ClassProp-type_ann}
use Rattle.fast_check_tree_forms_classes.specs.Functions.{Param-pat}
use Rattle.fast_check_tree_forms_classes.specs.Methods.{ClassMethod-span, ClassMethod-key, ClassMethod-function, ClassMethod-kind}
use Rattle.fast_check_tree_forms_classes.specs.Methods.{ClassMethod-is_static, ClassMethod-accessibility, ClassMethod-is_abstract}
use Rattle.fast_check_tree_forms_classes.specs.Methods.{ClassMethod-is_optional, ClassMethod-is_override}
use Rattle.fast_check_tree_forms_expressions.specs.Calls.{CallExpr-span, CallExpr-ctxt, CallExpr-callee, CallExpr-args, CallExpr-type_args}
use Rattle.fast_check_tree_forms_expressions.specs.Calls.{call_expr}
use Rattle.fast_check_tree_forms_expressions.specs.Expressions.{ExprOrSpread-spread}
use Rattle.fast_check_tree_forms_statements.specs.Statements.{BlockStmt-stmts, ExprStmt-expr}
use Rattle.fast_check_tree_helpers.specs.Builders.{any_type_ann, never_value}
use Rattle.fast_check_meaning_signatures.specs.Bindings.{Bindings}
use Rattle.fast_check_meaning_signatures.specs.declared.fault.FaultKind.TheVariants.{MissingExplicitType}
use Rattle.fast_check_meaning_signatures.specs.declared.function_kind.FunctionKind.{FunctionKind}
use Rattle.fast_check_meaning_signatures.specs.declared.function_kind.FunctionKind.TheVariants.{DeclarationLike, Getter, Setter}
use Rattle.fast_check_meaning_signatures.specs.Seen.{ClassHead, PropertyHead, Seen, written, seens}
use Rattle.fast_check_meaning_signatures.specs.NewNodes.{never_array_in_parens, hash_private}
use Rattle.fast_check_meaning_signatures.specs.Expressions.{expr_seen}
use Rattle.fast_check_meaning_signatures.specs.Functions.{function_seen, implementation_seen}
use Rattle.fast_check_meaning_signatures.specs.Members.{is_private, is_hash_named, hash_mark, stays_by_kind, stays_behind, each_behind, if_kept}
use Rattle.fast_check_meaning_signatures.specs.Members.{kept_members, is_private_computed, ambient_members}
use Rattle.fast_check_meaning_signatures.specs.Classes.{is_reference, superclass_seen, property_head}
use Rattle.fast_check_meaning_signatures.specs.Classes.{accessor_head, private_method_head, plain_param, param_properties, patterns_among}
use Rattle.fast_check_meaning_signatures.specs.Classes.{unless_any, is_super_call, never_argument, super_call, super_calls, constructor_body}
use Rattle.fast_check_meaning_signatures.specs.Classes.{constructor_of, unless_taken_apart, method_kind, method_of, class_head, member_value_seen}
use Rattle.fast_check_meaning_signatures.specs.Classes.{property_typing, property_seen, accessor_typing, accessor_seen}
use Rattle.fast_check_meaning_signatures.specs.Classes.{method_function_seen, method_seen, constructor_params_seen}
use Rattle.fast_check_meaning_signatures.specs.Classes.{constructor_seen, member_of_kind, member_seen, param_property_head}
use Rattle.fast_check_meaning_signatures.specs.Classes.{param_property, declared_by_params, members_seen, plain_class_seen, ambient_class}
use Rattle.fast_check_meaning_signatures.specs.Answers.{settled, faultless, visited, list_answer, fault_at, class_of, declared_property}
use Rattle.fast_check_meaning_signatures.specs.Answers.{valued_property, answer_to, parts_answer, answer_of}
use Rattle.fast_check_meaning_signatures.proofs.Choices.{of_choice, of_typing, both_true, not_empty}
use Rattle.fast_check_meaning_skeleton.specs.TypedGrammar.{IsLeavable, IsTypedFunction, AllTypedParams}
use Rattle.fast_check_meaning_skeleton.specs.ClassGrammar.{IsNeverArgument, IsNeverSuper, IsSuperBody, IsAmbientClass, IsTypedSetter, IsTypedMember}
use Rattle.fast_check_meaning_skeleton.specs.ClassGrammar.{IsTypedClass}
use Rattle.fast_check_meaning_skeleton.proofs.Staying.{Holds, Stays, visited_stays, round_stays, written_before, demanded_holds, joined_stays}
use Rattle.fast_check_meaning_skeleton.proofs.StayingLists.{AllStay, all_append, all_hold, some_weaker, both_some}
use Rattle.fast_check_meaning_skeleton.proofs.TypedFunctions.{absent, ParamsHold, any_params_hold, params_hold, setter_stays}
use Rattle.fast_check_meaning_skeleton.proofs.Typed.{expr_stays, function_is_typed, implementation_is_typed}
use Rattle.fast_check_meaning_skeleton.proofs.Present.{stays_there}

-- ---- bodies of constructors

never_args : (args : List Tree) → OfAll IsNeverArgument (map never_argument args)
never_args [] = tt
never_args (arg ∷ args) = (one arg, never_args args)
  where
    one : (arg : Tree) → IsNeverArgument (never_argument arg)
    one arg =
        let spread : ExprOrSpread-spread (never_argument arg) ≡ ExprOrSpread-spread arg = part_node _ _ _ in
        part_node _ _ _ ∙ ap (λ s. if is_absent s then never_value else never_array_in_parens) (sym spread)

abbrev made_call : Tree → Tree
made_call call =
    call_expr (CallExpr-span call) (CallExpr-ctxt call) (CallExpr-callee call) (list (map never_argument (parts (CallExpr-args call))))
    (CallExpr-type_args call)

never_super : (stmt : Tree) → is_super_call stmt ≡ true → IsNeverSuper (super_call stmt)
never_super stmt e =
    let call = ExprStmt-expr stmt in
    let made = ExprStmt-expr (super_call stmt) in
    let same : made ≡ made_call call = part_node _ _ _ in
    let outer : kind_of (super_call stmt) ≡ kinds.ExprStmt = kind_of_node _ _ in
    let called : kind_of (made_call call) ≡ kinds.CallExpr = kind_of_node _ _ in
    let inner : kind_of made ≡ kinds.CallExpr = ap kind_of same ∙ called in
    let callee : CallExpr-callee made ≡ CallExpr-callee call = ap CallExpr-callee same ∙ part_node _ _ _ in
    let a = both_true (kind_of stmt is kinds.ExprStmt)
    ((kind_of call is kinds.CallExpr) && (kind_of (CallExpr-callee call) is kinds.Super)) e in
    let b = both_true (kind_of call is kinds.CallExpr) (kind_of (CallExpr-callee call) is kinds.Super) a.1 in
    let args : parts (CallExpr-args made) ≡ map never_argument (parts (CallExpr-args call)) =
    ap parts (ap CallExpr-args same ∙ part_node _ _ _) ∙ parts_node _ _ in
    record {
      call =
          ap (λ k. (k is kinds.ExprStmt) && ((kind_of made is kinds.CallExpr) && (kind_of (CallExpr-callee made) is kinds.Super))) outer
          ∙ (ap (λ k. (k is kinds.CallExpr) && (kind_of (CallExpr-callee made) is kinds.Super)) inner
          ∙ (ap (λ k. kind_of k is kinds.Super) callee ∙ b.1));
      arguments = subst (OfAll IsNeverArgument) (sym args) (never_args (parts (CallExpr-args call)));
    }

never_calls : (stmts : List Tree) → OfAll IsNeverSuper (map super_call (filter is_super_call stmts))
never_calls [] = tt
never_calls (stmt ∷ stmts) = go (is_super_call stmt) refl (never_calls stmts)
  where
    go : (b : Bool) → is_super_call stmt ≡ b → OfAll IsNeverSuper (map super_call (filter is_super_call stmts)) →
        OfAll IsNeverSuper (map super_call (filter is_super_call (stmt ∷ stmts)))
    go true e rest = rw e (never_super stmt e, rest)
    go false e rest = rw e rest

abbrev IsBody : Tree → Type 0
IsBody body = (is_absent body ≡ true) ⊎ IsSuperBody body

body_stands : (body : Tree) → IsBody (constructor_body body)
body_stands body =
    of_choice IsBody (is_absent body) _ _ (λ e. inl absent)
    (λ e. inr (record { stmts = super_calls body; block = refl; calls = never_calls (parts (BlockStmt-stmts body)) }))

-- ---- ambient classes

ambient_stay : (ms : List Tree) → list_all (λ m. not (is_private_computed m)) (ambient_members ms) ≡ true
ambient_stay [] = refl
ambient_stay (m ∷ ms) = go (is_private_computed m) refl (ambient_stay ms)
  where
    go : (b : Bool) → is_private_computed m ≡ b → list_all (λ m. not (is_private_computed m)) (ambient_members ms) ≡ true →
        list_all (λ m. not (is_private_computed m)) (ambient_members (m ∷ ms)) ≡ true
    go true e rest = rw e rest
    go false e rest = rw e (rw e rest)

pub ambient_stands : (t : Tree) → IsAmbientClass (ambient_class t)
ambient_stands t =
    let same : Class-body (ambient_class t) ≡ list (ambient_members (parts (Class-body t))) = part_node _ _ _ in
    ap (list_all (λ m. not (is_private_computed m))) (ap parts same ∙ parts_node _ _) ∙ ambient_stay (parts (Class-body t))

module _ (bindings : Bindings) (is_implementation : SourceRange → Bool) where
  abbrev Member : Tree → Type 0
  Member = IsTypedMember bindings

  abbrev StaysMember : Seen → Type 0
  StaysMember s = Stays Member (answer_to s)

  -- ---- properties

  declared_stands : (p : PropertyHead) (type : Tree) → Member (declared_property p type)
  declared_stands p type =
      let value : ClassProp-value (declared_property p type) ≡ Absent = part_node _ _ _ in
      IsTypedMember.declared (kind_of_node _ _) (part_node _ _ _) (ap is_absent value ∙ absent)
      (ap flag_of (part_node _ _ _) ∙ flag_of_flag true)
      (ap flag_of (part_node _ _ _) ∙ flag_of_flag false)

  -- a value that gives a type
  abbrev Gives : Tree → Type 0
  Gives v = (is_absent v ≡ false) × IsLeavable bindings v

  valued_stands : (p : PropertyHead) (value : Tree) → Gives value → Member (valued_property p value)
  valued_stands p value h =
      let same : ClassProp-value (valued_property p value) ≡ value = part_node _ _ _ in
      let type : ClassProp-type_ann (valued_property p value) ≡ Absent = part_node _ _ _ in
      IsTypedMember.valued (kind_of_node _ _) (part_node _ _ _) (ap is_absent type ∙ absent) (ap is_absent same ∙ h.0)
      (subst (IsLeavable bindings) (sym same) h.1) (ap flag_of (part_node _ _ _) ∙ flag_of_flag false)
      (ap flag_of (part_node _ _ _) ∙ flag_of_flag false)

  value_stays : (place : SourceRange) (value : Tree) → Stays Gives (answer_to (member_value_seen bindings is_implementation place value))
  value_stays place value =
      of_choice (λ s. Stays Gives (answer_to s)) (is_absent value) _ _ (λ e f. tt)
      (λ e f. both_some (λ v. is_absent v ≡ false) (IsLeavable bindings) (answer_to (expr_seen bindings value (Some place))).stays
      (stays_there bindings value (Some place) e) (expr_stays bindings value (Some place) f))

  property_stays : (m : Tree) → StaysMember (property_seen bindings is_implementation m)
  property_stays m =
      let p = property_head m in
      let place = range_of_node p.key in
      of_typing StaysMember bindings.unresolved (property_typing m) _ _ (λ type e f. declared_stands p type)
      (λ f. valued_stands p _ (demanded_holds Gives (fault_at MissingExplicitType place)
      (answer_to (member_value_seen bindings is_implementation place (ClassProp-value m))) (value_stays place (ClassProp-value m)) f))

  accessor_stays : (m : Tree) → StaysMember (accessor_seen bindings is_implementation m)
  accessor_stays m =
      of_typing StaysMember bindings.unresolved (accessor_typing m) _ _ (λ type e f. declared_stands (accessor_head m) type)
      (λ f. not_empty f)

  -- ---- methods

  abbrev IsMethodFunction : Tree → Tree → Type 0
  IsMethodFunction kind t = IsTypedFunction bindings t ⊎ ((has_word words.Setter kind ≡ true) × IsTypedSetter bindings t)

  typed_fits : (kind : Tree) (s : Seen) → Stays (IsTypedFunction bindings) (answer_to s) → Stays (IsMethodFunction kind) (answer_to s)
  typed_fits kind s h = λ f. some_weaker (IsTypedFunction bindings) (IsMethodFunction kind) (λ t h. inl h) (answer_to s).stays (h f)

  method_function_stays : (m : Tree) → Stays (IsMethodFunction (ClassMethod-kind m))
      (answer_to (method_function_seen bindings is_implementation m))
  method_function_stays m =
      let kind = ClassMethod-kind m in
      let place = range_of_node (ClassMethod-key m) in
      let function = ClassMethod-function m in
      let Fits : Seen → Type 0 = λ s. Stays (IsMethodFunction kind) (answer_to s) in
      let OfKind : FunctionKind → Type 0 = λ k. Fits (function_seen bindings (expr_seen bindings) k place function) in
      let at : FunctionKind → Seen = λ k. function_seen bindings (expr_seen bindings) k place function in
      of_choice Fits (is_implementation (ClassMethod-span m)) (implementation_seen function) (at (method_kind kind))
      (λ e f. typed_fits kind (implementation_seen function) (λ g. implementation_is_typed bindings function) f)
      (λ e. of_choice OfKind (has_word words.Setter kind) Setter (if has_word words.Getter kind then Getter else DeclarationLike)
      (λ s f. some_weaker (IsTypedSetter bindings) (IsMethodFunction kind) (λ t h. inr (s, h)) (answer_to (at Setter)).stays
      (setter_stays bindings (expr_seen bindings) (expr_stays bindings) place function f))
      (λ n. of_choice OfKind (has_word words.Getter kind) Getter DeclarationLike
      (λ g. typed_fits kind (at Getter) (function_is_typed bindings Getter place function refl))
      (λ g. typed_fits kind (at DeclarationLike) (function_is_typed bindings DeclarationLike place function refl))))

  -- what stands behind the function of a method
  abbrev method_rest : Tree → List Tree
  method_rest m =
      ClassMethod-kind m ∷ tree.Flag (ClassMethod-is_static m) ∷ ClassMethod-accessibility m ∷ tree.Flag (ClassMethod-is_abstract m) ∷
      tree.Flag (ClassMethod-is_optional m) ∷ tree.Flag (ClassMethod-is_override m) ∷ []

  abbrev made_method : Tree → Tree → Tree
  made_method m function = node kinds.ClassMethod (tree.Range (ClassMethod-span m) ∷ ClassMethod-key m ∷ function ∷ method_rest m)

  method_stands : (m function : Tree) → is_private (ClassMethod-accessibility m) ≡ false → IsMethodFunction (ClassMethod-kind m) function →
      Member (made_method m function)
  method_stands m function n h =
      let accessibility : ClassMethod-accessibility (made_method m function) ≡ ClassMethod-accessibility m = part_node _ _ _ in
      let kind : ClassMethod-kind (made_method m function) ≡ ClassMethod-kind m = part_node _ _ _ in
      let same : ClassMethod-function (made_method m function) ≡ function = part_node _ _ _ in
      IsTypedMember.method (kind_of_node _ _) (ap is_private accessibility ∙ n) (subst₂ IsMethodFunction (sym kind) (sym same) h)

  signed_stays : (m : Tree) (s : Seen) → is_private (ClassMethod-accessibility m) ≡ false →
      Stays (IsMethodFunction (ClassMethod-kind m)) (answer_to s) → StaysMember (method_of m s)
  signed_stays m s n p =
      let span = tree.Range (ClassMethod-span m) in
      let key = ClassMethod-key m in
      let rest = parts_answer (seens (map written (method_rest m))) in
      round_stays kinds.ClassMethod (λ ts. Member (node kinds.ClassMethod ts)) Member (λ ts h. h)
      (visited (faultless (Some span)) (visited (faultless (Some key)) (visited (answer_to s) rest)))
      (written_before (λ ts. Member (node kinds.ClassMethod ts)) span (visited (faultless (Some key)) (visited (answer_to s) rest))
      (written_before (λ ts. Member (node kinds.ClassMethod (span ∷ ts))) key (visited (answer_to s) rest)
      (visited_stays (IsMethodFunction (ClassMethod-kind m)) (λ ts. ts ≡ method_rest m)
      (λ ts. Member (node kinds.ClassMethod (span ∷ key ∷ ts)))
      (λ t ts h e. subst (λ us. Member (node kinds.ClassMethod (span ∷ key ∷ t ∷ us))) (sym e) (method_stands m t n h)) (answer_to s) rest p
      (λ f. refl))))

  method_stays : (m : Tree) → StaysMember (method_seen bindings is_implementation m)
  method_stays m =
      of_choice StaysMember (is_private (ClassMethod-accessibility m)) _ _ (λ e f. declared_stands (private_method_head m) any_type_ann)
      (λ n. signed_stays m (method_function_seen bindings is_implementation m) n (method_function_stays m))

  -- ---- constructors

  constructor_params_hold : (m : Tree) → ParamsHold bindings (constructor_params_seen bindings is_implementation m)
  constructor_params_hold m =
      let ps = map plain_param (parts (Constructor-params m)) in
      of_choice (ParamsHold bindings) (is_private (Constructor-accessibility m)) _ _ (λ e f. AllTypedParams.no_params)
      (λ n. of_choice (ParamsHold bindings) (is_implementation (Constructor-span m)) _ _ (λ e. any_params_hold bindings 0 ps)
      (λ e. params_hold bindings (expr_seen bindings) (expr_stays bindings) ps (map (λ p. Param-pat p) ps)))

  -- what stands behind the parameters of a constructor
  abbrev constructor_rest : Tree → List Tree
  constructor_rest m = constructor_body (Constructor-body m) ∷ Constructor-accessibility m ∷ tree.Flag (Constructor-is_optional m) ∷ []

  abbrev made_constructor : Tree → Tree → Tree
  made_constructor m params =
      node kinds.Constructor
      (tree.Range (Constructor-span m) ∷ tree.Context (Constructor-ctxt m) ∷ Constructor-key m ∷ params ∷ constructor_rest m)

  abbrev AreParams : Tree → Type 0
  AreParams params = AllTypedParams bindings (parts params)

  constructor_stands : (m params : Tree) → AreParams params → Member (made_constructor m params)
  constructor_stands m params h =
      let body : Constructor-body (made_constructor m params) ≡ constructor_body (Constructor-body m) = part_node _ _ _ in
      let same : Constructor-params (made_constructor m params) ≡ params = part_node _ _ _ in
      IsTypedMember.constructor (kind_of_node _ _) (subst IsBody (sym body) (body_stands (Constructor-body m)))
      (subst AreParams (sym same) h)

  list_stays : (params : List Seen) → ParamsHold bindings params → Stays AreParams (list_answer (answer_of params))
  list_stays params h = λ f. subst (AllTypedParams bindings) (sym (parts_node _ _)) (h f)

  constructed_stays : (m : Tree) (params : List Seen) → ParamsHold bindings params → StaysMember (constructor_of m params)
  constructed_stays m params h =
      let span = tree.Range (Constructor-span m) in
      let ctxt = tree.Context (Constructor-ctxt m) in
      let key = Constructor-key m in
      let ps = list_answer (answer_of params) in
      let rest = parts_answer (seens (map written (constructor_rest m))) in
      round_stays kinds.Constructor (λ ts. Member (node kinds.Constructor ts)) Member (λ ts h. h)
      (visited (faultless (Some span)) (visited (faultless (Some ctxt)) (visited (faultless (Some key)) (visited ps rest))))
      (written_before (λ ts. Member (node kinds.Constructor ts)) span
      (visited (faultless (Some ctxt)) (visited (faultless (Some key)) (visited ps rest)))
      (written_before (λ ts. Member (node kinds.Constructor (span ∷ ts))) ctxt (visited (faultless (Some key)) (visited ps rest))
      (written_before (λ ts. Member (node kinds.Constructor (span ∷ ctxt ∷ ts))) key (visited ps rest)
      (visited_stays AreParams (λ ts. ts ≡ constructor_rest m) (λ ts. Member (node kinds.Constructor (span ∷ ctxt ∷ key ∷ ts)))
      (λ t ts p e. subst (λ us. Member (node kinds.Constructor (span ∷ ctxt ∷ key ∷ t ∷ us))) (sym e) (constructor_stands m t p)) ps rest
      (list_stays params h) (λ f. refl)))))

  constructor_stays : (m : Tree) → StaysMember (constructor_seen bindings is_implementation m)
  constructor_stays m = go (patterns_among (param_properties m))
    where
      go : (apart : List Tree) →
          StaysMember (unless_taken_apart apart (constructor_of m (constructor_params_seen bindings is_implementation m)))
      go [] = constructed_stays m (constructor_params_seen bindings is_implementation m) (constructor_params_hold m)
      go (p ∷ ps) = λ f. not_empty f

  -- ---- members

  by_kind : (k : Kind) (earlier : List Tree) (m : Tree) → kind_of m ≡ k → stays_by_kind k earlier m ≡ true →
      StaysMember (member_of_kind bindings is_implementation k m)
  by_kind kinds.Constructor earlier m k e = constructor_stays m
  by_kind kinds.ClassMethod earlier m k e = method_stays m
  by_kind kinds.ClassProp earlier m k e = property_stays m
  by_kind kinds.AutoAccessor earlier m k e = accessor_stays m
  by_kind kinds.TsIndexSignature earlier m k e = λ f. IsTypedMember.index_signature k
  by_kind _ earlier m k e = cc

  kept_stay : (earlier ms : List Tree) → AllStay Member (map (member_seen bindings is_implementation) (each_behind if_kept earlier ms))
  kept_stay earlier [] = tt
  kept_stay earlier (m ∷ ms) = go (stays_behind earlier m) refl (kept_stay (m ∷ earlier) ms)
    where
      go : (b : Bool) → stays_behind earlier m ≡ b → AllStay Member
          (map (member_seen bindings is_implementation) (each_behind if_kept (m ∷ earlier) ms)) →
          AllStay Member (map (member_seen bindings is_implementation) ((if b then m ∷ [] else []) ++ each_behind if_kept (m ∷ earlier) ms))
      go true e rest = (by_kind (kind_of m) earlier m refl e, rest)
      go false e rest = rest

  written_stay : (ts : List Tree) → OfAll Member ts → AllStay Member (map written ts)
  written_stay [] h = tt
  written_stay (t ∷ ts) h = (λ f. h.0, written_stay ts h.1)

  all_of : (xs ys : List Tree) → OfAll Member xs → OfAll Member ys → OfAll Member (xs ++ ys)
  all_of [] ys p q = q
  all_of (x ∷ xs) ys p q = (p.0, all_of xs ys p.1 q)

  mark_stands : (b : Bool) → OfAll Member (if b then hash_private ∷ [] else [])
  mark_stands true = (IsTypedMember.mark refl, tt)
  mark_stands false = tt

  param_properties_stand : (ps : List Tree) → OfAll Member (map (param_property bindings.unresolved) ps)
  param_properties_stand [] = tt
  param_properties_stand (p ∷ ps) =
      (declared_stands (param_property_head p) _, param_properties_stand ps)

  declared_by_stand : (m : Tree) → OfAll Member (declared_by_params bindings.unresolved m)
  declared_by_stand m = of_choice (OfAll Member) (kind_of m is kinds.Constructor) _ _ (λ e. go (patterns_among (param_properties m)))
      (λ e. tt)
    where
      go : (apart : List Tree) → OfAll Member (unless_any apart (map (param_property bindings.unresolved) (param_properties m)))
      go [] = param_properties_stand (param_properties m)
      go (p ∷ ps) = tt

  all_declared : (ms : List Tree) → OfAll Member (flat_map (declared_by_params bindings.unresolved) ms)
  all_declared [] = tt
  all_declared (m ∷ ms) = all_of (declared_by_params bindings.unresolved m) _ (declared_by_stand m) (all_declared ms)

  members_stay : (ms : List Tree) → AllStay Member (members_seen bindings is_implementation ms)
  members_stay ms =
      let made = hash_mark ms ++ flat_map (declared_by_params bindings.unresolved) (kept_members ms) in
      all_append Member (map written made) (map (member_seen bindings is_implementation) (kept_members ms))
      (written_stay made (all_of (hash_mark ms) _ (mark_stands (list_any is_hash_named ms)) (all_declared (kept_members ms))))
      (kept_stay [] ms)

  -- ---- classes

  abbrev IsSuperclass : Tree → Type 0
  IsSuperclass t = (is_absent t ≡ true) ⊎ (is_reference t ≡ true)

  superclass_holds : (t : Tree) → Holds IsSuperclass (settled (answer_to (superclass_seen t)))
  superclass_holds t =
      let Fits : Seen → Type 0 = λ s. Holds IsSuperclass (settled (answer_to s)) in
      of_choice Fits (is_absent t) _ _ (λ e f. inl absent) (λ n. of_choice Fits (is_reference t) _ _ (λ e f. inr e) (λ e f. not_empty f))

  class_stands : (c : ClassHead) (superclass : Tree) (members : List Tree) → IsSuperclass superclass → OfAll Member members →
      IsTypedClass bindings (class_of c superclass members)
  class_stands c superclass members p h =
      let same : Class-super_class (class_of c superclass members) ≡ superclass = part_node _ _ _ in
      let body : Class-body (class_of c superclass members) ≡ list members = part_node _ _ _ in
      record {
        kind = kind_of_node _ _;
        decorators = part_node _ _ _;
        superclass = subst IsSuperclass (sym same) p;
        members = subst (OfAll Member) (sym (ap parts body ∙ parts_node _ _)) h;
      }

  pub class_stays : (t : Tree) → Stays (IsTypedClass bindings) (answer_to (plain_class_seen bindings is_implementation t))
  class_stays t =
      let members = members_seen bindings is_implementation (parts (Class-body t)) in
      joined_stays IsSuperclass (OfAll Member) (IsTypedClass bindings) (class_of (class_head t)) (class_stands (class_head t))
      (settled (answer_to (superclass_seen (Class-super_class t)))) (answer_of members) (superclass_holds (Class-super_class t))
      (all_hold Member members (members_stay (parts (Class-body t))))
