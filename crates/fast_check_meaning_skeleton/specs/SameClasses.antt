-- Agreement of classes but for what is hidden: one rule for each part that may differ. All else agrees under a renaming
-- of positions and scope numbers.
use Rattle.std.specs.Prelude.{◌≡◌, ℕ, Bool, true, false, List, [], ◌∷◌, map}
use Rattle.std.specs.List.{list_any}
use Rattle.fast_check_tree_syntax.specs.declared.kind.Kind.TheVariants.{Constructor, ClassMethod, ClassProp}
use Rattle.fast_check_tree_syntax.specs.declared.kind.Kind.TheVariants.{TsIndexSignature, AutoAccessor, StaticBlock}
use Rattle.fast_check_tree_syntax.specs.declared.kind.Kind.TheVariants.{EmptyStmt, BindingIdent, RestPat}
use Rattle.fast_check_tree_syntax.specs.declared.kind.Word.TheVariants.{Setter}
use Rattle.fast_check_tree_syntax.specs.declared.source.SourceRange.{SourceRange}
use Rattle.fast_check_tree_syntax.specs.declared.tree.Tree.{Tree}
use Rattle.fast_check_tree_syntax.specs.Shape.{◌is◌, kind_of, parts, is_absent, has_word}
use Rattle.fast_check_tree_syntax.specs.Moves.{Renaming, Pairs, IsPair}
use Rattle.fast_check_tree_syntax.specs.Same.{SameTree, SameRange, Each}
use Rattle.fast_check_tree_helpers.specs.ranges.Ranges.{range_of_node}
use Rattle.fast_check_tree_forms_classes.specs.Classes.{Class-span, Class-ctxt, Class-decorators, Class-body}
use Rattle.fast_check_tree_forms_classes.specs.Classes.{Class-super_class, Class-is_abstract, Class-type_params}
use Rattle.fast_check_tree_forms_classes.specs.Classes.{Class-super_type_params, Class-implements, Constructor-span}
use Rattle.fast_check_tree_forms_classes.specs.Classes.{Constructor-ctxt, Constructor-key, Constructor-params}
use Rattle.fast_check_tree_forms_classes.specs.Classes.{Constructor-body, Constructor-accessibility, Constructor-is_optional}
use Rattle.fast_check_tree_forms_classes.specs.Classes.{TsParamProp-span, TsParamProp-accessibility, TsParamProp-readonly}
use Rattle.fast_check_tree_forms_classes.specs.Classes.{TsParamProp-param}
use Rattle.fast_check_tree_forms_classes.specs.Fields.{ClassProp-is_override, ClassProp-value}
use Rattle.fast_check_tree_forms_classes.specs.Functions.{Function-params, Param-pat}
use Rattle.fast_check_tree_forms_classes.specs.Methods.{ClassMethod-span, ClassMethod-function, ClassMethod-kind}
use Rattle.fast_check_tree_forms_classes.specs.Methods.{ClassMethod-accessibility, ClassMethod-is_override}
use Rattle.fast_check_tree_forms_expressions.specs.Calls.{CallExpr-span, CallExpr-ctxt, CallExpr-callee, CallExpr-args}
use Rattle.fast_check_tree_forms_expressions.specs.Calls.{CallExpr-type_args}
use Rattle.fast_check_tree_forms_expressions.specs.Expressions.{ExprOrSpread-spread}
use Rattle.fast_check_tree_forms_programs.specs.Names.{BindingIdent-id}
use Rattle.fast_check_tree_forms_statements.specs.Statements.{BlockStmt-stmts, ExprStmt-span, ExprStmt-expr}
use Rattle.fast_check_meaning_signatures.specs.Bindings.{Bindings}
use Rattle.fast_check_meaning_signatures.specs.Seen.{PropertyHead}
use Rattle.fast_check_meaning_signatures.specs.Members.{is_private, is_hash_named, is_private_method_of}
use Rattle.fast_check_meaning_signatures.specs.Members.{is_private_implementation, is_private_computed}
use Rattle.fast_check_meaning_signatures.specs.Classes.{property_head, accessor_head, property_typing, accessor_typing}
use Rattle.fast_check_meaning_signatures.specs.Classes.{param_typing, private_method_head, plain_param, param_target}
use Rattle.fast_check_meaning_signatures.specs.Classes.{param_properties}
use Rattle.fast_check_meaning_signatures.specs.Classes.{patterns_among, is_super_call, is_reference}
use Rattle.fast_check_meaning_skeleton.specs.SameValues.{Both, SameFunction, SameFunctionHead, SameReturn, SameParams}
use Rattle.fast_check_meaning_skeleton.specs.SameValues.{SameImplementation, SameGiven, NoneGiven, SameTyping, SameValue}

-- a has no partner; b is the partner of none
abbrev pub HasNoPartner : Pairs → ℕ → Type 0
HasNoPartner pairs a = (b : ℕ) → IsPair pairs a b → ⊥

abbrev pub IsNoPartner : Pairs → ℕ → Type 0
IsNoPartner pairs b = (a : ℕ) → IsPair pairs a b → ⊥

-- A member of a class that is not ambient which goes without a word behind the earlier ones.
pub data IsSilentMember (earlier : List Tree) : Tree → Type 0 where
  hash_named : {m : Tree} → is_hash_named m ≡ true → IsSilentMember earlier m
  static_block : {m : Tree} → kind_of m ≡ StaticBlock → IsSilentMember earlier m
  empty : {m : Tree} → kind_of m ≡ EmptyStmt → IsSilentMember earlier m
  -- a private method, property or accessor with a computed key
  computed : {m : Tree} → is_private_computed m ≡ true → IsSilentMember earlier m
  -- a private method behind one of its name
  again : {m : Tree} (name : List ℕ) → is_private_method_of name m ≡ true →
      list_any (is_private_method_of name) earlier ≡ true → IsSilentMember earlier m
  -- a private constructor without a body
  overload : {m : Tree} → kind_of m ≡ Constructor → is_private (Constructor-accessibility m) ≡ true →
      is_absent (Constructor-body m) ≡ true →
      IsSilentMember earlier m
  -- one with a body behind another
  another : {m : Tree} → is_private_implementation m ≡ true → list_any is_private_implementation earlier ≡ true →
      IsSilentMember earlier m

-- `c` and `d` are the scope numbers of the names that nothing in either source binds, `f` and `g` say which ranges are
-- implementations behind overloads
module _ (r : Renaming) (c d : Bindings) (f g : SourceRange → Bool) where
  -- ---- properties

  -- properties, but for their types and their values; `override` is not seen where no value stays
  pub record SamePropertyHead (p q : PropertyHead) : Type 0 where
    pub span : SameRange r p.span q.span
    pub key : SameTree r p.key q.key
    pub is_static : p.is_static ≡ q.is_static
    pub accessibility : SameTree r p.accessibility q.accessibility
    pub is_abstract : p.is_abstract ≡ q.is_abstract
    pub is_optional : p.is_optional ≡ q.is_optional
    pub readonly : p.readonly ≡ q.readonly

  -- the type and the value of a property
  pub data SameProperty (t u : Tree) : Type 0 where
    -- any values, their presence too
    given : SameGiven r c d (property_typing t) (property_typing u) → SameProperty t u
    -- values that are to stay, or none
    kept : NoneGiven r c d (property_typing t) (property_typing u) → ClassProp-is_override t ≡ ClassProp-is_override u →
        SameValue r c d (ClassProp-value t) (ClassProp-value u) → SameProperty t u

  -- ---- constructors

  -- parameter properties, as properties
  pub record SameParamProperty (t u : Tree) : Type 0 where
    pub span : SameRange r (TsParamProp-span t) (TsParamProp-span u)
    pub accessibility : SameTree r (TsParamProp-accessibility t) (TsParamProp-accessibility u)
    pub readonly : TsParamProp-readonly t ≡ TsParamProp-readonly u
    pub names : Both BindingIdent (param_target t) (param_target u)
    pub ident : SameTree r (BindingIdent-id (param_target t)) (BindingIdent-id (param_target u))
    pub is_default : kind_of (TsParamProp-param t) is BindingIdent ≡ kind_of (TsParamProp-param u) is BindingIdent
    -- any defaults
    pub type : SameTyping r c d (param_typing t) (param_typing u)

  -- calls of the superclass's constructor, whatever their arguments are, but for how many these are and which are
  -- spread
  pub record SameSuperCall (t u : Tree) : Type 0 where
    pub span : SameRange r (ExprStmt-span t) (ExprStmt-span u)
    pub call : SameRange r (CallExpr-span (ExprStmt-expr t)) (CallExpr-span (ExprStmt-expr u))
    pub ctxt : IsPair r.scopes (CallExpr-ctxt (ExprStmt-expr t)).0 (CallExpr-ctxt (ExprStmt-expr u)).0
    pub callee : SameTree r (CallExpr-callee (ExprStmt-expr t)) (CallExpr-callee (ExprStmt-expr u))
    pub arguments : Each (λ x y. SameTree r (ExprOrSpread-spread x) (ExprOrSpread-spread y))
        (parts (CallExpr-args (ExprStmt-expr t)))
        (parts (CallExpr-args (ExprStmt-expr u)))
    pub type_args : SameTree r (CallExpr-type_args (ExprStmt-expr t)) (CallExpr-type_args (ExprStmt-expr u))

  -- statements of the bodies of constructors, of which no others count
  pub data SameSuperCalls : List Tree → List Tree → Type 0 where
    end : SameSuperCalls [] []
    left : {t : Tree} {ts us : List Tree} → is_super_call t ≡ false → SameSuperCalls ts us → SameSuperCalls (t ∷ ts) us
    right : {u : Tree} {ts us : List Tree} → is_super_call u ≡ false → SameSuperCalls ts us → SameSuperCalls ts (u ∷ us)
    next : {t u : Tree} {ts us : List Tree} → is_super_call t ≡ true → is_super_call u ≡ true →
        SameSuperCall t u → SameSuperCalls ts us →
        SameSuperCalls (t ∷ ts) (u ∷ us)

  pub record SameConstructorHead (t u : Tree) : Type 0 where
    pub kinds : Both Constructor t u
    pub span : SameRange r (Constructor-span t) (Constructor-span u)
    pub ctxt : IsPair r.scopes (Constructor-ctxt t).0 (Constructor-ctxt u).0
    pub key : SameTree r (Constructor-key t) (Constructor-key u)
    pub accessibility : SameTree r (Constructor-accessibility t) (Constructor-accessibility u)
    pub is_optional : Constructor-is_optional t ≡ Constructor-is_optional u
    pub has_body : is_absent (Constructor-body t) ≡ is_absent (Constructor-body u)

  -- what agrees of two constructors that have skeletons, whatever their other parameters are
  pub record SameConstructed (t u : Tree) : Type 0 where
    pub super_calls : SameSuperCalls (parts (BlockStmt-stmts (Constructor-body t)))
        (parts (BlockStmt-stmts (Constructor-body u)))
    pub properties : Each SameParamProperty (param_properties t) (param_properties u)

  abbrev pub plain_params : Tree → List Tree
  plain_params constructor = map plain_param (parts (Constructor-params constructor))

  abbrev pub rest_params : Tree → List Bool
  rest_params constructor = map (λ p. kind_of (Param-pat p) is RestPat) (plain_params constructor)

  pub data SameConstructor (t u : Tree) : Type 0 where
    -- any parameters of private ones
    any : SameConstructed t u → is_private (Constructor-accessibility t) ≡ true → SameConstructor t u
    plain : SameConstructed t u → f (Constructor-span t) ≡ false → g (Constructor-span u) ≡ false →
        SameParams r c d (plain_params t) (plain_params u) →
        SameConstructor t u
    -- any parameters of implementations behind overloads, but for how many these are and which is a rest
    implementation : SameConstructed t u → f (Constructor-span t) ≡ true → g (Constructor-span u) ≡ true →
        rest_params t ≡ rest_params u →
        SameConstructor t u
    -- any two that take a value apart at the same place, where a property has to have a name
    destructured : (p q : Tree) (ps qs : List Tree) → patterns_among (param_properties t) ≡ p ∷ ps →
        patterns_among (param_properties u) ≡ q ∷ qs →
        SameRange r (range_of_node (param_target p)) (range_of_node (param_target q)) → SameConstructor t u

  -- ---- methods

  -- the functions of methods that are not private
  pub data SameMethod (t u : Tree) : Type 0 where
    function : f (ClassMethod-span t) ≡ false → g (ClassMethod-span u) ≡ false →
        SameFunction r c d (ClassMethod-function t) (ClassMethod-function u) → SameMethod t u
    -- any bodies of setters
    setter : f (ClassMethod-span t) ≡ false → g (ClassMethod-span u) ≡ false →
        has_word Setter (ClassMethod-kind t) ≡ true →
        SameFunctionHead r c d (ClassMethod-function t) (ClassMethod-function u) →
        SameReturn r c d (ClassMethod-function t) (ClassMethod-function u) →
        SameParams r c d (parts (Function-params (ClassMethod-function t)))
        (parts (Function-params (ClassMethod-function u))) → SameMethod t u
    implementation : f (ClassMethod-span t) ≡ true → g (ClassMethod-span u) ≡ true →
        SameImplementation r c d (ClassMethod-function t) (ClassMethod-function u) → SameMethod t u

  -- what agrees beside of them
  pub record SameSigned (t u : Tree) : Type 0 where
    pub kind : SameTree r (ClassMethod-kind t) (ClassMethod-kind u)
    pub is_override : ClassMethod-is_override t ≡ ClassMethod-is_override u
    pub function : SameMethod t u

  -- ---- members

  -- members of classes that are not ambient
  pub data SameMember : Tree → Tree → Type 0 where
    constructor : {t u : Tree} → SameConstructorHead t u → SameConstructor t u → SameMember t u
    -- any signatures, bodies and kinds of private methods
    private_method : {t u : Tree} → Both ClassMethod t u →
        SamePropertyHead (private_method_head t) (private_method_head u) →
        is_private (ClassMethod-accessibility t) ≡ true → SameMember t u
    method : {t u : Tree} → Both ClassMethod t u → SamePropertyHead (private_method_head t) (private_method_head u) →
        SameSigned t u → SameMember t u
    property : {t u : Tree} → Both ClassProp t u → SamePropertyHead (property_head t) (property_head u) →
        SameProperty t u → SameMember t u
    -- any values
    accessor : {t u : Tree} → Both AutoAccessor t u → SamePropertyHead (accessor_head t) (accessor_head u) →
        SameTyping r c d (accessor_typing t) (accessor_typing u) → SameMember t u
    index_signature : {t u : Tree} → Both TsIndexSignature t u → SameTree r t u → SameMember t u

  -- Members one by one, the silent ones aside; where a silent one begins has no partner. Of each class the members
  -- before these are given, the last first.
  pub data SameMembers : List Tree → List Tree → List Tree → List Tree → Type 0 where
    end : {earlier earlier' : List Tree} → SameMembers earlier earlier' [] []
    left : {t : Tree} {earlier earlier' ts us : List Tree} → IsSilentMember earlier t →
        HasNoPartner r.starts (range_of_node t).start.0 →
        SameMembers (t ∷ earlier) earlier' ts us → SameMembers earlier earlier' (t ∷ ts) us
    right : {u : Tree} {earlier earlier' ts us : List Tree} → IsSilentMember earlier' u →
        IsNoPartner r.starts (range_of_node u).start.0 →
        SameMembers earlier (u ∷ earlier') ts us → SameMembers earlier earlier' ts (u ∷ us)
    next : {t u : Tree} {earlier earlier' ts us : List Tree} →
        SameMember t u → SameMembers (t ∷ earlier) (u ∷ earlier') ts us →
        SameMembers earlier earlier' (t ∷ ts) (u ∷ us)

  -- ---- classes

  -- the superclasses of classes that are not ambient
  pub data SameSuperclass (t u : Tree) : Type 0 where
    -- the same, or none
    same : SameTree r t u → SameSuperclass t u
    -- any two at the same place that are neither a name nor a chain of members on one
    refused : (is_absent t ≡ false) × (is_absent u ≡ false) → is_reference t ≡ false → is_reference u ≡ false →
        SameRange r (range_of_node t) (range_of_node u) → SameSuperclass t u

  -- what agrees of two classes, whatever their superclasses, members and decorators are
  pub record SameClassHead (t u : Tree) : Type 0 where
    pub span : SameRange r (Class-span t) (Class-span u)
    pub ctxt : IsPair r.scopes (Class-ctxt t).0 (Class-ctxt u).0
    pub is_abstract : Class-is_abstract t ≡ Class-is_abstract u
    pub type_params : SameTree r (Class-type_params t) (Class-type_params u)
    pub super_type_params : SameTree r (Class-super_type_params t) (Class-super_type_params u)
    pub implements : SameTree r (Class-implements t) (Class-implements u)

  -- classes that are not ambient: both have members with a hash name, or neither has
  pub record SameClass (t u : Tree) : Type 0 where
    pub head : SameClassHead t u
    pub superclass : SameSuperclass (Class-super_class t) (Class-super_class u)
    pub hash_named : list_any is_hash_named (parts (Class-body t)) ≡ list_any is_hash_named (parts (Class-body u))
    pub members : SameMembers [] [] (parts (Class-body t)) (parts (Class-body u))

  -- members of ambient classes, the private ones with computed keys aside
  pub data SameAmbientMembers : List Tree → List Tree → Type 0 where
    end : SameAmbientMembers [] []
    left : {t : Tree} {ts us : List Tree} → is_private_computed t ≡ true → SameAmbientMembers ts us →
        SameAmbientMembers (t ∷ ts) us
    right : {u : Tree} {ts us : List Tree} → is_private_computed u ≡ true → SameAmbientMembers ts us →
        SameAmbientMembers ts (u ∷ us)
    next : {t u : Tree} {ts us : List Tree} → SameTree r t u → SameAmbientMembers ts us →
        SameAmbientMembers (t ∷ ts) (u ∷ us)

  pub record SameAmbientClass (t u : Tree) : Type 0 where
    pub head : SameClassHead t u
    pub superclass : SameTree r (Class-super_class t) (Class-super_class u)
    pub decorators : SameTree r (Class-decorators t) (Class-decorators u)
    pub members : SameAmbientMembers (parts (Class-body t)) (parts (Class-body u))
