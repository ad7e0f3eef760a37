-- Agreement of values, functions and parameters but for what is hidden: one rule for each part that may differ. All
-- else agrees under a renaming of positions and scope numbers.
use Rattle.std.specs.Prelude.{◌≡◌, Bool, true, false, Option, Some, None, List, [], ◌∷◌, map, if◌then◌else◌}
use Rattle.fast_check_tree_syntax.specs.declared.kind.Kind.{Kind}
use Rattle.fast_check_tree_syntax.specs.declared.kind.Kind.TheVariants.{AssignPat, ArrayPat, ObjectPat, RestPat}
use Rattle.fast_check_tree_syntax.specs.declared.kind.Kind.TheVariants.{BindingIdent, PatExpr, BlockStmt, TsSatisfiesExpr}
use Rattle.fast_check_tree_syntax.specs.declared.kind.Kind.TheVariants.{TsAsExpr, TsTypeAssertion, FnExpr, ArrowExpr}
use Rattle.fast_check_tree_syntax.specs.declared.tree.Tree.{Tree}
use Rattle.fast_check_tree_syntax.specs.Shape.{◌is◌, kind_of, parts, is_absent}
use Rattle.fast_check_tree_syntax.specs.Moves.{Renaming, IsPair}
use Rattle.fast_check_tree_syntax.specs.Same.{SameTree, SameRange}
use Rattle.fast_check_tree_forms_classes.specs.Functions.{Function-span, Function-params, Function-ctxt, Function-body}
use Rattle.fast_check_tree_forms_classes.specs.Functions.{Function-is_generator, Function-is_async, Function-type_params}
use Rattle.fast_check_tree_forms_classes.specs.Functions.{Function-return_type, Param-span, Param-pat}
use Rattle.fast_check_tree_forms_expressions.specs.Assertions.{TsAsExpr-span, TsAsExpr-type_ann, TsTypeAssertion-span}
use Rattle.fast_check_tree_forms_expressions.specs.Assertions.{TsTypeAssertion-type_ann, TsSatisfiesExpr-span}
use Rattle.fast_check_tree_forms_expressions.specs.Assertions.{TsSatisfiesExpr-expr, TsSatisfiesExpr-type_ann}
use Rattle.fast_check_tree_forms_expressions.specs.Calls.{CallExpr-span, CallExpr-ctxt, CallExpr-callee, CallExpr-args}
use Rattle.fast_check_tree_forms_expressions.specs.Calls.{CallExpr-type_args, NewExpr-span, NewExpr-ctxt, NewExpr-callee}
use Rattle.fast_check_tree_forms_expressions.specs.Calls.{NewExpr-args, NewExpr-type_args}
use Rattle.fast_check_tree_forms_expressions.specs.Expressions.{ArrowExpr-span, ArrowExpr-ctxt, ArrowExpr-params}
use Rattle.fast_check_tree_forms_expressions.specs.Expressions.{ArrowExpr-body, ArrowExpr-is_async, ArrowExpr-is_generator}
use Rattle.fast_check_tree_forms_expressions.specs.Expressions.{ArrowExpr-type_params, ArrowExpr-return_type, FnExpr-ident}
use Rattle.fast_check_tree_forms_expressions.specs.Expressions.{FnExpr-function}
use Rattle.fast_check_tree_forms_expressions.specs.Patterns.{ArrayPat-span, ArrayPat-optional, ArrayPat-type_ann}
use Rattle.fast_check_tree_forms_expressions.specs.Patterns.{ObjectPat-span, ObjectPat-optional, ObjectPat-type_ann}
use Rattle.fast_check_tree_forms_expressions.specs.Patterns.{RestPat-span, RestPat-dot3_token, RestPat-arg, RestPat-type_ann}
use Rattle.fast_check_tree_forms_expressions.specs.Patterns.{AssignPat-span, AssignPat-left, AssignPat-right}
use Rattle.fast_check_tree_helpers.specs.ranges.Ranges.{range_of_node}
use Rattle.fast_check_tree_helpers.specs.declared.literal_type.DeclMutabilityKind.{DeclMutabilityKind}
use Rattle.fast_check_tree_helpers.specs.declared.literal_type.DeclMutabilityKind.TheVariants.{Mutable}
use Rattle.fast_check_tree_helpers.specs.InferredType.{inferred_type}
use Rattle.fast_check_tree_helpers.specs.NamedBodies.{named_return}
use Rattle.fast_check_tree_helpers.specs.ReturnClass.{return_class}
use Rattle.fast_check_meaning_signatures.specs.Bindings.{Bindings}
use Rattle.fast_check_meaning_signatures.specs.Expressions.{is_plain, is_compound, is_frozen, is_made, is_refused}
use Rattle.fast_check_meaning_signatures.specs.Parameters.{default_typing}
use Rattle.fast_check_meaning_signatures.specs.Typing.{Typing, type_of}

-- both are of a kind
pub record Both (k : Kind) (t u : Tree) : Type 0 where
  pub left : kind_of t ≡ k
  pub right : kind_of u ≡ k

-- neither is of a kind
pub record Neither (k : Kind) (t u : Tree) : Type 0 where
  pub left : kind_of t is k ≡ false
  pub right : kind_of u is k ≡ false

-- a kind of pattern that a parameter may be
abbrev pub is_parameter : Kind → Bool
is_parameter BindingIdent = true
is_parameter AssignPat = true
is_parameter RestPat = true
is_parameter ArrayPat = true
is_parameter ObjectPat = true
is_parameter _ = false

-- one that may have a default
abbrev pub takes_default : Kind → Bool
takes_default BindingIdent = true
takes_default ArrayPat = true
takes_default ObjectPat = true
takes_default _ = false

-- one in which no rest is gathered
abbrev pub gathers_nothing : Kind → Bool
gathers_nothing RestPat = true
gathers_nothing AssignPat = true
gathers_nothing PatExpr = true
gathers_nothing _ = false

-- which parameters of an implementation are a rest
abbrev pub rests : Tree → List Bool
rests function = map (λ p. kind_of (Param-pat p) is RestPat) (parts (Function-params function))

-- the written type of an array or an object pattern
abbrev pub pattern_type : Tree → Tree
pattern_type pat = if kind_of pat is ArrayPat then ArrayPat-type_ann pat else ObjectPat-type_ann pat

-- What is known of all names agrees. Whether a name is that of a class without type parameters has to agree where such
-- a name is called, and nowhere else:
-- `made` and `refused` ask it there.
pub record SameBindings (r : Renaming) (c d : Bindings) : Type 0 where
  -- what nothing in the first module binds is what nothing in the second binds
  pub unresolved : IsPair r.scopes c.unresolved.0 d.unresolved.0

-- two types that agree
pub record SameTypes (r : Renaming) (x y : Option Tree) : Type 0 where
  pub left : Tree
  pub right : Tree
  pub left_is : x ≡ Some left
  pub right_is : y ≡ Some right
  pub types : SameTree r left right

-- no type on either side
pub record NoTypes (x y : Option Tree) : Type 0 where
  pub left : x ≡ None
  pub right : y ≡ None

-- `c` and `d` are what is known of the names of either source
module _ (r : Renaming) (c d : Bindings) where
  -- values that show types which agree
  abbrev pub SameShown : DeclMutabilityKind → Tree → Tree → Type 0
  SameShown mutability t u = SameTypes r (inferred_type mutability c.unresolved t) (inferred_type mutability d.unresolved u)

  -- values that show none
  abbrev pub NoneShown : DeclMutabilityKind → Tree → Tree → Type 0
  NoneShown mutability t u = NoTypes (inferred_type mutability c.unresolved t) (inferred_type mutability d.unresolved u)

  -- declarations of types that agree, whatever gives these: any two private ones, those of the same written type with any
  -- values, and those whose values show the same type
  abbrev pub SameGiven : Typing → Typing → Type 0
  SameGiven t u = SameTypes r (type_of c.unresolved t) (type_of d.unresolved u)

  -- declarations whose types nothing gives
  abbrev pub NoneGiven : Typing → Typing → Type 0
  NoneGiven t u = NoTypes (type_of c.unresolved t) (type_of d.unresolved u)

  -- declarations of either sort, whose values do not stay
  pub data SameTyping (t u : Typing) : Type 0 where
    given : SameGiven t u → SameTyping t u
    not_given : NoneGiven t u → SameTyping t u

  -- bodies of which neither names a return type, or both do, and the types agree
  pub data SameNamed (is_generator : Bool) (t u : Tree) : Type 0 where
    neither_named : named_return c.unresolved is_generator t ≡ None → named_return d.unresolved is_generator u ≡ None →
        SameNamed is_generator t u
    both_named : (left right : Tree) → named_return c.unresolved is_generator t ≡ Some left →
        named_return d.unresolved is_generator u ≡ Some right →
        SameTree r left right → SameNamed is_generator t u

  -- array or object patterns, whatever stands in them
  pub data SameEmptied : Tree → Tree → Type 0 where
    array : {t u : Tree} → Both ArrayPat t u → SameRange r (ArrayPat-span t) (ArrayPat-span u) →
        ArrayPat-optional t ≡ ArrayPat-optional u →
        SameTree r (ArrayPat-type_ann t) (ArrayPat-type_ann u) → SameEmptied t u
    object : {t u : Tree} → Both ObjectPat t u → SameRange r (ObjectPat-span t) (ObjectPat-span u) →
        ObjectPat-optional t ≡ ObjectPat-optional u →
        SameTree r (ObjectPat-type_ann t) (ObjectPat-type_ann u) → SameEmptied t u

  -- what two rests are gathered in
  pub data SameGathered : Tree → Tree → Type 0 where
    -- identifiers, and what else stands as it is written
    named : {t u : Tree} → SameTree r t u → SameGathered t u
    emptied_gathered : {t u : Tree} → SameEmptied t u → SameGathered t u
    -- a rest, a default or an expression, whatever stands in it: `{}` stands for each
    replaced : {t u : Tree} → gathers_nothing (kind_of t) ≡ true → gathers_nothing (kind_of u) ≡ true → SameGathered t u

  -- what agrees of two functions, whatever their bodies and parameters
  pub record SameFunctionHead (t u : Tree) : Type 0 where
    pub span : SameRange r (Function-span t) (Function-span u)
    pub ctxt : IsPair r.scopes (Function-ctxt t).0 (Function-ctxt u).0
    pub type_params : SameTree r (Function-type_params t) (Function-type_params u)
    pub has_body : is_absent (Function-body t) ≡ is_absent (Function-body u)

  -- what agrees beside it of two that are no implementations behind overloads
  pub record SameReturn (t u : Tree) : Type 0 where
    pub is_async : Function-is_async t ≡ Function-is_async u
    pub is_generator : Function-is_generator t ≡ Function-is_generator u
    pub return_type : SameTree r (Function-return_type t) (Function-return_type u)

  -- implementations behind overloads: any bodies, return types and parameters, but for how many these are and which is
  -- a rest
  pub record SameImplementation (t u : Tree) : Type 0 where
    pub head : SameFunctionHead t u
    pub rests : rests t ≡ rests u

  -- what agrees of two arrows, whatever their bodies and parameters
  pub record SameArrowHead (t u : Tree) : Type 0 where
    pub span : SameRange r (ArrowExpr-span t) (ArrowExpr-span u)
    pub ctxt : IsPair r.scopes (ArrowExpr-ctxt t).0 (ArrowExpr-ctxt u).0
    pub is_async : ArrowExpr-is_async t ≡ ArrowExpr-is_async u
    pub is_generator : ArrowExpr-is_generator t ≡ ArrowExpr-is_generator u
    pub type_params : SameTree r (ArrowExpr-type_params t) (ArrowExpr-type_params u)
    pub return_type : SameTree r (ArrowExpr-return_type t) (ArrowExpr-return_type u)

  mutual
    -- expressions that may have to stay, with the lists, elements, properties and names inside of them
    pub data SameExpr : Tree → Tree → Type 0 where
      -- those that stay as they are, which hold no others
      plain : {t u : Tree} → is_plain (kind_of t) ≡ true → SameTree r t u → SameExpr t u
      -- any two that may not stay, whatever their parts
      refused : {t u : Tree} → is_refused c t ≡ true → is_refused d u ≡ true → SameExpr t u
      -- part by part
      compound : {t u : Tree} (k : Kind) → Both k t u → is_compound k ≡ true → SameExprs (parts t) (parts u) →
          SameExpr t u
      satisfies : {t u : Tree} → Both TsSatisfiesExpr t u →
          SameRange r (TsSatisfiesExpr-span t) (TsSatisfiesExpr-span u) →
          SameExpr (TsSatisfiesExpr-expr t) (TsSatisfiesExpr-expr u) →
          SameTree r (TsSatisfiesExpr-type_ann t) (TsSatisfiesExpr-type_ann u) → SameExpr t u
      -- any operands of assertions
      as_type : {t u : Tree} → Both TsAsExpr t u →
          SameRange r (TsAsExpr-span t) (TsAsExpr-span u) → SameTree r (TsAsExpr-type_ann t) (TsAsExpr-type_ann u) →
          SameExpr t u
      assertion : {t u : Tree} → Both TsTypeAssertion t u →
          SameRange r (TsTypeAssertion-span t) (TsTypeAssertion-span u) →
          SameTree r (TsTypeAssertion-type_ann t) (TsTypeAssertion-type_ann u) → SameExpr t u
      -- `Object.freeze(x)`, by the argument
      frozen : {t u : Tree} → is_frozen c t ≡ true → is_frozen d u ≡ true →
          SameRange r (CallExpr-span t) (CallExpr-span u) →
          IsPair r.scopes (CallExpr-ctxt t).0 (CallExpr-ctxt u).0 → SameTree r (CallExpr-callee t) (CallExpr-callee u) →
          SameExpr (CallExpr-args t) (CallExpr-args u) → SameTree r (CallExpr-type_args t) (CallExpr-type_args u) →
          SameExpr t u
      -- `new C(x)` of a class C without type parameters, by the arguments
      made : {t u : Tree} → is_made c t ≡ true → is_made d u ≡ true → SameRange r (NewExpr-span t) (NewExpr-span u) →
          IsPair r.scopes (NewExpr-ctxt t).0 (NewExpr-ctxt u).0 → SameTree r (NewExpr-callee t) (NewExpr-callee u) →
          SameExpr (NewExpr-args t) (NewExpr-args u) → SameTree r (NewExpr-type_args t) (NewExpr-type_args u) →
          SameExpr t u
      function : {t u : Tree} → Both FnExpr t u → SameTree r (FnExpr-ident t) (FnExpr-ident u) →
          SameFunction (FnExpr-function t) (FnExpr-function u) →
          SameExpr t u
      arrow : {t u : Tree} → Both ArrowExpr t u → SameArrowHead t u →
          SamePats (parts (ArrowExpr-params t)) (parts (ArrowExpr-params u)) → SameArrowBody t u →
          SameExpr t u

    pub data SameExprs : List Tree → List Tree → Type 0 where
      no_exprs : SameExprs [] []
      next_expr : {t u : Tree} {ts us : List Tree} → SameExpr t u → SameExprs ts us → SameExprs (t ∷ ts) (u ∷ us)

    -- bodies of arrows
    pub data SameArrowBody : Tree → Tree → Type 0 where
      -- any bodies behind a written return type
      typed_arrow : {t u : Tree} → is_absent (ArrowExpr-return_type t) ≡ false → SameArrowBody t u
      -- blocks of one return class, which name the same type, if one of them names any
      classed_arrow : {t u : Tree} → Both BlockStmt (ArrowExpr-body t) (ArrowExpr-body u) →
          return_class (ArrowExpr-body t) ≡ return_class (ArrowExpr-body u) →
          SameNamed (ArrowExpr-is_generator t) (ArrowExpr-body t) (ArrowExpr-body u) → SameArrowBody t u
      -- any values of the same inferred type
      shown_value : {t u : Tree} → Neither BlockStmt (ArrowExpr-body t) (ArrowExpr-body u) →
          SameShown Mutable (ArrowExpr-body t) (ArrowExpr-body u) → SameArrowBody t u
      -- values that are to stay
      kept_value : {t u : Tree} → Neither BlockStmt (ArrowExpr-body t) (ArrowExpr-body u) →
          NoneShown Mutable (ArrowExpr-body t) (ArrowExpr-body u) →
          SameExpr (ArrowExpr-body t) (ArrowExpr-body u) → SameArrowBody t u

    -- functions: any bodies behind a written return type, and bodies of one return class, which name the same type, if
    -- one of them names any
    pub data SameFunction : Tree → Tree → Type 0 where
      typed_function : {t u : Tree} → SameFunctionHead t u → SameReturn t u →
          is_absent (Function-return_type t) ≡ false →
          SameParams (parts (Function-params t)) (parts (Function-params u)) → SameFunction t u
      classed_function : {t u : Tree} → SameFunctionHead t u → SameReturn t u →
          return_class (Function-body t) ≡ return_class (Function-body u) →
          SameNamed (Function-is_generator t) (Function-body t) (Function-body u) →
          SameParams (parts (Function-params t)) (parts (Function-params u)) → SameFunction t u

    -- parameters of functions, whatever their decorators
    pub data SameParams : List Tree → List Tree → Type 0 where
      no_params : SameParams [] []
      next_param : {t u : Tree} {ts us : List Tree} → SameRange r (Param-span t) (Param-span u) →
          SamePat (Param-pat t) (Param-pat u) → SameParams ts us →
          SameParams (t ∷ ts) (u ∷ us)

    pub data SamePats : List Tree → List Tree → Type 0 where
      no_pats : SamePats [] []
      next_pat : {t u : Tree} {ts us : List Tree} → SamePat t u → SamePats ts us → SamePats (t ∷ ts) (u ∷ us)

    -- parameters
    pub data SamePat : Tree → Tree → Type 0 where
      -- identifiers, with their types
      bare : {t u : Tree} → Both BindingIdent t u → SameTree r t u → SamePat t u
      emptied : {t u : Tree} → SameEmptied t u → SamePat t u
      rest : {t u : Tree} → Both RestPat t u → SameRange r (RestPat-span t) (RestPat-span u) →
          SameRange r (RestPat-dot3_token t) (RestPat-dot3_token u) →
          SameGathered (RestPat-arg t) (RestPat-arg u) → SameTree r (RestPat-type_ann t) (RestPat-type_ann u) →
          SamePat t u
      -- any two that can't be parameters
      taken_apart : {t u : Tree} → is_parameter (kind_of t) ≡ false → is_parameter (kind_of u) ≡ false →
          SameRange r (range_of_node t) (range_of_node u) →
          SamePat t u
      -- any two defaults of what can't have one
      default_taken_apart : {t u : Tree} → Both AssignPat t u → takes_default (kind_of (AssignPat-left t)) ≡ false →
          takes_default (kind_of (AssignPat-left u)) ≡ false → SameRange r (AssignPat-span t) (AssignPat-span u) →
          SamePat t u
      -- any defaults of identifiers, behind the same written type or of the same inferred type
      given_default : {t u : Tree} → Both AssignPat t u → Both BindingIdent (AssignPat-left t) (AssignPat-left u) →
          SameTree r (AssignPat-left t) (AssignPat-left u) → SameGiven (default_typing t) (default_typing u) → SamePat t u
      -- defaults that are to stay
      kept_default : {t u : Tree} → Both AssignPat t u → Both BindingIdent (AssignPat-left t) (AssignPat-left u) →
          SameRange r (AssignPat-span t) (AssignPat-span u) →
          SameTree r (AssignPat-left t) (AssignPat-left u) → NoneGiven (default_typing t) (default_typing u) →
          SameExpr (AssignPat-right t) (AssignPat-right u) → SamePat t u
      -- any defaults of patterns with a written type
      typed_pattern : {t u : Tree} → Both AssignPat t u → SameRange r (AssignPat-span t) (AssignPat-span u) →
          SameEmptied (AssignPat-left t) (AssignPat-left u) →
          is_absent (pattern_type (AssignPat-left t)) ≡ false → SamePat t u
      -- defaults of patterns that are to stay
      kept_pattern : {t u : Tree} → Both AssignPat t u →
          SameRange r (AssignPat-span t) (AssignPat-span u) → SameEmptied (AssignPat-left t) (AssignPat-left u) →
          SameExpr (AssignPat-right t) (AssignPat-right u) → SamePat t u

  -- values that are to stay, or none on either side
  pub data SameValue (t u : Tree) : Type 0 where
    no_values : is_absent t ≡ true → is_absent u ≡ true → SameValue t u
    kept : SameExpr t u → SameValue t u
