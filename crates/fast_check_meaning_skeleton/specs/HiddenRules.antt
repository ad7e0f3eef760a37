-- Of the rules of agreement that hide something, beside those of `HiddenChanges`: parts of modules that differ by what
-- the rule hides, and agree. What is asked of them is no more than what a skeleton shows of them.
use Rattle.std.specs.Prelude.{◌≡◌, ℕ, Bool, true, false, Some, None, List, [], ◌∷◌}
use Rattle.std.specs.List.{list_any}
use Rattle.fast_check_tree_syntax.specs.declared.kind.Kind.TheVariants as kinds
use Rattle.fast_check_tree_syntax.specs.declared.kind.Word.TheVariants as words
use Rattle.fast_check_tree_syntax.specs.declared.source.SourceRange.{SourceRange}
use Rattle.fast_check_tree_syntax.specs.declared.tree.Tree as tree
use Rattle.fast_check_tree_syntax.specs.declared.tree.Tree.{Tree, Absent}
use Rattle.fast_check_tree_syntax.specs.Shape.{kind_of, parts, is_absent, none_range, list}
use Rattle.fast_check_tree_syntax.specs.Moves.{Renaming, IsRenaming}
use Rattle.fast_check_tree_syntax.specs.Same.{SameTree, SameRange, Each}
use Rattle.fast_check_tree_helpers.specs.ranges.Ranges.{range_of_node}
use Rattle.fast_check_tree_forms_classes.specs.Classes.{Constructor-span, Constructor-accessibility, Constructor-body}
use Rattle.fast_check_tree_forms_classes.specs.Functions.{function, param}
use Rattle.fast_check_tree_forms_classes.specs.Methods.{class_method}
use Rattle.fast_check_tree_forms_expressions.specs.Assertions.{ts_type_assertion}
use Rattle.fast_check_tree_forms_expressions.specs.Expressions.{arrow_expr}
use Rattle.fast_check_tree_forms_expressions.specs.Patterns.{AssignPat-span, AssignPat-left}
use Rattle.fast_check_tree_forms_expressions.specs.Patterns.{assign_pat, object_pat}
use Rattle.fast_check_tree_forms_programs.specs.Literals.{number}
use Rattle.fast_check_tree_forms_statements.specs.Statements.{BlockStmt-stmts}
use Rattle.fast_check_tree_helpers.specs.Builders.{ts_keyword_type, type_ann}
use Rattle.fast_check_tree_helpers.specs.InferredType.{inferred_type}
use Rattle.fast_check_tree_helpers.specs.NamedBodies.{named_return}
use Rattle.fast_check_tree_helpers.specs.ReturnClass.{return_class}
use Rattle.fast_check_meaning_signatures.specs.Bindings.{Bindings}
use Rattle.fast_check_meaning_signatures.specs.Classes.{is_super_call, is_reference, param_properties, accessor_head}
use Rattle.fast_check_meaning_signatures.specs.Classes.{property_typing, accessor_typing}
use Rattle.fast_check_meaning_signatures.specs.Typing.{Typing}
use Rattle.fast_check_meaning_signatures.specs.Members.{is_private, is_hash_named, is_private_method_of}
use Rattle.fast_check_meaning_signatures.specs.Members.{is_private_implementation, is_private_computed}
use Rattle.fast_check_meaning_signatures.specs.NewNodes.{no_scope, new_block, ident_name, ts_array_type}
use Rattle.fast_check_meaning_skeleton.specs.SameValues.{SameExpr, SameFunction, SamePat, SameEmptied}
use Rattle.fast_check_meaning_skeleton.specs.SameValues.{SameGathered, SameImplementation, rests, is_parameter}
use Rattle.fast_check_meaning_skeleton.specs.SameValues.{Both, SameNamed, SameParams, takes_default, SameTypes, NoTypes}
use Rattle.fast_check_meaning_skeleton.specs.SameValues.{SameGiven, NoneGiven, SameTyping}
use Rattle.fast_check_meaning_skeleton.specs.SameClasses.{IsSilentMember, SamePropertyHead, SameProperty, SameMember}
use Rattle.fast_check_meaning_skeleton.specs.SameClasses.{SameConstructed, SameConstructor, SameSuperCalls, SameMethod}
use Rattle.fast_check_meaning_skeleton.specs.SameClasses.{SameSuperclass, SameAmbientMembers, rest_params}
use Rattle.fast_check_meaning_skeleton.specs.SameClasses.{SameParamProperty, SameMembers, HasNoPartner}
use Rattle.fast_check_meaning_skeleton.specs.SameClasses.{IsNoPartner}
use Rattle.fast_check_meaning_skeleton.specs.HiddenChanges.{number_type, pattern}

-- `(params): type { stmts }`
abbrev pub function_of : List Tree → List Tree → Tree → Tree
function_of params stmts type =
    function none_range (list params) (list []) no_scope (new_block stmts) false false Absent type

-- `(): type => body`
abbrev pub arrow_of : Tree → Tree → Tree
arrow_of body type = arrow_expr none_range no_scope (list []) body false false Absent type

-- `: void` and `: number[]`
abbrev pub void_type : Tree
void_type = type_ann (ts_keyword_type words.TsVoidKeyword)

abbrev pub numbers_type : Tree
numbers_type = type_ann (ts_array_type none_range number_type)

-- `<number>operand`
abbrev pub number_of : Tree → Tree
number_of operand = ts_type_assertion none_range operand number_type

-- `{ properties }: number[]`
abbrev pub object : List Tree → Tree
object properties = object_pat none_range (list properties) false numbers_type

-- `[elements]: number[] = value`
abbrev pub pattern_default : List Tree → Tree → Tree
pattern_default elements value = assign_pat none_range (pattern elements) value

-- `set s() { stmts }`
abbrev pub setter_s : List Tree → Tree
setter_s stmts =
    class_method none_range (ident_name none_range []) (function_of [] stmts Absent) (tree.Word words.Setter) false
    Absent false false false

-- declarations that are not private, and have no written type
abbrev pub LackTypes : Typing → Typing → Type 0
LackTypes t u =
    ((t.is_private ≡ false) × (u.is_private ≡ false)) × ((is_absent t.type ≡ true) × (is_absent u.type ≡ true))

module _ (r : Renaming) (c d : Bindings) where
  -- bodies of one return class that name no type
  pub record Unnamed (stmts others : List Tree) : Type 0 where
    pub class : return_class (new_block stmts) ≡ return_class (new_block others)
    pub left : named_return c.unresolved false (new_block stmts) ≡ None
    pub right : named_return d.unresolved false (new_block others) ≡ None

  -- of the types of two declarations
  pub record HiddenTypes (t u : Typing) : Type 0 where
    -- any types and values of private ones
    pub private : t.is_private ≡ true → u.is_private ≡ true → SameGiven r c d t u
    -- any values behind a written type
    pub typed : t.is_private ≡ false → u.is_private ≡ false → is_absent t.type ≡ false → SameTree r t.type u.type →
        SameGiven r c d t u
    -- any two values that show the same type, or none
    pub shown : LackTypes t u → SameTypes r (inferred_type t.mutability c.unresolved t.value)
        (inferred_type u.mutability d.unresolved u.value) → SameGiven r c d t u
    pub not_shown : LackTypes t u → NoTypes (inferred_type t.mutability c.unresolved t.value)
        (inferred_type u.mutability d.unresolved u.value) → NoneGiven r c d t u
    -- whatever else their values are, where these do not stay
    pub given : SameGiven r c d t u → SameTyping r c d t u
    pub not_given : NoneGiven r c d t u → SameTyping r c d t u

  -- of values and parameters
  pub record HiddenValues : Type 0 where
    -- any bodies of one return class that name no type, behind no written type
    pub bodies : (stmts others : List Tree) → Unnamed stmts others →
        SameFunction r c d (function_of [] stmts Absent) (function_of [] others Absent)
    -- any bodies, parameters and return types of implementations behind overloads
    pub implementations : (params others stmts statements : List Tree) (type another : Tree) →
        rests (function_of params stmts type) ≡ rests (function_of others statements another) →
        SameImplementation r c d (function_of params stmts type) (function_of others statements another)
    -- any bodies of arrows behind a written type
    pub typed_arrows : (body another : Tree) → SameExpr r c d (arrow_of body void_type) (arrow_of another void_type)
    -- any blocks of one return class that name no type
    pub classed_arrows : (stmts others : List Tree) → Unnamed stmts others →
        SameExpr r c d (arrow_of (new_block stmts) Absent) (arrow_of (new_block others) Absent)
    -- any two values of arrows that show the same type
    pub shown_arrows : (value another : List ℕ) →
        SameExpr r c d (arrow_of (number none_range value) Absent) (arrow_of (number none_range another) Absent)
    -- any operands of an assertion in angle brackets
    pub operands : (operand another : Tree) → SameExpr r c d (number_of operand) (number_of another)
    -- any properties of an object pattern
    pub objects : (properties others : List Tree) → SameEmptied r c d (object properties) (object others)
    -- any elements and defaults of a pattern with a written type
    pub typed_patterns : (elements others : List Tree) (value another : Tree) →
        SamePat r c d (pattern_default elements value) (pattern_default others another)
    -- any elements of a pattern whose default is to stay
    pub kept_patterns : (elements others : List Tree) (value another : Tree) → SameExpr r c d value another →
        SamePat r c d (pattern_default elements value) (pattern_default others another)
    -- any defaults that are gathered in a rest
    pub gathered : (left right another value : Tree) →
        SameGathered r c d (assign_pat none_range left right) (assign_pat none_range another value)
    -- any elements of a pattern that a rest is gathered in
    pub gathered_patterns : (elements others : List Tree) → SameGathered r c d (pattern elements) (pattern others)
    -- any bodies that name types which agree
    pub named_bodies : (is_generator : Bool) (t u left right : Tree) →
        named_return c.unresolved is_generator t ≡ Some left → named_return d.unresolved is_generator u ≡ Some right →
        SameTree r left right → SameNamed r c d is_generator t u
    -- any decorators of a parameter
    pub decorated_params : (decorators others : List Tree) (t u : Tree) → SamePat r c d t u →
        SameParams r c d (param none_range (list decorators) t ∷ []) (param none_range (list others) u ∷ [])
    -- any two of which a parameter is taken apart at the same place
    pub taken_apart : (t u : Tree) → is_parameter (kind_of t) ≡ false → is_parameter (kind_of u) ≡ false →
        SameRange r (range_of_node t) (range_of_node u) → SamePat r c d t u
    -- any two defaults at the same place of what can't have one
    pub default_taken_apart : (t u : Tree) → Both kinds.AssignPat t u →
        takes_default (kind_of (AssignPat-left t)) ≡ false → takes_default (kind_of (AssignPat-left u)) ≡ false →
        SameRange r (AssignPat-span t) (AssignPat-span u) →
        SamePat r c d t u

  module _ (f g : SourceRange → Bool) where
    -- of members of classes
    pub record HiddenMembers : Type 0 where
      -- any bodies of setters that are no implementations behind overloads
      pub setters : (stmts others : List Tree) → f none_range ≡ false → g none_range ≡ false →
          SameMethod r c d f g (setter_s stmts) (setter_s others)
      -- any values of properties and accessors of the same type
      pub properties : (t u : Tree) → SameGiven r c d (property_typing t) (property_typing u) → SameProperty r c d f g t u
      pub accessors : (t u : Tree) → Both kinds.AutoAccessor t u →
          SamePropertyHead r c d f g (accessor_head t) (accessor_head u) →
          SameTyping r c d (accessor_typing t) (accessor_typing u) → SameMember r c d f g t u
      -- anything in a constructor but its calls of `super` and its parameter properties
      pub constructed : (t u : Tree) →
          SameSuperCalls r c d f g (parts (BlockStmt-stmts (Constructor-body t)))
          (parts (BlockStmt-stmts (Constructor-body u))) →
          Each (SameParamProperty r c d f g) (param_properties t) (param_properties u) → SameConstructed r c d f g t u
      -- any other parameters of private constructors
      pub private_constructors : (t u : Tree) → SameConstructed r c d f g t u →
          is_private (Constructor-accessibility t) ≡ true → SameConstructor r c d f g t u
      -- any parameters of constructors behind overloads, but for their count and which is a rest
      pub implemented_constructors : (t u : Tree) → SameConstructed r c d f g t u → f (Constructor-span t) ≡ true →
          g (Constructor-span u) ≡ true → rest_params r c d f g t ≡ rest_params r c d f g u →
          SameConstructor r c d f g t u
      -- any statements of a constructor that call no `super`
      pub left_statements : (t : Tree) → is_super_call t ≡ false → SameSuperCalls r c d f g (t ∷ []) []
      pub right_statements : (u : Tree) → is_super_call u ≡ false → SameSuperCalls r c d f g [] (u ∷ [])
      -- any member that goes without a word and begins at no place of the other class
      pub left_silent : (earlier others : List Tree) (m : Tree) → IsSilentMember earlier m →
          HasNoPartner r.starts (range_of_node m).start.0 → SameMembers r c d f g earlier others (m ∷ []) []
      pub right_silent : (earlier others : List Tree) (m : Tree) → IsSilentMember others m →
          IsNoPartner r.starts (range_of_node m).start.0 → SameMembers r c d f g earlier others [] (m ∷ [])
      -- any two superclasses at the same place that are refused
      pub superclasses : (t u : Tree) → (is_absent t ≡ false) × (is_absent u ≡ false) → is_reference t ≡ false →
          is_reference u ≡ false → SameRange r (range_of_node t) (range_of_node u) → SameSuperclass r c d f g t u
      -- any private members with computed keys of ambient classes
      pub left_members : (t : Tree) → is_private_computed t ≡ true → SameAmbientMembers r c d f g (t ∷ []) []
      pub right_members : (u : Tree) → is_private_computed u ≡ true → SameAmbientMembers r c d f g [] (u ∷ [])

-- any members that go without a word, whatever stands before them
pub record SilentMembers (earlier : List Tree) (m : Tree) : Type 0 where
  pub hash_named : is_hash_named m ≡ true → IsSilentMember earlier m
  pub static_block : kind_of m ≡ kinds.StaticBlock → IsSilentMember earlier m
  pub empty : kind_of m ≡ kinds.EmptyStmt → IsSilentMember earlier m
  pub computed : is_private_computed m ≡ true → IsSilentMember earlier m
  pub again : (name : List ℕ) → is_private_method_of name m ≡ true →
      list_any (is_private_method_of name) earlier ≡ true → IsSilentMember earlier m
  pub overload : kind_of m ≡ kinds.Constructor → is_private (Constructor-accessibility m) ≡ true →
      is_absent (Constructor-body m) ≡ true → IsSilentMember earlier m
  pub another : is_private_implementation m ≡ true → list_any is_private_implementation earlier ≡ true →
      IsSilentMember earlier m

pub record HiddenRules (r : Renaming) (c d : Bindings) (f g : SourceRange → Bool) : Type 0 where
  pub types : (t u : Typing) → HiddenTypes r c d t u
  pub values : HiddenValues r c d
  pub members : HiddenMembers r c d f g
  pub silent : (earlier : List Tree) (m : Tree) → SilentMembers earlier m

abbrev pub HidesByRules : Type 0
HidesByRules = (r : Renaming) → IsRenaming r → (c d : Bindings) (f g : SourceRange → Bool) → HiddenRules r c d f g
