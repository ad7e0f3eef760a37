-- Written by forms/write.py from forms/forms.txt.
-- Literals.
-- Each form has its fields by their names, what it holds once it reads a node, and the node of its fields.
use Rattle.std.specs.Prelude.{◌≡◌, Bool, ℕ, List, [], ◌∷◌}
use Rattle.std.specs.Borrow.{Bor}
use Rattle.fast_check_tree_syntax.specs.declared.kind.Kind.TheVariants as kinds
use Rattle.fast_check_tree_syntax.specs.declared.part.Part.{Part}
use Rattle.fast_check_tree_syntax.specs.declared.source.SourceRange.{SourceRange}
use Rattle.fast_check_tree_syntax.specs.declared.tree.Tree.{Tree, Range, Flag, Text}
use Rattle.fast_check_tree_syntax.specs.Part.{seen}
use Rattle.fast_check_tree_syntax.specs.Shape.{node, part, range_of, text_of, flag_of}
use Rattle.fast_check_tree_forms_programs.specs.declared.literals.Str.{Str}
use Rattle.fast_check_tree_forms_programs.specs.declared.literals.Bool.{Bool as Bool'}
use Rattle.fast_check_tree_forms_programs.specs.declared.literals.Null.{Null}
use Rattle.fast_check_tree_forms_programs.specs.declared.literals.Number.{Number}
use Rattle.fast_check_tree_forms_programs.specs.declared.literals.BigInt.{BigInt}
use Rattle.fast_check_tree_forms_programs.specs.declared.literals.Regex.{Regex}
use Rattle.fast_check_tree_forms_programs.specs.declared.literals.JSXText.{JSXText}

-- A string: `"value"`.
abbrev pub Str-span : Tree → SourceRange
Str-span t = range_of (part 0 t)

abbrev pub Str-value : Tree → List ℕ
Str-value t = text_of (part 1 t)

abbrev pub Str-raw : Tree → Tree
Str-raw t = part 2 t

pub record ReadsStr (form : Str Part (Bor (List ℕ))) (t : Tree) : Type 0 where
  pub span : form.span ≡ Str-span t
  pub value : form.value.now ≡ Str-value t
  pub raw : seen form.raw ≡ Str-raw t

abbrev pub str : SourceRange → List ℕ → Tree → Tree
str span value raw = node kinds.Str (Range span ∷ Text value ∷ raw ∷ [])

-- `true` or `false`.
abbrev pub Bool-span : Tree → SourceRange
Bool-span t = range_of (part 0 t)

abbrev pub Bool-value : Tree → Bool
Bool-value t = flag_of (part 1 t)

pub record ReadsBool (form : Bool') (t : Tree) : Type 0 where
  pub span : form.span ≡ Bool-span t
  pub value : form.value ≡ Bool-value t

abbrev pub bool : SourceRange → Bool → Tree
bool span value = node kinds.Bool (Range span ∷ Flag value ∷ [])

-- `null`.
abbrev pub Null-span : Tree → SourceRange
Null-span t = range_of (part 0 t)

pub record ReadsNull (form : Null) (t : Tree) : Type 0 where
  pub span : form.span ≡ Null-span t

abbrev pub null : SourceRange → Tree
null span = node kinds.Null (Range span ∷ [])

-- A number, as `1` or `0x10`.
abbrev pub Number-span : Tree → SourceRange
Number-span t = range_of (part 0 t)

abbrev pub Number-raw : Tree → List ℕ
Number-raw t = text_of (part 1 t)

pub record ReadsNumber (form : Number (Bor (List ℕ))) (t : Tree) : Type 0 where
  pub span : form.span ≡ Number-span t
  pub raw : form.raw.now ≡ Number-raw t

abbrev pub number : SourceRange → List ℕ → Tree
number span raw = node kinds.Number (Range span ∷ Text raw ∷ [])

-- A big integer, as `1n`.
abbrev pub BigInt-span : Tree → SourceRange
BigInt-span t = range_of (part 0 t)

abbrev pub BigInt-raw : Tree → List ℕ
BigInt-raw t = text_of (part 1 t)

pub record ReadsBigInt (form : BigInt (Bor (List ℕ))) (t : Tree) : Type 0 where
  pub span : form.span ≡ BigInt-span t
  pub raw : form.raw.now ≡ BigInt-raw t

abbrev pub big_int : SourceRange → List ℕ → Tree
big_int span raw = node kinds.BigInt (Range span ∷ Text raw ∷ [])

-- A regular expression: `/exp/flags`.
abbrev pub Regex-span : Tree → SourceRange
Regex-span t = range_of (part 0 t)

abbrev pub Regex-exp : Tree → List ℕ
Regex-exp t = text_of (part 1 t)

abbrev pub Regex-flags : Tree → List ℕ
Regex-flags t = text_of (part 2 t)

pub record ReadsRegex (form : Regex (Bor (List ℕ))) (t : Tree) : Type 0 where
  pub span : form.span ≡ Regex-span t
  pub exp : form.exp.now ≡ Regex-exp t
  pub flags : form.flags.now ≡ Regex-flags t

abbrev pub regex : SourceRange → List ℕ → List ℕ → Tree
regex span exp flags = node kinds.Regex (Range span ∷ Text exp ∷ Text flags ∷ [])

-- The text between JSX tags.
abbrev pub JSXText-span : Tree → SourceRange
JSXText-span t = range_of (part 0 t)

abbrev pub JSXText-raw : Tree → List ℕ
JSXText-raw t = text_of (part 1 t)

pub record ReadsJSXText (form : JSXText (Bor (List ℕ))) (t : Tree) : Type 0 where
  pub span : form.span ≡ JSXText-span t
  pub raw : form.raw.now ≡ JSXText-raw t

abbrev pub jsx_text : SourceRange → List ℕ → Tree
jsx_text span raw = node kinds.JSXText (Range span ∷ Text raw ∷ [])
