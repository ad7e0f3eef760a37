-- Lists of what items write.
use Rattle.std.specs.Prelude.{ℕ, Bool, false, not, ◌||◌, List, [], ◌∷◌, codes, if◌then◌else◌}
use Rattle.fast_check_tree_syntax.specs.Shape.{◌is◌, kind_of, is_absent}
use Rattle.fast_check_tree_syntax.specs.declared.kind.Kind.TheVariants as kinds
use Rattle.fast_check_tree_syntax.specs.declared.tree.Tree.{Tree}
use Rattle.fast_check_syntax_table.specs.Guards.{is_nil}
use Rattle.fast_check_syntax_table.specs.Spelled.{Syntax, Nothing, Never, Gap, Bytes, Then, Either, token, may, semicolon}

-- items one after another
abbrev pub each : List Syntax → Syntax
each [] = Nothing
each (x ∷ xs) = Then x (each xs)

-- each after a token
abbrev pub rest : List ℕ → List Syntax → Syntax
rest sign [] = Nothing
rest sign (x ∷ xs) = Then (token sign) (Then x (rest sign xs))

-- items with a token between them
abbrev pub joined : List ℕ → List Syntax → Syntax
joined sign [] = Nothing
joined sign (x ∷ xs) = Then x (rest sign xs)

-- items with a comma between them, and maybe one after the last
abbrev pub listed : List Syntax → Syntax
listed [] = Nothing
listed (x ∷ xs) = Then (joined (codes ",") (x ∷ xs)) (may (codes ","))

-- members of a type, each with what separates it from the next
abbrev pub members : List Syntax → Syntax
members [] = Nothing
members (x ∷ xs) = Then x (Then (Either (token (codes ",")) semicolon) (members xs))

-- after an item of an array: a comma, which may be left out after the last one, if this is not absent
abbrev pub comma_after : Bool → Bool → Syntax
comma_after absent last = if absent || not last then token (codes ",") else may (codes ",")

-- items of an array
abbrev pub holes : List Tree → List Syntax → Syntax
holes (t ∷ ts) (x ∷ xs) = Then x (Then (comma_after (is_absent t) (is_nil ts)) (holes ts xs))
holes _ _ = Nothing

abbrev pub braces : List Syntax → Syntax
braces xs = Then (token (codes "{")) (Then (listed xs) (token (codes "}")))

-- the first is `* as` a name
abbrev pub is_star : List Tree → Bool
is_star [] = false
is_star (t ∷ ts) = (kind_of t is kinds.ImportStarAsSpecifier) || (kind_of t is kinds.ExportNamespaceSpecifier)

-- names that are imported or exported: in braces, or `* as` one
abbrev pub names : List Tree → List Syntax → Syntax
names ts xs = if is_star ts then each xs else braces xs

-- what follows the default import; braces without a name may stand there, which the tree does not hold
abbrev pub after_default : List Tree → List Syntax → Syntax
after_default [] xs = Either Nothing (Then (token (codes ",")) (braces []))
after_default (t ∷ ts) xs = Then (token (codes ",")) (names (t ∷ ts) xs)

-- the first is a default import
abbrev pub is_default : List Tree → Bool
is_default [] = false
is_default (t ∷ ts) = kind_of t is kinds.ImportDefaultSpecifier

-- a default import and what follows it
abbrev pub with_default : List Tree → List Syntax → Syntax
with_default (t ∷ ts) (x ∷ xs) = Then x (after_default ts xs)
with_default _ _ = Nothing

abbrev pub bindings : List Tree → List Syntax → Syntax
bindings ts xs = if is_default ts then with_default ts xs else names ts xs

-- what an import brings, and `from`; without a name braces may stand there or not, which the tree does not hold
abbrev pub clause : List Tree → List Syntax → Syntax
clause [] xs = Either Nothing (Then (braces xs) (token (codes "from")))
clause (t ∷ ts) xs = Then (bindings (t ∷ ts) xs) (token (codes "from"))

-- a text of a template and its substitution
abbrev pub substitution : Syntax → Syntax → Syntax
substitution x y = Then (Then x (Bytes (codes "${"))) (Then y (token (codes "}")))

-- the texts of a template, with a substitution after each but the last
abbrev pub texts : List Syntax → List Syntax → Syntax
texts (x ∷ xs) (y ∷ ys) = Then (substitution x y) (texts xs ys)
texts (x ∷ []) [] = Then x (Bytes (codes "`"))
texts _ _ = Never

abbrev pub template : List Syntax → List Syntax → Syntax
template xs ys = Then Gap (Then (Bytes (codes "`")) (texts xs ys))

abbrev pub parenthesized : List Syntax → Syntax
parenthesized xs = Then (token (codes "(")) (Then (listed xs) (token (codes ")")))
