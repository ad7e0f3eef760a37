-- What is read with what is there.
use Rattle.std.proofs.Common.{◌≡◌, ◌∙◌, ℕ, true, false, List, [], ◌∷◌, Option, Some, None, option_map, Result, Ok, Err, ap, refl, map}
use Rattle.std.proofs.Common.{length, get_or, sym, ◌<◌, ◌≤◌, arith, String, BTreeMap, Global}
use Rattle.std.specs.Result.{IsErr}
use Rattle.serde_json.specs.Data.{Data}
use Rattle.serde_json.specs.Find.{as_object, as_str}
use Rattle.serde_json.specs.View.{view, items_view, members_view}
use Rattle.serde_json.specs.declared.value.Value.{Value, Object}
use Rattle.serde_json.proofs.Views.{view-Object}
use Rattle.fast_check_read.specs.declared.error.ReadError.{ReadError}
use Rattle.fast_check_json_tables.specs.graph.Reads.{given, only_three, variant_of, Reads}

pub given_some : {A B : Type 0} {a : Option A} {x : A} (f : A → Option B) → a ≡ Some x → given a f ≡ f x
given_some f e = ap (λ o. given o f) e

pub given_none : {A B : Type 0} {a : Option A} (f : A → Option B) → a ≡ None → given a f ≡ None
given_none f e = ap (λ o. given o f) e

-- items that are seen as themselves
pub map_same : {A : Type 0} (f : A → A) (xs : List A) → ((x : A) → f x ≡ x) → map f xs ≡ xs
map_same f [] h = refl
map_same f (x ∷ xs) h = ap (λ y. y ∷ map f xs) (h x) ∙ ap (λ ys. x ∷ ys) (map_same f xs h)

pub option_same : {A : Type 0} (o : Option A) → option_map (λ x. x) o ≡ o
option_same None = refl
option_same (Some x) = refl

pub map_some : {A B : Type 0} {a : Option A} {x : A} (f : A → B) → a ≡ Some x → option_map f a ≡ Some (f x)
map_some f e = ap (option_map f) e

-- where nothing is expected, an error is right
pub reads_none : {A B : Type 0} (seen : B → A) (expected : Option A) (result : Result B ReadError) → expected ≡ None → IsErr result →
    Reads seen expected result
reads_none seen expected (Ok b) none err = absurd (let f : false ≡ true = err in cc)
reads_none seen expected (Err error) none err = λ _. none

-- an object has members
pub members_there : (v : Value) (m : BTreeMap (String Global) Value) → v ≡ Object m → as_object (view v) ≡ Some (members_view m.entries)
members_there v m e = ap (λ w. as_object (view w)) e ∙ ap as_object (view-Object m)

-- few values are not three, and neither are many
pub few : (values : List Value) → length values < 3 → only_three (items_view values) ≡ None
few [] less = refl
few (a ∷ []) less = refl
few (a ∷ b ∷ []) less = refl
few (a ∷ b ∷ c ∷ more) less = absurd (omega arith)

pub many : (values : List Value) → 4 ≤ length values → only_three (items_view values) ≡ None
many [] less = absurd (omega arith)
many (a ∷ []) less = absurd (omega arith)
many (a ∷ b ∷ []) less = absurd (omega arith)
many (a ∷ b ∷ c ∷ []) less = absurd (omega arith)
many (a ∷ b ∷ c ∷ d ∷ more) less = refl

pub three : (values : List Value) (u v w : Value) → 3 ≤ length values → length values < 4
    → u ≡ get_or values 0 u → v ≡ get_or values 1 v → w ≡ get_or values 2 w
    → Some (view u, view v, view w) ≡ only_three (items_view values)
three [] u v w more less first second third = absurd (omega arith)
three (a ∷ []) u v w more less first second third = absurd (omega arith)
three (a ∷ b ∷ []) u v w more less first second third = absurd (omega arith)
three (a ∷ b ∷ c ∷ []) u v w more less first second third =
    ap (λ x. Some (view x, view v, view w)) first ∙
    (ap (λ x. Some (view a, view x, view w)) second ∙ ap (λ x. Some (view a, view b, view x)) third)
three (a ∷ b ∷ c ∷ d ∷ rest) u v w more less first second third = absurd (omega arith)

-- the reading that the name of a variant chooses
pub chosen : {A : Type 0} (read : List ℕ → Data → Option A) (value : Data) (name : List ℕ) (content : Data) (text : List ℕ)
    → Some (name, content) ≡ variant_of value → name ≡ text → given (variant_of value) (λ v. read v.0 v.1) ≡ read text content
chosen read value name content text there is = given_some (λ v. read v.0 v.1) (sym there) ∙ ap (λ n. read n content) is

-- that of a text
pub spelled : {A : Type 0} (read : List ℕ → Option A) (value : Data) (name text : List ℕ) → Some name ≡ as_str value → name ≡ text
    → given (as_str value) read ≡ read text
spelled read value name text there is = given_some read (sym there) ∙ ap read is
