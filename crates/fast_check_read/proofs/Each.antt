-- Answers where a call fails, and the loops that read each item of an array.
use Rattle.std.proofs.Common.{◌≡◌, ◌∙◌, ℕ, ◌+◌, ◌<◌, ◌≤◌, false, true, List, [], ◌∷◌, ◌++◌, length, get_or, drop, Option, Some, None}
use Rattle.std.proofs.Common.{option_map, option_and_then, Result, Ok, Err, Bor, Vec, Global, refl, sym, ap, append_assoc, append-nil}
use Rattle.std.proofs.Math.ListN.{drop_of_length-le}
use Rattle.std.proofs.lemmas.List.{at_drop_more}
use Rattle.std.specs.Prelude.{MatchOption}
use Rattle.std.specs.Option.{ok_or, option_map_or}
use Rattle.std.specs.Result.{IsErr, IsErrAnd, IfErr, result_ok}
use Rattle.serde_json.specs.Data.{Data}
use Rattle.serde_json.specs.Find.{as_array}
use Rattle.serde_json.specs.View.{view, items_view}
use Rattle.serde_json.specs.declared.value.Value.{Value, Array}
use Rattle.serde_json.proofs.Views.{view-Array}
use Rattle.fast_check_read.specs.Each.{Answers}
use Rattle.fast_check_read.specs.declared.error.ReadError.{ReadError}
use Rattle.fast_check_read.specs.declared.error.ReadError.TheVariants.{BadForm, OutOfMemory}

-- ---- calls that fail

-- where nothing is expected, any error is right
pub answers_none : {A : Type 0} (expected : Option A) (result : Result A ReadError) → expected ≡ None → IsErr result →
    Answers expected result
answers_none expected (Ok a) none err = absurd (let f : false ≡ true = err in cc)
answers_none expected (Err error) none err = λ _. none

-- an error that is passed on
pub answers_passed : {A : Type 0} (expected : Option A) (result : Result A ReadError) (error : ReadError)
    → IsErrAnd result (λ e. e ≡ error) → (error ≡ BadForm → expected ≡ None) → Answers expected result
answers_passed expected (Ok a) error passed none = absurd passed
answers_passed expected (Err e) error passed none = λ bad. none (sym passed ∙ bad)

-- memory ran out
pub answers_out : {A : Type 0} (expected : Option A) (result : Result A ReadError) → IsErrAnd result (λ e. e ≡ OutOfMemory) →
    Answers expected result
answers_out expected result out = answers_passed expected result OutOfMemory out (λ bad. cc)

pub some_of_ok : {A E : Type 0} (a : Option A) (x : A) (error : E) → Ok x ≡ ok_or a error → a ≡ Some x
some_of_ok None x error e = cc
some_of_ok (Some y) x error e = cc

pub none_of_err : {A E : Type 0} (a : Option A) (thrown error : E) → Err thrown ≡ ok_or a error → a ≡ None
none_of_err None thrown error e = refl
none_of_err (Some y) thrown error e = cc

pub bad_of_err : {A : Type 0} (a : Option A) (thrown error : ReadError) → Err thrown ≡ ok_or a error → thrown ≡ error
bad_of_err None thrown error e = cc
bad_of_err (Some y) thrown error e = cc

-- an error that is passed on, where the result is told by what is expected
pub refused : {A : Type 0} (expected : Option A) (result : Result A ReadError) (error : ReadError) → IsErrAnd result (λ e. e ≡ error) →
    error ≡ BadForm
    → expected ≡ None → result ≡ ok_or expected BadForm
refused expected (Ok a) error passed bad none = absurd passed
refused expected (Err e) error passed bad none = ap Err (passed ∙ bad) ∙ ap (λ o. ok_or o BadForm) (sym none)

-- a call that fails gives nothing
pub gives_none : {A B E : Type 0} (f : A → B) (expected : Option B) (result : Result A E) → expected ≡ None → IsErr result
    → option_map f (result_ok result) ≡ expected
gives_none f expected (Ok a) none err = absurd (let e : false ≡ true = err in cc)
gives_none f expected (Err error) none err = sym none

pub bad_passed : {A : Type 0} (result : Result A ReadError) (error : ReadError) → IsErrAnd result (λ e. e ≡ error) → error ≡ BadForm
    → IfErr result (λ e. e ≡ BadForm)
bad_passed (Ok a) error passed bad = tt
bad_passed (Err e) error passed bad = passed ∙ bad

pub then_none : {A B : Type 0} {a : Option A} (f : A → Option B) → a ≡ None → option_and_then f a ≡ None
then_none f e = ap (option_and_then f) e

pub then_some : {A B : Type 0} {a : Option A} {x : A} (f : A → Option B) → a ≡ Some x → option_and_then f a ≡ f x
then_some f e = ap (option_and_then f) e

-- a member of an object that is there, and one that is not
pub found : {A : Type 0} (f : Data → Option A) (asked : Option (Bor Value)) (member : Option Data) (value : Bor Value)
    → option_map (λ v. view v.now) asked ≡ member → asked ≡ Some value → option_and_then f member ≡ f (view value.now)
found f asked member value e is = then_some f (sym e ∙ ap (option_map (λ v. view v.now)) is)

pub missing : {A : Type 0} (f : Data → Option A) (asked : Option (Bor Value)) (member : Option Data)
    → option_map (λ v. view v.now) asked ≡ member → asked ≡ None → option_and_then f member ≡ None
missing f asked member e none = then_none f (sym e ∙ ap (option_map (λ v. view v.now)) none)

-- what is read of a member, or stands for it where it is left out
pub read_or : {A : Type 0} (f : Data → Option A) (default : A) (asked : Option (Bor Value)) (member : Option Data) (result : Result A ReadError)
    → option_map (λ v. view v.now) asked ≡ member
    → MatchOption asked (result ≡ Ok default) (λ v. result ≡ ok_or (f (view v.now)) BadForm)
    → result ≡ ok_or (option_map_or f member (Some default)) BadForm
read_or f default None member result e is = is ∙ ap (λ m. ok_or (option_map_or f m (Some default)) BadForm) e
read_or f default (Some v) member result e is = is ∙ ap (λ m. ok_or (option_map_or f m (Some default)) BadForm) e

-- ---- loops

-- an array has items
pub items_there : (value : Value) (items : Vec Value Global) (now : List Value) → value ≡ Array items → now ≡ items.items
    → as_array (view value) ≡ Some (items_view now)
items_there value items now is same = ap (λ v. as_array (view v)) is ∙
    (ap as_array (view-Array items) ∙ ap (λ vs. Some (items_view vs)) (sym same))

-- what each of a list gives is what the first gives and what each of the others gives
abbrev pub ItemByItem : {V B : Type 0} → (List V → Option (List B)) → (V → Option B) → Type 0
ItemByItem {V} {B} each_of reads = (v : V) (vs : List V) → each_of (v ∷ vs) ≡ option_and_then (λ y. option_map (λ ys. y ∷ ys) (each_of vs))
    (reads v)

with_item : {B C : Type 0} (so_far so_far' : List B → C) (y : B) → ((ys : List B) → so_far (y ∷ ys) ≡ so_far' ys)
    → (others : Option (List B)) → option_map so_far (option_map (λ ys. y ∷ ys) others) ≡ option_map so_far' others
with_item so_far so_far' y step None = refl
with_item so_far so_far' y step (Some ys) = ap Some (step ys)

-- what the items that are left give, by the next
here : {V B : Type 0} (each_of : List V → Option (List B)) (reads : V → Option B) → ItemByItem each_of reads →
    (vs : List V) (i : ℕ) (d v : V)
    → i < length vs → v ≡ get_or vs i d
    → each_of (drop i vs) ≡ option_and_then (λ y. option_map (λ ys. y ∷ ys) (each_of (drop (i + 1) vs))) (reads v)
here each_of reads more vs i d v less is =
    at_drop_more each_of vs i d less ∙ (ap (λ w. each_of (w ∷ drop (i + 1) vs)) (sym is) ∙ more v (drop (i + 1) vs))

-- one more item: what is done so far, and then what the others give, is what all give
pub one_more : {V B C : Type 0} (each_of : List V → Option (List B)) (reads : V → Option B) → ItemByItem each_of reads
    → (vs : List V) (i : ℕ) (d v : V) (all : Option C) (so_far so_far' : List B → C) (y : B)
    → i < length vs → v ≡ get_or vs i d → all ≡ option_map so_far (each_of (drop i vs)) → reads v ≡ Some y
    → ((ys : List B) → so_far (y ∷ ys) ≡ so_far' ys) → all ≡ option_map so_far' (each_of (drop (i + 1) vs))
one_more each_of reads more vs i d v all so_far so_far' y less is left read step =
    let others = each_of (drop (i + 1) vs) in
    left ∙ (ap (option_map so_far)
    (here each_of reads more vs i d v less is ∙ ap (option_and_then (λ y. option_map (λ ys. y ∷ ys) others)) read)
    ∙ with_item so_far so_far' y step others)

-- an item that gives nothing
pub none_here : {V B C : Type 0} (each_of : List V → Option (List B)) (reads : V → Option B) → ItemByItem each_of reads
    → (vs : List V) (i : ℕ) (d v : V) (all : Option C) (so_far : List B → C)
    → i < length vs → v ≡ get_or vs i d → all ≡ option_map so_far (each_of (drop i vs)) → reads v ≡ None → all ≡ None
none_here each_of reads more vs i d v all so_far less is left none =
    let others = each_of (drop (i + 1) vs) in
    left ∙ ap (option_map so_far)
    (here each_of reads more vs i d v less is ∙ ap (option_and_then (λ y. option_map (λ ys. y ∷ ys) others)) none)

-- no more items
pub none_left : {V B C : Type 0} (each_of : List V → Option (List B)) → each_of [] ≡ Some []
    → (vs : List V) (i : ℕ) (all : Option C) (so_far : List B → C)
    → length vs ≤ i → all ≡ option_map so_far (each_of (drop i vs)) → all ≡ Some (so_far [])
none_left each_of none vs i all so_far past left = left ∙ ap (option_map so_far) (ap each_of (drop_of_length-le vs past) ∙ none)

-- the items so far are at the front
pub nothing_done : {B : Type 0} (done : List B) (all : Option (List B)) → done ≡ [] → all ≡ option_map (λ more. done ++ more) all
nothing_done done None empty = refl
nothing_done done (Some ys) empty = ap (λ front. Some (front ++ ys)) (sym empty)

pub pushed : {B : Type 0} (done done' : List B) (y : B) → done' ≡ done ++ y ∷ [] → (ys : List B) → done ++ (y ∷ ys) ≡ done' ++ ys
pushed done done' y e ys = sym (append_assoc done (y ∷ []) ys) ∙ ap (λ front. front ++ ys) (sym e)

pub all_done : {V B : Type 0} (each_of : List V → Option (List B)) → each_of [] ≡ Some [] →
    (vs : List V) (i : ℕ) (all : Option (List B)) (done : List B)
    → length vs ≤ i → all ≡ option_map (λ more. done ++ more) (each_of (drop i vs)) → all ≡ Some done
all_done each_of none vs i all done past left = none_left each_of none vs i all (λ more. done ++ more) past left ∙ ap Some (append-nil done)
