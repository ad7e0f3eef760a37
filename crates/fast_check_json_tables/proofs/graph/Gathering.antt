-- What is put together of what is read.
use Rattle.std.proofs.Common.{◌≡◌, ◌∙◌, sym, ap, refl, subst, List, [], ◌∷◌, ◌++◌, Option, Some, None, option_map, Result, Ok, Err, ℕ, ◌+◌}
use Rattle.std.proofs.Common.{◌<◌, length, get_or, drop, Vec, Global}
use Rattle.std.proofs.lemmas.List.{append-nil, append_assoc, at_drop_more}
use Rattle.std.specs.Prelude.{option_and_then}
use Rattle.std.specs.Result.{IsErrAnd}
use Rattle.serde_json.specs.Data.{Data}
use Rattle.serde_json.specs.View.{view, items_view}
use Rattle.serde_json.specs.declared.value.Value.{Value, Array}
use Rattle.serde_json.proofs.Views.{view-Array}
use Rattle.fast_check_read.specs.Each.{each}
use Rattle.fast_check_read.specs.Pieces.{items_list}
use Rattle.fast_check_read.specs.declared.error.ReadError.{ReadError}
use Rattle.fast_check_read.specs.declared.error.ReadError.TheVariants.{BadForm, OutOfMemory}
use Rattle.fast_check_json_tables.specs.graph.Reads.{given, list_of, Reads}
use Rattle.fast_check_json_tables.specs.graph.Gathered.{all_gathered, both_read}
use Rattle.fast_check_json_tables.proofs.graph.Given.{given_some, given_none, map_some}

-- ---- items one after another

-- what is gathered of these values
abbrev pub gathered_of : {S X : Type 0} → (S → X → S) → (Data → Option X) → S → List Value → Option S
gathered_of with read gathered values = option_map (all_gathered with gathered) (each read (items_list (items_view values)))

step : {S X : Type 0} (with : S → X → S) (s t : S) (o : Option X) (more : Option (List X)) → option_map (with s) o ≡ Some t
    → option_map (all_gathered with s) (option_and_then (λ x. option_map (λ xs. x ∷ xs) more) o) ≡ option_map (all_gathered with t) more
step with s t None more e = cc
step with s t (Some x) None e = refl
step with s t (Some x) (Some xs) e = ap (λ o. option_map (λ u. all_gathered with u xs) o) e

stop : {S X : Type 0} (with : S → X → S) (s : S) (o : Option X) (more : Option (List X)) → option_map (with s) o ≡ None
    → option_map (all_gathered with s) (option_and_then (λ x. option_map (λ xs. x ∷ xs) more) o) ≡ None
stop with s None more e = refl
stop with s (Some x) more e = cc

-- an item is taken
pub gathered_more : {S X : Type 0} (with : S → X → S) (read : Data → Option X) (s t : S) (v : Value) (vs : List Value)
    → option_map (with s) (read (view v)) ≡ Some t → gathered_of with read s (v ∷ vs) ≡ gathered_of with read t vs
gathered_more with read s t v vs e = step with s t (read (view v)) (each read (items_list (items_view vs))) e

-- or stands for none
pub gathered_none : {S X : Type 0} (with : S → X → S) (read : Data → Option X) (s : S) (v : Value) (vs : List Value)
    → option_map (with s) (read (view v)) ≡ None → gathered_of with read s (v ∷ vs) ≡ None
gathered_none with read s v vs e = stop with s (read (view v)) (each read (items_list (items_view vs))) e

-- the next of the items that are left
pub next_here : {V Y : Type 0} (f : List V → Y) (vs : List V) (i : ℕ) (v : V) → i < length vs → v ≡ get_or vs i v →
    f (drop i vs) ≡ f (v ∷ drop (i + 1) vs)
next_here f vs i v less is = at_drop_more f vs i v less ∙ ap (λ w. f (w ∷ drop (i + 1) vs)) (sym is)

-- an array has items
pub list_there : {X : Type 0} (read : Data → Option X) (value : Value) (items : Vec Value Global) (now : List Value) → value ≡ Array items →
    now ≡ items.items
    → list_of read (view value) ≡ each read (items_list (items_view now))
list_there read value items now is same =
    ap (λ v. list_of read (view v)) is ∙
    (ap (list_of read) (view-Array items) ∙ ap (λ vs. each read (items_list (items_view vs))) (sym same))

-- items that are put behind a list
behind : {X : Type 0} (before xs : List X) → all_gathered (λ items x. items ++ x ∷ []) before xs ≡ before ++ xs
behind before [] = sym (append-nil before)
behind before (x ∷ xs) = behind (before ++ x ∷ []) xs ∙ append_assoc before (x ∷ []) xs

pub all_items : {X : Type 0} (o : Option (List X)) → option_map (all_gathered (λ items x. items ++ x ∷ []) []) o ≡ o
all_items None = refl
all_items (Some xs) = ap Some (behind [] xs)

-- ---- two readings

-- both, if both are there
abbrev pub both_given : {A B : Type 0} → Option A → Option B → Option (A × B)
both_given first second = given first (λ a. option_map (λ b. (a, b)) second)

-- both values are those of both, and the error is that of one of them
pub both_reads : {A B C D : Type 0} (f : C → A) (g : D → B) (first : Option A) (second : Option B) (r : Result C ReadError)
    (s : Result D ReadError)
    (both : Result (C × D) ReadError) → both ≡ both_read r s → Reads f first r → Reads g second s
    → Reads (λ p. (f p.0, g p.1)) (both_given first second) both
both_reads f g first second (Ok a) (Ok b) both e h k = subst (Reads (λ p. (f p.0, g p.1)) (both_given first second)) (sym e)
    (given_some _ h ∙ map_some _ k)
both_reads f g first second (Ok a) (Err error) both e h k =
    subst (Reads (λ p. (f p.0, g p.1)) (both_given first second)) (sym e) (λ bad. given_some _ h ∙ ap (option_map (λ b. (f a, b))) (k bad))
both_reads f g first second (Err error) (Ok b) both e h k =
    subst (Reads (λ p. (f p.0, g p.1)) (both_given first second)) (sym e) (λ bad. given_none _ (h bad))
both_reads f g first second (Err error) (Err BadForm) both e h k =
    subst (Reads (λ p. (f p.0, g p.1)) (both_given first second)) (sym e) (λ bad. given_none _ (h bad))
both_reads f g first second (Err error) (Err OutOfMemory) both e h k =
    subst (Reads (λ p. (f p.0, g p.1)) (both_given first second)) (sym e) (λ bad. cc)

-- ---- readings by another name

pub reads_as : {A B : Type 0} (f : B → A) (a b : Option A) (r : Result B ReadError) → a ≡ b → Reads f b r → Reads f a r
reads_as f a b (Ok x) e h = e ∙ h
reads_as f a b (Err error) e h = λ bad. e ∙ h bad

pub reads_seen : {A B : Type 0} (f g : B → A) (a : Option A) (r : Result B ReadError) → ((x : B) → f x ≡ g x) → Reads f a r → Reads g a r
reads_seen f g a (Ok x) same h = h ∙ ap Some (same x)
reads_seen f g a (Err error) same h = h

-- an error that is passed on
pub reads_passed : {A B : Type 0} (f : B → A) (a : Option A) (r : Result B ReadError) (error : ReadError)
    → IsErrAnd r (λ e. e ≡ error) → (error ≡ BadForm → a ≡ None) → Reads f a r
reads_passed f a (Ok x) error passed h = absurd passed
reads_passed f a (Err e) error passed h = λ bad. h (sym passed ∙ bad)

-- memory ran out
pub reads_out : {A B : Type 0} (f : B → A) (a : Option A) (r : Result B ReadError) → IsErrAnd r (λ e. e ≡ OutOfMemory) → Reads f a r
reads_out f a r out = reads_passed f a r OutOfMemory out (λ bad. cc)

-- ---- several readings

pub given_three : {A B C R : Type 0} (a : Option A) (b : Option B) (c : Option C) (f : A → B → C → R)
    → given a (λ x. given b (λ y. option_map (f x y) c)) ≡ option_map (λ p. f p.0.0 p.0.1 p.1) (both_given (both_given a b) c)
given_three None b c f = refl
given_three (Some x) None c f = refl
given_three (Some x) (Some y) None f = refl
given_three (Some x) (Some y) (Some z) f = refl

pub given_four : {A B C D R : Type 0} (a : Option A) (b : Option B) (c : Option C) (d : Option D) (f : A → B → C → D → R)
    → given a (λ x. given b (λ y. given c (λ z. option_map (f x y z) d)))
    ≡ option_map (λ p. f p.0.0 p.0.1 p.1.0 p.1.1) (both_given (both_given a b) (both_given c d))
given_four None b c d f = refl
given_four (Some x) None c d f = refl
given_four (Some x) (Some y) None d f = refl
given_four (Some x) (Some y) (Some z) None f = refl
given_four (Some x) (Some y) (Some z) (Some u) f = refl

pub given_five : {A B C D E R : Type 0} (a : Option A) (b : Option B) (c : Option C) (d : Option D) (e : Option E)
    (f : A → B → C → D → E → R)
    → given a (λ x. given b (λ y. given c (λ z. given d (λ u. option_map (f x y z u) e))))
    ≡ option_map (λ p. f p.0.0 p.0.1 p.1.0 p.1.1.0 p.1.1.1) (both_given (both_given a b) (both_given c (both_given d e)))
given_five None b c d e f = refl
given_five (Some x) None c d e f = refl
given_five (Some x) (Some y) None d e f = refl
given_five (Some x) (Some y) (Some z) None e f = refl
given_five (Some x) (Some y) (Some z) (Some u) None f = refl
given_five (Some x) (Some y) (Some z) (Some u) (Some v) f = refl
