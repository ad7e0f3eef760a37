-- The modules before the first with something wrong.
use Rattle.std.specs.Prelude.{◌≡◌, ◌≢◌, ◌==◌, Bool, true, false, ◌&&◌, List, [], ◌∷◌, ◌++◌, length, map, refl}
use Rattle.std.specs.List.{flat_map, list_all, take_while}
use Rattle.std.proofs.Common.{◌∙◌, sym, ap, cond}
use Rattle.std.proofs.lemmas.Bool.{and_parts, and_from}
use Rattle.std.proofs.lemmas.List.Sums.{take_while-cons}
use Rattle.std.proofs.lemmas.List.{append-nil}
use Rattle.fast_check_tables_graph.specs.declared.graph.ModuleGraph.{ModuleGraph}
use Rattle.fast_check_tables_graph.specs.declared.root_symbol.RootSymbol.{RootSymbol}
use Rattle.fast_check_build_answers.specs.PackageFaults.{PublicModule, PackageFault, first_list, module_faults, package_faults, is_sound}
use Rattle.fast_check_build_answers.specs.PackageFaults.{sound_front}
use Rattle.fast_check_meaning_signatures.proofs.Choices.{no_left, no_right}
use Rattle.fast_check_build_answers.proofs.Lists.{empty_test, test_empty, full_test}

-- ---- fronts of lists

while_true : {A : Type 0} (p : A → Bool) (x : A) (xs : List A) → p x ≡ true → take_while p (x ∷ xs) ≡ x ∷ take_while p xs
while_true p x xs e = take_while-cons p x xs ∙ ap (λ b. cond b (x ∷ take_while p xs) []) e

while_false : {A : Type 0} (p : A → Bool) (x : A) (xs : List A) → p x ≡ false → take_while p (x ∷ xs) ≡ []
while_false p x xs e = take_while-cons p x xs ∙ ap (λ b. cond b (x ∷ take_while p xs) []) e

while_front : {A : Type 0} (p : A → Bool) (xs ys : List A) → list_all p xs ≡ true → take_while p (xs ++ ys) ≡ xs ++ take_while p ys
while_front p [] ys e = refl
while_front p (x ∷ xs) ys e =
    while_true p x (xs ++ ys) (and_parts (p x) (list_all p xs) e).0
    ∙ ap (λ zs. x ∷ zs) (while_front p xs ys (and_parts (p x) (list_all p xs) e).1)

while_all : {A : Type 0} (p : A → Bool) (xs : List A) → list_all p xs ≡ true → take_while p xs ≡ xs
while_all p [] e = refl
while_all p (x ∷ xs) e =
    while_true p x xs (and_parts (p x) (list_all p xs) e).0 ∙ ap (λ zs. x ∷ zs) (while_all p xs (and_parts (p x) (list_all p xs) e).1)

one_stop : {A : Type 0} (p : A → Bool) (x : A) (xs ys : List A) (b : Bool) → p x ≡ b →
    (list_all p xs ≡ false → take_while p (xs ++ ys) ≡ take_while p xs) → (b && list_all p xs) ≡ false →
    take_while p (x ∷ xs ++ ys) ≡ take_while p (x ∷ xs)
one_stop p x xs ys true is h e = while_true p x (xs ++ ys) is ∙ (ap (λ zs. x ∷ zs) (h e) ∙ sym (while_true p x xs is))
one_stop p x xs ys false is h e = while_false p x (xs ++ ys) is ∙ sym (while_false p x xs is)

while_stop : {A : Type 0} (p : A → Bool) (xs ys : List A) → list_all p xs ≡ false → take_while p (xs ++ ys) ≡ take_while p xs
while_stop p [] ys e = cc
while_stop p (x ∷ xs) ys e = one_stop p x xs ys (p x) refl (while_stop p xs ys) e

-- ---- where nothing is wrong

first_empty : (rs : List PackageFault) (lists : List (List PackageFault)) → first_list (rs ∷ lists) ≡ [] →
    (rs ≡ []) × (first_list lists ≡ [])
first_empty [] lists e = (refl, e)
first_empty (r ∷ rs) lists e = cc

abbrev sound : (PublicModule → List PackageFault) → PublicModule → Bool
sound f m = length (f m) == 0

sound_joined : (f : PublicModule → List PackageFault) (ms : List PublicModule) → flat_map f ms ≡ [] → list_all (sound f) ms ≡ true
sound_joined f [] e = refl
sound_joined f (m ∷ ms) e =
    and_from (sound f m) (list_all (sound f) ms) (empty_test (f m) (no_left (f m) (flat_map f ms) e))
    (sound_joined f ms (no_right (f m) (flat_map f ms) e))

sound_first : (f : PublicModule → List PackageFault) (ms : List PublicModule) → first_list (map f ms) ≡ [] → list_all (sound f) ms ≡ true
sound_first f [] e = refl
sound_first f (m ∷ ms) e =
    let h = first_empty (f m) (map f ms) e in
    and_from (sound f m) (list_all (sound f) ms) (empty_test (f m) h.0) (sound_first f ms h.1)

joined_sound : (f : PublicModule → List PackageFault) (ms : List PublicModule) → list_all (sound f) ms ≡ true → flat_map f ms ≡ []
joined_sound f [] e = refl
joined_sound f (m ∷ ms) e =
    ap (λ rs. rs ++ flat_map f ms) (test_empty (f m) (and_parts (sound f m) (list_all (sound f) ms) e).0)
    ∙ joined_sound f ms (and_parts (sound f m) (list_all (sound f) ms) e).1

first_sound : (f : PublicModule → List PackageFault) (ms : List PublicModule) → list_all (sound f) ms ≡ true → first_list (map f ms) ≡ []
first_sound f [] e = refl
first_sound f (m ∷ ms) e =
    ap (λ rs. first_list (rs ∷ map f ms)) (test_empty (f m) (and_parts (sound f m) (list_all (sound f) ms) e).0)
    ∙ first_sound f ms (and_parts (sound f m) (list_all (sound f) ms) e).1

all_sound : (first : Bool) (graph : ModuleGraph) (root : RootSymbol) (ms : List PublicModule) → package_faults first graph root ms ≡ [] →
    list_all (is_sound first graph root) ms ≡ true
all_sound false graph root ms e = sound_joined (module_faults false graph root) ms e
all_sound true graph root ms e = sound_first (module_faults true graph root) ms e

none_faulty : (first : Bool) (graph : ModuleGraph) (root : RootSymbol) (ms : List PublicModule) →
    list_all (is_sound first graph root) ms ≡ true →
    package_faults first graph root ms ≡ []
none_faulty false graph root ms e = joined_sound (module_faults false graph root) ms e
none_faulty true graph root ms e = first_sound (module_faults true graph root) ms e

not_all : (first : Bool) (graph : ModuleGraph) (root : RootSymbol) (ms : List PublicModule) (b : Bool) →
    list_all (is_sound first graph root) ms ≡ b →
    package_faults first graph root ms ≢ [] → list_all (is_sound first graph root) ms ≡ false
not_all first graph root ms true e some = absurd (some (none_faulty first graph root ms e))
not_all first graph root ms false e some = e

-- ---- the modules before the first with something wrong

pub front_all : (first : Bool) (graph : ModuleGraph) (root : RootSymbol) (ms : List PublicModule) →
    package_faults first graph root ms ≡ [] →
    sound_front first graph root ms ≡ ms
front_all first graph root ms e = while_all (is_sound first graph root) ms (all_sound first graph root ms e)

pub front_more : (first : Bool) (graph : ModuleGraph) (root : RootSymbol) (ms : List PublicModule) (m : PublicModule) →
    package_faults first graph root ms ≡ [] → module_faults first graph root m ≡ [] →
    sound_front first graph root (ms ++ m ∷ []) ≡ ms ++ m ∷ []
front_more first graph root ms m e h =
    let p = is_sound first graph root in
    while_front p ms (m ∷ []) (all_sound first graph root ms e)
    ∙ ap (λ zs. ms ++ zs) (while_true p m [] (empty_test (module_faults first graph root m) h))

pub front_last : (first : Bool) (graph : ModuleGraph) (root : RootSymbol) (ms : List PublicModule) (m : PublicModule) →
    package_faults first graph root ms ≡ [] → module_faults first graph root m ≢ [] → sound_front first graph root (ms ++ m ∷ []) ≡ ms
front_last first graph root ms m e h =
    let p = is_sound first graph root in
    while_front p ms (m ∷ []) (all_sound first graph root ms e)
    ∙ (ap (λ zs. ms ++ zs) (while_false p m [] (full_test (module_faults first graph root m) h)) ∙ append-nil ms)

pub front_stop : (first : Bool) (graph : ModuleGraph) (root : RootSymbol) (ms more : List PublicModule) →
    package_faults first graph root ms ≢ [] →
    sound_front first graph root (ms ++ more) ≡ sound_front first graph root ms
front_stop first graph root ms more some =
    let p = is_sound first graph root in
    while_stop p ms more (not_all first graph root ms (list_all p ms) refl some)
