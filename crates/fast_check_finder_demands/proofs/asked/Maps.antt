-- Look-ups and members of maps, after an entry was added or changed.
use Rattle.std.proofs.Common.{◌≡◌, ◌∙◌, sym, ap, refl, subst, Bool, true, false, cond, List, [], ◌∷◌, ◌++◌, Option, Some, None, ◌⊎◌, ⊎_elim}
use Rattle.std.specs.Map.{lookup, set_value}
use Rattle.std.specs.List.{Contains}
use Rattle.std.proofs.lemmas.Bool.{cases_Bool}
use Rattle.std.proofs.lemmas.Option.{none-some}
pub use Rattle.std.proofs.lemmas.Option.{same_Some as some_is}
pub use Rattle.fast_check_tables_symbols.proofs.Witness.{first_of as first_in, later_of as rest_in}
use Rattle.fast_check_finder_demands.proofs.Elements.{cases}
pub use Rattle.fast_check_finder_demands.proofs.Elements.{no_element as none_in, only as only_in}

pub look_same : {K X : Type 0} (test : K → Bool) (es : List (K × X)) (v w : X) → lookup test es ≡ Some v →
    lookup test (set_value test es w) ≡ Some w
look_same test [] v w h = absurd (none-some v h)
look_same {K} {X} test (e ∷ es) v w h =
    ⊎_elim
    (λ t. ap (λ (b : Bool). lookup test (cond b ((e.0, w) ∷ es) (e ∷ set_value test es w))) t ∙
    ap (λ (b : Bool). cond b (Some w) (lookup test es)) t)
    (λ f.
    ap (λ (b : Bool). lookup test (cond b ((e.0, w) ∷ es) (e ∷ set_value test es w))) f
    ∙ (ap (λ (b : Bool). cond b (Some e.1) (lookup test (set_value test es w))) f ∙ look_same test es v w
    (sym (ap (λ (b : Bool). cond b (Some e.1) (lookup test es)) f) ∙ h)))
    (cases_Bool (test e.0))

pub look_other : {K X : Type 0} (test other : K → Bool) (es : List (K × X)) (w : X) → ((k : K) → test k ≡ true → other k ≡ false) →
    lookup other
    (set_value test es w) ≡ lookup other es
look_other test other [] w h = refl
look_other {K} {X} test other (e ∷ es) w h =
    ⊎_elim
    (λ t.
    ap (λ (b : Bool). lookup other (cond b ((e.0, w) ∷ es) (e ∷ set_value test es w))) t
    ∙ (ap (λ (b : Bool). cond b (Some w) (lookup other es)) (h e.0 t) ∙
    sym (ap (λ (b : Bool). cond b (Some e.1) (lookup other es)) (h e.0 t))))
    (λ f.
    ap (λ (b : Bool). lookup other (cond b ((e.0, w) ∷ es) (e ∷ set_value test es w))) f
    ∙ ap (λ (o : Option X). cond (other e.0) (Some e.1) o) (look_other test other es w h))
    (cases_Bool (test e.0))

pub look_last : {K X : Type 0} (test : K → Bool) (es : List (K × X)) (k : K) (x : X) → lookup test es ≡ None → test k ≡ true → lookup test
    (es ++ (k, x) ∷ []) ≡ Some x
look_last test [] k x h t = ap (λ (b : Bool). cond b (Some x) None) t
look_last {K} {X} test (e ∷ es) k x h t =
    ⊎_elim
    (λ s. absurd (none-some e.1 (sym h ∙ ap (λ (b : Bool). cond b (Some e.1) (lookup test es)) s)))
    (λ f. ap (λ (b : Bool). cond b (Some e.1) (lookup test (es ++ (k, x) ∷ []))) f ∙ look_last test es k x
    (sym (ap (λ (b : Bool). cond b (Some e.1) (lookup test es)) f) ∙ h) t)
    (cases_Bool (test e.0))

pub look_before : {K X : Type 0} (test : K → Bool) (es : List (K × X)) (k : K) (x : X) → test k ≡ false →
    lookup test (es ++ (k, x) ∷ []) ≡ lookup test es
look_before test [] k x f = ap (λ (b : Bool). cond b (Some x) None) f
look_before {K} {X} test (e ∷ es) k x f = ap (λ (o : Option X). cond (test e.0) (Some e.1) o) (look_before test es k x f)

pub split_in : {X : Type 0} (y x : X) (xs : List X) → Contains (y ∷ xs) x → (y ≡ x) ⊎ Contains xs x
split_in y x xs c = cases y xs x c

-- what was found is an entry
pub found_in : {K X : Type 0} (test : K → Bool) (es : List (K × X)) (v : X) → lookup test es ≡ Some v → (k : K) × Contains es (k, v) ×
    (test k ≡ true)
found_in test [] v h = absurd (none-some v h)
found_in {K} {X} test (e ∷ es) v h =
    ⊎_elim
    (λ t.
    let is : e.1 ≡ v = some_is e.1 v (sym (ap (λ (b : Bool). cond b (Some e.1) (lookup test es)) t) ∙ h) in
    (e.0, subst (λ (x : X). Contains (e ∷ es) (e.0, x)) is (first_in e es), t))
    (λ f.
    let r = found_in test es v (sym (ap (λ (b : Bool). cond b (Some e.1) (lookup test es)) f) ∙ h) in
    (r.0, rest_in e (r.0, v) es r.1, r.2))
    (cases_Bool (test e.0))
