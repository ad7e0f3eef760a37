-- What of a demand in both namespaces is new is asked for in each of them.
use Rattle.std.proofs.Common.{◌≡◌, ◌∙◌, sym, ap, refl, subst, Bool, true, false, cond, ◌||◌, List, [], ◌∷◌, Option, Some, None, ◌⊎◌, inl, inr, ⊎_elim}
use Rattle.std.specs.List.{list_any, Contains}
use Rattle.std.proofs.lemmas.Bool.{false≢true, cases_Bool, or_left}
use Rattle.fast_check_tables_symbols.specs.declared.symbol_id.SymbolId.{SymbolId}
use Rattle.fast_check_finder_demands.specs.declared.symbol_demands.demand.Namespaces.{Namespaces}
use Rattle.fast_check_finder_demands.specs.declared.symbol_demands.demand.Namespaces.TheVariants.{Value, Type_}
use Rattle.fast_check_finder_demands.specs.symbol_demands.Demands.{Demand, Asked, by_reference, as_child, by_path}
use Rattle.fast_check_finder_demands.specs.Account.{alike, essence, referred, same, asker, is_both, asked_within, narrowed, parts}
use Rattle.fast_check_finder_demands.proofs.asked.Maps.{none_in, first_in, rest_in, split_in}
use Rattle.fast_check_finder_demands.proofs.Elements.{in_any}
use Rattle.fast_check_finder_loop.specs.Asked.{covers, IsOneMore, AddsSymbol, IsNew, AddsDemand}
use Rattle.fast_check_finder_loop.proofs.Lists.{any_more}
use Rattle.fast_check_finder_loop.proofs.Same.{alike_itself}

-- what asks for the same thing
asker_twice : (a : Asked) (s r : SymbolId) → asker a s (asker a s r) ≡ asker a s r
asker_twice (by_reference n) s r = refl
asker_twice (as_child n) s r = refl
asker_twice (by_path p x) s r = refl

essence_twice : (d : Demand) → essence (essence d) ≡ essence d
essence_twice d = ap (λ r. record { symbol = d.symbol; asked = d.asked; referrer = r }) (asker_twice d.asked d.symbol d.referrer)

pub covers_essence : (d e : Demand) → covers d (essence e) ≡ covers d e
covers_essence d e = ap (λ (x : Demand). same (essence d) x || same (essence (referred d)) x) (essence_twice e)

pub covers_itself : (d : Demand) → covers d d ≡ true
covers_itself d = or_left (alike d d) (alike (referred d) d) (alike_itself d)

-- the parts of a demand

one_in : (x y : Demand) → Contains (x ∷ []) y → x ≡ y
one_in x y c = ⊎_elim (λ e. e) (λ r. absurd (none_in y r)) (split_in x y [] c)

value_alone : (a : Asked) → is_both (asked_within Value a) ≡ false
value_alone (by_reference m) = refl
value_alone (as_child m) = refl
value_alone (by_path p x) = refl

type_alone : (a : Asked) → is_both (asked_within Type_ a) ≡ false
type_alone (by_reference m) = refl
type_alone (as_child m) = refl
type_alone (by_path p x) = refl

single_parts : (d : Demand) → is_both d.asked ≡ false → parts d ≡ d ∷ []
single_parts d h = ap (λ (b : Bool). cond b (narrowed Value d ∷ narrowed Type_ d ∷ []) (d ∷ [])) h

both_parts : (d : Demand) → is_both d.asked ≡ true → parts d ≡ narrowed Value d ∷ narrowed Type_ d ∷ []
both_parts d h = ap (λ (b : Bool). cond b (narrowed Value d ∷ narrowed Type_ d ∷ []) (d ∷ [])) h

single_part : (d x : Demand) → is_both d.asked ≡ false → Contains (parts d) x → d ≡ x
single_part d x h c = one_in d x (subst (λ (ps : List Demand). Contains ps x) (single_parts d h) c)

-- each of them is alone
part_single : (d x : Demand) → Contains (parts d) x → is_both x.asked ≡ false
part_single d x c =
    ⊎_elim
    (λ t. ⊎_elim (λ e. subst (λ (y : Demand). is_both y.asked ≡ false) e (value_alone d.asked))
    (λ r. subst (λ (y : Demand). is_both y.asked ≡ false) (one_in (narrowed Type_ d) x r) (type_alone d.asked))
    (split_in (narrowed Value d) x (narrowed Type_ d ∷ []) (subst (λ (ps : List Demand). Contains ps x) (both_parts d t) c)))
    (λ f. subst (λ (y : Demand). is_both y.asked ≡ false) (single_part d x f c) f)
    (cases_Bool (is_both d.asked))

pub part_of_part : (d e x : Demand) → Contains (parts d) e → Contains (parts e) x → Contains (parts d) x
part_of_part d e x c h = subst (Contains (parts d)) (single_part e x (part_single d e c) h) c

pub part_within : (d e x : Demand) → (e ≡ d) ⊎ Contains (parts d) e → Contains (parts e) x → Contains (parts d) x
part_within d e x w h = ⊎_elim (λ same. subst (λ (y : Demand). Contains (parts y) x) same h) (λ c. part_of_part d e x c h) w

-- and there is one
pub some_part : (d : Demand) → (x : Demand) × Contains (parts d) x
some_part d = ⊎_elim
    (λ t. (
      narrowed Value d,
      subst (λ (ps : List Demand). Contains ps (narrowed Value d)) (sym (both_parts d t))
          (first_in (narrowed Value d) (narrowed Type_ d ∷ [])),
    ))
    (λ f. (d, subst (λ (ps : List Demand). Contains ps d) (sym (single_parts d f)) (first_in d [])))
    (cases_Bool (is_both d.asked))

-- what is asked for anew

one_now : (d : Demand) (old new : List Demand) → IsOneMore d old new → list_any (covers d) new ≡ true
one_now d old new w = in_any (covers d) new (essence d) w.here (covers_essence d d ∙ covers_itself d)

lacked : (d : Demand) (old new : List Demand) → ((x : Demand) → Contains old x → Contains new x) → list_any (covers d) new ≡ false →
    list_any (covers d) old ≡ false
lacked d old new kept h = ⊎_elim (λ t. absurd (false≢true (sym h ∙ any_more (covers d) old new kept t))) (λ f. f)
    (cases_Bool (list_any (covers d) old))

single_new : (d : Demand) (old new : List Demand) → is_both d.asked ≡ false → IsOneMore d old new → IsNew d d old new
single_new d old new h w = record {
  within = inl refl;
  was = λ x c. subst (λ (y : Demand). list_any (covers y) old ≡ false) (single_part d x h c) w.was;
  now = λ x c. subst (λ (y : Demand). list_any (covers y) new ≡ true) (single_part d x h c) (one_now d old new w);
  kept = w.kept;
  only = λ x c. ⊎_elim (λ o. inl o) (λ e. inr (d, subst (λ (ps : List Demand). Contains ps d) (sym (single_parts d h)) (first_in d []), e))
      (w.only x c);
}

pub adds_single : (d : Demand) (is_new : Bool) (old new : List Demand) → is_both d.asked ≡ false → AddsSymbol d is_new old new →
    AddsDemand d (cond is_new (Some d) None) old new
adds_single d true old new h w = single_new d old new h w
adds_single d false old new h w = (λ x c. subst (λ (y : Demand). list_any (covers y) old ≡ true) (single_part d x h c) w.0, w.1)

-- what of both is new
abbrev pub both_new : Demand → Bool → Bool → Option Demand
both_new d true true = Some d
both_new d true false = Some (narrowed Value d)
both_new d false true = Some (narrowed Type_ d)
both_new d false false = None

module _ (d : Demand) (h : is_both d.asked ≡ true) where
  abbrev v : Demand
  v = narrowed Value d

  abbrev t : Demand
  t = narrowed Type_ d

  -- what holds of both holds of each part
  each_part : (P : Demand → Type 0) → P v → P t → (x : Demand) → Contains (parts d) x → P x
  each_part P p q x c = ⊎_elim (λ e. subst P e p) (λ r. subst P (one_in t x r) q)
      (split_in v x (t ∷ []) (subst (λ (ps : List Demand). Contains ps x) (both_parts d h) c))

  v_in : Contains (parts d) v
  v_in = subst (λ (ps : List Demand). Contains ps v) (sym (both_parts d h)) (first_in v (t ∷ []))

  t_in : Contains (parts d) t
  t_in = subst (λ (ps : List Demand). Contains ps t) (sym (both_parts d h)) (rest_in v t (t ∷ []) (first_in t []))

  one_of_both : (n : Namespaces) (old new : List Demand) → Contains (parts d) (narrowed n d) → is_both (asked_within n d.asked) ≡ false →
      IsOneMore (narrowed n d) old new → list_any (covers v) new ≡ true → list_any (covers t) new ≡ true →
      IsNew d (narrowed n d) old new
  one_of_both n old new c alone w p q =
      let s = single_new (narrowed n d) old new alone w in
      record {
        within = inr c;
        was = s.was;
        now = each_part (λ (x : Demand). list_any (covers x) new ≡ true) p q;
        kept = s.kept;
        only = s.only;
      }

  pub adds_both : (a b : Bool) (old mid new : List Demand) → AddsSymbol v a old mid → AddsSymbol t b mid new → AddsDemand d (both_new d a b) old new
  adds_both true true old mid new f g = record {
    within = inl refl;
    was = each_part (λ (x : Demand). list_any (covers x) old ≡ false) f.was (lacked t old mid f.kept g.was);
    now = each_part (λ (x : Demand). list_any (covers x) new ≡ true) (any_more (covers v) mid new g.kept (one_now v old mid f)) (one_now t mid new g);
    kept = λ x c. g.kept x (f.kept x c);
    only = λ x c. ⊎_elim (λ m. ⊎_elim (λ o. inl o) (λ e. inr (v, v_in, e)) (f.only x m)) (λ e. inr (t, t_in, e)) (g.only x c);
  }
  adds_both true false old mid new f g = subst (λ (xs : List Demand). IsNew d v old xs) (sym g.1)
      (one_of_both Value old mid v_in (value_alone d.asked) f (one_now v old mid f) g.0)
  adds_both false true old mid new f g =
      let w = subst (λ (xs : List Demand). IsOneMore t xs new) f.1 g in
      one_of_both Type_ old new t_in (type_alone d.asked) w (any_more (covers v) old new w.kept f.0) (one_now t old new w)
  adds_both false false old mid new f g = (
    each_part (λ (x : Demand). list_any (covers x) old ≡ true) f.0 (subst (λ (xs : List Demand). list_any (covers t) xs ≡ true) f.1 g.0),
    g.1 ∙ f.1,
  )
