-- The places of aliases, as they are noted.
use Rattle.std.proofs.Common.{◌≡◌, ◌∙◌, sym, ap, refl, subst, ⊎_elim, ℕ, ◌+◌, ◌<◌, ◌≤◌, ◌==◌, Bool, true, false, cond}
use Rattle.std.proofs.Common.{List, [], ◌∷◌, ◌++◌, map, length, get_or, take, Option, Some, None, arith, string_bytes, String}
use Rattle.std.specs.Prelude.{◌≢◌, is_some, option_to_list, IsTrue}
use Rattle.std.specs.List.{Contains, list_any}
use Rattle.std.specs.BTreeMap.{is_at}
use Rattle.std.specs.BTreeSet.{BTreeSet, contains, Updates}
use Rattle.std.specs.Option.{option_and_then}
use Rattle.std.specs.Ordering.{nat_cmp, is_eq, ordering_then}
use Rattle.std.specs.String.{string_cmp}
use Rattle.std.specs.Cmp.Lexicographic.{slice_cmp, bytes_decides}
use Rattle.std.specs.declared.alloc.Global.{Global}
use Rattle.std.specs.declared.cmp.Ordering.{Ordering}
use Rattle.std.specs.declared.cmp.Ordering.TheVariants.{Less, Equal, Greater}
use Rattle.std.proofs.lemmas.Bool.{false≢true, eqb-true, and_parts}
use Rattle.std.proofs.lemmas.List.{take_all}
use Rattle.std.proofs.lemmas.List.Quantifiers.{all_pairs_push}
use Rattle.std.proofs.lemmas.List.Elements.{Contains-get_or, Contains-push, Contains-push_cases, Contains-append_left, Contains-append_cases}
use Rattle.std.proofs.lemmas.Map.Text.{is_eq-slice_cmp}
use Rattle.std.proofs.lemmas.Slice.Eq.{bytes_eq-Decides}
use Rattle.std.proofs.lemmas.Option.{slice_get-get_or}
use Rattle.fast_check_tree_syntax.specs.declared.atom.Id.{Id}
use Rattle.fast_check_tree_syntax.specs.contracts.atom.IdOrd.TheImpl as id_order
use Rattle.fast_check_tables_symbols.specs.declared.aliases.Alias.{Alias as Key}
use Rattle.fast_check_tables_symbols.specs.declared.aliases.Alias.TheVariants.{Symbol, Part, File, Export}
use Rattle.fast_check_tables_symbols.specs.declared.decl.SymbolDecl.{SymbolDecl}
use Rattle.fast_check_tables_symbols.specs.contracts.aliases.AliasOrd.TheImpl as order
use Rattle.fast_check_tables_symbols.specs.Tables.{same_id}
use Rattle.fast_check_tables_symbols.specs.Aliases.{Alias, symbol, part, file, export, alias_of, aliases, alias_at, IsAt, AreAliases}
use Rattle.fast_check_tables_symbols.specs.AliasKeys.{alias_seen, AreMet}
use Rattle.fast_check_tables_symbols.proofs.Alike.{ids_tie, same_id_equiv}
use Rattle.fast_check_tables_symbols.proofs.Pushed.{each_more}

-- keys that compare alike stand for one thing

then_parts : (a b : Ordering) → is_eq (ordering_then a b) ≡ true → (is_eq a ≡ true) × (is_eq b ≡ true)
then_parts Less b h = absurd (false≢true h)
then_parts Equal b h = (refl, h)
then_parts Greater b h = absurd (false≢true h)

one_text : (a b : List ℕ) → is_eq (slice_cmp nat_cmp a b) ≡ true → a ≡ b
one_text a b h = (bytes_decides a b).0 (sym (is_eq-slice_cmp a b) ∙ h)

pub joined : {X : Type 0} (x y : X) (xs ys : List X) → x ≡ y → xs ≡ ys → x ∷ xs ≡ y ∷ ys
joined x y xs ys e f = cc

one_path : (xs ys : List (String Global)) → is_eq (slice_cmp string_cmp xs ys) ≡ true → map string_bytes xs ≡ map string_bytes ys
one_path [] [] h = refl
one_path [] (y ∷ ys) h = absurd (false≢true h)
one_path (x ∷ xs) [] h = absurd (false≢true h)
one_path (x ∷ xs) (y ∷ ys) h =
    let t = then_parts (string_cmp x y) (slice_cmp string_cmp xs ys) h in
    joined (string_bytes x) (string_bytes y) (map string_bytes xs) (map string_bytes ys)
    (one_text (string_bytes x) (string_bytes y) t.0) (one_path xs ys t.1)

abbrev made : List ℕ → ℕ → Id
made text scope = record { 0 = text; 1 = record { 0 = scope } }

one_made : (a b : List ℕ) (n m : ℕ) → a ≡ b → n ≡ m → made a n ≡ made b m
one_made a b n m e f = cc

one_id : (a b : Id) → is_eq (id_order.cmp-value.it a b) ≡ true → a ≡ b
one_id a b h =
    let t = and_parts _ (a.1.0 == b.1.0) (ids_tie a b ∙ h) in
    one_made a.0 b.0 a.1.0 b.1.0 ((bytes_decides a.0 b.0).0 t.0) (eqb-true a.1.0 b.1.0 t.1)

both : {X Y Z : Type 0} (f : X → Y → Z) (a b : X) (c d : Y) → a ≡ b → c ≡ d → f a c ≡ f b d
both f a b c d e g = ap (λ x. f x c) e ∙ ap (f b) g

one_alias : (a b : Key) → is_eq (order.cmp-value.it a b) ≡ true → alias_seen a ≡ alias_seen b
one_alias (Symbol i) (Symbol j) h = ap symbol (one_id i.now j.now h)
one_alias (Symbol i) (Part j q) h = absurd (false≢true h)
one_alias (Symbol i) (File t) h = absurd (false≢true h)
one_alias (Symbol i) (Export t m) h = absurd (false≢true h)
one_alias (Part i p) (Symbol j) h = absurd (false≢true h)
one_alias (Part i p) (Part j q) h =
    let t = then_parts (id_order.cmp-value.it i.now j.now) (slice_cmp string_cmp p.now q.now) h in
    both part i.now j.now (map string_bytes p.now) (map string_bytes q.now) (one_id i.now j.now t.0) (one_path p.now q.now t.1)
one_alias (Part i p) (File t) h = absurd (false≢true h)
one_alias (Part i p) (Export t m) h = absurd (false≢true h)
one_alias (File s) (Symbol j) h = absurd (false≢true h)
one_alias (File s) (Part j q) h = absurd (false≢true h)
one_alias (File s) (File t) h = ap file (one_text s.now t.now h)
one_alias (File s) (Export t m) h = absurd (false≢true h)
one_alias (Export s n) (Symbol j) h = absurd (false≢true h)
one_alias (Export s n) (Part j q) h = absurd (false≢true h)
one_alias (Export s n) (File t) h = absurd (false≢true h)
one_alias (Export s n) (Export t m) h =
    let e = then_parts (slice_cmp nat_cmp s.now t.now) (slice_cmp nat_cmp n.now m.now) h in
    both export s.now t.now n.now m.now (one_text s.now t.now e.0) (one_text n.now m.now e.1)

-- and keys that stand for one thing compare alike

then_both : (a b : Ordering) → is_eq a ≡ true → is_eq b ≡ true → is_eq (ordering_then a b) ≡ true
then_both Less b h k = absurd (false≢true h)
then_both Equal b h k = k
then_both Greater b h k = absurd (false≢true h)

text_ties : (a b : List ℕ) → a ≡ b → is_eq (slice_cmp nat_cmp a b) ≡ true
text_ties a b e = is_eq-slice_cmp a b ∙ (bytes_eq-Decides a b).1 e

path_ties : (xs ys : List (String Global)) → map string_bytes xs ≡ map string_bytes ys → is_eq (slice_cmp string_cmp xs ys) ≡ true
path_ties [] [] e = refl
path_ties [] (y ∷ ys) e = cc
path_ties (x ∷ xs) [] e = cc
path_ties (x ∷ xs) (y ∷ ys) e =
    let first : string_bytes x ≡ string_bytes y = cc in
    let rest : map string_bytes xs ≡ map string_bytes ys = cc in
    then_both (string_cmp x y) (slice_cmp string_cmp xs ys) (text_ties (string_bytes x) (string_bytes y) first) (path_ties xs ys rest)

id_ties : (a b : Id) → a ≡ b → is_eq (id_order.cmp-value.it a b) ≡ true
id_ties a b e = sym (ids_tie a b) ∙ subst (λ i. same_id a i ≡ true) e (same_id_equiv.refl a)

alias_ties : (a b : Key) → alias_seen a ≡ alias_seen b → is_eq (order.cmp-value.it a b) ≡ true
alias_ties (Symbol i) (Symbol j) e = let same : i.now ≡ j.now = cc in id_ties i.now j.now same
alias_ties (Symbol i) (Part j q) e = cc
alias_ties (Symbol i) (File t) e = cc
alias_ties (Symbol i) (Export t m) e = cc
alias_ties (Part i p) (Symbol j) e = cc
alias_ties (Part i p) (Part j q) e =
    let same : i.now ≡ j.now = cc in
    let path : map string_bytes p.now ≡ map string_bytes q.now = cc in
    then_both (id_order.cmp-value.it i.now j.now) (slice_cmp string_cmp p.now q.now) (id_ties i.now j.now same) (path_ties p.now q.now path)
alias_ties (Part i p) (File t) e = cc
alias_ties (Part i p) (Export t m) e = cc
alias_ties (File s) (Symbol j) e = cc
alias_ties (File s) (Part j q) e = cc
alias_ties (File s) (File t) e = let same : s.now ≡ t.now = cc in text_ties s.now t.now same
alias_ties (File s) (Export t m) e = cc
alias_ties (Export s n) (Symbol j) e = cc
alias_ties (Export s n) (Part j q) e = cc
alias_ties (Export s n) (File t) e = cc
alias_ties (Export s n) (Export t m) e =
    let same : s.now ≡ t.now = cc in
    let name : n.now ≡ m.now = cc in
    then_both (slice_cmp nat_cmp s.now t.now) (slice_cmp nat_cmp n.now m.now) (text_ties s.now t.now same) (text_ties n.now m.now name)

-- one declaration more

module _ (decls : List SymbolDecl) (i : ℕ) (x : SymbolDecl) (lt : i < length decls) (read : x ≡ get_or decls i x) where
  stands : alias_at decls i ≡ alias_of x.kind
  stands = ap (option_and_then (λ d. alias_of d.kind)) (slice_get-get_or decls i x lt ∙ ap Some (sym read))

  -- what stands at places, or in the declaration
  found : (places more : List ℕ) → ((a : Alias) → Contains (aliases (take i decls)) a → IsAt decls places a)
      → ((a : Alias) → IsAt decls places a → IsAt decls more a) → ((a : Alias) → alias_of x.kind ≡ Some a → IsAt decls more a)
      → (a : Alias) → Contains (aliases (take (i + 1) decls)) a → IsAt decls more a
  found places more before kept own a c = ⊎_elim
      (λ early. kept a (before a early))
      (λ here. own a (only (alias_of x.kind) here))
      (Contains-append_cases (aliases (take i decls)) (option_to_list (alias_of x.kind)) a
      (subst (λ (xs : List Alias). Contains xs a)
      (sym (each_more (λ d. option_to_list (alias_of d.kind)) decls i x [] lt read refl refl)) c))
    where
      only : (o : Option Alias) → Contains (option_to_list o) a → o ≡ Some a
      only None h = absurd (omega (arith, h.1))
      only (Some b) h = ⊎_elim (λ none. absurd (omega (arith, none.1))) (λ e. ap Some e) (Contains-push_cases [] b a h)

  module _ (met : BTreeSet Key) (places : List ℕ) (so_far : AreMet decls i met places) where
    -- it is no alias
    pub noted_none : alias_of x.kind ≡ None → AreMet decls (i + 1) met places
    noted_none e = record {
      there = so_far.there;
      noted = so_far.noted;
      each = so_far.each;
      all = found places places so_far.all (λ a h. h) (λ a h. absurd (none_some a (sym e ∙ h)));
      once = so_far.once;
    }
      where
        none_some : (a : Alias) → None ≡ Some a → ⊥
        none_some a e = cc

    module _ (k : Key) (is : Some (alias_seen k) ≡ alias_of x.kind) where
      same : (a : Alias) → alias_of x.kind ≡ Some a → alias_seen k ≡ a
      same a h = cc

      -- what it stands for was met
      pub noted_before : (after : BTreeSet Key) → contains order.cmp-value.it met k ≡ true → after.keys ≡ met.keys →
          AreMet decls (i + 1) after places
      noted_before after h e = record {
        there = λ q t. so_far.there q (sym (ap (list_any (is_at (order.cmp-value.it q))) e) ∙ t);
        noted = λ q at. ap (list_any (is_at (order.cmp-value.it q))) e ∙ so_far.noted q at;
        each = so_far.each;
        once = so_far.once;
        all = found places places so_far.all (λ a at. at) (λ a at. subst (IsAt decls places) (same a at) (so_far.there k h));
      }

      kept : (a : Alias) → IsAt decls places a → IsAt decls (places ++ i ∷ []) a
      kept a at = (at.0, Contains-append_left places (i ∷ []) at.0 at.1, at.2)

      here : IsAt decls (places ++ i ∷ []) (alias_seen k)
      here = (i, Contains-push places i, stands ∙ sym is)

      -- it is new
      pub noted_new : (after : BTreeSet Key) (more : List ℕ) → contains order.cmp-value.it met k ≡ false →
          Updates order.cmp-value.it met after k true → more ≡ places ++ i ∷ [] → AreMet decls (i + 1) after more
      noted_new after more fresh u e = subst (AreMet decls (i + 1) after) (sym e) (record {
        there = λ q t. by q (is_at (order.cmp-value.it k) q) refl (sym (u.0 q) ∙ t);
        noted = λ q at. u.0 q ∙ ⊎_elim
            (λ early. ap (cond (is_at (order.cmp-value.it k) q) true) (so_far.noted q (at.0, early, at.2)) ∙ either (is_at (order.cmp-value.it k) q))
            (λ last. ap (λ b. cond b true (contains order.cmp-value.it met q)) (alias_ties k q (newest q at.0 last at.2)))
            (Contains-push_cases places i at.0 at.1);
        each = λ p c. ⊎_elim (so_far.each p)
            (λ e. subst (λ n. IsTrue (is_some (alias_at decls n))) e (ap is_some (stands ∙ sym is)))
            (Contains-push_cases places i p c);
        all = found places (places ++ i ∷ []) so_far.all kept (λ a at. subst (IsAt decls (places ++ i ∷ [])) (same a at) here);
        once = all_pairs_push (λ p q. alias_at decls p ≢ alias_at decls q) places i so_far.once (λ n d within alike. absurd (false≢true
            (sym fresh ∙ so_far.noted k (get_or places n d, Contains-get_or places n d within, alike ∙ (stands ∙ sym is)))));
      })
        where
          either : (b : Bool) → cond b true true ≡ true
          either true = refl
          either false = refl

          newest : (q : Key) (p : ℕ) → i ≡ p → alias_at decls p ≡ Some (alias_seen q) → alias_seen k ≡ alias_seen q
          newest q p e h =
              let both : Some (alias_seen k) ≡ Some (alias_seen q) = is ∙ sym stands ∙ ap (alias_at decls) e ∙ h in cc

          by : (q : Key) (b : Bool) → is_at (order.cmp-value.it k) q ≡ b → cond b true (contains order.cmp-value.it met q) ≡ true →
              IsAt decls (places ++ i ∷ []) (alias_seen q)
          by q true e h = subst (IsAt decls (places ++ i ∷ [])) (one_alias k q e) here
          by q false e h = kept (alias_seen q) (so_far.there q h)

-- before the first one, and behind the last
module _ (decls : List SymbolDecl) where
  pub met_none : (met : BTreeSet Key) (places : List ℕ) → ((k : Key) → contains order.cmp-value.it met k ≡ false) → places ≡ [] →
      AreMet decls 0 met places
  met_none met places none e = subst (AreMet decls 0 met) (sym e) (record {
    there = λ k h. absurd (false≢true (sym (none k) ∙ h));
    noted = λ k at. let c = at.1 in absurd (omega (arith, c.1));
    each = λ p c. absurd (omega (arith, c.1));
    all = λ a c. absurd (omega (arith, c.1));
    once = λ m n d lt within. absurd (omega (arith, within));
  })

  pub noted_all : (i : ℕ) (met : BTreeSet Key) (places : List ℕ) → length decls ≤ i → AreMet decls i met places → AreAliases decls places
  noted_all i met places le h = record {
    each = h.each;
    all = λ a c. h.all a (subst (λ (ds : List SymbolDecl). Contains (aliases ds) a) (sym (take_all i decls le)) c);
    once = h.once;
  }
