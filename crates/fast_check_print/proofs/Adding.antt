-- What is written in several steps.
use Rattle.std.proofs.Common.{◌≡◌, List, [], ◌∷◌, ◌++◌, Result, Ok, OnOk, sym, ap, ◌∙◌, subst, append_assoc}
use Rattle.std.proofs.lemmas.Result.{on_ok_weaker}
use Rattle.json.specs.Token.{Token}
use Rattle.json.specs.Written.{Written, Writes}
use Rattle.fast_check_print.specs.Writing.{Adds}

-- one token
pub adds-token : {E : Type 0} (r : Result (Unit {0}) E) (old new : Written) (t : Token) → Writes r old new t →
    OnOk r (Adds (t ∷ []) old new)
adds-token r old new t w = on_ok_weaker r (λ e. record { before = w.room.0; tokens_now = e }) w.ok

-- some tokens, and then others
pub adds-then : (ts us : List Token) (a b c : Written) → Adds ts a b → Adds us b c → Adds (ts ++ us) a c
adds-then ts us a b c first second = record {
  before = second.before ∙ first.before;
  tokens_now = second.tokens_now ∙ ap (λ xs. xs ++ us) first.tokens_now ∙ append_assoc a.tokens ts us;
}

pub adds-last : {E : Type 0} (r : Result (Unit {0}) E) (ts us : List Token) (a b c : Written) → Adds ts a b → OnOk r (Adds us b c) →
    OnOk r (Adds (ts ++ us) a c)
adds-last r ts us a b c first last = on_ok_weaker r (adds-then ts us a b c first) last

-- where a call went well
pub adds-ok : {E : Type 0} (r : Result (Unit {0}) E) (x : Unit {0}) (ts : List Token) (a b : Written) → r ≡ Ok x → OnOk r (Adds ts a b) →
    Adds ts a b
adds-ok r x ts a b e h = subst (λ r. OnOk r (Adds ts a b)) e h

pub adds-token_ok : {E : Type 0} (r : Result (Unit {0}) E) (x : Unit {0}) (old new : Written) (t : Token) → r ≡ Ok x → Writes r old new t →
    Adds (t ∷ []) old new
adds-token_ok r x old new t e w = adds-ok r x (t ∷ []) old new e (adds-token r old new t w)

-- after the old tokens, the rest still has to come for the whole to stand there
pub record Remains (whole : List Token) (old now : Written) (rest : List Token) : Type 0 where
  pub before : now.before ≡ old.before
  pub tokens_whole : old.tokens ++ whole ≡ now.tokens ++ rest

pub remains-first : (ts rest : List Token) (old now : Written) → Adds ts old now → Remains (ts ++ rest) old now rest
remains-first ts rest old now h =
    record { before = h.before; tokens_whole = sym (ap (λ xs. xs ++ rest) h.tokens_now ∙ append_assoc old.tokens ts rest) }

pub remains-next : (whole ts rest : List Token) (old a b : Written) → Remains whole old a (ts ++ rest) → Adds ts a b →
    Remains whole old b rest
remains-next whole ts rest old a b h step = record {
  before = step.before ∙ h.before;
  tokens_whole = h.tokens_whole ∙ sym (ap (λ xs. xs ++ rest) step.tokens_now ∙ append_assoc a.tokens ts rest);
}
