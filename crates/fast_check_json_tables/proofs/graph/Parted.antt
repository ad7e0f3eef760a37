-- Texts that are parted at the last `@`, as `rsplit_once` parts them.
use Rattle.std.proofs.Common.{◌≡◌, ◌≢◌, ◌∙◌, sym, ap, refl, ℕ, ◌<◌, ◌==◌, suc, List, [], ◌∷◌, ◌++◌, length, get_or, take, drop, Option}
use Rattle.std.proofs.Common.{Some, None, option_map, arith, if◌then◌else◌, lit<}
use Rattle.std.proofs.Math.ListN.{take-append-drop}
use Rattle.std.proofs.lemmas.Bool.{ne_eqb}
use Rattle.std.proofs.lemmas.Str.Pattern.{NoCharPasses-char, drop_at_char}
use Rattle.std.specs.Prelude.{MatchOption}
use Rattle.std.specs.Borrow.{Bor}
use Rattle.std.specs.Option.{option_or}
use Rattle.std.specs.Str.Pattern.{RFindsChar, SplitsAroundMatch}
use Rattle.fast_check_json_tables.specs.graph.Graph.{parted}

-- a text has no `@`
abbrev LacksAt : List ℕ → Type 0
LacksAt text = (k : ℕ) → k < length text → get_or text k 0 ≢ 64

parted_none : (text : List ℕ) → LacksAt text → parted text ≡ None
parted_none [] h = refl
parted_none (c ∷ text) h =
    ap (λ o. option_or (option_map (λ p. (c ∷ p.0, p.1)) o) (if c == 64 then Some ([], text) else None))
    (parted_none text (λ k l. h (suc k) (omega arith)))
    ∙ ap (λ b. if b then Some ([], text) else None) (ne_eqb c 64 (h 0 (omega arith)))

parted_last : (front back : List ℕ) → LacksAt back → parted (front ++ 64 ∷ back) ≡ Some (front, back)
parted_last [] back h = ap (λ o. option_or (option_map (λ p. (64 ∷ p.0, p.1)) o) (Some ([], back))) (parted_none back h)
parted_last (c ∷ front) back h =
    ap (λ o. option_or (option_map (λ p. (c ∷ p.0, p.1)) o) (if c == 64 then Some ([], front ++ 64 ∷ back) else None))
    (parted_last front back h)

pub parted_once : (text : List ℕ) (r : Option (Bor (List ℕ) × Bor (List ℕ)))
    → MatchOption r (RFindsChar 64 text None) (λ x. SplitsAroundMatch (RFindsChar 64) text x.0.now x.1.now)
    → parted text ≡ option_map (λ x. (x.0.now, x.1.now)) r
parted_once text None h = parted_none text (λ k l. NoCharPasses-char 64 text k h (lit< tt) l)
parted_once text (Some x) h =
    let i = h.0 in
    let j = h.1 in
    let whole : text ≡ take i text ++ 64 ∷ drop j text =
    sym (take-append-drop i text) ∙ ap (λ rest. take i text ++ rest) (drop_at_char 64 text i j h.2.1 (lit< tt)) in
    ap parted whole
    ∙ (parted_last (take i text) (drop j text) (λ k l. NoCharPasses-char 64 (drop j text) k h.2.0 (lit< tt) l)
    ∙ sym (λ t. Some (h.3 t, h.4 t)))
