-- What is passed in several steps.
use Rattle.std.proofs.Common.{◌≡◌, ℕ, List, [], ◌∷◌, refl, ◌∙◌, subst, inl, inr, length, codes}
use Rattle.fast_check_syntax_table.specs.Spelled.{Syntax, Nothing, Then, Either, Spelled, token}
use Rattle.fast_check_syntax_table.specs.Written.{export}
use Rattle.fast_check_syntax_written.specs.declared.place.Walk.{Walk}
use Rattle.fast_check_syntax_written.specs.Passes.{Passes}

pub passes_none : (a : Walk) → Passes Nothing a a
passes_none a = (refl, refl)

pub passes_then : (x y : Syntax) (a m b : Walk) → Passes x a m → Passes y m b → Passes (Then x y) a b
passes_then x y a m b first second = (
  second.0 ∙ first.0,
  (m.end, (first.1, subst (λ (s : _). Spelled s.text.now y m.end b.end) first.0 second.1)),
)

pub passes_one : (x y : Syntax) (a b : Walk) → Passes x a b → Passes (Either x y) a b
passes_one x y a b h = (h.0, inl h.1)

pub passes_other : (x y : Syntax) (a b : Walk) → Passes y a b → Passes (Either x y) a b
passes_other x y a b h = (h.0, inr h.1)

pub passes_same : (x y : Syntax) (a b : Walk) → x ≡ y → Passes x a b → Passes y a b
passes_same x y a b e h = subst (λ (s : Syntax). Passes s a b) e h

-- the rest still has to be passed for the whole to be
abbrev pub Remains : Syntax → Walk → Walk → Syntax → Type 0
Remains whole old now rest = (b : Walk) → Passes rest now b → Passes whole old b

pub remains_first : (x : Syntax) (a : Walk) → Remains x a a x
remains_first x a b h = h

pub remains_next : (whole x rest : Syntax) (old a m : Walk) → Remains whole old a (Then x rest) → Passes x a m → Remains whole old m rest
remains_next whole x rest old a m h step b last = h b (passes_then x rest a m b step last)

pub remains_same : (whole x y : Syntax) (old a : Walk) → x ≡ y → Remains whole old a x → Remains whole old a y
remains_same whole x y old a e h = subst (λ (s : Syntax). Remains whole old a s) e h

pub remains_last : (whole : Syntax) (old now : Walk) → Remains whole old now Nothing → Passes whole old now
remains_last whole old now h = h now (passes_none now)

pub export_some : (s : List ℕ) → (length s ≡ 0 → ⊥) → export s ≡ Then (token (codes "export")) (token s)
export_some [] some = absurd (some refl)
export_some (b ∷ s) some = refl
