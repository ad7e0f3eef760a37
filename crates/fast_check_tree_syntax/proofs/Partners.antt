-- Both ways to write a partner keep 0, and numbers apart; and they agree exactly on partners.
use Rattle.std.specs.Prelude.{◌≡◌, ℕ, ◌+◌, ◌*◌, Bool, true, false, eqb, [], ◌∷◌, refl, ◌⊎◌}
use Rattle.std.proofs.Common.{ap, ◌∙◌, arith, inl, inr, subst, eqb-true, eq-eqb, true≢false}
use Rattle.fast_check_tree_syntax.specs.Moves.{Keeps, Pairs, IsPair, partner, Renaming, partners, twice, OneToOne, IsRenaming}

pub twice-keeps : Keeps twice
twice-keeps = record { start_zero = refl; end_zero = refl; scope_zero = refl; scopes_apart = λ a b e. omega arith }

-- a number has a partner, or is written as an odd number
abbrev Known : Pairs → ℕ → Type 0
Known ps a = (b : ℕ) × IsPair ps a b × (partner ps a ≡ 2 * b)

first : (p : ℕ × ℕ) (ps : Pairs) (a : ℕ) (t : Bool) → eqb p.0 a ≡ t → Known ps a ⊎ (partner ps a ≡ 2 * a + 1) →
    Known (p ∷ ps) a ⊎ (partner (p ∷ ps) a ≡ 2 * a + 1)
first p ps a true e k = inl (p.1, inl (eqb-true p.0 a e, refl), rw e refl)
first p ps a false e (inl (b, h, q)) = inl (b, inr h, rw e q)
first p ps a false e (inr q) = inr (rw e q)

known_or_odd : (ps : Pairs) (a : ℕ) → Known ps a ⊎ (partner ps a ≡ 2 * a + 1)
known_or_odd [] a = inr refl
known_or_odd (p ∷ ps) a = first p ps a (eqb p.0 a) refl (known_or_odd ps a)

first_known : (p : ℕ × ℕ) (ps : Pairs) (a : ℕ) (t : Bool) → eqb p.0 a ≡ t → (t ≡ false → Known ps a) → Known (p ∷ ps) a
first_known p ps a true e k = (p.1, inl (eqb-true p.0 a e, refl), rw e refl)
first_known p ps a false e k = let r : Known ps a = k refl in (r.0, inr r.1, rw e r.2)

known : (ps : Pairs) (a b : ℕ) → IsPair ps a b → Known ps a
known [] a b h = absurd h
known (p ∷ ps) a b (inl h) = first_known p ps a true (eq-eqb p.0 a h.0) (λ e. absurd (true≢false e))
known (p ∷ ps) a b (inr h) = first_known p ps a (eqb p.0 a) refl (λ e. known ps a b h)

module _ (ps : Pairs) (ok : OneToOne ps) where
  -- the number that is written says the partner
  pub to_partner : (a b : ℕ) → IsPair ps a b → partner ps a ≡ 2 * b
  to_partner a b h =
      let k = known ps a b h in
      k.2 ∙ ap (λ x. 2 * x) ((ok.same a a k.0 b k.1 h).0 refl)

  pub from_partner : (a b : ℕ) → partner ps a ≡ 2 * b → IsPair ps a b
  from_partner a b e = go (known_or_odd ps a)
    where
      go : Known ps a ⊎ (partner ps a ≡ 2 * a + 1) → IsPair ps a b
      go (inl k) = let q : k.0 ≡ b = omega (arith, k.2) in subst (IsPair ps a) q k.1
      go (inr o) = absurd (omega arith)

  pub partner-zero : partner ps 0 ≡ 0
  partner-zero = to_partner 0 0 ok.zero

  pub partner-apart : (a b : ℕ) → partner ps a ≡ partner ps b → a ≡ b
  partner-apart a b e = go (known_or_odd ps a) (known_or_odd ps b)
    where
      go : Known ps a ⊎ (partner ps a ≡ 2 * a + 1) → Known ps b ⊎ (partner ps b ≡ 2 * b + 1) → a ≡ b
      go (inl k) (inl l) = (ok.same a b k.0 l.0 k.1 l.1).1 (omega (arith, k.2, l.2))
      go (inl k) (inr l) = absurd (omega (arith, k.2))
      go (inr k) (inl l) = absurd (omega (arith, l.2))
      go (inr k) (inr l) = omega arith

pub partners-keep : (r : Renaming) → IsRenaming r → Keeps (partners r)
partners-keep r ok = record {
  start_zero = partner-zero r.starts ok.starts;
  end_zero = partner-zero r.ends ok.ends;
  scope_zero = partner-zero r.scopes ok.scopes;
  scopes_apart = partner-apart r.scopes ok.scopes;
}
