-- The test for a relative URL decides whether there is one.
use Rattle.std.specs.Prelude.{◌≡◌, ℕ, Bool, true, false, not, ◌&&◌, Option, Some, None, List, nat_eq, refl, if◌then◌else◌}
use Rattle.std.specs.Bool.{Decides}
use Rattle.std.specs.Option.{option_eq}
use Rattle.std.proofs.Common.{ap, ◌∙◌, sym}
use Rattle.std.proofs.lemmas.Bool.{false≢true}
use Rattle.std.proofs.lemmas.Bool.Decides.{Decides-eqb}
use Rattle.std.proofs.lemmas.Slice.Eq.{bytes_eq-Decides}
use Rattle.url.specs.Host.{host_text}
use Rattle.url.specs.Parts.{Parts, cannot_be_a_base, host_or_empty}
use Rattle.url.specs.Relative.{CanRelate, IsRelative, relative_text}
use Rattle.fast_check_transform_imports.specs.module_facts.Sources.{is_relatable, relative_url}

same_port : (a b : Option ℕ) → Decides (option_eq nat_eq a b) (a ≡ b)
same_port None None = (λ e. refl, λ e. refl)
same_port None (Some y) = (λ e. absurd (false≢true e), λ e. cc)
same_port (Some x) None = (λ e. absurd (false≢true e), λ e. cc)
same_port (Some x) (Some y) =
    let d = Decides-eqb x y in (λ e. ap Some (d.0 e), λ (e : Some x ≡ Some y). d.1 (let f : x ≡ y = cc in f))

both : {P Q : Type 0} (a b : Bool) → Decides a P → Decides b Q → Decides (a && b) (P × Q)
both true b p q = (λ e. (p.0 refl, q.0 e), λ h. q.1 h.1)
both false b p q = (λ e. absurd (false≢true e), λ h. absurd (false≢true (p.1 h.0)))

three : {P Q R : Type 0} (a b c : Bool) → Decides a P → Decides b Q → Decides c R → Decides (a && (b && c)) (P × Q × R)
three a b c p q r =
    let d = both a (b && c) p (both b c q r) in (λ e. let h = d.0 e in (h.0, h.1.0, h.1.1), λ h. d.1 (h.0, (h.1, h.2)))

no_base : (b : Bool) → Decides (not b) (b ≡ false)
no_base true = (λ e. absurd (false≢true e), λ e. absurd (false≢true (sym e)))
no_base false = (λ e. refl, λ e. refl)

relates : (base url : Parts) → Decides (is_relatable base url) (CanRelate base url)
relates base url =
    both _ _ (no_base (cannot_be_a_base base))
    (three _ _ _ (bytes_eq-Decides base.scheme url.scheme)
    (bytes_eq-Decides (host_text (host_or_empty base)) (host_text (host_or_empty url)))
    (same_port base.port url.port))

module _ (base url : Parts) where
  abbrev url_if : Bool → Option (List ℕ)
  url_if b = if b then Some (relative_text base url) else None

  not_related : (b : Bool) → Decides b (CanRelate base url) → (CanRelate base url → ⊥) → None ≡ url_if b
  not_related true d n = absurd (n (d.0 refl))
  not_related false d n = refl

  pub relative_is : (r : Option (List ℕ)) → IsRelative base url r → r ≡ relative_url base url
  relative_is None h = not_related (is_relatable base url) (relates base url) h
  relative_is (Some text) h = ap Some h.1 ∙ ap url_if (sym ((relates base url).1 h.0))
