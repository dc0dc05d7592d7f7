-- The span of what is not sent. Assumes nothing.
use Rattle.std.proofs.Common.{◌≡◌, ℕ, ◌<◌, ◌≤◌, min, ◌&&◌, ltb, leb, IfSome, Some, None, Option, sym, ◌∙◌, ⊎_elim, arith}
use Rattle.std.proofs.lemmas.Bool.{lt-ltb, le-ltb, le-leb, and_from, and_left, cases_lt}
use Rattle.wire.specs.declared.span.Span.{Span}

pub span_some : (sent own : ℕ) → own ≤ 65535 → (ltb sent own && leb own 65535) ≡ ltb (min sent own) own
span_some sent own small =
    ⊎_elim
    (λ (h : sent < own). and_from (ltb sent own) (leb own 65535) (lt-ltb sent own h) (le-leb own 65535 small) ∙ sym (lt-ltb (min sent own) own (omega arith)))
    (λ (h : own ≤ sent). and_left (ltb sent own) (leb own 65535) (le-ltb sent own h) ∙ sym (le-ltb (min sent own) own (omega arith)))
    (cases_lt sent own)

-- a span rises, so that its first end is the mark itself
pub span_value : (o : Option Span) (sent own : ℕ) → IfSome o (λ p. (p.from ≡ sent) × (p.to ≡ own)) → IfSome o (λ p. (p.from ≡ min sent own) × (p.to ≡ own))
span_value None sent own h = tt
span_value (Some p) sent own h = let r = p.rises in (omega (arith, h.0, h.1, r.0), h.1)
