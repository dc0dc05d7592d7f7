-- What a diagnosis is, from what its parts are. Assumes nothing.
use Rattle.std.proofs.Common.{◌≡◌, ℕ, ◌+◌, ◌-◌, ◌≤◌, Bool, true, false, cond, ◌&&◌, List, length, take, drop, Some, None, Ok, Err, Option, sym, refl, ap, ◌∙◌, arith}
use Rattle.std.proofs.lemmas.Bool.{le-leb}
use Rattle.words.specs.declared.refusal.Refusal.{Refusal}
use Rattle.words.specs.declared.refusal.Refusal.TheVariants.{Station, Range, Limit, Spent, Nothing, Room, Long, Full, Absent, Kind, Form, Ended, Length, Gap, Ahead, Memory}
use Rattle.words.specs.Refusals.{number_of}
use Rattle.words.specs.Readings.{Told}
use Rattle.layouts.specs.Pages.{word_at}
use Rattle.layouts.specs.Mounts.{all_zero, paged, mount_check}
use Rattle.images.specs.declared.diagnosis.Cause.{Cause}
use Rattle.images.specs.Causes.{foreign_head, cause_of, wrong_byte}
use Rattle.images.specs.Diagnoses.{page_at, after_empty, cause_at, Diagnosed, explained, diagnosed, diagnosis}
use Rattle.images.proofs.Walks.{refused, not_paged}

pub after_empty_is : (bs : List ℕ) (p : ℕ) (z : Bool) → 512 ≤ p → z ≡ all_zero (take (p - (p - 512)) (drop (p - 512) bs)) → z ≡ after_empty p bs
after_empty_is bs p z h e =
    let j : p - (p - 512) ≡ 512 = omega arith in
    e ∙ ap (λ n. all_zero (take n (drop (p - 512) bs))) j ∙ sym (ap (λ t. t && all_zero (page_at (p - 512) bs)) (le-leb 512 p h))

pub explained_is : (bs page : List ℕ) (f : Told) (h w : ℕ) (a fo : Bool) (c : Cause) → page ≡ page_at f.place bs → h ≡ word_at page 0 → a ≡ after_empty f.place bs → c ≡ cause_of a h → w ≡ wrong_byte c page → fo ≡ foreign_head page → ◌≡◌ {A = Diagnosed} (record { fault = f; byte = f.place + w; cause = c; foreign = fo }) (explained bs f)
explained_is bs page f h w a fo c ep eh ea ec ew ef =
    let e1 : c ≡ cause_at f.place bs = ec ∙ ap (λ x. cause_of x h) ea ∙ ap (cause_of (after_empty f.place bs)) (eh ∙ ap (λ x. word_at x 0) ep) in
    let e2 : w ≡ wrong_byte (cause_at f.place bs) (page_at f.place bs) = ew ∙ ap (λ x. wrong_byte x page) e1 ∙ ap (wrong_byte (cause_at f.place bs)) ep in
    let e3 : fo ≡ foreign_head (page_at f.place bs) = ef ∙ ap foreign_head ep in
    let made : ℕ → Cause → Bool → Diagnosed = λ n k b. record { fault = f; byte = f.place + n; cause = k; foreign = b } in
    let byte = wrong_byte (cause_at f.place bs) (page_at f.place bs) in
    ap (λ x. made x c fo) e2 ∙ ap (λ x. made byte x fo) e1 ∙ ap (made byte (cause_at f.place bs)) e3

pub memory_number : (e : Refusal) → number_of e ≡ 16 → e ≡ Memory
memory_number Station n = absurd (omega arith)
memory_number Range n = absurd (omega arith)
memory_number Limit n = absurd (omega arith)
memory_number Spent n = absurd (omega arith)
memory_number Nothing n = absurd (omega arith)
memory_number Room n = absurd (omega arith)
memory_number Long n = absurd (omega arith)
memory_number Full n = absurd (omega arith)
memory_number Absent n = absurd (omega arith)
memory_number Kind n = absurd (omega arith)
memory_number Form n = absurd (omega arith)
memory_number Ended n = absurd (omega arith)
memory_number Length n = absurd (omega arith)
memory_number Gap n = absurd (omega arith)
memory_number Ahead n = absurd (omega arith)
memory_number Memory n = refl

pub diagnosis_ok : (bs : List ℕ) (held : ℕ) → mount_check bs ≡ Ok held → diagnosis bs ≡ None
diagnosis_ok bs held e = ap (λ r. cond (paged (length bs)) (diagnosed bs r) None) e ∙ either (paged (length bs))
  where
    either : (b : Bool) → ◌≡◌ {A = Option Diagnosed} (cond b None None) None
    either true = refl
    either false = refl

pub diagnosis_none : (bs : List ℕ) (f : Told) → mount_check bs ≡ Err f → f.number ≡ 16 → diagnosis bs ≡ None
diagnosis_none bs f e n = ap (λ b. cond b (diagnosed bs (mount_check bs)) None) (not_paged bs f e n)

pub diagnosis_some : (bs : List ℕ) (f : Told) (d : Diagnosed) → mount_check bs ≡ Err f → (f.number ≡ 16 → ⊥) → d ≡ explained bs f → diagnosis bs ≡ Some d
diagnosis_some bs f d e ne is =
    ap (λ b. cond b (diagnosed bs (mount_check bs)) None) (refused bs f e ne).0 ∙ ap (diagnosed bs) e ∙ ap Some (sym is)
