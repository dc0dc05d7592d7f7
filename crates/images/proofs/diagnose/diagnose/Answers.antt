use Rattle.std.proofs.Common.{◌≡◌, ℕ, ◌<◌, length, get_or, Some, None, Result, Ok, Err, sym, refl, ap, ◌∙◌, arith, rules}
use Rattle.std.specs.Result.{result_err}
use Rattle.std.proofs.lemmas.Option.{none-some, same_Some}
use Rattle.std.proofs.lemmas.Bool.{both_ways}
use Rattle.words.specs.Refusals.{number_of}
use Rattle.words.specs.Readings.{told, told_fault}
use Rattle.words.specs.declared.fault.Fault.{Fault}
use Rattle.layouts.specs.Mounts.{paged}
use Rattle.layouts.proofs.Mounts.{paged_parts}
use Rattle.images.specs.Diagnoses.{told_diagnosis}
use Rattle.images.proofs.Laws.{laws}
use Rattle.images.proofs.TurnedImages.{turned_found}
use Rattle.images.proofs.Walks.{refused, not_paged}
use Rattle.images.proofs.Explained.{memory_number, diagnosis_ok, diagnosis_none, diagnosis_some}
use Rattle.images.proofs.diagnose.diagnose.Goals as goal

err_some : (r : Result ℕ Fault) (f : Fault) → Some f ≡ result_err r → told r ≡ Err (told_fault f)
err_some (Ok n) f e = absurd (none-some f (sym e))
err_some (Err g) f e = ap (λ x. Err (told_fault x)) (same_Some g f (sym e))

err_none : (r : Result ℕ Fault) → None ≡ result_err r → (n : ℕ) × (told r ≡ Ok n)
err_none (Ok n) e = (n, refl)
err_none (Err g) e = absurd (none-some g e)

pub explain-requires : goal.explain-requires
explain-requires c =
    let bs = c.args.bytes.now in
    let p = refused bs (told_fault c.in_ok-fault.fault) (sym c.check.ensures.answer ∙ err_some c.check.result c.in_ok-fault.fault c.in_ok-fault.ensures.value) (λ n. c.in_default.not-Memory (memory_number c.in_ok-fault.fault.refusal n)) in
    record { page = omega (arith, p.1.0); size = (paged_parts (length bs) p.0).1 }

pub returns-in_err-fault : goal.returns-in_err-fault
returns-in_err-fault c =
    let bs = c.args.bytes.now in
    let held = err_none c.check.result c.in_err-fault.ensures.value in
    let e = sym c.check.ensures.answer ∙ held.1 in
    let none : c.from_residual.result ≡ None = search rules in
    let small : (i : ℕ) → get_or bs i 0 < 256 = λ i. omega (arith, c.type_inv.bytes i) in
    let answer = sym (diagnosis_ok bs _ e) in
    rw none (record { answer = answer; refused = λ g. (_, e); within = tt; cause = tt; foreign = tt; turned = λ own held is ok some. answer ∙ turned_found bs small own held is ok some })

pub returns-in-Memory : goal.returns-in-Memory
returns-in-Memory c =
    let bs = c.args.bytes.now in
    let f = told_fault c.in_ok-fault.fault in
    let e = sym c.check.ensures.answer ∙ err_some c.check.result c.in_ok-fault.fault c.in_ok-fault.ensures.value in
    let n = ap number_of c.in-Memory.is in
    let small : (i : ℕ) → get_or bs i 0 < 256 = λ i. omega (arith, c.type_inv.bytes i) in
    let answer = sym (diagnosis_none bs f e n) in
    record {
      answer = answer;
      refused = λ g. absurd (both_ways (paged (length bs)) (not_paged bs f e n) g);
      within = tt;
      cause = tt;
      foreign = tt;
      turned = λ own held is ok some. answer ∙ turned_found bs small own held is ok some;
    }

pub returns-in_default : goal.returns-in_default
returns-in_default c =
    let bs = c.args.bytes.now in
    let f = told_fault c.in_ok-fault.fault in
    let e = sym c.check.ensures.answer ∙ err_some c.check.result c.in_ok-fault.fault c.in_ok-fault.ensures.value in
    let ne : f.number ≡ 16 → ⊥ = λ n. c.in_default.not-Memory (memory_number c.in_ok-fault.fault.refusal n) in
    let small : (i : ℕ) → get_or bs i 0 < 256 = λ i. omega (arith, c.type_inv.bytes i) in
    let d = told_diagnosis c.explain.result in
    let answer = sym (diagnosis_some bs f d e ne c.explain.ensures) in
    let l = laws bs f small (refused bs f e ne).1 d c.explain.ensures in
    record {
      answer = answer;
      refused = e ∙ ap (λ x. Err x.fault) (sym c.explain.ensures);
      within = l.0;
      cause = l.1;
      foreign = l.2;
      turned = λ own held is ok some. answer ∙ turned_found bs small own held is ok some;
    }
