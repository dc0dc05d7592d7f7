-- What becomes of a card. Assumes nothing.
--     verdict_of erased rated     pulled once the erased blocks have reached the rated cycles
--     verdict_shown v             a verdict, as it is printed
use Rattle.std.specs.Prelude.{ℕ, List, cond, codes, nat_le}
use Rattle.cards.specs.declared.verdict.Verdict.{Verdict}
use Rattle.cards.specs.declared.verdict.Verdict.TheVariants.{Pulled, GoesBack}

abbrev pub verdict_of : ℕ → ℕ → Verdict
verdict_of erased rated = cond (nat_le rated erased) Pulled GoesBack

abbrev pub verdict_shown : Verdict → List ℕ
verdict_shown Pulled = codes "pulled"
verdict_shown GoesBack = codes "goes back"
