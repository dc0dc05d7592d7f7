use Rattle.std.proofs.Common.{rules, ◌≡◌, ℕ, ◌+◌, Some, Ok, Err, set, sym, ap, ◌∙◌, subst}
use Rattle.std.proofs.lemmas.Result.{err_from_is_err_and}
use Rattle.words.specs.declared.reader.Reader.{Reader}
use Rattle.words.specs.Words.{kind_number}
use Rattle.words.specs.Readings.{left, told, told_fault}
use Rattle.words.proofs.Walks.{answer_wrong}
use Rattle.entries.specs.Entries.{examined, row_reading}
use Rattle.entries.proofs.Fills.{Filling, refused, filling_step, read_wrong, stands_before}
use Rattle.entries.proofs.load.fill.Goals as goal

pub returns-in_err-item-clause-answer : goal.returns-in_err-item-clause-answer
returns-in_err-item-clause-answer g c =
    let k = kind_number g.K.EntryKind.WORD in
    let top = g.K.EntryKind.TOP in
    let start = c.args.reader.now in
    let r = c.loop-word.reader in
    let so = c.loop-word.invariant in
    let w = c.in-Some.word.0 in
    let p = err_from_is_err_and c.from_residual.result c.from_residual.ensures.1 in
    let f = told_fault c.in_err-item.field-0.0 in
    let x = refused r (examined k top c.loop-word.low c.loop-word.seen w) f c.in_err-item.ensures in
    let stands = stands_before k top start r _ _ _ so in
    let is = read_wrong k top start r _ _ _ so w c.in-Some.ensures x.0 x.1 in
    ap told (p.1 ∙ ap Err p.2) ∙ answer_wrong start r (row_reading k top (left start)) stands x.0 f x.2 is

pub loop-word-preserved : goal.loop-word-preserved
loop-word-preserved g c =
    let k = kind_number g.K.EntryKind.WORD in
    let top = g.K.EntryKind.TOP in
    let start = c.args.reader.now in
    let r = c.loop-word.reader in
    let w = c.in-Some.word.0 in
    let row = c.loop-word.row in
    let x : ℕ × ℕ = (c.in-Some-item.index, c.in-Some-item.number) in
    let is : examined k top c.loop-word.low c.loop-word.seen w ≡ Ok (Some x) = search rules in
    let Next : Reader → Type 0 = λ s. Filling k top start s (set row x.0 x.1) (x.0 + 1) (c.loop-word.seen + 1) in
    subst Next (sym c.step.ensures) (filling_step k top start r _ _ _ c.loop-word.invariant w c.in-Some.ensures x is)
