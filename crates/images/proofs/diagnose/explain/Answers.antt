use Rattle.std.proofs.Common.{◌≡◌, ◌-◌, ◌≤◌, length, drop, ap, ◌∙◌, arith}
use Rattle.std.proofs.lemmas.List.{length-take-le, length-drop, take-take}
use Rattle.words.specs.Readings.{told_fault}
use Rattle.images.specs.Diagnoses.{page_at}
use Rattle.images.proofs.Zeros.{wrong_few}
use Rattle.images.proofs.Explained.{explained_is}
use Rattle.images.proofs.diagnose.explain.Goals as goal

pub overflow_add-result : goal.overflow_add-result
overflow_add-result c =
    let bs = c.args.bytes.now in
    let p = c.args.fault.place in
    let chunk = rw c.unwrap-page.ensures at c.first_chunk.ensures.cases in
    let room : 512 ≤ length bs - p = omega (arith, c.requires.page) in
    let page : c.unwrap-page.result.now ≡ page_at p bs = cc (chunk.same, take-take 512 (length bs - p) (drop p bs) room) in
    let long : length c.unwrap-page.result.now ≡ 512 = ap length page ∙ length-take-le 512 (drop p bs) (simp length-drop room) in
    omega (arith, c.requires.page, c.requires.size, c.wrong_byte.ensures, wrong_few c.cause_of-cause.result c.unwrap-page.result.now long)

pub returns : goal.returns
returns c =
    let bs = c.args.bytes.now in
    let p = c.args.fault.place in
    let chunk = rw c.unwrap-page.ensures at c.first_chunk.ensures.cases in
    let room : 512 ≤ length bs - p = omega (arith, c.requires.page) in
    let page : c.unwrap-page.result.now ≡ page_at p bs = cc (chunk.same, take-take 512 (length bs - p) (drop p bs) room) in
    explained_is bs c.unwrap-page.result.now (told_fault c.args.fault) c.head_of.result.0 c.wrong_byte.result c.is_after_empty.result c.has_foreign_head.result c.cause_of-cause.result page c.head_of.ensures c.is_after_empty.ensures c.cause_of-cause.ensures c.wrong_byte.ensures c.has_foreign_head.ensures
