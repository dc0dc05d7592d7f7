use Rattle.std.proofs.Common.{sym, ◌∙◌}
use Rattle.words.specs.Readings.{left}
use Rattle.crdt.specs.Sides.{answered, pair_answer, pair_reader, after_refused, after_answered}
use Rattle.crdt.proofs.pair.PairCrdt.load.Goals as goal

pub returns-then-is_err : goal.returns-then-is_err
returns-then-is_err g c =
    let l = g.L.Crdt in
    let r = g.R.Crdt in
    let exact = g.met.L.Crdt.exact in
    let start = c.args.reader.now in
    let mid = c.load.new.reader in
    let first = answered start (l.reading (left start)) _ c.in_default.ensures.answer in
    let stands = c.load.ensures.reader in
    let told = c.load-answer.ensures.answer in
    record {
      answer = told ∙ pair_answer l.written r.written l.reading r.reading exact start mid first.0 first.1 stands;
      after = after_refused l.written r.written l.reading r.reading exact start mid first.0 first.1 stands l.least r.least c.load-answer.result told c.load-answer.ensures.after (sym c.if-is_err.ensures.value) c.bottom-self-then-is_err.ensures;
      reader = c.load-answer.ensures.reader ∙ pair_reader l.written r.written l.reading r.reading exact start mid first.0 first.1 stands;
    }

pub returns-else-is_err : goal.returns-else-is_err
returns-else-is_err g c =
    let l = g.L.Crdt in
    let r = g.R.Crdt in
    let exact = g.met.L.Crdt.exact in
    let start = c.args.reader.now in
    let mid = c.load.new.reader in
    let first = answered start (l.reading (left start)) _ c.in_default.ensures.answer in
    let stands = c.load.ensures.reader in
    let told = c.load-answer.ensures.answer in
    record {
      answer = told ∙ pair_answer l.written r.written l.reading r.reading exact start mid first.0 first.1 stands;
      after = after_answered l.written r.written l.reading r.reading exact start mid first.0 first.1 stands l.least r.least c.load-answer.result told c.load-answer.ensures.after (sym c.if-is_err.ensures.value) c.load.ensures.after;
      reader = c.load-answer.ensures.reader ∙ pair_reader l.written r.written l.reading r.reading exact start mid first.0 first.1 stands;
    }
