use Rattle.std.proofs.Common.{◌≡◌, ◌<◌, map, length, take, sym, refl, ap, ◌∙◌, subst, arith, drop-set-lt}
use Rattle.std.proofs.lemmas.List.{take_all}
use Rattle.histories.specs.Calls.{Step}
use Rattle.histories.specs.Histories.{Fresh}
use Rattle.histories.proofs.Overs.{laws_of}
use Rattle.histories.proofs.Promised.{histories_promised}
use Rattle.stations.specs.Stored.{cluster_of}
use Rattle.stations.proofs.Begins.{starts}
use Rattle.replication.specs.Runs.{asked, told, words_after, table_ready, Ran, Replayed}
use Rattle.replication.proofs.Begins.{none_wait, by_table, few, was_made, on_ok}
use Rattle.replication.proofs.Grows.{ran_none, ran_on}
use Rattle.replication.proofs.replay.replay.Goals as goal

pub returns : goal.returns
returns g c =
    let k = g.met.C.Crdt in
    let K = g.C.Crdt in
    let P = g.M.Mailbox in
    let m = c.args.mailbox.now in
    let calls = c.args.calls.now in
    let old = c.args.words.now in
    let n = length c.init.new.stations in
    let all : take (length calls) calls ≡ calls = take_all (length calls) calls (omega arith) in
    let last : c.loop-i.i ≡ length calls = omega arith in
    let f = asked (length old) in
    let said = map told (take (length calls) c.loop-i.answers) in
    let z = cluster_of K P c.loop-i.stations c.loop-i.mailbox in
    let none = none_wait (P.waiting m) _ c.count.ensures c.if-count-ne0.false in
    let went : Ran K n (P.takes m) (map f calls) said old c.loop-i.words z =
    subst (λ l. Ran K n (P.takes m) (map f l) said old c.loop-i.words z) all
    (subst (λ i. Ran K n (P.takes m) (map f (take i calls)) (map told (take i c.loop-i.answers)) old c.loop-i.words z) last c.loop-i.invariant.0) in
    let laws = laws_of K k.assoc k.comm k.idem k.neutral k.reads k.exact in
    let made = was_made _ _ (sym c.in_ok-map_err.ensures.variant) c.init.ensures.answer in
    record {
      answer = sym (ap table_ready made) ∙ sym (by_table (length calls) (length c.args.answers.now) (length c.args.stations.now) (P.waiting m) c.if-answers-calls.false none);
      run = subst (λ s. Replayed K s (P.takes m) (map f calls) said old c.loop-i.words z) c.init.auto.stations
          (record { run = went; promised = histories_promised K laws went.start n went.fresh went.history went.lawful });
      answers = c.loop-i.invariant.1 (length calls) (omega arith);
      refused = (tt, tt, tt, tt);
    }

pub loop-i-init : goal.loop-i-init
loop-i-init g c =
    let K = g.C.Crdt in
    let P = g.M.Mailbox in
    let m = c.args.mailbox.now in
    let ts = c.init.new.stations in
    let is = sym c.in_ok-map_err.ensures.variant in
    let none = none_wait (P.waiting m) _ c.count.ensures c.if-count-ne0.false in
    let blank = starts K (cluster_of K P ts m) (length c.args.stations.now) (few _ tt (sym (was_made _ _ is c.init.ensures.answer))) (on_ok _ _ is c.init.ensures.fresh) none in (
      ran_none K (length ts) (P.takes m) c.args.words.now (cluster_of K P ts m) (subst (λ n. Fresh K n (cluster_of K P ts m)) (sym c.init.auto.stations) blank) refl,
      λ j low. refl,
    )

pub loop-i-preserved : goal.loop-i-preserved
loop-i-preserved g c =
    let K = g.C.Crdt in
    let P = g.M.Mailbox in
    let i = c.loop-i.i in
    let low : i < length c.args.calls.now = omega arith in
    let room : i < length c.loop-i.answers = omega arith in
    let x = c.index-calls-i.result in
    let y = cluster_of K P c.loop-i.stations c.loop-i.mailbox in
    let z = cluster_of K P c.perform.new.stations c.perform.new.mailbox in
    let now = c.loop-i.words in
    let new = c.perform.new.words in
    let given = c.loop-i.auto.words in
    let step = subst (λ n. Step K y (asked n x) (told c.perform.result) z) given c.perform.ensures.step in
    let leaves = subst (λ n. new ≡ words_after K y (asked n x) now) given c.perform.ensures.words in (
      ran_on K (length c.init.new.stations) (P.takes c.args.mailbox.now) c.args.words.now (asked (length c.args.words.now)) told c.args.calls.now c.loop-i.answers i x c.perform.result low c.index-calls-i.is room now new y z c.loop-i.invariant.0 step leaves,
      λ j past. drop-set-lt j c.loop-i.answers i c.perform.result (omega arith) ∙ c.loop-i.invariant.1 j (omega arith),
    )
