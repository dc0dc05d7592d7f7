use Rattle.std.proofs.Common.{◌≡◌, ◌≤◌, sym, ap, ◌∙◌, arith}
use Rattle.words.specs.Refusals.{bare, value_or}
use Rattle.counters.specs.Counts.{clock_of}
use Rattle.messages.specs.Headers.{message_of}
use Rattle.histories.specs.Calls.{hearing}
use Rattle.stations.specs.Stored.{station_of}
use Rattle.fetches.proofs.Hears.{own, heard_full, heard_delta}
use Rattle.fetches.proofs.hear.hear.Goals as goal

pub returns-else-count-own : goal.returns-else-count-own
returns-else-count-own g c =
    let K = g.C.Crdt in
    let st = c.args.station.now in
    let time = clock_of c.args.clock.now.counts in
    let v = K.value c.args.record.now in
    let e =
    ap (λ h. hearing K st.number (station_of K st) (message_of h time v)) c.in-Full.is
    ∙ heard_full K st c.join.new.self c.join-in-Full.new.self v c.join-in-Full.ensures c.in-Full.sender time (omega arith) c.join.ensures in
    record { answer = sym (ap bare e); after = sym (ap (value_or (station_of K st)) e); refused = tt }

pub returns-else-span-count : goal.returns-else-span-count
returns-else-span-count g c =
    let K = g.C.Crdt in
    let st = c.args.station.now in
    let time = clock_of c.args.clock.now.counts in
    let v = K.value c.args.record.now in
    let i = c.in-Delta.sender in
    let p = c.in-Delta.span in
    let low : i ≡ st.number → p.to ≤ own K st = λ same. omega arith in
    let e =
    ap (λ h. hearing K st.number (station_of K st) (message_of h time v)) c.in-Delta.is
    ∙ heard_delta K st c.raise.new.clock c.join-in-Delta.new.self v c.join-in-Delta.ensures i p.from p.to low (omega arith) c.raise.ensures in
    record { answer = sym (ap bare e); after = sym (ap (value_or (station_of K st)) e); refused = tt }
