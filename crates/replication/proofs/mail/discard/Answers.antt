use Rattle.replication.proofs.Steps.{step_discard}
use Rattle.replication.proofs.mail.discard.Goals as goal

pub returns : goal.returns
returns g c =
    let e = c.discard.ensures in
    record {
      answer = e.answer;
      mailbox = e.after;
      refused = e.refused;
      step = step_discard g.C.Crdt g.M.Mailbox c.args.stations.now c.args.mailbox.now c.discard.new.self c.args.k c.discard.result e.answer e.after e.refused;
    }
