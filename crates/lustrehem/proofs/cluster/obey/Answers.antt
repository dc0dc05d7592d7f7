use Rattle.std.proofs.Common.{◌≡◌, min, take, sym, subst, arith}
use Rattle.stations.specs.Stored.{cluster_of}
use Rattle.lustrehem.specs.Rehearsals.{Delivered, Obeyed}
use Rattle.lustrehem.proofs.Rehearses.{put_delivers, by_put, by_made, plain_obeyed}
use Rattle.lustrehem.proofs.cluster.obey.Goals as goal

pub returns-in-Put : goal.returns-in-Put
returns-in-Put g c =
    let K = g.C.Crdt in
    let P = g.M.Mailbox in
    let ws = c.args.script.now.words in
    let y = cluster_of K P c.args.table.now c.args.mailbox.now in
    let z = cluster_of K P c.args.table.now c.put.new.mailbox in
    let n : c.min-len.result ≡ min c.in-Put.len 255 = omega (arith, c.min-len.ensures) in
    let d : Delivered y (take c.min-len.result ws) z = put_delivers K P c.args.table.now c.args.mailbox.now c.put.new.mailbox _ c.put.ensures.mailbox c.put.ensures.refused in
    let e : Delivered y (take (min c.in-Put.len 255) ws) z = subst (λ k. Delivered y (take k ws) z) n d in
    record { lines = by_put K y z _ e; obeyed = subst (λ x. Obeyed K ws y z x) (sym c.in-Put.is) e }

pub returns-in-Some-clause-lines : goal.returns-in-Some-clause-lines
returns-in-Some-clause-lines g c = by_made g.C.Crdt _ _ _ c.make.ensures.made

pub returns-in-Some-plain : goal.returns-in-Some-plain
returns-in-Some-plain g c =
    let K = g.C.Crdt in
    let P = g.M.Mailbox in
    let y = cluster_of K P c.args.table.now c.args.mailbox.now in
    let z = cluster_of K P c.make-in-Some-plain.new.table c.make-in-Some-plain.new.mailbox in
    let made = c.make-in-Some-plain.ensures.made in
    record { lines = by_made K y z _ made; obeyed = plain_obeyed K c.args.script.now.words y z c.args.command c.in-Some-plain.asked c.in-Some-plain.ensures made }
