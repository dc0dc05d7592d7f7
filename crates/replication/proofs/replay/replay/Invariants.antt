use Rattle.std.proofs.Common.{◌≡◌, ℕ, ◌≤◌, map, length, take, drop}
use Rattle.stations.specs.Stored.{cluster_of}
use Rattle.replication.specs.Runs.{asked, told, Ran}
use Rattle.replication.proofs.replay.replay.Given as goal

abbrev pub invariant-loop-i : goal.invariant-loop-i
invariant-loop-i g l =
    Ran g.C.Crdt (length l.initial.stations) (g.M.Mailbox.takes l.initial.mailbox) (map (asked (length l.initial.words)) (take l.i l.calls)) (map told (take l.i l.answers)) l.initial.words l.words (cluster_of g.C.Crdt g.M.Mailbox l.stations l.mailbox)
    × ((j : ℕ) → l.i ≤ j → drop j l.answers ≡ drop j l.initial.answers)
