-- How refusals, layers and faults are printed. Assumes nothing.
--     meaning e         what a refusal means, in a few words
--     refusal_shown e   its number, and what it means
--     layer_shown l     the name of a layer
--     fault_shown f     the refusal, its place and its layer
use Rattle.std.specs.Prelude.{ℕ, List, ◌++◌, codes, decimal}
use Rattle.words.specs.declared.fault.Fault.{Fault}
use Rattle.words.specs.declared.fault.Layer.{Layer}
use Rattle.words.specs.declared.fault.Layer.TheVariants as layer
use Rattle.words.specs.declared.refusal.Refusal.{Refusal}
use Rattle.words.specs.declared.refusal.Refusal.TheVariants as refusal
use Rattle.words.specs.Refusals.{number_of}

abbrev pub meaning : Refusal → List ℕ
meaning refusal.Station = codes "no such station"
meaning refusal.Range = codes "out of range"
meaning refusal.Limit = codes "past its limit"
meaning refusal.Spent = codes "all reports made"
meaning refusal.Nothing = codes "nothing to send"
meaning refusal.Room = codes "too few words"
meaning refusal.Long = codes "too long"
meaning refusal.Full = codes "does not fit"
meaning refusal.Absent = codes "no such message"
meaning refusal.Kind = codes "wrong kind"
meaning refusal.Form = codes "wrong form"
meaning refusal.Ended = codes "words ended"
meaning refusal.Length = codes "wrong length"
meaning refusal.Gap = codes "gap before it"
meaning refusal.Ahead = codes "ahead of the receiver"
meaning refusal.Memory = codes "wrong memory size"

abbrev pub refusal_shown : Refusal → List ℕ
refusal_shown e = decimal (number_of e) ++ (codes " (" ++ (meaning e ++ codes ")"))

abbrev pub layer_shown : Layer → List ℕ
layer_shown layer.Record = codes "record"
layer_shown layer.Message = codes "message"
layer_shown layer.Mailbox = codes "mailbox"
layer_shown layer.Station = codes "station"

abbrev pub fault_shown : Fault → List ℕ
fault_shown f = refusal_shown f.refusal ++ (codes " at " ++ (decimal f.place ++ (codes ", layer " ++ layer_shown f.layer)))
