-- The words of the grammar. Assumes nothing.
--     named names t     what t names, where names has each word with its meaning
--     verbs, record_kinds, shapes, kinds, whats      the words that there are
use Rattle.std.specs.Prelude.{ℕ, cond, List, [], ◌∷◌, Some, None, codes, Option}
use Rattle.std.specs.Str.{bytes_eq}
use Rattle.scripts.specs.declared.keywords.Verb.{Verb}
use Rattle.scripts.specs.declared.keywords.Shape.{Shape}
use Rattle.scripts.specs.declared.keywords.Kind.{Kind}
use Rattle.scripts.specs.declared.record_kind.RecordKind.{RecordKind}
use Rattle.scripts.specs.declared.what.What.{What}
use Rattle.scripts.specs.declared.keywords.Verb.TheVariants as verb
use Rattle.scripts.specs.declared.keywords.Shape.TheVariants as shape
use Rattle.scripts.specs.declared.keywords.Kind.TheVariants as kind
use Rattle.scripts.specs.declared.record_kind.RecordKind.TheVariants as record_kind
use Rattle.scripts.specs.declared.what.What.TheVariants as what

abbrev pub named : {X : Type 0} → List (List ℕ × X) → List ℕ → Option X
named [] t = None
named (n ∷ ns) t = cond (bytes_eq n.0 t) (Some n.1) (named ns t)

abbrev pub verbs : List (List ℕ × Verb)
verbs =
    (codes "record", verb.Record) ∷ (codes "stations", verb.Stations) ∷ (codes "mailbox", verb.Mailbox)
    ∷ (codes "report", verb.Report) ∷ (codes "send", verb.Send) ∷ (codes "put", verb.Put) ∷ (codes "fetch", verb.Fetch)
    ∷ (codes "discard", verb.Discard) ∷ (codes "count", verb.Count) ∷ (codes "fits", verb.Fits) ∷ (codes "read", verb.Read)
    ∷ (codes "show", verb.Show) ∷ (codes "compare", verb.Compare) ∷ (codes "image", verb.Image) ∷ []

abbrev pub record_kinds : List (List ℕ × RecordKind)
record_kinds = (codes "card", record_kind.Card) ∷ (codes "loan", record_kind.Loan) ∷ []

abbrev pub shapes : List (List ℕ × Shape)
shapes =
    (codes "words", shape.Words) ∷ (codes "pages", shape.Pages) ∷ (codes "image", shape.Image)
    ∷ (codes "overflow", shape.Overflow) ∷ []

abbrev pub kinds : List (List ℕ × Kind)
kinds = (codes "delta", kind.Delta) ∷ (codes "full", kind.Full) ∷ []

abbrev pub whats : List (List ℕ × What)
whats =
    (codes "erased", what.Erased) ∷ (codes "taken", what.Taken) ∷ (codes "returned", what.Returned)
    ∷ (codes "retired", what.Retired) ∷ (codes "firmware", what.Firmware) ∷ (codes "lent", what.Lent)
    ∷ (codes "marked", what.Marked) ∷ []
