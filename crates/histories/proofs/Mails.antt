-- Waiting messages, each with how it came: one more, one fewer, and after one more report. Assumes nothing.
use Rattle.std.proofs.Common.{◌≡◌, ℕ, ◌+◌, ◌<◌, ◌≢◌, List, [], ◌∷◌, ◌++◌, length, get_or, set, Ok, sym, ap, ◌∙◌, subst, inl, inr, arith}
use Rattle.std.specs.List.{remove}
use Rattle.std.proofs.lemmas.List.Edits.{length-remove, get_or-remove_below, get_or-remove_above}
use Rattle.std.proofs.lemmas.List.{get_or-set_same, get_or-set_other, length_push, get_or_push, get_or_append_left}
use Rattle.std.proofs.lemmas.Bool.{cases_eq, cases_lt}
use Rattle.crdt.specs.declared.kind.Crdt.{Ghosts}
use Rattle.wire.specs.Messages.{Message, full, delta, Clock}
use Rattle.wire.specs.Openings.{unpacked}
use Rattle.histories.specs.Clusters.{Cluster, entry}
use Rattle.histories.specs.Histories.{Accepted, Origin, as_full, as_delta, report_count, reports}
use Rattle.histories.proofs.Overs.{Laws}
use Rattle.histories.proofs.Sound.{SoundMessage, grown_message}

-- a full message whose entry for station i is x
abbrev pub FullAt : {V : Type 0} → ℕ → ℕ → Message Clock V → Type 0
FullAt i x (full j c v) = entry c i ≡ x
FullAt i x (delta j f t v) = ⊥

pub pushed : {X Y : Type 0} (os : List X) (ws : List Y) (o : X) (w : Y) → length os ≡ length ws → length (os ++ (o ∷ [])) ≡ length (ws ++ (w ∷ []))
pushed os ws o w sizes = length_push os o ∙ ap (λ n. n + 1) sizes ∙ sym (length_push ws w)

pub removed_both : {X Y : Type 0} (os : List X) (ws : List Y) (k : ℕ) → k < length ws → length os ≡ length ws → length (remove os k) ≡ length (remove ws k)
removed_both os ws k waits sizes = let a = length-remove os k (omega arith) in let b = length-remove ws k waits in omega arith

-- one element replaced
pub set_all : {X : Type 0} (P : ℕ → X → Type 0) (xs : List X) (d : X) (i : ℕ) (x : X) → P i x →
    ((j : ℕ) → j < length xs → j ≢ i → P j (get_or xs j d)) → (j : ℕ) → j < length xs → P j (get_or (set xs i x) j d)
set_all P xs d i x here there j low = elim (cases_eq j i) [
  | inl same ↦ subst (λ k. P k (get_or (set xs i x) k d)) (sym same) (subst (P i) (sym (get_or-set_same xs i x d (subst (λ k. k < length xs) same low))) here)
  | inr other ↦ subst (P j) (sym (get_or-set_other xs i j x d other)) (there j low other)
]

module _ {S R : Type 0} (K : Ghosts S R) (start : Cluster K.Value) where
  -- what is known of how a message came
  abbrev pub From : Origin K.Value R → Message Clock K.Value → Type 0
  From (as_full i h) m = FullAt i (report_count i (reports K start h)) m
  From (as_delta i h) m = Unit {0}

  -- the words w unpack as a message that tells the truth and agrees with its origin
  pub record Mail (log : List (Accepted K.Value)) (o : Origin K.Value R) (w : List ℕ) : Type 0 where
    pub message : Message Clock K.Value
    pub opens : unpacked K w ≡ Ok message
    pub sound : SoundMessage K log message
    pub came : From o message

  abbrev pub Mails : List (Accepted K.Value) → List (Origin K.Value R) → List (List ℕ) → Type 0
  Mails log os ws = (k : ℕ) → k < length ws → Mail log (get_or os k (as_delta 0 [])) (get_or ws k [])

  module _ (log : List (Accepted K.Value)) (os : List (Origin K.Value R)) (ws : List (List ℕ)) (sizes : length os ≡ length ws) (old : Mails log os ws) where
    pub mails_push : (o : Origin K.Value R) (w : List ℕ) → Mail log o w → Mails log (os ++ (o ∷ [])) (ws ++ (w ∷ []))
    mails_push o w new k low = elim (cases_lt k (length ws)) [
      | inl before ↦ rw (get_or_append_left os (o ∷ []) (as_delta 0 []) k (omega arith), get_or_append_left ws (w ∷ []) [] k before) (old k before)
      | inr past ↦
          (let last : length ws ≡ k = omega (arith, length_push ws w) in
          rw (get_or_push os o (as_delta 0 []) k (sizes ∙ last), get_or_push ws w [] k last) new)
    ]

    pub mails_removed : (i : ℕ) → i < length ws → Mails log (remove os i) (remove ws i)
    mails_removed i waits k low =
        let fewer : k + 1 < length ws = omega (arith, length-remove ws i waits) in
        elim (cases_lt k i) [
          | inl before ↦ rw (get_or-remove_below os i (as_delta 0 []) k before (omega arith), get_or-remove_below ws i [] k before waits) (old k (omega arith))
          | inr past ↦ rw (get_or-remove_above os i (as_delta 0 []) k past (omega arith), get_or-remove_above ws i [] k past waits) (old (k + 1) (omega arith))
        ]

  pub mail_grown : Laws K → (e : Accepted K.Value) (log : List (Accepted K.Value)) (o : Origin K.Value R) (w : List ℕ) → Mail log o w → Mail (e ∷ log) o w
  mail_grown laws e log o w m = record { message = m.message; opens = m.opens; sound = grown_message K laws e log m.message m.sound; came = m.came }
