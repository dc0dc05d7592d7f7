use Rattle.std.proofs.Common.{◌≡◌, ℕ, ◌/◌, ◌%◌, ◌<◌, ◌≤◌, set, replicate, Ok, Err, sym, ap, ◌∙◌, arith}
use Rattle.std.proofs.lemmas.Nat.{one_shl}
use Rattle.std.proofs.lemmas.Bool.{lt-ltb, le-ltb, cond-true, cond-false}
use Rattle.words.specs.Refusals.{bare, value_or}
use Rattle.registers.specs.declared.gset.Member.{Member}
use Rattle.registers.specs.Members.{Members, members_of, has, none, alone, set_reported}
use Rattle.registers.specs.Sets.{has_none, has_alone, zeros_none, stored_alone}
use Rattle.registers.proofs.gset.GSetCrdt.delta.Goals as goal

module _ (v : Members) (s : ℕ) (r : Member) where
  no_station : 16 ≤ s → set_reported v s r ≡ Err 1
  no_station h = cond-true _ _ _ (lt-ltb 15 s h)

  no_member : s < 16 → 255 < r.0 → set_reported v s r ≡ Err 2
  no_member h l = cond-false _ _ _ (le-ltb 15 s (omega arith)) ∙ cond-true _ _ _ (lt-ltb 255 r.0 l)

  a_member : s < 16 → r.0 ≤ 255 → set_reported v s r ≡ Ok (alone r.0)
  a_member h l = cond-false _ _ _ (le-ltb 15 s (omega arith)) ∙ cond-false _ _ _ (le-ltb 255 r.0 l)

pub returns-then-station-ge-STATIONS : goal.returns-then-station-ge-STATIONS
returns-then-station-ge-STATIONS c =
    let is = no_station (members_of c.args.self.now.bits) c.args.station c.args.report c.if-station-ge-STATIONS.true in
    record { answer = sym (ap bare is); into = zeros_none ∙ sym (ap (value_or none) is); members = (λ m. ap (λ v. has v m) zeros_none ∙ has_none m) }

pub returns-then-report-gt255 : goal.returns-then-report-gt255
returns-then-report-gt255 c =
    let is = no_member (members_of c.args.self.now.bits) c.args.station c.args.report c.if-station-ge-STATIONS.false c.if-report-gt255.true in
    record { answer = sym (ap bare is); into = zeros_none ∙ sym (ap (value_or none) is); members = (λ m. ap (λ v. has v m) zeros_none ∙ has_none m) }

pub returns : goal.returns
returns c =
    let is = a_member (members_of c.args.self.now.bits) c.args.station c.args.report c.if-station-ge-STATIONS.false c.if-report-gt255.false in
    let n = c.args.report.0 in
    let shifted = one_shl (n % 16) 32 (omega arith) in
    let low : n < 256 = omega arith in
    let stored = ap (λ x. members_of (set (replicate 16 0) (n / 16) x)) shifted ∙ stored_alone n low in
    record { answer = sym (ap bare is); into = stored ∙ sym (ap (value_or none) is); members = (λ m. ap (λ v. has v m) stored ∙ has_alone n low m) }
