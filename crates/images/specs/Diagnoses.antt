-- What is wrong with a card image. Assumes nothing.
--     page_at p bs        the page that begins at byte p
--     after_empty p bs    the page before it is empty
--     Diagnosed           a diagnosis, with the number in the place of the refusal
--     explained bs f      what is wrong with the page at the place of a fault f
--     diagnosis bs        what is wrong with bytes, where they are whole pages that the check refuses
use Rattle.std.specs.Prelude.{ℕ, ◌+◌, ◌-◌, Bool, cond, ◌&&◌, List, length, take, drop, Some, None, Ok, Err, Option, Result, nat_le}
use Rattle.words.specs.Readings.{Told, told_fault}
use Rattle.layouts.specs.Pages.{word_at}
use Rattle.layouts.specs.Mounts.{all_zero, paged, mount_check}
use Rattle.images.specs.declared.diagnosis.Cause.{Cause}
use Rattle.images.specs.declared.diagnosis.Diagnosis.{Diagnosis}
use Rattle.images.specs.Causes.{foreign_head, cause_of, wrong_byte}

abbrev pub page_at : ℕ → List ℕ → List ℕ
page_at p bs = take 512 (drop p bs)

abbrev pub after_empty : ℕ → List ℕ → Bool
after_empty p bs = nat_le 512 p && all_zero (page_at (p - 512) bs)

abbrev pub cause_at : ℕ → List ℕ → Cause
cause_at p bs = cause_of (after_empty p bs) (word_at (page_at p bs) 0)

pub record Diagnosed : Type 0 where
  pub fault : Told
  pub byte : ℕ
  pub cause : Cause
  pub foreign : Bool

abbrev pub told_diagnosis : Diagnosis → Diagnosed
told_diagnosis d = record { fault = told_fault d.fault; byte = d.byte; cause = d.cause; foreign = d.foreign }

abbrev pub explained : List ℕ → Told → Diagnosed
explained bs f = record {
  fault = f;
  byte = f.place + wrong_byte (cause_at f.place bs) (page_at f.place bs);
  cause = cause_at f.place bs;
  foreign = foreign_head (page_at f.place bs);
}

abbrev pub diagnosed : List ℕ → Result ℕ Told → Option Diagnosed
diagnosed bs (Ok held) = None
diagnosed bs (Err f) = Some (explained bs f)

abbrev pub diagnosis : List ℕ → Option Diagnosed
diagnosis bs = cond (paged (length bs)) (diagnosed bs (mount_check bs)) None
