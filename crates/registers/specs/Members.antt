-- Sets of members from 0 to 255. Assumes nothing.
--     Members              the sets: sixteen numbers of 16 bits, where entry c has bit b exactly if 16 * c + b is a member
--     members_of xs        the set that sixteen stored numbers stand for: the low 16 bits of each
--     has v m              whether m is a member of v; a number above 255 is none
--     set_of P             the set of the numbers from 0 to 255 that pass P
--     none, alone n        no member, n as the only one
--     union a b            the members of a and those of b
--     how_many P n         how many numbers below n pass P
--     count v              how many members a set has
--     set_reported v s r   the delta of report r at station s: that member alone; or 1 or 2
--     Unites a b c         c has the members of a and those of b, and no others
--     Only taken n c       c has n as its only member where a report was taken, and none where it was not
--     Subsets              the sets are exactly the sets of numbers from 0 to 255
use Rattle.std.specs.Prelude.{◌≡◌, ℕ, zero, suc, ◌+◌, ◌*◌, ◌/◌, ◌%◌, ◌<◌, ◌≤◌, Bool, false, cond, ◌&&◌, ◌||◌, List, Ok, Err, Result, ◌==◌, nat_eq, nat_lt, slice_index}
use Rattle.entries.specs.Sixteen.{tabulated, sixteen_tabulated}
use Rattle.entries.specs.Rows.{Row, row_of}
use Rattle.registers.specs.declared.gset.Member.{Member}
use Rattle.registers.specs.Bits.{bit, packed, packed_low}

abbrev pub Members : Type 0
Members = Row 65535

abbrev pub members_of : List ℕ → Members
members_of xs = row_of 65535 xs

abbrev pub has : Members → ℕ → Bool
has v m = bit (slice_index v.numbers (m / 16)) (m % 16)

-- the bits of entry c
abbrev pub entry_of : (ℕ → Bool) → ℕ → ℕ
entry_of P c = packed (λ b. P (16 * c + b)) 16

abbrev pub set_of : (ℕ → Bool) → Members
set_of P = record { numbers = tabulated (entry_of P); sound = sixteen_tabulated 65536 (entry_of P) (λ c h. packed_low (λ b. P (16 * c + b)) 16) }

abbrev pub none : Members
none = set_of (λ m. false)

abbrev pub alone : ℕ → Members
alone n = set_of (λ m. nat_eq m n)

abbrev pub union : Members → Members → Members
union a b = set_of (λ m. has a m || has b m)

unfoldable pub how_many : (ℕ → Bool) → ℕ → ℕ
how_many P zero = 0
how_many P (suc n) = how_many P n + cond (P n) 1 0

abbrev pub count : Members → ℕ
count v = how_many (has v) 256

abbrev pub set_reported : Members → ℕ → Member → Result Members ℕ
set_reported v s r = cond (nat_lt 15 s) (Err 1) (cond (nat_lt 255 r.0) (Err 2) (Ok (alone r.0)))

abbrev pub Unites : Members → Members → Members → Type 0
Unites a b c = (m : ℕ) → has c m ≡ (has a m || has b m)

abbrev pub Only : Bool → ℕ → Members → Type 0
Only taken n c = (m : ℕ) → has c m ≡ (taken && m == n)

pub record Subsets : Type 0 where
  -- sets with the same members are the same
  pub same : (a b : Members) → ((m : ℕ) → m < 256 → has a m ≡ has b m) → a ≡ b
  -- any numbers from 0 to 255 are the members of a set, and no others ever are
  pub any : (P : ℕ → Bool) (m : ℕ) → has (set_of P) m ≡ (nat_lt m 256 && P m)
  pub below : (v : Members) (m : ℕ) → 256 ≤ m → has v m ≡ false
