-- Bytes as the writing of messages. Assumes nothing.
--     image_of n ms      the bytes of n pages that hold messages: their pages in order, then pages of zero bytes
--     Writable n ms      n is 1 to 128, and ms are at most n messages of 1 to 127 words, each word of 32 bits
--     Written bs held    bytes are the writing of the held messages that are read from them
--     ImagesAccepted     every writing of messages is accepted with their number, and reads back
use Rattle.std.specs.Prelude.{◌≡◌, ℕ, zero, suc, ◌/◌, ◌^◌, ◌<◌, ◌≤◌, List, [], ◌∷◌, ◌++◌, length, replicate, Ok}
use Rattle.std.specs.List.{AllByRecursion}
use Rattle.mailboxes.specs.Mailboxes.{Message}
use Rattle.layouts.specs.Pages.{page_of, pages_of}
use Rattle.layouts.specs.Mounts.{mount_check}

abbrev pub image_of : ℕ → List (List ℕ) → List ℕ
image_of zero ms = []
image_of (suc n) [] = replicate 512 0 ++ image_of n []
image_of (suc n) (m ∷ ms) = page_of m ++ image_of n ms

pub record Writable (n : ℕ) (ms : List (List ℕ)) : Type 0 where
  pub some : 1 ≤ n
  pub few : n ≤ 128
  pub room : length ms ≤ n
  pub messages : AllByRecursion Message ms
  pub words : AllByRecursion (AllByRecursion (λ w. w < 2 ^ 32)) ms

pub record Written (bs : List ℕ) (held : ℕ) : Type 0 where
  pub image : bs ≡ image_of (length bs / 512) (pages_of held bs)
  pub count : length (pages_of held bs) ≡ held
  pub writable : Writable (length bs / 512) (pages_of held bs)

abbrev pub ImagesAccepted : Type 0
ImagesAccepted = (n : ℕ) (ms : List (List ℕ)) → Writable n ms → (mount_check (image_of n ms) ≡ Ok (length ms)) × (pages_of (length ms) (image_of n ms) ≡ ms)
