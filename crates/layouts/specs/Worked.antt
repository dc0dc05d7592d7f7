-- The worked bytes of page heads. Assumes nothing.
--     WorkedPages   the page head of 9 words is the bytes 09 00 00 F0; in the other order they read as kind 0, and the page is refused as 10
use Rattle.std.specs.Prelude.{◌≡◌, ℕ, false, List, [], ◌∷◌, Err}
use Rattle.words.specs.Words.{kind}
use Rattle.layouts.specs.Rows.{head}
use Rattle.layouts.specs.Pages.{le_bytes, word_at}
use Rattle.layouts.specs.Mounts.{wrong, page_check}

abbrev pub WorkedPages : Type 0
WorkedPages =
    (le_bytes (head 9) ≡ 0x09 ∷ 0x00 ∷ 0x00 ∷ 0xF0 ∷ [])
    × (kind (word_at (0xF0 ∷ 0x00 ∷ 0x00 ∷ 0x09 ∷ []) 0) ≡ 0)
    × ((rest : List ℕ) → page_check 0 false (0xF0 ∷ 0x00 ∷ 0x00 ∷ 0x09 ∷ rest) ≡ Err (wrong 10 0))
