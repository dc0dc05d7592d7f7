-- The words of a put, one after another.
use Rattle.std.proofs.Common.{◌≡◌, ℕ, zero, suc, ◌+◌, ◌<◌, ◌≤◌, false, cond, ◌&&◌, leb, List, [], ◌∷◌, ◌++◌, length, take, drop, set, Some, None, Ok, Err, Result, Option, refl, ap, add-zero, zero-add, add-one, arith, take-append-drop}
use Rattle.std.specs.Option.{ok_or}
use Rattle.std.proofs.lemmas.List.{drop_all}
use Rattle.std.proofs.lemmas.Bool.{le-leb, lt-leb, and_right}
use Rattle.scripts.specs.declared.command.Command.{Command}
use Rattle.scripts.specs.declared.command.Command.TheVariants as command
use Rattle.scripts.specs.declared.expected.Expected.{Expected}
use Rattle.scripts.specs.declared.expected.Expected.TheVariants as expected
use Rattle.scripts.specs.Grammar.{all_words, put_of, words_put}
use Rattle.scripts.specs.Numbers.{hexadecimal_of}

-- what a put comes to where len words are taken
abbrev pub put_on : ℕ → List (List ℕ) → Result (Command × List (List ℕ)) Expected
put_on len ts = cond (all_words ts && leb (len + length ts) 255) (Ok (command.Put (len + length ts), [])) (Err expected.Words)

pub put_start : (ts : List (List ℕ)) → put_on 0 ts ≡ put_of ts
put_start ts = rw (zero-add (length ts))

pub put_end : (len : ℕ) → len ≤ 255 → put_on len [] ≡ Ok (command.Put len, [])
put_end len h = rw (add-zero len, le-leb len 255 h)

-- a word that is read is there, and one that is refused is not
pub given : (o : Option ℕ) (e : Expected) (w : ℕ) → ok_or o e ≡ Ok w → o ≡ Some w
given None e w h = let z : ◌≡◌ {A = ℕ} 0 1 = cc in absurd (omega arith)
given (Some v) e w h = cc

pub refused : (o : Option ℕ) (e f : Expected) → ok_or o e ≡ Err f → o ≡ None
refused None e f h = refl
refused (Some w) e f h = let z : ◌≡◌ {A = ℕ} 0 1 = cc in absurd (omega arith)

module _ (len : ℕ) (t : List ℕ) (ts : List (List ℕ)) where
  pub put_more : (w : ℕ) → hexadecimal_of t ≡ Some w → put_on len (t ∷ ts) ≡ put_on (len + 1) ts
  put_more w e =
      let a : len + suc (length ts) ≡ len + 1 + length ts = omega arith in
      rw (e, a)

  pub put_full : 255 ≤ len → put_on len (t ∷ ts) ≡ Err expected.Words
  put_full h =
      let past : leb (len + suc (length ts)) 255 ≡ false = lt-leb (len + suc (length ts)) 255 (omega arith) in
      rw (and_right (all_words (t ∷ ts)) (leb (len + suc (length ts)) 255) past)

words_next : (len : ℕ) (t : List ℕ) (ts : List (List ℕ)) (w : ℕ) (ws : List ℕ) → len < length ws → hexadecimal_of t ≡ Some w
    → take (suc len) (set ws len w) ++ words_put ts (drop (suc len) (set ws len w)) ≡ take len ws ++ words_put (t ∷ ts) (drop len ws)
words_next len t ts w [] h e = absurd (omega arith)
words_next zero t ts w (o ∷ os) h e = rw e
words_next (suc len) t ts w (o ∷ os) h e = ap (λ l. o ∷ l) (words_next len t ts w os (omega arith) e)

pub words_more : (len : ℕ) (t : List ℕ) (ts : List (List ℕ)) (w : ℕ) (ws : List ℕ) → len < length ws → hexadecimal_of t ≡ Some w
    → take (len + 1) (set ws len w) ++ words_put ts (drop (len + 1) (set ws len w)) ≡ take len ws ++ words_put (t ∷ ts) (drop len ws)
words_more len t ts w ws h e = rw (add-one len) (words_next len t ts w ws h e)

pub words_end : (len : ℕ) (ws : List ℕ) → take len ws ++ words_put [] (drop len ws) ≡ ws
words_end len ws = take-append-drop len ws

wrong_word : (t : List ℕ) (ts : List (List ℕ)) (os : List ℕ) → hexadecimal_of t ≡ None → words_put (t ∷ ts) os ≡ os
wrong_word t ts [] e = refl
wrong_word t ts (o ∷ os) e = rw e

pub words_wrong : (len : ℕ) (t : List ℕ) (ts : List (List ℕ)) (ws : List ℕ) → hexadecimal_of t ≡ None → take len ws ++ words_put (t ∷ ts) (drop len ws) ≡ ws
words_wrong len t ts ws e = rw (wrong_word t ts (drop len ws) e) (take-append-drop len ws)

no_room : (t : List ℕ) (ts : List (List ℕ)) (os : List ℕ) → os ≡ [] → words_put (t ∷ ts) os ≡ os
no_room t ts os e = rw e

pub words_full : (len : ℕ) (t : List ℕ) (ts : List (List ℕ)) (ws : List ℕ) → length ws ≤ len → take len ws ++ words_put (t ∷ ts) (drop len ws) ≡ ws
words_full len t ts ws h = rw (no_room t ts (drop len ws) (drop_all len ws h)) (take-append-drop len ws)
