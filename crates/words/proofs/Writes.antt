-- The three ways of a write. Assumes nothing.
use Rattle.std.proofs.Common.{◌≡◌, ℕ, suc, ◌+◌, ◌-◌, ◌<◌, ◌≤◌, List, [], ◌∷◌, ◌++◌, length, take, drop, set, Ok, Err, sym, refl, ap, ◌∙◌, ⊎_elim, append_assoc, add-zero, add-one, arith, lit≤, length-append, length-drop, take-append-drop, length-take, drop-drop, take_at, drop-set-lt, drop_at}
use lib.Seq.{set_split}
use Rattle.std.proofs.lemmas.List.{take_more_set}
use Rattle.std.proofs.lemmas.Bool.{lt-ltb, le-ltb, cond-true, cond-false, cases_lt}
use Rattle.words.specs.Writes.{write_answer, write_leaves, put}

pub answer_long : (room place n : ℕ) → 127 < n → write_answer room place n ≡ Err 7
answer_long room place n h = cond-true _ _ _ (lt-ltb 127 n h)

pub answer_short : (room place n : ℕ) → n ≤ 127 → room - place < n → write_answer room place n ≡ Err 6
answer_short room place n h k = cond-false _ _ _ (le-ltb 127 n h) ∙ cond-true _ _ _ (lt-ltb (room - place) n k)

pub answer_fits : (room place n : ℕ) → n ≤ 127 → n ≤ room - place → write_answer room place n ≡ Ok (place + n)
answer_fits room place n h k = cond-false _ _ _ (le-ltb 127 n h) ∙ cond-false _ _ _ (le-ltb (room - place) n k)

pub leaves_long : (old : List ℕ) (place : ℕ) (ws : List ℕ) → 127 < length ws → write_leaves old place ws ≡ old
leaves_long old place ws h = cond-true _ _ _ (lt-ltb 127 (length ws) h)

pub leaves_short : (old : List ℕ) (place : ℕ) (ws : List ℕ) → length ws ≤ 127 → length old - place < length ws → write_leaves old place ws ≡ old
leaves_short old place ws h k = cond-false _ _ _ (le-ltb 127 (length ws) h) ∙ cond-true _ _ _ (lt-ltb (length old - place) (length ws) k)

pub leaves_fits : (old : List ℕ) (place : ℕ) (ws : List ℕ) → length ws ≤ 127 → length ws ≤ length old - place → write_leaves old place ws ≡ take place old ++ (ws ++ drop (place + length ws) old)
leaves_fits old place ws h k = cond-false _ _ _ (le-ltb 127 (length ws) h) ∙ cond-false _ _ _ (le-ltb (length old - place) (length ws) k)

-- one word
pub leaves_one : (old : List ℕ) (place w : ℕ) → place < length old → set old place w ≡ write_leaves old place (w ∷ [])
leaves_one old place w h =
    let tail : drop (suc place) old ≡ drop (place + 1) old = ap (λ n. drop n old) (sym (add-one place)) in
    set_split old place w h ∙ ap (λ ws. take place old ++ w ∷ ws) tail ∙ sym (leaves_fits old place (w ∷ []) (lit≤ tt) (omega arith))

-- no word
leaves_none : (old : List ℕ) (place : ℕ) → write_leaves old place [] ≡ old
leaves_none old place =
    leaves_fits old place [] (lit≤ tt) (omega arith) ∙ ap (λ n. take place old ++ drop n old) (add-zero place) ∙ take-append-drop place old

-- as many words as before
pub length_leaves : (old : List ℕ) (place : ℕ) (ws : List ℕ) → length ws ≤ 127 → length ws ≤ length old - place → length (write_leaves old place ws) ≡ length old
length_leaves old place ws few room =
    ap length (leaves_fits old place ws few room) ∙ simp (length-append, length-take, length-drop) (omega arith)

-- two writes, one after the other, where they begin within the words
both_within : (old : List ℕ) (place : ℕ) (a b : List ℕ) → place ≤ length old → length a + length b ≤ 127 → length a + length b ≤ length old - place → write_leaves (write_leaves old place a) (place + length a) b ≡ write_leaves old place (a ++ b)
both_within old place a b start few room =
    let mid = write_leaves old place a in
    let front = take place old ++ a in
    let rest = drop (place + length a) old in
    let all : length (a ++ b) ≡ length a + length b = length-append a b in
    let mid-is : mid ≡ front ++ rest = leaves_fits old place a (omega arith) (omega arith) ∙ sym (append_assoc (take place old) a rest) in
    let front_long : length front ≡ place + length a = simp (length-append, length-take) (omega arith) in
    let long : length mid ≡ length old = length_leaves old place a (omega arith) (omega arith) in
    let head : take (place + length a) mid ≡ front = ap (take (place + length a)) mid-is ∙ take_at front rest (place + length a) front_long in
    let behind : drop (place + length a) mid ≡ rest = ap (drop (place + length a)) mid-is ∙ drop_at front rest (place + length a) front_long in
    let tail : drop ((place + length a) + length b) mid ≡ drop (place + length (a ++ b)) old = sym (drop-drop (length b) (place + length a) mid) ∙ ap (drop (length b)) behind ∙ drop-drop (length b) (place + length a) old ∙ ap (λ n. drop n old) (omega arith) in
    leaves_fits mid (place + length a) b (omega arith) (omega arith)
    ∙ ap (λ h. h ++ (b ++ drop ((place + length a) + length b) mid)) head
    ∙ ap (λ t. front ++ (b ++ t)) tail
    ∙ append_assoc (take place old) a (b ++ drop (place + length (a ++ b)) old)
    ∙ ap (λ t. take place old ++ t) (sym (append_assoc a b (drop (place + length (a ++ b)) old)))
    ∙ sym (leaves_fits old place (a ++ b) (omega arith) (omega arith))

nothing : (a : List ℕ) → length a ≡ 0 → a ≡ []
nothing [] h = refl
nothing (x ∷ xs) h = absurd (omega arith)

pub leaves_both : (old : List ℕ) (place : ℕ) (a b : List ℕ) → length a + length b ≤ 127 → length a + length b ≤ length old - place → write_leaves (write_leaves old place a) (place + length a) b ≡ write_leaves old place (a ++ b)
leaves_both old place a b few room =
    ⊎_elim
    (λ (past : length old < place).
    let ea : a ≡ [] = nothing a (omega arith) in
    let eb : b ≡ [] = nothing b (omega arith) in
    let left : write_leaves (write_leaves old place a) (place + length a) b ≡ old = ap (λ ws. write_leaves (write_leaves old place a) (place + length a) ws) eb ∙ leaves_none (write_leaves old place a) (place + length a) ∙ ap (write_leaves old place) ea ∙ leaves_none old place in
    let right : write_leaves old place (a ++ b) ≡ old = ap (λ ws. write_leaves old place (ws ++ b)) ea ∙ ap (write_leaves old place) eb ∙ leaves_none old place in
    left ∙ sym right)
    (λ (start : place ≤ length old). both_within old place a b start few room)
    (cases_lt (length old) place)

-- a word, and then those after it
pub put_step : (old : List ℕ) (place w : ℕ) (ws : List ℕ) → place < length old → put old place (w ∷ ws) ≡ put (set old place w) (place + 1) ws
put_step old place w ws h =
    let n : place + suc (length ws) ≡ (place + 1) + length ws = omega arith in
    let past : place < (place + 1) + length ws = omega arith in
    let front : take (place + 1) (set old place w) ≡ take place old ++ (w ∷ []) = take_more_set old place w h in
    let back : drop ((place + 1) + length ws) (set old place w) ≡ drop ((place + 1) + length ws) old = drop-set-lt ((place + 1) + length ws) old place w past in
    ap (λ m. take place old ++ (w ∷ (ws ++ drop m old))) n
    ∙ sym (append_assoc (take place old) (w ∷ []) (ws ++ drop ((place + 1) + length ws) old))
    ∙ ap (λ t. (take place old ++ (w ∷ [])) ++ (ws ++ t)) (sym back)
    ∙ ap (λ t. t ++ (ws ++ drop ((place + 1) + length ws) (set old place w))) (sym front)

pub put_last : (old : List ℕ) (place w : ℕ) → place < length old → put old place (w ∷ []) ≡ set old place w
put_last old place w h =
    sym (leaves_fits old place (w ∷ []) (lit≤ tt) (omega arith)) ∙ sym (leaves_one old place w h)

-- a write that is answered fits
pub answer_done : (room place n m : ℕ) → Ok m ≡ write_answer room place n → (n ≤ 127) × (n ≤ room - place)
answer_done room place n m e =
    ⊎_elim
    (λ (long : 127 < n). let f = e ∙ answer_long room place n long in let z : ◌≡◌ {A = ℕ} 0 1 = cc in absurd (omega arith))
    (λ (few : n ≤ 127). ⊎_elim
    (λ (short : room - place < n). let f = e ∙ answer_short room place n few short in let z : ◌≡◌ {A = ℕ} 0 1 = cc in absurd (omega arith))
    (λ (fits : n ≤ room - place). (few, fits))
    (cases_lt (room - place) n))
    (cases_lt 127 n)
