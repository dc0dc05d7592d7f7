-- A row's words are read as the row, and what is read as a row is its words. Over the kind and the largest number. Assumes nothing.
use Rattle.std.proofs.Common.{◌≡◌, ℕ, zero, suc, ◌+◌, ◌-◌, ◌%◌, ◌<◌, ◌≤◌, Bool, true, false, cond, ◌&&◌, T, eqb, ltb, leb, List, [], ◌∷◌, ◌++◌, length, replicate, Some, None, Option, Ok, Err, Result, sym, refl, ap, ◌∙◌, subst, append_assoc, add-zero, mod-eq_of_lt, arith, ltb→lt, lt→ltb, length-append}
use Rattle.std.proofs.lemmas.Nat.{mod_below}
use Rattle.std.proofs.lemmas.List.{append-nil, length-replicate, replicate_more}
use Rattle.std.proofs.lemmas.Bool.{eq-eqb, ne_eqb, eqb-true, eqb-false, lt-ltb, le-leb, leb-true, ltb-true, cond-true, cond-false, and_from, and_parts}
use Rattle.words.specs.Readings.{Reading, read, wrong}
use Rattle.words.specs.Words.{kind, index, formed}
use Rattle.entries.specs.Sixteen.{all_below, tabulated, length_tabulated, getD_tabulated, tabulated_is, both, first_of, second_of, below_at}
use Rattle.entries.specs.Rows.{Row, same_row, length_row, row_of}
use Rattle.entries.specs.Entries.{entry_word, end_word, entries, entries_and_end, row_written, examined, later, onward, scan, as_row, row_reading}
use Rattle.entries.specs.Fits.{Fits, kind_entry, index_entry, kind_end, formed_end, number_end, splits_end}

pub tabulated_same : (f h : ℕ → ℕ) → ((k : ℕ) → k < 16 → f k ≡ h k) → tabulated f ≡ tabulated h
tabulated_same f h each = tabulated_is h (tabulated f) (length_tabulated f) (λ k low. getD_tabulated f k low ∙ each k low)

-- numbers that are low stand for themselves
pub stands : (top : ℕ) (ns : List ℕ) → length ns ≡ 16 → T (all_below (top + 1) ns) → (row_of top ns).numbers ≡ ns
stands top ns long sound = sym (tabulated_is _ ns long (λ k h. sym (mod-eq_of_lt (below_at (top + 1) ns sound k (omega arith)))))

pub row_of_row : (top : ℕ) (v : Row top) → row_of top v.numbers ≡ v
row_of_row top v = same_row _ _ (stands top v.numbers (length_row v) (second_of (eqb (length v.numbers) 16) (all_below (top + 1) v.numbers) v.sound))

-- what one word is
sight : (a b c d : Bool) (x : ℕ × ℕ) → Result (Option (ℕ × ℕ)) ℕ
sight a b c d x = cond a (cond b (Ok None) (Err 11)) (cond c (cond d (Ok (Some x)) (Err 11)) (Err 10))

was_end : (a b c d : Bool) (x : ℕ × ℕ) → sight a b c d x ≡ Ok None → (a ≡ true) × (b ≡ true)
unfolding sight
was_end true true c d x e = (refl, refl)
was_end true false c d x e = let z : ◌≡◌ {A = ℕ} 0 1 = cc in absurd (omega arith)
was_end false b true true x e = let z : ◌≡◌ {A = ℕ} 0 1 = cc in absurd (omega arith)
was_end false b true false x e = let z : ◌≡◌ {A = ℕ} 0 1 = cc in absurd (omega arith)
was_end false b false d x e = let z : ◌≡◌ {A = ℕ} 0 1 = cc in absurd (omega arith)

was_entry : (a b c d : Bool) (x y : ℕ × ℕ) → sight a b c d x ≡ Ok (Some y) → (c ≡ true) × (d ≡ true) × (x ≡ y)
unfolding sight
was_entry false b true true x y e = (refl, refl, (let same : x ≡ y = cc in same))
was_entry false b true false x y e = let z : ◌≡◌ {A = ℕ} 0 1 = cc in absurd (omega arith)
was_entry false b false d x y e = let z : ◌≡◌ {A = ℕ} 0 1 = cc in absurd (omega arith)
was_entry true true c d x y e = let z : ◌≡◌ {A = ℕ} 0 1 = cc in absurd (omega arith)
was_entry true false c d x y e = let z : ◌≡◌ {A = ℕ} 0 1 = cc in absurd (omega arith)

module _ (k top low seen w : ℕ) where
  pub is_end : kind w ≡ 9 → formed w ≡ true → w % 32 ≡ seen → examined k top low seen w ≡ Ok None
  is_end e f n = cond-true _ _ _ (eq-eqb _ _ e) ∙ cond-true _ _ _ (and_from _ _ f (eq-eqb _ _ n))

  pub is_entry : (kind w ≡ 9 → ⊥) → kind w ≡ k → formed w ≡ true → low ≤ index w → 0 < w % (top + 1) → examined k top low seen w ≡ Ok (Some (index w, w % (top + 1)))
  is_entry other e f from some =
      cond-false _ _ _ (ne_eqb _ _ other) ∙ cond-true _ _ _ (eq-eqb _ _ e) ∙ cond-true _ _ _ (and_from _ _ f (and_from _ _ (le-leb low (index w) from) (lt-ltb 0 (w % (top + 1)) some)))

  pub end_is : examined k top low seen w ≡ Ok None → (kind w ≡ 9) × (formed w ≡ true) × (w % 32 ≡ seen)
  unfolding sight
  end_is e =
      let a = was_end (eqb (kind w) 9) (formed w && eqb (w % 32) seen) (eqb (kind w) k) (formed w && (leb low (index w) && ltb 0 (w % (top + 1)))) (index w, w % (top + 1)) e in
      let b = and_parts (formed w) (eqb (w % 32) seen) a.1 in
      (eqb-true (kind w) 9 a.0, b.0, eqb-true (w % 32) seen b.1)

  pub entry_is : (x : ℕ × ℕ) → examined k top low seen w ≡ Ok (Some x) → (kind w ≡ k) × (formed w ≡ true) × (low ≤ index w) × (0 < w % (top + 1)) × ((index w, w % (top + 1)) ≡ x)
  unfolding sight
  entry_is x e =
      let a = was_entry (eqb (kind w) 9) (formed w && eqb (w % 32) seen) (eqb (kind w) k) (formed w && (leb low (index w) && ltb 0 (w % (top + 1)))) (index w, w % (top + 1)) x e in
      let b = and_parts (formed w) (leb low (index w) && ltb 0 (w % (top + 1))) a.1 in
      let d = and_parts (leb low (index w)) (ltb 0 (w % (top + 1))) b.1 in
      (eqb-true (kind w) k a.0, b.0, leb-true low (index w) d.0, ltb-true 0 (w % (top + 1)) d.1, a.2)

  pub scan_by : (ws : List ℕ) (x : Result (Option (ℕ × ℕ)) ℕ) → examined k top low seen w ≡ x → scan k top low seen (w ∷ ws) ≡ onward x low w ws (scan k top (index w + 1) (seen + 1) ws)
  scan_by ws x e = ap (λ y. onward y low w ws (scan k top (index w + 1) (seen + 1) ws)) e

-- zeros have no entries
pub entries_zeros : (k m s : ℕ) (ns : List ℕ) → entries k s (replicate m 0 ++ ns) ≡ entries k (s + m) ns
entries_zeros k zero s ns = ap (λ n. entries k n ns) (sym (add-zero s))
entries_zeros k (suc m) s ns = entries_zeros k m (s + 1) ns ∙ ap (λ n. entries k n ns) (omega arith)

entries_none : (k m s : ℕ) → entries k s (replicate m 0) ≡ []
entries_none k m s = ap (entries k s) (sym (append-nil (replicate m 0))) ∙ entries_zeros k m s []

zeros_more : (m : ℕ) (ns : List ℕ) → replicate (m + 1) 0 ++ ns ≡ replicate m 0 ++ (0 ∷ ns)
zeros_more m ns = ap (λ zs. zs ++ ns) (sym (replicate_more m 0)) ∙ append_assoc (replicate m 0) (0 ∷ []) ns

below_append : (limit : ℕ) (a b : List ℕ) → T (all_below limit a) → T (all_below limit b) → T (all_below limit (a ++ b))
below_append limit [] b p q = q
below_append limit (n ∷ a) b p q = both (ltb n limit) (all_below limit (a ++ b)) (first_of (ltb n limit) (all_below limit a) p) (below_append limit a b (second_of (ltb n limit) (all_below limit a) p) q)

below_zeros : (top m : ℕ) → T (all_below (top + 1) (replicate m 0))
below_zeros top zero = tt
below_zeros top (suc m) = both (ltb 0 (top + 1)) (all_below (top + 1) (replicate m 0)) (lt→ltb 0 (top + 1) (omega arith)) (below_zeros top m)

module _ (k top : ℕ) (fit : Fits k top) where
  scan_end : (low seen : ℕ) (ws : List ℕ) → seen < 32 → scan k top low seen (end_word seen ∷ ws) ≡ read (replicate (16 - low) 0) ws
  scan_end low seen ws few = scan_by k top low seen (end_word seen) ws (Ok None) (is_end k top low seen (end_word seen) (kind_end seen) (formed_end seen few) (number_end seen few))

  scan_entry : (low seen s n : ℕ) (ws : List ℕ) → low ≤ s → s < 16 → 0 < n → n ≤ top → scan k top low seen (entry_word k s n ∷ ws) ≡ later (replicate (s - low) 0 ++ (n ∷ [])) (scan k top (s + 1) (seen + 1) ws)
  scan_entry low seen s n ws from station some most =
      let w = entry_word k s n in
      let small = fit.small in
      let is : kind w ≡ k = kind_entry k s n in
      let at : index w ≡ s = index_entry k s n station (omega arith) in
      let number : w % (top + 1) ≡ n = fit.is_number s n station most in
      scan_by k top low seen w ws (Ok (Some (index w, w % (top + 1)))) (is_entry k top low seen w (λ e. fit.no_end (sym is ∙ e)) is (fit.is_formed s n station most) (omega arith) (omega arith))
      ∙ ap (λ t. later (replicate (t - low) 0 ++ (w % (top + 1) ∷ [])) (scan k top (t + 1) (seen + 1) ws)) at
      ∙ ap (λ m. later (replicate (s - low) 0 ++ (m ∷ [])) (scan k top (s + 1) (seen + 1) ws)) number

  -- what is left of a row, read after zeros
  scan_written : (ns : List ℕ) (s low seen : ℕ) (ws : List ℕ) → low ≤ s → s + length ns ≡ 16 → seen + length ns ≤ 16 → T (all_below (top + 1) ns) → scan k top low seen (entries_and_end k s seen ns ++ ws) ≡ read (replicate (s - low) 0 ++ ns) ws
  scan_written [] s low seen ws from long few sound =
      ap (λ n. scan k top low seen (end_word n ∷ ws)) (add-zero seen)
      ∙ scan_end low seen ws (omega arith)
      ∙ ap (λ n. read (replicate (n - low) 0) ws) (omega arith)
      ∙ ap (λ ns. read ns ws) (sym (append-nil (replicate (s - low) 0)))
  scan_written (n ∷ ns) s low seen ws from long few sound =
      by_zero (λ s' low' seen' p q r. scan_written ns s' low' seen' ws p q r (second_of (ltb n (top + 1)) (all_below (top + 1) ns) sound)) (eqb n 0) refl
    where
      by_zero : ((s' low' seen' : ℕ) → low' ≤ s' → s' + length ns ≡ 16 → seen' + length ns ≤ 16 → scan k top low' seen' (entries_and_end k s' seen' ns ++ ws) ≡ read (replicate (s' - low') 0 ++ ns) ws) → (b : Bool) → eqb n 0 ≡ b → scan k top low seen (entries_and_end k s seen (n ∷ ns) ++ ws) ≡ read (replicate (s - low) 0 ++ (n ∷ ns)) ws
      by_zero ih true e =
          let z : 0 ≡ n = sym (eqb-true n 0 e) in
          ap (λ es. scan k top low seen ((es ++ (end_word (seen + length es) ∷ [])) ++ ws)) (cond-true _ _ _ e)
          ∙ ih (s + 1) low seen (omega arith) (omega arith) (omega arith)
          ∙ ap (λ m. read (replicate m 0 ++ ns) ws) (omega arith)
          ∙ ap (λ xs. read xs ws) (zeros_more (s - low) ns)
          ∙ ap (λ m. read (replicate (s - low) 0 ++ (m ∷ ns)) ws) z
      by_zero ih false e =
          let some : n ≡ 0 → ⊥ = eqb-false n 0 e in
          let low-n = ltb→lt n (top + 1) (first_of (ltb n (top + 1)) (all_below (top + 1) ns) sound) in
          let es = entries k (s + 1) ns in
          let pos : 0 < n = omega arith in
          let again : seen + suc (length es) ≡ (seen + 1) + length es = omega arith in
          let none : (s + 1) - (s + 1) ≡ 0 = omega arith in
          ap (λ xs. scan k top low seen ((xs ++ (end_word (seen + length xs) ∷ [])) ++ ws)) (cond-false _ _ _ e)
          ∙ scan_entry low seen s n ((es ++ (end_word (seen + suc (length es)) ∷ [])) ++ ws) from (omega arith) pos (omega arith)
          ∙ ap (λ m. later (replicate (s - low) 0 ++ (n ∷ [])) (scan k top (s + 1) (seen + 1) ((es ++ (end_word m ∷ [])) ++ ws))) again
          ∙ ap (later (replicate (s - low) 0 ++ (n ∷ []))) (ih (s + 1) (s + 1) (seen + 1) (omega arith) (omega arith) (omega arith))
          ∙ ap (λ m. read ((replicate (s - low) 0 ++ (n ∷ [])) ++ (replicate m 0 ++ ns)) ws) none
          ∙ ap (λ xs. read xs ws) (append_assoc (replicate (s - low) 0) (n ∷ []) ns)

  pub row_reads : (v : Row top) (ws : List ℕ) → row_reading k top (row_written k v ++ ws) ≡ read v ws
  row_reads v ws =
      let long = length_row v in
      let sound = second_of (eqb (length v.numbers) 16) (all_below (top + 1) v.numbers) v.sound in
      ap (as_row top) (scan_written v.numbers 0 0 0 ws (omega arith) (omega arith) (omega arith) sound) ∙ ap (λ x. read x ws) (row_of_row top v)

  -- words, and the numbers ns from entry low on that are read from them, with the words after those
  pub record Exact (ws : List ℕ) (low seen : ℕ) (ns more : List ℕ) : Type 0 where
    pub words : ws ≡ entries_and_end k low seen ns ++ more
    pub long : low + length ns ≡ 16
    pub sound : T (all_below (top + 1) ns)

  exact_end : (w : ℕ) (ws : List ℕ) (low seen : ℕ) → low ≤ 16 → kind w ≡ 9 → formed w ≡ true → w % 32 ≡ seen → Exact (w ∷ ws) low seen (replicate (16 - low) 0) ws
  exact_end w ws low seen from is f end =
      let zs : List ℕ = replicate (16 - low) 0 in
      let word : w ≡ end_word (seen + 0) = splits_end w is f ∙ ap end_word (omega arith) in
      record {
        words = ap (λ x. x ∷ ws) word ∙ sym (ap (λ es. (es ++ (end_word (seen + length es) ∷ [])) ++ ws) (entries_none k (16 - low) low));
        long = (let l : length zs ≡ 16 - low = length-replicate (16 - low) 0 in omega arith);
        sound = below_zeros top (16 - low);
      }

  exact_entry : (w : ℕ) (ws : List ℕ) (low seen : ℕ) (ms more : List ℕ) → kind w ≡ k → formed w ≡ true → low ≤ index w → 0 < w % (top + 1) → Exact ws (index w + 1) (seen + 1) ms more → Exact (w ∷ ws) low seen ((replicate (index w - low) 0 ++ (w % (top + 1) ∷ [])) ++ ms) more
  exact_entry w ws low seen ms more is f from some so =
      let t = index w in
      let n = w % (top + 1) in
      let zs : List ℕ = replicate (t - low) 0 in
      let es = entries k (t + 1) ms in
      let word : entry_word k t n ≡ w = sym (fit.splits w is f) in
      let small : n < top + 1 = below_of in
      let parts : (zs ++ (n ∷ [])) ++ ms ≡ zs ++ (n ∷ ms) = append_assoc zs (n ∷ []) ms in
      let found : entries k low ((zs ++ (n ∷ [])) ++ ms) ≡ w ∷ es = ap (entries k low) parts ∙ entries_zeros k (t - low) low (n ∷ ms) ∙ ap (λ j. entries k j (n ∷ ms)) (omega arith) ∙ cond-false _ _ _ (ne_eqb n 0 (λ e. omega arith)) ∙ ap (λ x. x ∷ es) word in
      record {
        words = ap (λ xs. w ∷ xs) (so.words ∙ ap (λ j. (es ++ (end_word j ∷ [])) ++ more) (omega arith)) ∙ sym (ap (λ xs. (xs ++ (end_word (seen + length xs) ∷ [])) ++ more) found);
        long = (let a = length-append (zs ++ (n ∷ [])) ms in let b = length-append zs (n ∷ []) in let l : length zs ≡ t - low = length-replicate (t - low) 0 in let h = so.long in omega arith);
        sound = below_append (top + 1) (zs ++ (n ∷ [])) ms (below_append (top + 1) zs (n ∷ []) (below_zeros top (t - low)) (both (ltb n (top + 1)) true (lt→ltb n (top + 1) small) tt)) so.sound;
      }
    where
      below_of : w % (top + 1) < top + 1
      below_of = mod_below w (top + 1) (omega arith)

  by_later : (w : ℕ) (ws : List ℕ) (low seen : ℕ) (ns more : List ℕ) → kind w ≡ k → formed w ≡ true → low ≤ index w → 0 < w % (top + 1) → (r : Reading (List ℕ)) → ((ms : List ℕ) → r ≡ read ms more → Exact ws (index w + 1) (seen + 1) ms more) → later (replicate (index w - low) 0 ++ (w % (top + 1) ∷ [])) r ≡ read ns more → Exact (w ∷ ws) low seen ns more
  by_later w ws low seen ns more is f from some (read ms ws') ih e =
      let p : (replicate (index w - low) 0 ++ (w % (top + 1) ∷ [])) ++ ms ≡ ns = cc in
      let q : ws' ≡ more = cc in
      subst (λ xs. Exact (w ∷ ws) low seen xs more) p (exact_entry w ws low seen ms more is f from some (ih ms (ap (read ms) q)))
  by_later w ws low seen ns more is f from some (wrong m j) ih e = let z : ◌≡◌ {A = ℕ} 0 1 = cc in absurd (omega arith)

  by_word : (w : ℕ) (ws : List ℕ) (low seen : ℕ) (ns more : List ℕ) → low ≤ 16 → ((ms : List ℕ) → scan k top (index w + 1) (seen + 1) ws ≡ read ms more → Exact ws (index w + 1) (seen + 1) ms more) → (x : Result (Option (ℕ × ℕ)) ℕ) → examined k top low seen w ≡ x → onward x low w ws (scan k top (index w + 1) (seen + 1) ws) ≡ read ns more → Exact (w ∷ ws) low seen ns more
  by_word w ws low seen ns more from ih (Ok (Some x)) is e =
      let p = entry_is k top low seen w x is in
      let more_of : ℕ × ℕ → Reading (List ℕ) = λ y. later (replicate (y.0 - low) 0 ++ (y.1 ∷ [])) (scan k top (index w + 1) (seen + 1) ws) in
      by_later w ws low seen ns more p.0 p.1 p.2 p.3 _ ih (ap more_of p.4 ∙ e)
  by_word w ws low seen ns more from ih (Ok None) is e =
      let p = end_is k top low seen w is in
      let a : replicate (16 - low) 0 ≡ ns = cc in
      let b : ws ≡ more = cc in
      subst (λ xs. Exact (w ∷ ws) low seen xs more) a (subst (Exact (w ∷ ws) low seen (replicate (16 - low) 0)) b (exact_end w ws low seen from p.0 p.1 p.2))
  by_word w ws low seen ns more from ih (Err n) is e = let z : ◌≡◌ {A = ℕ} 0 1 = cc in absurd (omega arith)

  pub scan_exact : (ws : List ℕ) (low seen : ℕ) (ns more : List ℕ) → low ≤ 16 → scan k top low seen ws ≡ read ns more → Exact ws low seen ns more
  scan_exact [] low seen ns more from e = let z : ◌≡◌ {A = ℕ} 0 1 = cc in absurd (omega arith)
  scan_exact (w ∷ ws) low seen ns more from e = by_word w ws low seen ns more from (λ ms f. scan_exact ws (index w + 1) (seen + 1) ms more (omega arith) f) _ refl e

  as_read : (ws : List ℕ) (v : Row top) (more : List ℕ) (r : Reading (List ℕ)) → ((ns : List ℕ) → r ≡ read ns more → Exact ws 0 0 ns more) → as_row top r ≡ read v more → ws ≡ row_written k v ++ more
  as_read ws v more (read ns ws') exact e =
      let q : ws' ≡ more = cc in
      let x = exact ns (ap (read ns) q) in
      let is : row_of top ns ≡ v = cc in
      let long : length ns ≡ 16 = (let h = x.long in omega arith) in
      let row : ns ≡ v.numbers = sym (stands top ns long x.sound) ∙ ap (λ (c : Row top). c.numbers) is in
      x.words ∙ ap (λ xs. entries_and_end k 0 0 xs ++ more) row
  as_read ws v more (wrong m j) exact e = let z : ◌≡◌ {A = ℕ} 0 1 = cc in absurd (omega arith)

  pub row_exact : (ws : List ℕ) (v : Row top) (more : List ℕ) → row_reading k top ws ≡ read v more → ws ≡ row_written k v ++ more
  row_exact ws v more e = as_read ws v more (scan k top 0 0 ws) (λ ns f. scan_exact ws 0 0 ns more (omega arith) f) e
