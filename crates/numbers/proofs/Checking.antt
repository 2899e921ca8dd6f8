-- The check of a part of the bytes, and of those after it.
use Prim.Native.Nat.{ℕ, zero, suc, ◌+◌, ◌*◌, ◌%◌, ◌<◌, ◌≤◌}
use mathlib.Core.Path.{◌≡◌, refl, ap, sym, ◌∙◌}
use mathlib.Core.List.{List, [], ◌++◌, append_assoc}
use lib.ListN.{length, get_or, drop, take-append-drop}
use lib.Seq.{drop-drop, take_all}
use native.Mathlib.Omega.{arith}
use Rattle.std.specs.List.{flat_map}
use Rattle.std.specs.Simd.{first_chunks}
use Rattle.std.proofs.lemmas.List.{drop_more, at_drop_more, at_drop_all}
use Rattle.std.proofs.lemmas.List.Concat.{flat_map-cons}
use Rattle.numbers.specs.Check.{check_step, check_from, check}
use Rattle.numbers.specs.CheckWords.{word_sum}
use Rattle.numbers.proofs.Theorems.Check.{check_append}
use Rattle.numbers.proofs.Theorems.CheckWords.{check_word}

-- the check of a word, taken with one division
pub word_check : (h : ℕ) (word : List ℕ) → length word ≡ 8 → check_from h word ≡ word_sum h word 0 % 65521
word_check h word l = sym (check_word word 0 (omega arith) h ∙ ap (check_from h) (take_all 8 word (omega arith)))

-- the check of the bytes from an index on, and past the last
pub check_on : (s : List ℕ) (i h : ℕ) → i < length s → check_from h (drop i s) ≡ check_from (check_step h (get_or s i 0)) (drop (i + 1) s)
unfolding check_from
check_on s i h l = at_drop_more (check_from h) s i 0 l

pub check_end : (s : List ℕ) (i h : ℕ) → length s ≤ i → check_from h (drop i s) ≡ h
unfolding check_from
check_end s i h l = at_drop_all (check_from h) s i l

-- the check of the words from an index on, and past the last
pub words_on : (words : List (List ℕ)) (i h : ℕ) → i < length words →
    check_from h (flat_map (λ word. word) (drop i words)) ≡ check_from (check_from h (get_or words i [])) (flat_map (λ word. word) (drop (i + 1) words))
words_on words i h l = rw (drop_more words i [] l, flat_map-cons) (check_append h (get_or words i []) _)

pub words_end : (words : List (List ℕ)) (i h : ℕ) → length words ≤ i → check_from h (flat_map (λ word. word) (drop i words)) ≡ h
unfolding check_from
words_end words i h l = at_drop_all (λ rest. check_from h (flat_map (λ word. word) rest)) words i l

-- the bytes of the first k words, and those after them
whole : (k : ℕ) (s : List ℕ) → flat_map (λ word. word) (first_chunks 8 k s) ++ drop (k * 8) s ≡ s
whole zero s = refl
whole (suc k) s =
    let on : drop (suc k * 8) s ≡ drop (k * 8) (drop 8 s) = rw drop-drop (ap (λ n. drop n s) (omega arith)) in
    rw (flat_map-cons, on, append_assoc, whole k (drop 8 s)) (take-append-drop 8 s)

-- going on over the bytes after the words
pub check_rest : (s : List ℕ) (k : ℕ) → check_from (check (flat_map (λ word. word) (first_chunks 8 k s))) (drop (k * 8) s) ≡ check s
check_rest s k = sym (check_append 0 _ (drop (k * 8) s)) ∙ ap check (whole k s)
