-- What is put settles its place and its text, keeps the text's length, and two puts one behind the other are one of both:
-- what is left of the room is what the second finds.
-- Assumes nothing.
use Prim.Native.Nat.{ℕ, zero, suc, ◌+◌, ◌-◌, ◌≤◌, ◌<◌, min}
use mathlib.Core.Path.{◌≡◌, sym, ap, ◌∙◌}
use mathlib.Core.List.{List, [], ◌∷◌, ◌++◌, append_assoc, append-nil}
use native.Mathlib.Omega.{arith}
use native.Mathlib.Numerals.{add-one}
use native.Mathlib.Nat.{lt_of_not-le, zero-sub, sub-zero, suc-sub-suc, add-zero, add_assoc}
use native.Mathlib.Decide.{dec_le}
use lib.ListN.{length, take, drop, set, length-append, length-take, length-drop, take-append-drop}
use lib.Seq.{take-nil, take_all, take_at, drop-append-add, drop-drop, set_split, append_snoc}
use Rattle.text.specs.Text.{fitting, Puts}

pub puts_settles : (b : List ℕ) (at : ℕ) (xs : List ℕ) (r s : ℕ) (a c : List ℕ) → Puts b at xs r a → Puts b at xs s c → (r ≡ s) × (a ≡ c)
puts_settles b at xs r s a c p q = (p.place ∙ sym q.place, p.holds ∙ sym q.holds)

-- where nothing fits, nothing changes
puts_nothing : (b : List ℕ) (at : ℕ) (xs : List ℕ) → fitting b at xs ≡ [] → Puts b at xs at b
puts_nothing b at xs e =
    record {
      place = rw (e, add-zero);
      holds = rw (e, add-zero, append-nil) (sym (take-append-drop at b));
    }

pub puts_none : (b : List ℕ) (at : ℕ) → Puts b at [] at b
unfolding fitting
puts_none b at = puts_nothing b at [] (take-nil (length b - at))

pub puts_past : (b : List ℕ) (at : ℕ) (xs : List ℕ) → length b ≤ at → Puts b at xs at b
unfolding fitting
puts_past b at xs h = puts_nothing b at xs (let e : length b - at ≡ 0 = omega arith in rw e)

-- one byte that fits is a store
one_fits : (b : List ℕ) (at x : ℕ) → at < length b → fitting b at (x ∷ []) ≡ x ∷ []
unfolding fitting
one_fits b at x h = take_all (length b - at) (x ∷ []) (omega arith)

pub puts_one : (b : List ℕ) (at x : ℕ) → at < length b → Puts b at (x ∷ []) (at + 1) (set b at x)
puts_one b at x h =
    record {
      place = rw (one_fits b at x h);
      holds =
          rw (one_fits b at x h, add-one) (set_split b at x h ∙ sym (append_snoc (take at b) x (drop (suc at) b)));
    }

length_fitting : (b : List ℕ) (at : ℕ) (xs : List ℕ) → length (fitting b at xs) ≡ min (length b - at) (length xs)
unfolding fitting
length_fitting b at xs = length-take (length b - at) xs

pub length_puts : (b : List ℕ) (at : ℕ) (xs : List ℕ) (r : ℕ) (a : List ℕ) → Puts b at xs r a → length a ≡ length b
length_puts b at xs r a p = rw p.holds (simp (length-append, length-take, length-drop, length_fitting) (omega arith))

take_append : (n : ℕ) (xs ys : List ℕ) → take n (xs ++ ys) ≡ take n xs ++ take (n - length xs) ys
take_append n [] ys = rw (take-nil n, sub-zero n)
take_append zero (x ∷ xs) ys = rw (zero-sub (suc (length xs)))
take_append (suc n) (x ∷ xs) ys = rw (suc-sub-suc n (length xs)) (ap (λ (l : List ℕ). x ∷ l) (take_append n xs ys))

module _ (b : List ℕ) (at : ℕ) (xs : List ℕ) (r : ℕ) (m ys : List ℕ) (s : ℕ) (a : List ℕ) (p : Puts b at xs r m) (q : Puts m r ys s a) where
  both_fit : fitting b at (xs ++ ys) ≡ fitting b at xs ++ fitting m r ys
  unfolding fitting
  both_fit =
      let room : length m - r ≡ length b - at - length xs = omega (arith, p.place, length_puts b at xs r m p, length_fitting b at xs) in
      rw room (take_append (length b - at) xs ys)

  within_text : at ≤ length b → Puts b at (xs ++ ys) s a
  within_text h =
      let f = fitting b at xs in
      let g = fitting m r ys in
      let head : List ℕ = take at b ++ f in
      let long : length head ≡ r = simp (length-append, length-take) (omega (arith, p.place)) in
      let start : take r m ≡ head = rw p.holds (take_at head (drop (at + length f) b) r long) in
      let end : drop (r + length g) m ≡ drop (at + (length f + length g)) b = rw (p.holds, ← long, drop-append-add, drop-drop, add_assoc) in
      record {
        place = rw (both_fit, length-append) (omega (arith, p.place, q.place));
        holds = rw (both_fit, length-append) (q.holds ∙ rw (start, end, append_assoc (take at b) f g));
      }

-- bytes, and others behind them
pub puts_more : (b : List ℕ) (at : ℕ) (xs : List ℕ) (r : ℕ) (m ys : List ℕ) (s : ℕ) (a : List ℕ) → Puts b at xs r m → Puts m r ys s a → Puts b at (xs ++ ys) s a
puts_more b at xs r m ys s a p q = go (dec_le at (length b))
  where
    go : Dec (at ≤ length b) → Puts b at (xs ++ ys) s a
    go (yes h) = within_text b at xs r m ys s a p q h
    go (no n) =
        let past : length b ≤ at = omega (arith, lt_of_not-le n) in
        let e = puts_settles b at xs r at m b p (puts_past b at xs past) in
        let h : length m ≤ r = rw (e.0, e.1) past in
        let k = puts_settles m r ys s r a m q (puts_past m r ys h) in
        rw (k.0, k.1, e.0, e.1) (puts_past b at (xs ++ ys) past)

-- ---- bytes for which there is room, at the start
module _ (b xs : List ℕ) (r : ℕ) (a : List ℕ) (room : length xs ≤ length b) (p : Puts b 0 xs r a) where
  whole : fitting b 0 xs ≡ xs
  unfolding fitting
  whole = take_all (length b - 0) xs (omega arith)

  long : length xs ≡ r
  long = omega (arith, rw whole at p.place)

  -- they stand there whole
  pub puts_whole : take r a ≡ xs
  puts_whole = rw (p.holds, whole) (take_at xs (drop (0 + length xs) b) r long)
