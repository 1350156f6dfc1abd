-- A part of a text is its first byte and the part behind it, and parts of a part are parts. The first place whose byte passes a test is
-- the present one where its byte passes, and otherwise the first from the next on.
-- Assumes nothing.
use Prim.Native.Nat.{ℕ, zero, suc, ◌+◌, ◌-◌, ◌≤◌, ◌<◌, min, max}
use mathlib.Core.Path.{◌≡◌, refl, sym, ap, ◌∙◌}
use mathlib.Core.Bool.{Bool, true, false}
use mathlib.Core.List.{List, [], ◌∷◌}
use native.Mathlib.Omega.{arith}
use native.Mathlib.Decide.{dec_le}
use native.Mathlib.Nat.{lt_of_not-le, zero-sub, sub-zero, suc-sub-suc, add-zero, zero-min, min-zero, suc-min-suc}
use lib.ListN.{length, take, drop, get_or, length-take, length-drop}
use lib.Seq.{take-nil, take_all, take-take, drop-drop, drop-cons}
use Rattle.base.specs.Pick.{pick}
use Rattle.words.specs.Words.{before}
use Rattle.words.specs.Places.{part, first_place}

pub no_bytes : (l : List ℕ) → length l ≡ 0 → l ≡ []
no_bytes [] e = refl
no_bytes (x ∷ l) e = absurd (omega arith)

-- ---- parts
drop_take : (k n : ℕ) (l : List ℕ) → drop k (take n l) ≡ take (n - k) (drop k l)
drop_take zero n l = rw (sub-zero n)
drop_take (suc k) zero l = rw (zero-sub (suc k))
drop_take (suc k) (suc n) [] = sym (take-nil (suc n - suc k))
drop_take (suc k) (suc n) (x ∷ l) = rw (suc-sub-suc n k) (drop_take k n l)

take_min : (n : ℕ) (l : List ℕ) → take (min n (length l)) l ≡ take n l
take_min zero l = rw (zero-min (length l))
take_min (suc n) [] = rw (min-zero (suc n))
take_min (suc n) (x ∷ l) = rw (suc-min-suc n (length l)) (ap (λ (k : List ℕ). x ∷ k) (take_min n l))

module _ (text : List ℕ) (from to : ℕ) where
  pub part_next : from < to → from < length text → part text from to ≡ get_or text from 0 ∷ part text (suc from) to
  unfolding part
  part_next h k = let e : to - from ≡ suc (to - suc from) = omega arith in rw (e, drop-cons text from 0 k)

  pub part_none : min to (length text) ≤ from → part text from to ≡ []
  unfolding part
  part_none h =
      let e : length (part text from to) ≡ 0 = simp (length-take, length-drop) (omega arith) in
      no_bytes (part text from to) e

  pub length_part : length (part text from to) ≡ min to (length text) - from
  unfolding part
  length_part = simp (length-take, length-drop) (omega arith)

  pub part_drop : (k : ℕ) → drop k (part text from to) ≡ part text (from + k) to
  unfolding part
  part_drop k =
      let e : to - from - k ≡ to - (from + k) = omega arith in
      drop_take k (to - from) (drop from text) ∙ rw (drop-drop, e)

  pub part_take : (k : ℕ) → k ≤ to - from → take k (part text from to) ≡ part text from (from + k)
  unfolding part
  part_take k h =
      let e : from + k - from ≡ k = omega arith in
      rw (take-take k (to - from) (drop from text) h, e)

  -- a part that reaches past the text's end is what the text has of it
  pub part_held : (f t : ℕ) → t ≡ min to (length text) → f ≡ min from t → take (t - f) (drop f text) ≡ part text from to
  unfolding part
  part_held f t e d = go (dec_le from t)
    where
      go : Dec (from ≤ t) → take (t - f) (drop f text) ≡ part text from to
      go (yes h) =
          let same : f ≡ from = omega arith in
          let room : t - from ≡ min (to - from) (length (drop from text)) = simp length-drop (omega arith) in
          rw (same, room) (take_min (to - from) (drop from text))
      go (no h) =
          let none : t - f ≡ 0 = omega (arith, lt_of_not-le h) in
          rw none (sym (part_none (omega (arith, lt_of_not-le h))))

pub part_rest : (text : List ℕ) (from : ℕ) → part text from (length text) ≡ drop from text
unfolding part
part_rest text from = take_all (length text - from) (drop from text) (rw length-drop (omega arith))

-- ---- the bytes before the first that passes, and those from it on
abbrev pub since : (ℕ → Bool) → List ℕ → List ℕ
since p l = drop (length (before p l)) l

module _ (p : ℕ → Bool) where
  pub before_none : before p [] ≡ []
  unfolding before
  before_none = refl

  pub before_stop : (b : ℕ) (bs : List ℕ) → p b ≡ true → before p (b ∷ bs) ≡ []
  unfolding before
  before_stop b bs e = rw e

  pub before_go : (b : ℕ) (bs : List ℕ) → p b ≡ false → before p (b ∷ bs) ≡ b ∷ before p bs
  unfolding before
  before_go b bs e = rw e

  pub before_taken : (l : List ℕ) → take (length (before p l)) l ≡ before p l
  unfolding before
  before_taken [] = refl
  before_taken (b ∷ bs) = go (p b) (before_taken bs)
    where
      go : (t : Bool) → take (length (before p bs)) bs ≡ before p bs
          → take (length (pick t [] (b ∷ before p bs))) (b ∷ bs) ≡ pick t [] (b ∷ before p bs)
      go true e = refl
      go false e = ap (λ (l : List ℕ). b ∷ l) e

  -- behind them is one that passes, or nothing
  pub before_again : (l : List ℕ) → before p (since p l) ≡ []
  unfolding before
  before_again [] = refl
  before_again (b ∷ bs) = go (p b) refl (before_again bs)
    where
      go : (t : Bool) → p b ≡ t → before p (since p bs) ≡ []
          → before p (drop (length (pick t [] (b ∷ before p bs))) (b ∷ bs)) ≡ []
      go true e ih = rw e
      go false e ih = ih

  pub length_before : (l : List ℕ) → length (before p l) ≤ length l
  length_before l = omega (arith, ap length (before_taken l), length-take (length (before p l)) l)

-- ---- the first place
module _ (p : ℕ → Bool) (text : List ℕ) (at end : ℕ) where
  pub first_stop : at < end → at < length text → p (get_or text at 0) ≡ true → first_place p text at end ≡ at
  unfolding first_place
  first_stop h k e = rw (part_next text at end h k, before_stop p (get_or text at 0) (part text (suc at) end) e) (add-zero at)

  pub first_go : at < end → at < length text → p (get_or text at 0) ≡ false → first_place p text at end ≡ first_place p text (suc at) end
  unfolding first_place
  first_go h k e = rw (part_next text at end h k, before_go p (get_or text at 0) (part text (suc at) end) e) (omega arith)

  pub first_none : min end (length text) ≤ at → first_place p text at end ≡ at
  unfolding first_place
  first_none h = rw (part_none text at end h, before_none p) (add-zero at)

  pub first_from : at ≤ first_place p text at end
  unfolding first_place
  first_from = omega arith

  pub first_to : first_place p text at end ≤ max at (min end (length text))
  unfolding first_place
  first_to = omega (arith, length_before p (part text at end), length_part text at end)

  -- the part before it, and the part from it on
  pub part_before : part text at (first_place p text at end) ≡ before p (part text at end)
  unfolding first_place
  part_before =
      let l = part text at end in
      let few : length (before p l) ≤ end - at = omega (arith, length_before p l, length_part text at end) in
      sym (part_take text at end (length (before p l)) few) ∙ before_taken p l

  pub part_from : part text (first_place p text at end) end ≡ since p (part text at end)
  unfolding first_place
  part_from = sym (part_drop text at end (length (before p (part text at end))))
