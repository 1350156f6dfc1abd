-- Lines that all say their numbers, no more than there may be, and some of the delays, have no mistake. Counted by their numbers: a line
-- has as many as its section has fields, so it is enough to know how many each section says.
-- Assumes nothing.
use Prim.Native.Nat.{ℕ, suc, ◌+◌, ◌*◌, ◌≤◌, ◌<◌}
use mathlib.Core.Path.{◌≡◌, refl, ap, ◌∙◌}
use mathlib.Core.List.{List, [], ◌∷◌}
use Rattle.std.specs.Prelude.{None}
use native.Mathlib.Omega.{arith}
use native.Mathlib.Decide.{dec_lt}
use native.Mathlib.Nat.{zero-mul, mul-le-mul_right}
use borrow.Author.Tests.{lt-ltb, eq-eqb, ne_eqb}
use lib.ListN.{length, get_or, length-append}
use Rattle.notation.specs.Notation.{Word, version_line}
use Rattle.notation.specs.Meant.{Line, numbers, wrong, silent, unknown, of, line_said, numbers_of, section_in}
use Rattle.notation.specs.Steps.{fields_of}
use Rattle.notation.proofs.ShapeLaws.{fields_some}
use Rattle.notation.proofs.LinesLaws.{WholeLine, whole_line, section_none, section_next}
use Rattle.parser.specs.Mistakes.{line_fault, counted, mistake_from}
use Rattle.parser.proofs.TallyLaws.{Counted, line_counts}

-- a line that says nothing, or all its numbers
unfoldable pub Right : Line → Type 0
Right silent = Unit
Right unknown = ⊥
Right (of s (numbers ns)) = s ≤ version_line
Right (of s (wrong k ws)) = ⊥

unfoldable pub AllRight : ℕ → List (List Word) → Type 0
AllRight version [] = Unit
AllRight version (l ∷ ls) = Right (line_said version l) × AllRight version ls

-- ---- sizes
-- fewer than one more, in pieces of the same size
pub whole_below : (a b f : ℕ) → a * f < b * f + f → a ≤ b
whole_below a b f h = go (dec_lt b a)
  where
    go : Dec (b < a) → a ≤ b
    go (yes k) = let up : suc b * f ≤ a * f = mul-le-mul_right f k in absurd (omega arith)
    go (no k) = omega arith

module _ (version : ℕ) (most : List ℕ) (m : length most ≡ 7) where
  -- with so many numbers still to come of each section there are not too many, and some of the delays
  pub record Enough (counts : List ℕ) (coming : ℕ → ℕ) : Type 0 where
    pub long : length counts ≡ 7
    pub fits : (s : ℕ) → s ≤ version_line → get_or counts s 0 * fields_of s + coming s ≤ get_or most s 0 * fields_of s
    pub delays : 0 < get_or counts 0 0 * fields_of 0 + coming 0

  few : (counts : List ℕ) (coming : ℕ → ℕ) → Enough counts coming → (s : ℕ) → s ≤ version_line → get_or counts s 0 ≤ get_or most s 0
  few counts coming r s h =
      whole_below (get_or counts s 0) (get_or most s 0) (fields_of s) (omega (arith, r.fits s h, fields_some s h))

  -- ---- a line
  module _ (counts : List ℕ) (coming : ℕ → ℕ) (ws : List Word) where
    no_fault : (x : Line) → Right x → WholeLine x → Enough counts (λ s. length (numbers_of s x) + coming s)
        → line_fault most counts ws x ≡ None
    unfolding line_fault numbers_of Right WholeLine
    no_fault silent a w r = refl
    no_fault unknown a w r = absurd a
    no_fault (of k (wrong j us)) a w r = absurd a
    no_fault (of k (numbers ns)) a w r =
        let fit : get_or counts k 0 * fields_of k + (length ns + coming k) ≤ get_or most k 0 * fields_of k =
        rw (eq-eqb k k refl) at (r.fits k a) in
        let next : suc (get_or counts k 0) ≤ get_or most k 0 =
        whole_below (suc (get_or counts k 0)) (get_or most k 0) (fields_of k) (omega (arith, fit, w, fields_some k a)) in
        rw (lt-ltb (get_or counts k 0) (get_or most k 0) next)

    enough_next : (x : Line) → Right x → WholeLine x → Enough counts (λ s. length (numbers_of s x) + coming s)
        → Enough (counted most counts x) coming
    enough_next x a w r = record {
      long = (made 0 (omega arith)).long;
      fits = λ s h. omega (arith, (made s h).size, r.fits s h);
      delays = omega (arith, (made 0 (omega arith)).size, r.delays);
    }
      where
        made : (s : ℕ) → s ≤ version_line → Counted most m s counts (counted most counts x) (numbers_of s x)
        made s h = line_counts most m s counts ws x r.long (few counts _ r s h) w (no_fault x a w r)

  -- ---- the lines
  pub right_lines : (text : List ℕ) (ls : List (List Word)) (counts : List ℕ) (i : ℕ) → AllRight version ls
      → Enough counts (λ s. length (section_in version s ls)) → mistake_from text version most counts i ls ≡ None
  unfolding mistake_from AllRight
  right_lines text [] counts i a r = rw (ne_eqb (get_or counts 0 0) 0 some_are)
    where
      some_are : get_or counts 0 0 ≡ 0 → ⊥
      some_are e =
          let z : get_or counts 0 0 * fields_of 0 ≡ 0 = ap (λ (k : ℕ). k * fields_of 0) e ∙ zero-mul (fields_of 0) in
          let n : length (section_in version 0 []) ≡ 0 = ap length (section_none version 0) in
          omega (arith, r.delays, z, n)
  right_lines text (ws ∷ ls) counts i (a, b) r =
      rw (none_here, mistake_from)
      (right_lines text ls (counted most counts (line_said version ws)) (suc i) b
      (enough_next counts (λ s. length (section_in version s ls)) ws (line_said version ws) a (whole_line version ws) now))
    where
      more : (s : ℕ) → length (section_in version s (ws ∷ ls)) ≡ length (numbers_of s (line_said version ws)) + length (section_in version s ls)
      more s = ap length (section_next version s ws ls) ∙ length-append (numbers_of s (line_said version ws)) (section_in version s ls)

      now : Enough counts (λ s. length (numbers_of s (line_said version ws)) + length (section_in version s ls))
      now = record {
        long = r.long;
        fits = λ s h. omega (arith, r.fits s h, more s);
        delays = omega (arith, r.delays, more 0);
      }

      none_here : line_fault most counts ws (line_said version ws) ≡ None
      none_here = no_fault counts (λ s. length (section_in version s ls)) ws (line_said version ws) a (whole_line version ws) now
