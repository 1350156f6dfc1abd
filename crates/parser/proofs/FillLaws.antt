-- A list that is filled line by line: what stands in it, and what the lines that are left put behind that.
-- Assumes nothing.
use Prim.Native.Nat.{ℕ, zero, suc, ◌+◌, ◌-◌, ◌≤◌, ◌<◌}
use mathlib.Core.Path.{◌≡◌, refl, sym, ap, ◌∙◌, subst}
use mathlib.Core.Bool.{Bool, true, false}
use mathlib.Core.Logic.{◌⊎◌, inl, inr}
use mathlib.Core.List.{List, [], ◌∷◌, ◌++◌, append_assoc}
use native.Mathlib.Omega.{arith}
use borrow.Author.Tests.{leb-true, leb-false}
use lib.Dec.{leb}
use lib.ListN.{length, get_or, take, drop, replicate, length-replicate, take-append-drop}
use lib.Seq.{take_all, drop-drop, paste, length-paste, take-paste, drop-paste}
use Rattle.base.specs.Pick.{pick}
use Rattle.words.specs.Words.{words_of}
use Rattle.words.specs.Places.{part, line_end}
use Rattle.notation.specs.Notation.{version_line}
use Rattle.notation.specs.Meant.{line_said, text_lines, numbers_of, section_in}
use Rattle.notation.specs.Steps.{fields_of, lines_from}
use Rattle.notation.specs.Fitted.{held, fitted}
use Rattle.notation.proofs.FittedLaws.{held_none, fitted_none, held_full, fitted_full, held_more, fitted_more}
use Rattle.notation.proofs.LinesLaws.{lines_next, section_next, record_or_none}
use Rattle.parser.specs.declared.lines.Line.{Line}
use Rattle.parser.specs.declared.lines.Line.TheVariants.{Silent, Unknown, Good, Wrong}
use Rattle.parser.specs.Lines.{line_told, Tells, numbers_in, list_with, place_with}

-- ---- the numbers of a line
pub numbers_are : (text : List ℕ) (end section : ℕ) (r : Line) → numbers_of section (line_told text end r) ≡ numbers_in section r
unfolding numbers_of line_told numbers_in
numbers_are text end section Silent = refl
numbers_are text end section Unknown = refl
numbers_are text end section (Good s ns) = refl
numbers_are text end section (Wrong s k place) = refl

-- ---- zeros
pub drop_zeros : (k m : ℕ) → drop {A = ℕ} k (replicate m 0) ≡ replicate (m - k) 0
drop_zeros zero m = let e : m - 0 ≡ m = omega arith in rw e
drop_zeros (suc k) zero = let e : 0 - suc k ≡ 0 = omega arith in rw e
drop_zeros (suc k) (suc m) = let e : suc m - suc k ≡ m - k = omega arith in rw e (drop_zeros k m)

-- ---- the list
module _ (n room : ℕ) (all : List ℕ) where
  pub record Filling (list : List ℕ) (put : ℕ) (rest : List ℕ) : Type 0 where
    pub few : put ≤ room
    pub long : length list ≡ room
    pub zeros : drop put list ≡ replicate (room - put) 0
    pub fills : take put list ++ fitted n (room - put) rest ≡ fitted n room all
    pub counts : put + length (held n (room - put) rest) ≡ length (held n room all)

  pub filling_start : (list : List ℕ) → list ≡ replicate room 0 → Filling list 0 all
  filling_start list e =
      let d : room - 0 ≡ room = omega arith in
      record { few = omega arith; long = ap length e ∙ length-replicate room 0; zeros = rw d e; fills = rw d; counts = rw d (omega arith) }

  pub filling_end : (list : List ℕ) (put : ℕ) (rest : List ℕ) → rest ≡ [] → Filling list put rest
      → (put ≡ length (held n room all)) × (list ≡ fitted n room all)
  filling_end list put rest e f =
      let m = room - put in
      let none-held : length (held n m rest) ≡ 0 = rw (e, held_none n m) in (
        omega (arith, f.counts, none-held),
        sym (take-append-drop put list) ∙ ap (λ (l : List ℕ). take put list ++ l) (f.zeros ∙ sym (ap (fitted n m) e ∙ fitted_none n m)) ∙ f.fills,
      )

  -- a line puts nothing, or a record
  pub filling_more : (list : List ℕ) (put : ℕ) (r rest : List ℕ) → Filling list put (r ++ rest) → (length r ≡ 0) ⊎ (length r ≡ n)
      → Filling (list_with list put r) (place_with list put r) rest
  unfolding list_with place_with
  filling_more list put r rest f h = go (leb (length r) (length list - put)) (leb-true _ _) (leb-false _ _)
    where
      m : ℕ
      m = room - put

      count : ℕ
      count = length r

      whole : take count r ≡ r
      whole = take_all count r (omega arith)

      go : (t : Bool) → (t ≡ true → count ≤ length list - put) → (t ≡ false → length list - put < count)
          → Filling (pick t (paste list put r count) list) (pick t (put + count) put) rest
      go true fits over =
          let k : count ≤ m = omega (arith, fits refl, f.long) in
          let p : put ≤ length list = omega (arith, f.few, f.long) in
          let q : put + count ≤ length list = omega (arith, f.few, f.long) in
          let z : m - count ≡ room - (put + count) = omega (arith, f.few) in
          let c : count ≤ length r = omega arith in
          record {
            few = omega (arith, f.few);
            long = length-paste list put r count q c ∙ f.long;
            zeros =
                drop-paste list put r count p c ∙ sym (drop-drop count put list)
                ∙ ap (drop count) f.zeros ∙ drop_zeros count m ∙ ap (λ (i : ℕ). replicate i 0) z;
            fills =
                rw (take-paste list put r count p c, whole, ← z)
                (append_assoc (take put list) r (fitted n (m - count) rest)
                ∙ ap (λ (l : List ℕ). take put list ++ l) (sym (fitted_more n m r rest h k)) ∙ f.fills);
            counts = rw (← z) (omega (arith, f.counts, held_more n m r rest h k));
          }
      go false fits over = full h
        where
          o : m < count
          o = omega (arith, over refl, f.long)

          full : (count ≡ 0) ⊎ (count ≡ n) → Filling list put rest
          full (inl z) = absurd (omega (arith, o))
          full (inr z) =
              let x : m < n = omega (arith, o) in
              record {
                few = f.few;
                long = f.long;
                zeros = f.zeros;
                fills = ap (λ (l : List ℕ). take put list ++ l) (fitted_full n m rest x ∙ sym (fitted_full n m (r ++ rest) x)) ∙ f.fills;
                counts = ap (λ (l : List ℕ). put + length l) (held_full n m rest x ∙ sym (held_full n m (r ++ rest) x)) ∙ f.counts;
              }

-- a line of the text
pub filling_line : (text : List ℕ) (version section room put at end place : ℕ) (list new : List ℕ) (r : Line)
    → at ≤ length text → end ≡ line_end text at → Tells text at end (line_said version (words_of (part text at end))) r
    → place ≡ place_with list put (numbers_in section r) → new ≡ list_with list put (numbers_in section r)
    → Filling (fields_of section) room (section_in version section (text_lines text)) list put (section_in version section (lines_from text at))
    → Filling (fields_of section) room (section_in version section (text_lines text)) new place (section_in version section (lines_from text (end + 1)))
filling_line text version section room put at end place list new r h e t p q f =
    let words = words_of (part text at end) in
    let n = fields_of section in
    let all = section_in version section (text_lines text) in
    let rest = section_in version section (lines_from text (end + 1)) in
    let said : numbers_of section (line_said version words) ≡ numbers_in section r = ap (numbers_of section) (sym t.said) ∙ numbers_are text end section r in
    let first : lines_from text at ≡ words ∷ lines_from text (end + 1) = rw e (lines_next text at h) in
    let s =
    ap (section_in version section) first ∙ section_next version section words (lines_from text (end + 1)) ∙ ap (λ (l : List ℕ). l ++ rest) said in
    rw (p, q)
    (filling_more n room all list put (numbers_in section r) rest (subst (λ (l : List ℕ). Filling n room all list put l) s f)
    (rw (← said) (record_or_none version section words)))

-- ---- the version: the first number of its lines, in a list of one
pub first_none : (ns : List ℕ) (n : ℕ) → n ≡ length (held (fields_of version_line) 1 ns) → n ≡ 0 → 1 ≡ get_or ns 0 1
unfolding held fields_of
first_none [] n e z = refl
first_none (x ∷ ns) n e z = absurd (omega (arith, e))

pub first_some : (ns : List ℕ) (n : ℕ) (list : List ℕ) → n ≡ length (held (fields_of version_line) 1 ns) → (n ≡ 0 → ⊥)
    → list ≡ fitted (fields_of version_line) 1 ns → get_or list 0 0 ≡ get_or ns 0 1
unfolding held fitted fields_of
first_some [] n list e z d = absurd (z e)
first_some (x ∷ ns) n list e z d = ap (λ (l : List ℕ). get_or l 0 0) d
