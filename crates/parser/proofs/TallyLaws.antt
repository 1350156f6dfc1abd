-- Where a text has no mistake, each section has as many numbers as its lines have fields, and no more lines than it may have; and there is
-- one of delays.
-- Assumes nothing.
use Prim.Native.Nat.{ℕ, suc, ◌+◌, ◌*◌, ◌≤◌, ◌<◌}
use mathlib.Core.Path.{◌≡◌, refl, sym, ap, ◌∙◌}
use mathlib.Core.Bool.{Bool, true, false}
use mathlib.Core.List.{List, [], ◌∷◌}
use Rattle.std.specs.Prelude.{Option, None, Some}
use Rattle.std.proofs.lemmas.Option.{none-some}
use native.Mathlib.Omega.{arith}
use native.Mathlib.Decide.{dec_lt}
use native.Mathlib.Nat.{zero-mul, mul-le-mul_right}
use borrow.Author.Tests.{ltb-true, eqb-true, eqb-false}
use lib.Dec.{ltb, eqb}
use lib.ListN.{length, get_or, set, replicate, get_or-replicate, length-set, length-append, get_or-eq_default}
use lib.Seq.{get_or-set_same, get_or-set_other}
use Rattle.base.specs.Pick.{pick}
use Rattle.words.specs.Places.{line_end}
use Rattle.notation.specs.Notation.{Word}
use Rattle.notation.specs.Meant as meant
use Rattle.notation.specs.Meant.{numbers, wrong, silent, unknown, of, line_said, text_lines, numbers_of, section_in}
use Rattle.notation.specs.Steps.{fields_of}
use Rattle.notation.proofs.LinesLaws.{WholeLine, whole_line, section_none, section_next}
use Rattle.parser.specs.declared.mistakes.Mistake.TheVariants.{NoDelays}
use Rattle.parser.specs.declared.mistakes.Mistake.{Mistake}
use Rattle.parser.specs.Mistakes.{Found, line_fault, counted, line_start, mistake_at, mistake_from, mistake_in, SectionsFit, DelaysSaid}

module _ (most : List ℕ) (m : length most ≡ 7) (s : ℕ) where
  -- the counts of a line that has no fault
  pub record Counted (counts : List ℕ) (new : List ℕ) (ns : List ℕ) : Type 0 where
    pub long : length new ≡ 7
    pub few : get_or new s 0 ≤ get_or most s 0
    pub size : get_or new s 0 * fields_of s ≡ get_or counts s 0 * fields_of s + length ns

  within_seven : (counts : List ℕ) (k : ℕ) → get_or counts k 0 < get_or most k 0 → k < 7
  within_seven counts k h = go (dec_lt k 7)
    where
      go : Dec (k < 7) → k < 7
      go (yes j) = j
      go (no j) = absurd (omega (arith, get_or-eq_default most 0 {n = k} (omega arith)))

  pub line_counts : (counts : List ℕ) (ws : List Word) (x : meant.Line) → length counts ≡ 7 → get_or counts s 0 ≤ get_or most s 0 → WholeLine x
      → line_fault most counts ws x ≡ None → Counted counts (counted most counts x) (numbers_of s x)
  unfolding line_fault counted numbers_of WholeLine
  line_counts counts ws silent c h w e = record { long = c; few = h; size = omega arith }
  line_counts counts ws unknown c h w e = absurd (none-some _ (sym e))
  line_counts counts ws (of k (wrong j us)) c h w e = absurd (none-some _ (sym e))
  line_counts counts ws (of k (numbers ns)) c h w e = go _ (ltb (get_or counts k 0) (get_or most k 0)) (ltb-true _ _) e
    where
      one : (b : Bool) → (b ≡ true → k ≡ s) → (b ≡ false → k ≡ s → ⊥) → get_or counts k 0 < get_or most k 0
          → Counted counts (set counts k (suc (get_or counts k 0))) (pick b ns [])
      one true f g d =
          let v = get_or-set_same counts k (suc (get_or counts k 0)) 0 (omega (arith, within_seven counts k d)) in
          rw (← f refl)
          (record { long = length-set counts k _ ∙ c; few = rw v d; size = rw (v, w) (omega arith) })
      one false f g d =
          let v = get_or-set_other counts k s (suc (get_or counts k 0)) 0 (λ q. g refl (sym q)) in
          record { long = length-set counts k _ ∙ c; few = rw v h; size = rw v (omega arith) }

      go : (x : Found) (t : Bool) → (t ≡ true → get_or counts k 0 < get_or most k 0) → pick t None (Some x) ≡ None
          → Counted counts (pick t (set counts k (suc (get_or counts k 0))) counts) (pick (eqb k s) ns [])
      go x true f e = one (eqb k s) (eqb-true k s) (eqb-false k s) (f refl)
      go x false f e = absurd (none-some _ (sym e))

  -- how many lines the section has in the end
  pub record Tallied (counts : List ℕ) (len : ℕ) : Type 0 where
    pub final : ℕ
    pub few : final ≤ get_or most s 0
    pub size : final * fields_of s ≡ get_or counts s 0 * fields_of s + len
    pub some_delays : s ≡ 0 → 0 < final

  pub tallied : (text : List ℕ) (version : ℕ) (ls : List (List Word)) (counts : List ℕ) (i : ℕ) → length counts ≡ 7 → get_or counts s 0 ≤ get_or most s 0
      → mistake_from text version most counts i ls ≡ None → Tallied counts (length (section_in version s ls))
  unfolding mistake_from
  tallied text version [] counts i c h e =
      record {
        final = get_or counts s 0;
        few = h;
        size = rw (section_none version s) (omega arith);
        some_delays = λ z. rw z (go (eqb (get_or counts 0 0) 0) (eqb-false _ _) e);
      }
    where
      go : (t : Bool) → (t ≡ false → get_or counts 0 0 ≡ 0 → ⊥) → pick t (Some NoDelays) None ≡ None → 0 < get_or counts 0 0
      go true f e = absurd (none-some _ (sym e))
      go false f e = let g = f refl in omega arith
  tallied text version (ws ∷ ls) counts i c h e =
      go (line_fault most counts ws x) refl e
      (λ k n. tallied text version ls (counted most counts x) (suc i) k.long k.few n)
    where
      x : meant.Line
      x = line_said version ws

      rest : Option Mistake
      rest = mistake_from text version most (counted most counts x) (suc i) ls

      here : Found → Mistake
      here = mistake_at text (line_start text i) (line_end text (line_start text i)) (suc i)

      add : Counted counts (counted most counts x) (numbers_of s x)
          → Tallied (counted most counts x) (length (section_in version s ls)) → Tallied counts (length (section_in version s (ws ∷ ls)))
      add k t =
          record {
            final = t.final;
            few = t.few;
            size = rw (section_next version s ws ls) (omega (arith, t.size, k.size, length-append (numbers_of s x) (section_in version s ls)));
            some_delays = t.some_delays;
          }

      go : (o : Option Found) → line_fault most counts ws x ≡ o → ◌≡◌ {A = Option Mistake} (elim o [ None ↦ rest | Some f ↦ Some (here f) ]) None
          → (Counted counts (counted most counts x) (numbers_of s x) → rest ≡ None → Tallied (counted most counts x) (length (section_in version s ls)))
          → Tallied counts (length (section_in version s (ws ∷ ls)))
      go (Some f) d n ih = absurd (none-some _ (sym n))
      go None d n ih = let k = line_counts counts ws x c h (whole_line version ws) d in add k (ih k n)

no_counts : (s : ℕ) → get_or {A = ℕ} (replicate 7 0) s 0 ≡ 0
no_counts s = go (dec_lt s 7)
  where
    go : Dec (s < 7) → get_or {A = ℕ} (replicate 7 0) s 0 ≡ 0
    go (yes h) = get_or-replicate 7 s 0 0 h
    go (no h) = get_or-eq_default (replicate 7 0) 0 {n = s} (omega arith)

pub sections_fit : SectionsFit
unfolding mistake_in
sections_fit text version most s m e =
    let z : get_or {A = ℕ} (replicate 7 0) s 0 ≡ 0 = no_counts s in
    let t = tallied most m s text version (text_lines text) (replicate 7 0) 0 refl (omega (arith, z)) e in
    let up : t.final * fields_of s ≤ get_or most s 0 * fields_of s = mul-le-mul_right (fields_of s) t.few in
    let none_yet : get_or (replicate 7 0) s 0 * fields_of s ≡ 0 = ap (λ (k : ℕ). k * fields_of s) z ∙ zero-mul (fields_of s) in
    omega (arith, t.size, up, none_yet)

pub delays_said : DelaysSaid
unfolding mistake_in fields_of
delays_said text version most m e =
    let t = tallied most m 0 text version (text_lines text) (replicate 7 0) 0 refl (omega arith) e in
    omega (arith, t.size, t.some_delays refl)
