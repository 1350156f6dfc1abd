-- A line grows by one number at its end, and has at most 21 bytes a number: twenty digits, and a space or the line's end.
-- So the line of a refusal has at most 71.
-- Assumes nothing.
use Prim.Native.Nat.{ℕ, suc, ◌+◌, ◌-◌, ◌*◌, ◌≤◌, ◌<◌}
use mathlib.Core.Path.{◌≡◌, refl, sym}
use mathlib.Core.List.{List, [], ◌∷◌, ◌++◌, append_assoc, append-nil}
use native.Mathlib.Omega.{arith}
use native.Mathlib.Numerals.{add-one}
use lib.ListN.{length, take, drop, get_or, length-append}
use lib.Seq.{take-suc, take_all}
use Rattle.text.specs.Text.{decimal, spaced_from, spaced, line, LineFits}
use Rattle.text.specs.Refusal.{refused, refusal, RefusalFits}
use Rattle.text.proofs.DecimalLaws.{length_decimal}

spaced_from_more : (ns : List ℕ) (n : ℕ) → spaced_from (ns ++ (n ∷ [])) ≡ spaced_from ns ++ (32 ∷ decimal n)
unfolding spaced_from
spaced_from_more [] n = append-nil (32 ∷ decimal n)
spaced_from_more (m ∷ ns) n =
    rw (spaced_from_more ns n) (sym (append_assoc (32 ∷ decimal m) (spaced_from ns) (32 ∷ decimal n)))

pub spaced_from_next : (ns : List ℕ) (i : ℕ) → i < length ns → spaced_from (take (i + 1) ns) ≡ spaced_from (take i ns) ++ (32 ∷ decimal (get_or ns i 0))
spaced_from_next ns i h = rw (add-one, take-suc ns i 0 h) (spaced_from_more (take i ns) (get_or ns i 0))

pub spaced_none : (ns : List ℕ) → length ns ≡ 0 → spaced ns ≡ []
unfolding spaced
spaced_none [] h = refl
spaced_none (n ∷ ns) h = absurd (omega arith)

pub spaced_some : (ns : List ℕ) → 0 < length ns → spaced ns ≡ decimal (get_or ns 0 0) ++ spaced_from (take (length ns - 1) (drop 1 ns))
unfolding spaced
spaced_some [] h = absurd (omega arith)
spaced_some (n ∷ ns) h = rw (take_all (suc (length ns) - 1) ns (omega arith))

length_spaced_from : (ns : List ℕ) → length (spaced_from ns) ≤ 21 * length ns
unfolding spaced_from
length_spaced_from [] = omega arith
length_spaced_from (n ∷ ns) = rw (length-append (32 ∷ decimal n) (spaced_from ns)) (omega (arith, length_decimal n, length_spaced_from ns))

pub line_fits : LineFits
unfolding spaced line
line_fits [] h = absurd (omega arith)
line_fits (n ∷ ns) h = simp length-append (omega (arith, length_decimal n, length_spaced_from ns))

pub refusal_fits : RefusalFits
unfolding refused refusal
refusal_fits a = rw (length-append refused (line (a.number ∷ a.section ∷ a.row ∷ []))) (omega (arith, line_fits (a.number ∷ a.section ∷ a.row ∷ []) (omega arith)))
