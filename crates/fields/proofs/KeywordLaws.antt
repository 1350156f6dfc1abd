-- A word is looked for among others one by one from the front: where none of the first k is it, its place is found among the rest.
-- Assumes nothing.
use Prim.Native.Nat.{ℕ, suc, ◌+◌, ◌<◌}
use mathlib.Core.Path.{◌≡◌, refl, ap}
use mathlib.Core.Bool.{true, false}
use mathlib.Core.List.{List, []}
use Rattle.std.specs.Prelude.{Option, None, Some}
use native.Mathlib.Omega.{arith}
use lib.ListN.{length, get_or, drop}
use lib.Seq.{drop-cons}
use Rattle.words.specs.Words.{same}
use Rattle.notation.specs.Notation.{Word, word_in}

-- a place among those behind the first k, as a place among all
unfoldable pub behind : ℕ → Option ℕ → Option ℕ
behind k None = None
behind k (Some i) = Some (k + i)

pub behind_none : (o : Option ℕ) → o ≡ behind 0 o
unfolding behind
behind_none None = refl
behind_none (Some i) = ap Some (omega arith)

behind_one : (k : ℕ) (o : Option ℕ) → behind k (elim o [ None ↦ None | Some i ↦ Some (suc i) ]) ≡ behind (suc k) o
unfolding behind
behind_one k None = refl
behind_one k (Some i) = ap Some (omega arith)

module _ (vs : List Word) (k : ℕ) (w : Word) (h : k < length vs) where
  pub not_this : same w (get_or vs k []) ≡ false → behind k (word_in (drop k vs) w) ≡ behind (suc k) (word_in (drop (suc k) vs) w)
  unfolding word_in
  not_this e = rw (drop-cons vs k [] h, e) (behind_one k (word_in (drop (suc k) vs) w))

  pub this : same w (get_or vs k []) ≡ true → behind k (word_in (drop k vs) w) ≡ Some k
  unfolding word_in behind
  this e = rw (drop-cons vs k [] h, e) (ap Some (omega arith))
