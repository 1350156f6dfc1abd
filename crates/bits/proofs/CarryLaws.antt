-- Fields that are read from one list and written to another of the same length: the same bytes, as each bit is carried over by its field.
-- Assumes nothing.
use mathlib.Core.Path.{◌≡◌, ◌∙◌}
use mathlib.Core.List.{List, [], ◌∷◌}
use Prim.Native.Nat.{ℕ, ◌+◌, ◌*◌, ◌≤◌, ◌<◌}
use native.Mathlib.Decide.{dec_lt}
use native.Mathlib.Omega.{arith}
use lib.ListN.{length}
use Rattle.bits.specs.Bits.{Bytes, bit_at, field_at, put_at}
use Rattle.base.specs.Tabulate.{total}
use Rattle.bits.specs.Rows.{read_all, put_all}
use Rattle.bits.proofs.FieldLaws.{length_put, bit_carried}
use Rattle.bits.proofs.ByteLaws.{same_bits}
use Rattle.bits.proofs.RecordLaws.{length_put_all, bytes_put_all, before}

module _ (t : List ℕ) where
  carried_bit : (z : List ℕ) (a : ℕ) (ws : List ℕ) (i : ℕ) → a + total ws ≤ 8 * length z → a ≤ i → i < a + total ws
      → bit_at (put_all z a ws (read_all t a ws)) i ≡ bit_at t i
  unfolding put_all read_all total
  carried_bit z a [] i h l m = absurd (omega arith)
  carried_bit z a (w ∷ ws) i h l m = go (carried_bit (put_at z a w (field_at t a w)) (a + w) ws i) (dec_lt i (a + w))
    where
      s : List ℕ
      s = put_at z a w (field_at t a w)

      room : a + w + total ws ≤ 8 * length s
      room = omega (arith, length_put z a w (field_at t a w))

      go : (a + w + total ws ≤ 8 * length s → a + w ≤ i → i < a + w + total ws → bit_at (put_all s (a + w) ws (read_all t (a + w) ws)) i ≡ bit_at t i)
          → Dec (i < a + w) → bit_at (put_all s (a + w) ws (read_all t (a + w) ws)) i ≡ bit_at t i
      go rest (yes k) = before s (a + w) ws (read_all t (a + w) ws) i room k ∙ bit_carried z t a w i (omega arith) l k
      go rest (no k) = rest room (omega arith) (omega arith)

  pub carried : (z ws : List ℕ) → Bytes z → Bytes t → length z ≡ length t → total ws ≡ 8 * length t → put_all z 0 ws (read_all t 0 ws) ≡ t
  carried z ws bz bt n e =
      let l = length_put_all z 0 ws (read_all t 0 ws) in
      same_bits (put_all z 0 ws (read_all t 0 ws)) t (bytes_put_all z 0 ws (read_all t 0 ws) (omega arith) bz) bt (omega arith)
      (λ i h. carried_bit z 0 ws i (omega arith) (omega arith) (omega arith))
