-- A row in an array of eleven: zeros of its own change nothing, and what is written of it is the row.
-- Assumes nothing.
use mathlib.Core.Path.{◌≡◌, sym, ap, ◌∙◌}
use mathlib.Core.List.{List, ◌++◌, append-nil, append_assoc}
use Prim.Native.Nat.{ℕ, ◌+◌, ◌-◌, ◌*◌, ◌^◌, ◌≤◌}
use native.Mathlib.Omega.{arith}
use lib.ListN.{length, replicate, length-append, length-replicate, replicate-append-replicate}
use lib.Seq.{take_at}
use Rattle.base.specs.Tabulate.{total}
use Rattle.bits.specs.Rows.{put_all}
use Rattle.bits.proofs.PartLaws.{put_first}
use Rattle.layout.specs.Layout.{layout, widths}
use Rattle.layout.specs.Promises.{wide, with_row_at}
use Rattle.layout.proofs.LayoutLaws.{length_widths, few_fields}
use Rattle.layout.proofs.RoomLaws.{room_yes, put_there}
use Rattle.layout.proofs.RowLaws.{length_wide}

pub wide_padded : (row : List ℕ) (n : ℕ) → length row + n ≤ 11 → wide (row ++ replicate n 0) ≡ wide row
unfolding wide
wide_padded row n h =
    let long = length-append row (replicate n 0) in
    let zeros = length-replicate {A = ℕ} n 0 in
    let left : n + (11 - length (row ++ replicate n 0)) ≡ 11 - length row = omega arith in
    append_assoc row (replicate n 0) (replicate (11 - length (row ++ replicate n 0)) 0)
    ∙ ap (λ (zs : List ℕ). row ++ zs) (replicate-append-replicate n (11 - length (row ++ replicate n 0)) 0 ∙ ap (λ (m : ℕ). replicate m 0) left)

pub wide_full : (row : List ℕ) → length row ≡ 11 → wide row ≡ row
unfolding wide
wide_full row e =
    let none : 11 - length row ≡ 0 = omega arith in
    ap (λ (m : ℕ). row ++ replicate m 0) none ∙ append-nil row

-- a row that has a number for each field, written where there is room for it
pub put_wide : (bytes : List ℕ) (a kind : ℕ) (raw : List ℕ) → length bytes ≤ 2 ^ 32 → a + total (widths kind) ≤ 8 * length bytes
    → length raw ≡ length (layout kind) → with_row_at bytes a kind (wide raw) ≡ put_all bytes a (widths kind) raw
unfolding wide
put_wide bytes a kind raw short room long =
    let n = length_widths kind in
    put_there bytes a kind (wide raw) (room_yes (length bytes) a (widths kind) short room)
    ∙ sym (put_first bytes a (widths kind) (wide raw) (omega (arith, length_wide raw (omega (arith, few_fields kind)), few_fields kind)))
    ∙ ap (put_all bytes a (widths kind)) (take_at raw (replicate (11 - length raw) 0) (length (widths kind)) (long ∙ sym n))
