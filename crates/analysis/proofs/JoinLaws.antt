-- Rows one after the other in a lent list: how long they are together, and one row more behind those that are there.
-- Assumes nothing.
use Prim.Native.Nat.{ℕ, zero, suc, ◌+◌, ◌-◌, ◌*◌, ◌≤◌, ◌<◌}
use mathlib.Core.Bool.{true, false}
use mathlib.Core.List.{List, [], ◌∷◌, ◌++◌, map, append-nil, append_assoc}
use mathlib.Core.Path.{◌≡◌, refl, sym, ap, ap₂, ◌∙◌}
use native.Mathlib.Omega.{arith}
use lib.ListN.{length, take, drop, replicate, length-append, length-replicate, replicate-append-replicate}
use lib.Seq.{take_at, drop_at}
use Rattle.base.specs.Tabulate.{passing}
use Rattle.network.specs.Network.{Network, stream_at}
use Rattle.network.specs.Views.{leaves_of}
use Rattle.rows.specs.Rows.{row_of, rows_to, rows_of}
use Rattle.table.specs.Sections.{lent}
use Rattle.table.proofs.LentLaws.{lent_none, length_lent}
use Rattle.answers.specs.Analysis.{joined}
use Rattle.analysis.specs.Placing.{put_at, Put}
use Rattle.figures.proofs.CountLaws.{is_destination, leaves_to, rows_with, length_rows_with}
use Rattle.analysis.proofs.RowLaws.{rows_up_to, rows_up_to_all, rows_up_to_hit, rows_up_to_miss, rows_fit}

-- ---- rows one after the other
joined_append : (a b : List (List ℕ)) → joined (a ++ b) ≡ joined a ++ joined b
unfolding joined
joined_append [] b = refl
joined_append (row ∷ a) b = ap (λ (l : List ℕ). row ++ l) (joined_append a b) ∙ sym (append_assoc row (joined a) (joined b))

joined_more : (a : List (List ℕ)) (row : List ℕ) → joined (a ++ (row ∷ [])) ≡ joined a ++ row
unfolding joined
joined_more a row = joined_append a (row ∷ []) ∙ ap (λ (l : List ℕ). joined a ++ l) (append-nil row)

module _ (net : Network) where
  row_length : (s h : ℕ) → length (row_of net s h) ≡ 6
  unfolding row_of
  row_length s h = refl

  -- the rows of stream s, six numbers each
  length_stream : (s : ℕ) (hs : List ℕ) → length (joined (map (row_of net s) hs)) ≡ 6 * length hs
  unfolding joined
  length_stream s [] = refl
  length_stream s (h ∷ hs) =
      omega (arith, length-append (row_of net s h) (joined (map (row_of net s) hs)), row_length s h, length_stream s hs)

  length_with : (s : ℕ) (hs : List ℕ) → length (joined (rows_to net s)) ≡ 6 * length (rows_to net s)
      → length (joined (rows_with net s hs)) ≡ 6 * length (rows_with net s hs)
  length_with s hs before =
      let rows = map (row_of net s) hs in
      ap length (joined_append (rows_to net s) rows)
      ∙ omega (arith, length-append (joined (rows_to net s)) (joined rows), length_rows_with net s hs, length_stream s hs)

  length_rows : (s : ℕ) → length (joined (rows_to net s)) ≡ 6 * length (rows_to net s)
  unfolding rows_to joined
  length_rows zero = refl
  length_rows (suc s) = length_with s (leaves_of net (stream_at net s).vl) (length_rows s)

  length_rows_up_to : (s h : ℕ) → length (joined (rows_up_to net s h)) ≡ 6 * length (rows_up_to net s h)
  length_rows_up_to s h = length_with s (leaves_to net (stream_at net s).vl h) (length_rows s)

-- ---- a row put just behind the numbers that a lent list holds
pub put_lent : (n : ℕ) (xs row : List ℕ) (at : ℕ) → length xs ≡ at → at + length row ≤ n → put_at (lent n xs) at row ≡ lent n (xs ++ row)
unfolding put_at lent
put_lent n xs row at e h =
    let k = length row in
    let long = length-append xs row in
    let more : n - length xs ≡ k + (n - (at + k)) = omega arith in
    let zeros : ◌≡◌ {A = List ℕ} (replicate (n - length xs) 0) (replicate k 0 ++ replicate (n - (at + k)) 0) =
    rw more (sym (replicate-append-replicate k (n - (at + k)) 0)) in
    let front : take at (xs ++ replicate (n - length xs) 0) ≡ xs = take_at xs (replicate (n - length xs) 0) at e in
    let back : drop (at + k) (xs ++ replicate (n - length xs) 0) ≡ replicate (n - (at + k)) 0 =
    ap (λ (l : List ℕ). drop (at + k) (xs ++ l)) zeros
    ∙ ap (drop (at + k)) (sym (append_assoc xs (replicate k 0) (replicate (n - (at + k)) 0)))
    ∙ drop_at (xs ++ replicate k 0) (replicate (n - (at + k)) 0) (at + k)
    (omega (arith, length-append xs (replicate {A = ℕ} k 0), length-replicate {A = ℕ} k 0)) in
    let rest : n - length (xs ++ row) ≡ n - (at + k) = omega arith in
    rw rest (ap₂ (λ (a b : List ℕ). a ++ row ++ b) front back)

-- ---- the rows of the streams below s and those of stream s up to hop h stand in a lent list of n numbers, and end at place `at`
pub record PutTo (net : Network) (s h at n : ℕ) (result : List ℕ) : Type 0 where
  pub place : at ≡ 6 * length (rows_up_to net s h)
  pub holds : result ≡ lent n (joined (rows_up_to net s h))

module _ (net : Network) (s at n : ℕ) (result : List ℕ) where
  pub put_none : Put net s at n result → PutTo net s 0 at n result
  unfolding passing
  put_none p =
      let e : rows_to net s ≡ rows_up_to net s 0 = sym (append-nil (rows_to net s)) in
      record { place = rw e at p.place; holds = rw e at p.holds }

  -- hop h is no destination of the stream
  pub put_same : (h : ℕ) → is_destination net (stream_at net s).vl h ≡ false → PutTo net s h at n result → PutTo net s (h + 1) at n result
  put_same h other p = let e = rows_up_to_miss net s h other in record { place = rw e p.place; holds = rw e p.holds }

  pub put_all : (h : ℕ) → h ≡ length net.hops → PutTo net s h at n result → Put net (s + 1) at n result
  put_all h e p =
      let whole = rows_up_to_all net s h e in
      record { place = p.place ∙ ap (λ (rows : List (List ℕ)). 6 * length rows) whole; holds = p.holds ∙ ap (λ (rows : List (List ℕ)). lent n (joined rows)) whole }

  -- where there is room for all rows
  module _ (fits : 6 * length (rows_of net) ≤ n) (there : s < length net.streams) where
    pub put_length : (h : ℕ) → h ≤ length net.hops → PutTo net s h at n result → length result ≡ n
    put_length h l p =
        ap length p.holds ∙ length_lent n (joined (rows_up_to net s h)) (omega (arith, length_rows_up_to net s h, rows_fit net s h there l))

    -- hop h is a destination of the stream: its row
    module _ (h : ℕ) (l : h < length net.hops) (is : is_destination net (stream_at net s).vl h ≡ true) (p : PutTo net s h at n result) where
      one_more : length (rows_up_to net s (h + 1)) ≡ length (rows_up_to net s h) + 1
      one_more = ap length (rows_up_to_hit net s h is) ∙ length-append (rows_up_to net s h) (row_of net s h ∷ [])

      pub put_room : at + 6 ≤ n
      put_room = omega (arith, p.place, one_more, rows_fit net s (h + 1) there (omega arith))

      pub put_more : (row after : List ℕ) → row ≡ row_of net s h → after ≡ put_at result at row → PutTo net s (h + 1) (at + 6) n after
      put_more row after e f = record {
        place = omega (arith, p.place, one_more);
        holds =
            let rows = rows_up_to net s h in
            let long = length_rows_up_to net s h in
            f
            ∙ ap₂ (λ (l r : List ℕ). put_at l at r) p.holds e
            ∙ put_lent n (joined rows) (row_of net s h) at (omega (arith, p.place)) (omega (arith, row_length net s h, put_room))
            ∙ ap (lent n) (sym (joined_more rows (row_of net s h)) ∙ ap joined (sym (rows_up_to_hit net s h is)));
      }

-- ---- none and all of the streams
pub put_no_rows : (net : Network) (result : List ℕ) → result ≡ replicate (length result) 0 → Put net 0 0 (length result) result
unfolding rows_to joined
put_no_rows net result e = record { place = refl; holds = e ∙ sym (lent_none (length result)) }

pub put_all_rows : (net : Network) (s at n : ℕ) (result : List ℕ) → s ≡ length net.streams → Put net s at n result
    → (at ≡ 6 * length (rows_of net)) × (result ≡ lent n (joined (rows_of net)))
unfolding rows_of
put_all_rows net s at n result e p =
    (p.place ∙ ap (λ (m : ℕ). 6 * length (rows_to net m)) e, p.holds ∙ ap (λ (m : ℕ). lent n (joined (rows_to net m))) e)
