-- The rows in a lent result: six numbers each, so that number k of row i stands at 6 × i + k; each row is one of a stream and a leaf hop of its VL, each such pair has one, and every stream has a leaf hop, as a parent is an earlier row.
-- Assumes nothing.
use Prim.Native.Nat.{ℕ, zero, suc, ◌+◌, ◌*◌, ◌≤◌, ◌<◌}
use mathlib.Core.Bool.{Bool, true, false, false≢true, ◌&&◌, and-eq-true_iff}
use mathlib.Core.List.Memᴰ
use mathlib.Core.List.{List, [], ◌∷◌, ◌++◌, map, Memᴰ}
use mathlib.Core.Logic.{⊎_elim}
use Rattle.std.specs.Prelude.{Option, None, Some}
use mathlib.Core.Path.{◌≡◌, refl, sym, ap, ◌∙◌, subst}
use native.Mathlib.Nat.{eq-or-lt_of_le, le_of_suc-le-suc}
use native.Mathlib.Omega.{arith}
use borrow.Author.Tests.{eq-eqb, eqb-true, not-false}
use lib.Dec.{eqb}
use lib.ListN.{length, get_or, length-append, get_or-append}
use lib.Seq.{get_or-append-add}
use Rattle.base.specs.Least.{least_from}
use Rattle.base.specs.Tests.{is_some, number_or0}
use Rattle.base.proofs.LeastLaws.{least_was}
use Rattle.base.proofs.Members.{member_at}
use Rattle.base.proofs.TabulateLaws.{passing_member, member_passing}
use Rattle.base.proofs.TestLaws.{is_some_was}
use Rattle.network.specs.Network.{Network, stream_at, hop_at, parent_at}
use Rattle.network.specs.ReferenceFacts.{References}
use Rattle.table.specs.Sections.{lent}
use Rattle.table.proofs.LentLaws.{lent_at}
use Rattle.network.specs.Views.{is_parent, leaf, leaves_of}
use Rattle.rows.specs.Rows.{queue_of, worst, best, row_of, rows_to, rows_of}
use Rattle.answers.specs.Analysis.{joined}
use Rattle.order.specs.Demand3.{stream_in, hop_in, queue_in, worst_in, best_in, RowFor, RowOf}

-- ---- rows of six numbers, one after the other
abbrev Six : List (List ℕ) → Type 0
Six rows = (row : List ℕ) → Memᴰ row rows → length row ≡ 6

length_joined : (rows : List (List ℕ)) → Six rows → length (joined rows) ≡ 6 * length rows
unfolding joined
length_joined [] six = omega arith
length_joined (row ∷ rows) six =
    omega (arith, length-append row (joined rows), six row (Memᴰ.head refl), length_joined rows (λ r m. six r (Memᴰ.tail m)))

joined_at : (rows : List (List ℕ)) → Six rows → (i k : ℕ) → i < length rows → k < 6 → get_or (joined rows) (6 * i + k) 0 ≡ get_or (get_or rows i []) k 0
unfolding joined
joined_at [] six i k h l = absurd (omega arith)
joined_at (row ∷ rows) six zero k h l =
    let e : 6 * 0 + k ≡ k = omega arith in
    ap (λ (n : ℕ). get_or (row ++ joined rows) n 0) e ∙ get_or-append row (joined rows) 0 k (omega (arith, six row (Memᴰ.head refl)))
joined_at (row ∷ rows) six (suc i) k h l =
    let e : 6 * suc i + k ≡ length row + (6 * i + k) = omega (arith, six row (Memᴰ.head refl)) in
    ap (λ (n : ℕ). get_or (row ++ joined rows) n 0) e
    ∙ get_or-append-add row (joined rows) (6 * i + k) 0
    ∙ joined_at rows (λ r m. six r (Memᴰ.tail m)) i k (omega arith) l

-- a member stands at a place
record Stands {A : Type 0} (l : List A) (d a : A) : Type 0 where
  at : ℕ
  inside : at < length l
  is : get_or l at d ≡ a

stands : {A : Type 0} (l : List A) (d a : A) → Memᴰ a l → Stands l d a
stands [] d a m = absurd (Memᴰ.not-nil m)
stands (x ∷ l) d a (Memᴰ.head e) = record { at = 0; inside = omega arith; is = sym e }
stands (x ∷ l) d a (Memᴰ.tail m) = let r = stands l d a m in record { at = suc r.at; inside = omega (arith, r.inside); is = r.is }

module _ (net : Network) where
  -- ---- the leaf hops of a VL
  leaf_hop : (v h : ℕ) → Memᴰ h (leaves_of net v) → (h < length net.hops) × ((hop_at net h).vl ≡ v) × (leaf net h ≡ true)
  unfolding leaves_of
  leaf_hop v h m =
      let was = passing_member (λ h. eqb (hop_at net h).vl v && leaf net h) (length net.hops) h m in
      let both = (and-eq-true_iff (eqb (hop_at net h).vl v) (leaf net h)).0 was.1 in
      (was.0, eqb-true (hop_at net h).vl v both.0, both.1)

  hop_leaf : (v h : ℕ) → h < length net.hops → (hop_at net h).vl ≡ v → leaf net h ≡ true → Memᴰ h (leaves_of net v)
  unfolding leaves_of
  hop_leaf v h l e t = member_passing (λ h. eqb (hop_at net h).vl v && leaf net h) (length net.hops) h l
      ((and-eq-true_iff (eqb (hop_at net h).vl v) (leaf net h)).1 (eq-eqb (hop_at net h).vl v e, t))

  -- ---- a hop that is no leaf is the parent of another
  parent_was : (h : ℕ) (o : Option ℕ) → is_parent h o ≡ true → o ≡ Some h
  unfolding is_parent
  parent_was h None e = absurd (false≢true e)
  parent_was h (Some g) e = ap Some (eqb-true g h e)

  record Child (h : ℕ) : Type 0 where
    at : ℕ
    row : at < length net.hops
    parent : parent_at net at ≡ Some h

  child_of : (h : ℕ) → leaf net h ≡ false → Child h
  unfolding leaf
  child_of h e =
      let o = least_from (λ g. is_parent h (parent_at net g)) 0 (length net.hops) in
      let r = least_was (λ g. is_parent h (parent_at net g)) 0 (length net.hops) (number_or0 o) (is_some_was o (not-false (is_some o) e)) in
      record { at = number_or0 o; row = omega (arith, r.high); parent = parent_was h (parent_at net (number_or0 o)) r.passes }

  -- so from a hop of a VL on there is a leaf: children stand behind their parents, at most n rows on
  record LeafOf (v : ℕ) : Type 0 where
    hop : ℕ
    row : hop < length net.hops
    same_vl : (hop_at net hop).vl ≡ v
    is_leaf : leaf net hop ≡ true

  leaf_from : References net → (n v h : ℕ) → length net.hops ≤ h + n → h < length net.hops → (hop_at net h).vl ≡ v → LeafOf v
  leaf_from refs zero v h b l e = absurd (omega arith)
  leaf_from refs (suc n) v h b l e = go (λ g. leaf_from refs n v g) (leaf net h) refl
    where
      go : ((g : ℕ) → length net.hops ≤ g + n → g < length net.hops → (hop_at net g).vl ≡ v → LeafOf v) → (t : Bool) → leaf net h ≡ t → LeafOf v
      go ih true t = record { hop = h; row = l; same_vl = e; is_leaf = t }
      go ih false t =
          let c = child_of h t in
          let later = refs.parent_earlier_says c.at h c.row c.parent in
          ih c.at (omega arith) c.row (sym (refs.parent_vl c.at h c.row c.parent) ∙ e)

  leaf_of : References net → (v : ℕ) → v < length net.vls → LeafOf v
  leaf_of refs v h = let r = refs.vl_hop v h in leaf_from refs (length net.hops) v r.at (omega arith) r.row r.on_vl

  -- ---- each row is one of a stream and a leaf hop of its VL
  record RowWas (n : ℕ) (row : List ℕ) : Type 0 where
    stream : ℕ
    hop : ℕ
    low : stream < n
    leaf_there : Memᴰ hop (leaves_of net (stream_at net stream).vl)
    is : row ≡ row_of net stream hop

  row_was : (n : ℕ) (row : List ℕ) → Memᴰ row (rows_to net n) → RowWas n row
  unfolding rows_to
  row_was zero row m = absurd (Memᴰ.not-nil m)
  row_was (suc n) row m = ⊎_elim
      (λ b. let r = row_was n row b in record { stream = r.stream; hop = r.hop; low = omega (arith, r.low); leaf_there = r.leaf_there; is = r.is })
      (λ b.
      let r = Memᴰ.of_map (row_of net n) (leaves_of net (stream_at net n).vl) b in
      record { stream = n; hop = r.0; low = omega arith; leaf_there = r.1; is = sym r.2 })
      (Memᴰ.append_cases (rows_to net n) m)

  -- and each such pair has one
  row_is : (n s h : ℕ) → s < n → Memᴰ h (leaves_of net (stream_at net s).vl) → Memᴰ (row_of net s h) (rows_to net n)
  unfolding rows_to
  row_is zero s h l m = absurd (omega arith)
  row_is (suc n) s h l m = ⊎_elim
      (λ (e : s ≡ n).
      Memᴰ.append_right (rows_to net n)
      (subst (λ (z : ℕ). Memᴰ (row_of net z h) (map (row_of net n) (leaves_of net (stream_at net n).vl))) (sym e)
      (Memᴰ.map (row_of net n) (subst (λ (z : ℕ). Memᴰ h (leaves_of net (stream_at net z).vl)) e m))))
      (λ (b : s < n). Memᴰ.append_left (map (row_of net n) (leaves_of net (stream_at net n).vl)) (row_is n s h b m))
      (eq-or-lt_of_le (le_of_suc-le-suc l))

  six_numbers : Six (rows_of net)
  unfolding rows_of row_of
  six_numbers row m = ap length (row_was (length net.streams) row m).is

-- ---- the rows of a lent result
-- row i is one of a stream and of a leaf hop of its VL, with their figures
pub record Row (net : Network) (result : List ℕ) (i : ℕ) : Type 0 where
  pub stream_there : stream_in result i < length net.streams
  pub hop_there : hop_in result i < length net.hops
  pub same_vl : (hop_at net (hop_in result i)).vl ≡ (stream_at net (stream_in result i)).vl
  pub is_leaf : leaf net (hop_in result i) ≡ true
  pub queue_is : queue_in result i ≡ queue_of net (stream_in result i)
  pub worst_is : worst_in result i ≡ worst net (stream_in result i) (hop_in result i)
  pub best_is : best_in result i ≡ best net (stream_in result i) (hop_in result i)

module _ (net : Network) (room : ℕ) (result : List ℕ) (rows_are : result ≡ lent room (joined (rows_of net))) where
  number_at : (i k : ℕ) → i < length (rows_of net) → k < 6 → get_or result (6 * i + k) 0 ≡ get_or (get_or (rows_of net) i []) k 0
  number_at i k h l =
      ap (λ (z : List ℕ). get_or z (6 * i + k) 0) rows_are
      ∙ lent_at room (joined (rows_of net)) (6 * i + k) (omega (arith, length_joined (rows_of net) (six_numbers net)))
      ∙ joined_at (rows_of net) (six_numbers net) i k h l

  -- where row i is that of stream s and hop h
  record Numbers (i s h : ℕ) : Type 0 where
    stream : stream_in result i ≡ s
    hop : hop_in result i ≡ h
    queue : queue_in result i ≡ queue_of net s
    worst : worst_in result i ≡ worst net s h
    best : best_in result i ≡ best net s h

  numbers : (i s h : ℕ) → i < length (rows_of net) → get_or (rows_of net) i [] ≡ row_of net s h → Numbers i s h
  unfolding row_of stream_in hop_in queue_in worst_in best_in
  numbers i s h l e =
      let number : (k : ℕ) → k < 6 → get_or result (6 * i + k) 0 ≡ get_or (row_of net s h) k 0 = λ k b. number_at i k l b ∙ ap (λ (r : List ℕ). get_or r k 0) e in
      let first : 6 * i ≡ 6 * i + 0 = omega arith in
      record {
        stream = ap (λ (n : ℕ). get_or result n 0) first ∙ number 0 (omega arith);
        hop = number 1 (omega arith);
        queue = number 2 (omega arith);
        worst = number 3 (omega arith);
        best = number 4 (omega arith);
      }

  pub row_at : (i : ℕ) → i < length (rows_of net) → Row net result i
  unfolding rows_of
  row_at i h =
      let w = row_was net (length net.streams) (get_or (rows_of net) i []) (member_at (rows_of net) i [] h) in
      let l = leaf_hop net (stream_at net w.stream).vl w.hop w.leaf_there in
      let n = numbers i w.stream w.hop h w.is in
      record {
        stream_there = rw n.stream w.low;
        hop_there = rw n.hop l.0;
        same_vl = rw (n.stream, n.hop) l.1;
        is_leaf = rw n.hop l.2;
        queue_is = rw n.stream n.queue;
        worst_is = rw (n.stream, n.hop) n.worst;
        best_is = rw (n.stream, n.hop) n.best;
      }

  pub row_for : (s h : ℕ) → s < length net.streams → h < length net.hops → (hop_at net h).vl ≡ (stream_at net s).vl → leaf net h ≡ true
      → RowFor (length (rows_of net)) result s h
  unfolding rows_of
  row_for s h a b e t =
      let p = stands (rows_of net) [] (row_of net s h) (row_is net (length net.streams) s h a (hop_leaf net (stream_at net s).vl h b e t)) in
      let n = numbers p.at s h p.inside p.is in
      record { at = p.at; there = p.inside; stream = n.stream; hop = n.hop }

  pub row_of_lem : References net → (s : ℕ) → s < length net.streams → RowOf (length (rows_of net)) result s
  row_of_lem refs s a =
      let l = leaf_of net refs (stream_at net s).vl (refs.stream_vl s a) in
      let r = row_for s l.hop a l.row l.same_vl l.is_leaf in
      record { at = r.at; there = r.there; stream = r.stream }
