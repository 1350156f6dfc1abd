-- The lists on a sheet have as many records as they are asked for, and each record is the numbers at its place; so the network on it is read off there.
-- Past the last row a record is one of zeros. Assumes nothing.
use Prim.Native.Nat.{ℕ, zero, suc, ◌+◌, ◌-◌, ◌*◌, ◌%◌, ◌≤◌, ◌<◌, min}
use mathlib.Core.List.{List}
use mathlib.Core.Path.{◌≡◌, refl, sym, ap, ◌∙◌}
use native.Mathlib.Nat.{div-eq_of_eq-mul_left, mul-le-mul_right}
use native.Mathlib.Omega.{arith}
use lib.Dec.{eqb}
use lib.ListN.{length, get_or, take, drop, get_or-eq_default}
use lib.Seq.{drop_at}
use Rattle.std.specs.Prelude.{Option}
use Rattle.base.specs.Tabulate.{tabulate}
use Rattle.base.proofs.TabulateLaws.{length_tabulate, tabulate_split, take_tabulate}
use Rattle.frame.specs.Tick.{per_ms, per_unit, in_force}
use Rattle.frame.proofs.TickLaws.{per_unit_is}
use Rattle.layout.specs.Names.{number_of, index_in}
use Rattle.layout.specs.Layout.{layout_in}
use Rattle.layout.specs.Limits.{most}
use Rattle.layout.specs.Rows.{named, listed}
use Rattle.layout.proofs.LayoutLaws.{listed_is, listed_some}
use Rattle.network.specs.declared.EndSystem.{EndSystem}
use Rattle.network.specs.declared.Vl.{Vl}
use Rattle.network.specs.declared.Stream.{Stream}
use Rattle.network.specs.declared.Port.{Port}
use Rattle.network.specs.declared.Hop.{Hop}
use Rattle.network.specs.Network.{system_at, vl_at, stream_at, port_at, hop_at}
use Rattle.table.specs.Lists.{list_for, records_in, record_at}
use Rattle.table.specs.Decoded.{ticks_at, parent_of, system_in, vl_in, stream_in, port_in, hop_in, network_of}
use Rattle.table.proofs.DecodedLaws.{rules_are, systems_are, vls_are, streams_are, ports_are, hops_are, system_there, vl_there, stream_there, port_there, hop_there}
use Rattle.sheet.specs.declared.Sheet.{Sheet}
use Rattle.sheet.specs.Sheet.{count_for, numbers_for, count_on, read_as, list_to, lists_to, network_on}

-- a number as it stands is one of units, since a unit is a tick
in_units : (n : ℕ) → n ≡ per_unit * n
in_units n = sym (per_unit_is n)

-- a part of a list that is given by its rows
part : {A : Type 0} (f : ℕ → A) (a m n : ℕ) → a + m ≤ n → take m (drop a (tabulate f n)) ≡ tabulate (λ k. f (a + k)) m
part f a m n h =
    let e : n ≡ a + (n - a) = omega arith in
    ap (λ (k : ℕ). take m (drop a (tabulate f k))) e
    ∙ ap (λ l. take m (drop a l)) (tabulate_split f a (n - a))
    ∙ ap (take m) (drop_at (tabulate f a) _ a (length_tabulate f a))
    ∙ take_tabulate _ m (n - a) (omega arith)

module _ (counts : ℕ → ℕ) (sheet : Sheet) where
  -- ---- the lists
  pub list_on : (s : ℕ) → suc s < 6 → list_for (lists_to counts sheet) (suc s) ≡ list_to counts sheet (suc s)
  unfolding list_for lists_to
  list_on zero h = refl
  list_on (suc zero) h = refl
  list_on (suc (suc zero)) h = refl
  list_on (suc (suc (suc zero))) h = refl
  list_on (suc (suc (suc (suc zero)))) h = refl
  list_on (suc (suc (suc (suc (suc s))))) h = absurd (omega arith)

  count_is : (s : ℕ) → suc s < 6 → records_in (lists_to counts sheet) (suc s) ≡ counts (suc s)
  unfolding records_in list_to
  count_is s h = div-eq_of_eq-mul_left (listed_some (suc s) h) (ap length (list_on s h) ∙ length_tabulate _ (counts (suc s) * listed (suc s)))

  -- record i, of m numbers, as it stands in its list
  row_is : (s i m : ℕ) (l : List ℕ) → suc s < 6 → numbers_for sheet (suc s) ≡ l → listed (suc s) ≡ m → i < counts (suc s)
      → tabulate (λ k. read_as (suc s) (get_or l (i * m + k) 0)) m ≡ record_at (lists_to counts sheet) (suc s) i
  unfolding list_to
  row_is s i m l h p e few =
      rw (← p, ← e)
      (let n = listed (suc s) in
      sym
      (ap (λ (ns : List ℕ). take n (drop (i * n) ns)) (list_on s h)
      ∙ part _ (i * n) n (counts (suc s) * n) (omega (arith, mul-le-mul_right n few))))

  -- ---- the records
  module _ (i : ℕ) where
    pub system_read : (x : ℕ) → i < counts 1 → x ≡ ticks_at in_force (get_or sheet.systems (i * 1 + 0) 0)
        → ◌≡◌ {A = EndSystem} (record { perbyte = x }) (system_at (network_of (lists_to counts sheet)) i)
    unfolding system_in named index_in number_of layout_in tabulate read_as numbers_for
    system_read x h is =
        (λ j. record { perbyte = is j })
        ∙ ap (system_in in_force) (row_is 0 i 1 sheet.systems (omega arith) refl (listed_is 1) h)
        ∙ sym (system_there _ i (omega (arith, count_is 0 (omega arith))))

    pub vl_read : i < counts 2
        → ◌≡◌ {A = Vl}
        (record {
          system = get_or sheet.vls (i * 4 + 0) 0 % 65536;
          gap = 12500 * (get_or sheet.vls (i * 4 + 1) 0 % 65536);
          sublinks = get_or sheet.vls (i * 4 + 2) 0 % 65536;
          lmax = get_or sheet.vls (i * 4 + 3) 0 % 65536;
        })
        (vl_at (network_of (lists_to counts sheet)) i)
    unfolding vl_in named index_in number_of layout_in tabulate read_as per_ms numbers_for
    vl_read h = ap (vl_in in_force) (row_is 1 i 4 sheet.vls (omega arith) refl (listed_is 2) h) ∙ sym (vl_there _ i (omega (arith, count_is 1 (omega arith))))

    pub stream_read : i < counts 3
        → ◌≡◌ {A = Stream}
        (record {
          vl = get_or sheet.streams (i * 7 + 0) 0;
          sublink = get_or sheet.streams (i * 7 + 1) 0;
          sampling = eqb (get_or sheet.streams (i * 7 + 2) 0) 1;
          size = get_or sheet.streams (i * 7 + 3) 0;
          least = get_or sheet.streams (i * 7 + 4) 0;
          period = get_or sheet.streams (i * 7 + 5) 0;
          jitter = get_or sheet.streams (i * 7 + 6) 0;
        })
        (stream_at (network_of (lists_to counts sheet)) i)
    unfolding stream_in named index_in number_of layout_in tabulate read_as numbers_for
    stream_read h =
        let row = stream_in in_force (tabulate (λ k. get_or sheet.streams (i * 7 + k) 0) 7) in
        (λ j. record {
          vl = row.vl;
          sublink = row.sublink;
          sampling = row.sampling;
          size = row.size;
          least = row.least;
          period = in_units (get_or sheet.streams (i * 7 + 5) 0) j;
          jitter = in_units (get_or sheet.streams (i * 7 + 6) 0) j;
        })
        ∙ ap (stream_in in_force) (row_is 2 i 7 sheet.streams (omega arith) refl (listed_is 3) h)
        ∙ sym (stream_there _ i (omega (arith, count_is 2 (omega arith))))

    pub port_read : (x : ℕ) → i < counts 4 → x ≡ ticks_at in_force (get_or sheet.ports (i * 3 + 0) 0)
        → ◌≡◌ {A = Port}
        (record { perbyte = x; least = get_or sheet.ports (i * 3 + 1) 0; greatest = get_or sheet.ports (i * 3 + 2) 0 })
        (port_at (network_of (lists_to counts sheet)) i)
    unfolding port_in named index_in number_of layout_in tabulate read_as numbers_for
    port_read x h is =
        (λ j. record { perbyte = is j; least = in_units (get_or sheet.ports (i * 3 + 1) 0) j; greatest = in_units (get_or sheet.ports (i * 3 + 2) 0) j })
        ∙ ap (port_in in_force) (row_is 3 i 3 sheet.ports (omega arith) refl (listed_is 4) h)
        ∙ sym (port_there _ i (omega (arith, count_is 3 (omega arith))))

    pub hop_read : (x : Option ℕ) → i < counts 5 → x ≡ parent_of (get_or sheet.hops (i * 3 + 2) 0)
        → ◌≡◌ {A = Hop}
        (record { vl = get_or sheet.hops (i * 3 + 0) 0; port = get_or sheet.hops (i * 3 + 1) 0; parent = x })
        (hop_at (network_of (lists_to counts sheet)) i)
    unfolding hop_in named index_in number_of layout_in tabulate read_as numbers_for
    hop_read x h is =
        (λ j. record { vl = get_or sheet.hops (i * 3 + 0) 0; port = get_or sheet.hops (i * 3 + 1) 0; parent = is j })
        ∙ ap hop_in (row_is 4 i 3 sheet.hops (omega arith) refl (listed_is 5) h)
        ∙ sym (hop_there _ i (omega (arith, count_is 4 (omega arith))))

  -- ---- how many there are
  pub streams_to : length (network_of (lists_to counts sheet)).streams ≡ counts 3
  streams_to = streams_are _ ∙ count_is 2 (omega arith)

  pub hops_to : length (network_of (lists_to counts sheet)).hops ≡ counts 5
  hops_to = hops_are _ ∙ count_is 4 (omega arith)

-- past the last row
pub past : {A : Type 0} (l : List A) (d : A) (i : ℕ) → length l ≤ i → d ≡ get_or l i d
past l d i h = sym (get_or-eq_default l d {n = i} h)

module _ (sheet : Sheet) where
  pub rules_on : (network_on sheet).tick ≡ in_force
  unfolding network_on
  rules_on = rules_are _

  -- ---- as many as the sheet says, and no more than it has room for
  pub systems_on : length (network_on sheet).systems ≡ min sheet.counts.systems (most 1)
  unfolding network_on count_on count_for
  systems_on = systems_are _ ∙ count_is (count_on sheet) sheet 0 (omega arith)

  pub vls_on : length (network_on sheet).vls ≡ min sheet.counts.vls (most 2)
  unfolding network_on count_on count_for
  vls_on = vls_are _ ∙ count_is (count_on sheet) sheet 1 (omega arith)

  pub streams_on_lem : length (network_on sheet).streams ≡ min sheet.counts.streams (most 3)
  unfolding network_on count_on count_for
  streams_on_lem = streams_to (count_on sheet) sheet

  pub ports_on : length (network_on sheet).ports ≡ min sheet.counts.ports (most 4)
  unfolding network_on count_on count_for
  ports_on = ports_are _ ∙ count_is (count_on sheet) sheet 3 (omega arith)

  pub hops_on_lem : length (network_on sheet).hops ≡ min sheet.counts.hops (most 5)
  unfolding network_on count_on count_for
  hops_on_lem = hops_to (count_on sheet) sheet
