-- A sheet of zeros is filled from a table that 1 to 4 are not given to: each section's records stand at the front of its list, and zeros behind them. So it
-- is the sheet of the table's lists, and the network on it the table's. Assumes nothing.
use Prim.Native.Nat.{ℕ, zero, suc, ◌-◌, ◌+◌, ◌*◌, ◌/◌, ◌%◌, ◌≤◌, ◌<◌}
use mathlib.Core.List.{List, [], ◌∷◌, ◌++◌}
use mathlib.Core.Path.{◌≡◌, refl, sym, ap, ap₂, ◌∙◌}
use native.Mathlib.Nat.{le-div_iff_mul-le, mul-le-mul_right}
use native.Mathlib.Omega.{arith}
use borrow.Author.Tests.{eq-eqb, ne_eqb}
use lib.ListN.{length, get_or, take, drop, replicate, length-replicate}
use lib.Seq.{get_or-take, get_or-drop, length-take-le}
use Rattle.base.proofs.Tests.{within_yes}
use Rattle.layout.specs.Limits.{limits, most}
use Rattle.layout.specs.Names.{number_of, index_in}
use Rattle.layout.specs.Rows.{named, listed}
use Rattle.layout.specs.Layout.{layout_in, header_names}
use Rattle.layout.specs.Sizes.{capacity}
use Rattle.layout.proofs.LayoutLaws.{listed_is, listed_some}
use Rattle.layout.proofs.PlainLaws.{PlainVl}
use Rattle.layout.proofs.SizeLaws.{most_are}
use Rattle.network.specs.Network.{Network}
use Rattle.network.specs.Ranges.{Ranges}
use Rattle.table.specs.declared.Answer.{Answer}
use Rattle.table.specs.declared.Counts.{Counts}
use Rattle.table.specs.declared.Refusal.{Refusal}
use Rattle.table.specs.Answers.{accepted, first_given}
use Rattle.table.specs.Sections.{rows, records, lent}
use Rattle.table.specs.Lists.{list_for, records_in, record_at, header_of, unpacked}
use Rattle.table.specs.Read.{network_in, answer5, answer6, read_answer}
use Rattle.table.specs.Refusals.{answer_of}
use Rattle.table.proofs.AnswerLaws.{Sound}
use Rattle.table.proofs.HeldLaws.{vl_row}
use Rattle.table.proofs.LentLaws.{lent_whole}
use Rattle.table.proofs.ReadingLaws.{few, own_refused, own_accepted}
use Rattle.table.proofs.ReadLaws.{count_read, record_read, read_references, read_sound, sound_ranges, read_ranges}
use Rattle.table.proofs.RefusalLaws.{refused_number}
use Rattle.table.proofs.SectionLaws.{length_records}
use Rattle.table.proofs.UnpackLaws.{list_is, length_list, length_header}
use Rattle.unpacker.specs.Unpacking.{counts_in, table_answer, fitting}
use Rattle.sheet.specs.declared.Sheet.{Sheet}
use Rattle.sheet.specs.Sheet.{count_for, read_as, network_on, Good, sheet_of, blank}
use Rattle.sheet.proofs.ReadBack.{Held, network_same}
use Rattle.reader.specs.Reading.{read_sheet}

-- ---- zeros
drop_zeros : (k n : ℕ) → drop k (replicate {A = ℕ} n 0) ≡ replicate (n - k) 0
drop_zeros zero n = let e : n ≡ n - 0 = omega arith in ap (λ (m : ℕ). replicate m 0) e
drop_zeros (suc k) zero = let e : 0 ≡ 0 - suc k = omega arith in ap (λ (m : ℕ). replicate m 0) e
drop_zeros (suc k) (suc n) = let e : n - k ≡ suc n - suc k = omega arith in drop_zeros k n ∙ ap (λ (m : ℕ). replicate m 0) e

-- ---- a table that 1 to 4 are not given to: its lists are such that a sheet has room for them, and the network on their sheet is the table's
module _ (bytes : List ℕ) (sound : Sound bytes) where
  -- the numbers of a VL are small
  below : (vs : List ℕ) → PlainVl vs → (j : ℕ) → j < 4 → get_or vs j 0 < 65536
  unfolding named index_in number_of layout_in
  below vs p zero h = omega (arith, p.end_system_lem)
  below vs p (suc zero) h = omega (arith, p.gap_greatest)
  below vs p (suc (suc zero)) h = omega (arith, p.sub_links_greatest)
  below vs p (suc (suc (suc zero))) h = omega (arith, p.lmax_greatest)
  below vs p (suc (suc (suc (suc j)))) h = absurd (omega arith)

  small : (s k : ℕ) → suc s < 6 → k < length (list_for (unpacked bytes) (suc s))
      → read_as (suc s) (get_or (list_for (unpacked bytes) (suc s)) k 0) ≡ get_or (list_for (unpacked bytes) (suc s)) k 0
  unfolding read_as
  small zero k h l = refl
  small (suc zero) k h l =
      let ns = list_for (unpacked bytes) 2 in
      let m = listed_is 2 in
      let row : k / 4 < rows bytes 2 = omega (arith, rw m at (length_list bytes 1 h)) in
      let e : k ≡ k / 4 * listed 2 + k % 4 = rw m (omega arith) in
      let here : get_or ns k 0 ≡ get_or (record_at (unpacked bytes) 2 (k / 4)) (k % 4) 0 =
      ap (λ (n : ℕ). get_or ns n 0) e ∙ sym (get_or-drop (k / 4 * listed 2) ns (k % 4) 0) ∙ sym (get_or-take (listed 2) (drop (k / 4 * listed 2) ns) (k % 4) 0 (omega arith)) in
      omega (arith, here, record_read bytes 1 (k / 4) (k % 4) h row (omega arith), below _ (vl_row bytes sound (k / 4) row) (k % 4) (omega arith))
  small (suc (suc s)) k h l = rw (ne_eqb (suc (suc (suc s))) 2 (λ e. omega arith))

  header_whole : length (unpacked bytes).header ≡ length header_names
  unfolding unpacked
  header_whole = length_header bytes

  held : Held (unpacked bytes)
  held = record {
    header = header_whole;
    whole = λ s h. length_list bytes s h ∙ ap (λ (n : ℕ). n * listed (suc s)) (sym (count_read bytes s h));
    few = λ s h. rw (count_read bytes s h) (few bytes sound.header s h);
    small = small;
  }

  pub network_read : network_on (sheet_of (unpacked bytes)) ≡ network_in bytes
  unfolding network_in
  network_read = network_same (unpacked bytes) held

-- ---- the sheet is filled, list by list
counts_at : (bytes : List ℕ) (s : ℕ) → suc s < 6 → count_for (counts_in bytes) (suc s) ≡ rows bytes (suc s)
unfolding count_for
counts_at bytes zero h = refl
counts_at bytes (suc zero) h = refl
counts_at bytes (suc (suc zero)) h = refl
counts_at bytes (suc (suc (suc zero))) h = refl
counts_at bytes (suc (suc (suc (suc zero)))) h = refl
counts_at bytes (suc (suc (suc (suc (suc s))))) h = absurd (omega arith)

module _ (bytes : List ℕ) (own : (table_answer bytes).number ≡ 0) where
  pub own_sound : Sound bytes
  unfolding table_answer
  own_sound = (own_accepted bytes own).0

  module _ (counts : Counts) (counted : counts ≡ counts_in bytes) (s : ℕ) (h : suc s < 6) where
    count_at : count_for counts (suc s) ≡ rows bytes (suc s)
    count_at = ap (λ (n : Counts). count_for n (suc s)) counted ∙ counts_at bytes s h

    pub count_put : count_for counts (suc s) ≡ records_in (unpacked bytes) (suc s)
    count_put = count_at ∙ sym (count_read bytes s h)

    -- the records of a section have room in its list
    few_put : count_for counts (suc s) ≤ most (suc s)
    few_put = omega (arith, count_at, few bytes own_sound.header s h)

    -- a section's records at the front of its list, and the zeros that stand behind them
    module _ (m : ℕ) (of-m : listed (suc s) ≡ m) (old : List ℕ) (zeros : old ≡ replicate (capacity (suc s)) 0) where
      abbrev size : ℕ
      size = count_for counts (suc s) * m

      abbrev xs : List ℕ
      xs = records bytes (suc s) (rows bytes (suc s))

      size_is : rows bytes (suc s) * listed (suc s) ≡ size
      size_is = ap₂ (λ (i j : ℕ). i * j) (sym count_at) of-m

      sized : length xs ≡ size
      sized = length_records bytes (suc s) (rows bytes (suc s)) ∙ size_is

      all_fit : fitting bytes (suc s) size ≡ rows bytes (suc s)
      unfolding fitting
      all_fit =
          let fits : rows bytes (suc s) ≤ size / listed (suc s) = (le-div_iff_mul-le {k = listed (suc s)} (listed_some (suc s) h)).1 (omega (arith, size_is)) in
          rw (within_yes 1 5 (suc s) (omega arith, omega arith)) (omega (arith, fits))

      lent_room : length (take size old) ≡ size
      unfolding capacity
      lent_room = length-take-le size old
          (omega (arith, size_is, ap length zeros, length-replicate {A = ℕ} (capacity (suc s)) 0, mul-le-mul_right (listed (suc s)) (few bytes own_sound.header s h)))

      pub section_put : (part : List ℕ) → part ≡ lent (length (take size old)) (records bytes (suc s) (fitting bytes (suc s) (length (take size old))))
          → part ++ drop size old ≡ lent (capacity (suc s)) (list_for (unpacked bytes) (suc s))
      unfolding lent
      section_put part is =
          let filled : part ≡ xs =
          is
          ∙ ap (λ (k : ℕ). lent k (records bytes (suc s) (fitting bytes (suc s) k))) lent_room
          ∙ ap (λ (k : ℕ). lent size (records bytes (suc s) k)) all_fit
          ∙ lent_whole size xs (omega (arith, sized)) in
          let rest : drop size old ≡ replicate (capacity (suc s) - length xs) 0 =
          ap (drop size) zeros ∙ drop_zeros size (capacity (suc s)) ∙ ap (λ (k : ℕ). replicate (capacity (suc s) - k) 0) (sym sized) in
          (λ i. filled i ++ rest i) ∙ ap (lent (capacity (suc s))) (sym (list_is bytes (suc s) h))

-- so the counts are in the limits
pub record FewCounts (counts : Counts) : Type 0 where
  pub systems : counts.systems ≤ limits.systems
  pub vls : counts.vls ≤ limits.vls
  pub streams : counts.streams ≤ limits.streams
  pub ports : counts.ports ≤ limits.ports
  pub hops : counts.hops ≤ limits.hops

pub few_counts : (bytes : List ℕ) → (table_answer bytes).number ≡ 0 → (counts : Counts) → counts ≡ counts_in bytes → FewCounts counts
unfolding count_for
few_counts bytes own counts counted = record {
  systems = omega (arith, few_put bytes own counts counted 0 (omega arith), most_are.systems);
  vls = omega (arith, few_put bytes own counts counted 1 (omega arith), most_are.vls);
  streams = omega (arith, few_put bytes own counts counted 2 (omega arith), most_are.streams);
  ports = omega (arith, few_put bytes own counts counted 3 (omega arith), most_are.ports);
  hops = omega (arith, few_put bytes own counts counted 4 (omega arith), most_are.hops);
}

pub header_put : (bytes : List ℕ) → header_of bytes ≡ lent (length header_names) (unpacked bytes).header
unfolding unpacked
header_put bytes = sym (lent_whole (length header_names) (header_of bytes) (omega (arith, length_header bytes)))

-- ---- the answer and the sheet that is left
pub refused_answer : (bytes : List ℕ) (r : Refusal) → answer_of r ≡ table_answer bytes → answer_of r ≡ read_answer bytes
unfolding table_answer
refused_answer bytes r e = e ∙ own_refused bytes (omega (arith, refused_number r, ap (λ (a : Answer). a.number) e))

pub blank_left : (bytes : List ℕ) (r : Refusal) → answer_of r ≡ read_answer bytes → blank ≡ read_sheet bytes
unfolding read_sheet
blank_left bytes r e = rw (ne_eqb (read_answer bytes).number 0 (λ z. omega (arith, refused_number r, ap (λ (a : Answer). a.number) e)))

pub none_given_lem : (bytes : List ℕ) → accepted ≡ table_answer bytes → (table_answer bytes).number ≡ 0
none_given_lem bytes e = ap (λ (a : Answer). a.number) (sym e)

-- ---- the references are tested on a sheet that was filled
module _ (bytes : List ℕ) (sheet : Sheet) (own : (table_answer bytes).number ≡ 0) (filled : sheet ≡ sheet_of (unpacked bytes)) where
  same_network : network_on sheet ≡ network_in bytes
  same_network = ap network_on filled ∙ network_read bytes (own_sound bytes own)

  pub sheet_ranges : Ranges (network_on sheet)
  sheet_ranges = rw same_network (sound_ranges bytes (own_sound bytes own))

  module _ (a : Answer) (is : a ≡ first_given (answer5 (network_on sheet) ∷ answer6 (network_on sheet) ∷ [])) where
    pub answer_is : a ≡ read_answer bytes
    unfolding table_answer
    answer_is = is ∙ ap (λ (net : Network). first_given (answer5 net ∷ answer6 net ∷ [])) same_network ∙ sym (own_accepted bytes own).1

    pub sheet_is : a ≡ accepted → sheet ≡ read_sheet bytes
    unfolding read_sheet
    sheet_is e = filled ∙ sym (rw (eq-eqb (read_answer bytes).number 0 (ap (λ (x : Answer). x.number) (sym answer_is ∙ e))))

-- ---- the sheet of an accepted table
pub good_sheet : (bytes : List ℕ) (sheet : Sheet) → read_answer bytes ≡ accepted → sheet ≡ read_sheet bytes → (network_on sheet ≡ network_in bytes) × Good sheet
unfolding read_sheet
good_sheet bytes sheet e is =
    let filled : sheet ≡ sheet_of (unpacked bytes) = is ∙ rw (eq-eqb (read_answer bytes).number 0 (ap (λ (x : Answer). x.number) e)) in
    let same : network_on sheet ≡ network_in bytes = ap network_on filled ∙ network_read bytes (read_sound bytes e) in
    (same, record { ranges = rw same (read_ranges bytes e); references = rw same (read_references bytes e) })
