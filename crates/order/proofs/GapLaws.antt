-- 01's table of gaps agrees with the network's gaps, which are milliseconds made ticks, and each divides the station's cycle: by computing for each code, and for a VL by its row of the table.
-- Assumes nothing.
use Prim.Native.Nat.{ℕ, ◌*◌, ◌%◌, ◌^◌, ◌<◌}
use mathlib.Core.List.{List}
use Rattle.std.specs.Prelude.{Some}
use mathlib.Core.Path.{◌≡◌}
use native.Mathlib.Omega.{arith}
use lib.Dec.{eqb, eqb→eq}
use lib.ListN.{length}
use Rattle.base.proofs.Every.{at}
use Rattle.frame.specs.Gap.{gap_of, ms_of}
use Rattle.frame.specs.Tick.{per_ms}
use Rattle.frame.proofs.GapLaws.{ms_given, gap_refused, gap_in_ms}
use Rattle.layout.specs.declared.Way.TheVariants.{Reading}
use Rattle.layout.specs.Layout.{layout_in, layout}
use Rattle.layout.specs.declared.Name.TheVariants as name
use Rattle.layout.specs.Names.{number_of, index_in}
use Rattle.layout.proofs.SizeLaws.{field_places}
use Rattle.layout.specs.Rows.{named, converted}
use Rattle.layout.proofs.PlainLaws.{gap_meant}
use Rattle.layout.proofs.LayoutLaws.{listed_is}
use Rattle.network.specs.Network.{vl_at}
use Rattle.search.specs.Pass.{cycle}
use Rattle.table.specs.Answers.{accepted}
use Rattle.table.specs.Sections.{version, kind_in, rows, row}
use Rattle.table.specs.Lists.{unpacked}
use Rattle.table.specs.Decoded.{vl_in}
use Rattle.table.specs.Read.{network_in, read_answer}
use Rattle.table.proofs.AnswerLaws.{Sound}
use Rattle.table.proofs.UnpackLaws.{sound_rows}
use Rattle.table.proofs.DecodedLaws.{vls_are, vl_there}
use Rattle.table.proofs.ReadLaws.{read_sound, count_read, number_read}
use Rattle.order.specs.Demand2.{GapTable}

evenly : (code : ℕ) → code < 8 → cycle % (per_ms * 2 ^ code) ≡ 0
unfolding cycle per_ms
evenly code h = eqb→eq (cycle % (per_ms * 2 ^ code)) 0 (at (λ k. eqb (cycle % (per_ms * 2 ^ k)) 0) 8 tt code h)

-- what the code that is stored for VL v means, in milliseconds
meant : (bytes : List ℕ) → Sound bytes → (v : ℕ) → v < rows bytes 2
    → ms_of (named 2 (row bytes 2 v) name.Gap) ≡ Some (named 2 (converted Reading (layout (kind_in bytes 2)) (row bytes 2 v)) name.Gap)
unfolding named index_in number_of layout_in
meant bytes sound v h = gap_meant (version bytes) (row bytes 2 v) (sound_rows bytes sound 2 v (omega arith) h)

of_vl_says : (bytes : List ℕ) → read_answer bytes ≡ accepted → (v : ℕ) → v < length (network_in bytes).vls
    → gap_of (named 2 (row bytes 2 v) name.Gap) ≡ Some (vl_at (network_in bytes) v).gap
unfolding network_in vl_in
of_vl_says bytes e v h =
    let there = vls_are (unpacked bytes) in
    let count = count_read bytes 1 (omega arith) in
    let low : v < rows bytes 2 = omega arith in
    let number = number_read bytes 1 v name.Gap (omega arith) low (omega (arith, listed_is 2, field_places.vl_gap)) in
    rw (vl_there (unpacked bytes) v (omega arith), number) (gap_in_ms (named 2 (row bytes 2 v) name.Gap) _ (meant bytes (read_sound bytes e) v low))

pub gap_table : GapTable
unfolding cycle
gap_table = record {
  in_ticks = λ code h. gap_in_ms code (2 ^ code) (ms_given code h);
  no_other = gap_refused;
  evenly = evenly;
  of_vl_says = of_vl_says;
}
