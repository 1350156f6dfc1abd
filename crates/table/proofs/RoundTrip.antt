-- The order, demand 2: tables and lists give each other back, as each row does; so accepted bytes are determined by their fields.
-- Assumes nothing.
use mathlib.Core.Path.{sym, ap, ◌∙◌}
use Prim.Native.Nat.{ℕ, ◌+◌, ◌*◌, ◌<◌}
use lib.ListN.{length}
use native.Mathlib.Omega.{arith}
use Rattle.layout.specs.Layout.{size}
use Rattle.layout.proofs.RoomLaws.{row_fits}
use Rattle.layout.proofs.BackLaws.{read_written, read_writable, written_fits, written_readable, written_read}
use Rattle.table.specs.Sections.{kind_in, rows, from, row}
use Rattle.table.specs.Lists.{kind_for, unpacked}
use Rattle.table.specs.Write.{count, meant, packed}
use Rattle.table.specs.RoundTrip.{UnpackAfterWrite, WriteAfterUnpack, Determined}
use Rattle.table.proofs.AnswerLaws.{unpack_was, unpack_is, write_was, write_is}
use Rattle.table.proofs.WriteLaws.{good_rows, length_meant}
use Rattle.table.proofs.UnpackLaws.{Again, sound_rows, size_unpacked, same_bytes, writable}
use Rattle.table.proofs.PackedLaws.{Back, header_fits, packed_sound, same_lists}

pub unpack_after_write : UnpackAfterWrite
unpack_after_write ls room e before long =
    let w = write_was ls room e in
    let back : (s i : ℕ) → s < 6 → i < count ls s → Back ls s i =
    λ s i h l.
    let ok = good_rows ls w s i h l in
    record {
      same = written_read (kind_for ls s) (meant ls s i) ok (length_meant ls w s i h l);
      fit = written_fits (kind_for ls s) (meant ls s i) ok;
      good = written_readable (kind_for ls s) (meant ls s i) ok;
    } in
    let same = same_lists ls w back in
    (unpack_is (packed ls) before (packed_sound ls w back) (header_fits ls w back) (rw same long), same)

pub write_after_unpack : WriteAfterUnpack
unfolding row
write_after_unpack bytes before b e room long =
    let sound = unpack_was bytes before e in
    let again : (s i : ℕ) → s < 6 → i < rows bytes s → Again bytes s i =
    λ s i h l.
    let ok = sound_rows bytes sound s i h l in
    let k = kind_in bytes s in
    let fit = row_fits bytes (8 * (from bytes s + i * size k)) k in
    record { same = read_written k (row bytes s i) ok fit; good = read_writable k (row bytes s i) ok fit } in
    (write_is (unpacked bytes) room (writable bytes sound again) (omega (arith, size_unpacked bytes sound)), same_bytes bytes sound again b)

pub determined : Determined
determined s t before other bs bt es et e =
    sym (write_after_unpack s before bs es (length s) (omega arith)).1
    ∙ ap packed e
    ∙ (write_after_unpack t other bt et (length t) (omega arith)).1
