-- Tables as text, both ways: the text says the lists, and the lists are the table's.
-- Assumes nothing.
use mathlib.Core.Path.{ap, ◌∙◌}
use native.Mathlib.Omega.{arith}
use Rattle.table.specs.Lists.{Lists, unpacked}
use Rattle.table.proofs.RoundTrip.{unpack_after_write, write_after_unpack}
use Rattle.texts.specs.Texts.{said, text_for, PackAfterUnpack, UnpackAfterPack}
use Rattle.texts.proofs.SaidLaws.{said_back}

pub pack_after_unpack : PackAfterUnpack
pack_after_unpack bytes before b e room long =
    let again = write_after_unpack bytes before b e room long in
    rw (said_back (unpacked bytes) room again.0) again

pub unpack_after_pack : UnpackAfterPack
unpack_after_pack text room e =
    let ls = said text in
    let same = (unpack_after_write ls room e ls (λ s. omega arith)).1 in
    (same, ap (λ (k : Lists). said (text_for k)) same ∙ said_back ls room e)
