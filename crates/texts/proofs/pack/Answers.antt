-- `texts::pack` meets its contract: what is read without a mistake are the lists that the text says, each as far as its length goes.
-- Assumes nothing.
use Prim.Native.Nat.{ℕ}
use mathlib.Core.Path.{sym, subst}
use native.Mathlib.Omega.{arith}
use Rattle.std.specs.Prelude.{Result, Err}
use Rattle.layout.specs.Limits.{most_in}
use Rattle.layout.specs.Layout.{layout_in, kinds_of, kind_of}
use Rattle.layout.specs.Fields.{is_padding}
use Rattle.layout.specs.Rows.{listed, listed_in}
use Rattle.layout.specs.Sizes.{capacity}
use Rattle.table.specs.Lists.{list_for}
use Rattle.texts.specs.declared.PackError.{PackError}
use Rattle.texts.specs.Packing.{zero_lists, PacksTo}
use Rattle.texts.proofs.PackLaws.{no_mistake, a_mistake, list_within, said_written, err_is}
use Rattle.texts.proofs.pack.Goals as goal

pub write_first-requires : goal.write_first-requires
unfolding list_for capacity most_in listed listed_in is_padding kind_of kinds_of layout_in
write_first-requires c =
    let within = list_within _ zero_lists _ _ c.read.ensures _ c.in-Ok.is in (
      within 0 (omega arith),
      within 1 (omega arith),
      within 2 (omega arith),
      within 3 (omega arith),
      within 4 (omega arith),
      within 5 (omega arith),
    )

pub returns-in-Err : goal.returns-in-Err
unfolding PacksTo capacity most_in listed listed_in is_padding kind_of kinds_of layout_in
returns-in-Err c =
    let a = c.args in
    subst (λ (e : PackError). PacksTo a.text.now a.out.now (Err e) c.clear.new.out) (sym c.into.ensures)
    (a_mistake _ zero_lists _ _ c.read.ensures _ c.in-Err.is, c.clear.ensures)

pub returns-in_err-write_first : goal.returns-in_err-write_first
unfolding PacksTo list_for capacity most_in listed listed_in is_padding kind_of kinds_of layout_in
returns-in_err-write_first c =
    let a = c.args in
    let read = c.read.ensures in
    let told = c.in-Ok.is in
    let written = rw (c.in_err-write_first.was) at c.write_first.ensures in
    subst (λ (r : Result ℕ PackError). PacksTo a.text.now a.out.now r c.write_first.new.out) (sym (err_is _ _ c.from_residual.ensures.1))
    (no_mistake _ zero_lists _ _ read _ told, said_written _ zero_lists _ _ read _ told _ _ _ written)

pub returns : goal.returns
unfolding PacksTo list_for capacity most_in listed listed_in is_padding kind_of kinds_of layout_in
returns c =
    let read = c.read.ensures in
    let told = c.in-Ok.is in
    let written = rw (c.in_ok-write_first.was) at c.write_first.ensures in
    (no_mistake _ zero_lists _ _ read _ told, said_written _ zero_lists _ _ read _ told _ _ _ written)
