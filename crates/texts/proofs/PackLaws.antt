-- What is read without a mistake is the list that the text says, as far as its length goes.
-- Assumes nothing.
use Prim.Native.Nat.{ℕ, ◌≤◌, ◌<◌}
use mathlib.Core.Path.{◌≡◌, refl, sym, ap, subst, ◌∙◌}
use mathlib.Core.List.{List}
use Rattle.std.specs.Prelude.{Option, None, Some, Result, Ok, Err, IsErrAnd}
use Rattle.base.specs.Tabulate.{tabulate}
use native.Mathlib.Omega.{arith}
use lib.ListN.{length, get_or, take, length-append}
use lib.Seq.{take_at}
use Rattle.base.proofs.TabulateLaws.{tabulate_at}
use Rattle.notation.specs.Meant.{list_in}
use Rattle.table.specs.Write.{Written}
use Rattle.table.specs.Sections.{lent}
use Rattle.table.specs.Lists.{Lists, lists_by, list_for}
use Rattle.table.specs.Write.{Writes}
use Rattle.table.proofs.ListsLaws.{list_by}
use Rattle.parser.specs.declared.mistakes.Mistake.{Mistake}
use Rattle.parser.specs.Tables.{room_in, first_mistake, read_list, read_answer, ReadsTo}
use Rattle.texts.specs.declared.PackError.{PackError}
use Rattle.texts.specs.Texts.{said}
use Rattle.texts.proofs.ReadLaws.{by_same}

module _ (text : List ℕ) (before : Lists) (r : Result (List ℕ) Mistake) (after : Lists) (to : ReadsTo text before r after) where
  no_mistake_at : (o : Option Mistake) → first_mistake text before ≡ o → (ns : List ℕ) → r ≡ Ok ns → first_mistake text before ≡ None
  unfolding read_answer
  no_mistake_at None e ns is = e
  no_mistake_at (Some m) e ns is =
      let here : ◌≡◌ {A = Result (List ℕ) Mistake} (Err m) (Ok ns) = sym (rw (e, read_answer) at to.answer) ∙ is in
      let z : ◌≡◌ {A = ℕ} 0 1 = cc in absurd (omega arith)

  pub no_mistake : (ns : List ℕ) → r ≡ Ok ns → first_mistake text before ≡ None
  no_mistake = no_mistake_at (first_mistake text before) refl

  a_mistake_at : (o : Option Mistake) → first_mistake text before ≡ o → (m : Mistake) → r ≡ Err m → first_mistake text before ≡ Some m
  unfolding read_answer
  a_mistake_at None e m is =
      let here : ◌≡◌ {A = Result (List ℕ) Mistake} (Ok (tabulate (λ s. length (read_list text before s)) 6)) (Err m) = sym (rw (e, read_answer) at to.answer) ∙ is in
      let z : ◌≡◌ {A = ℕ} 0 1 = cc in absurd (omega arith)
  a_mistake_at (Some k) e m is =
      let here : ◌≡◌ {A = Result (List ℕ) Mistake} (Err k) (Err m) = sym (rw (e, read_answer) at to.answer) ∙ is in
      let same : k ≡ m = cc in e ∙ ap Some same

  pub a_mistake : (m : Mistake) → r ≡ Err m → first_mistake text before ≡ Some m
  a_mistake = a_mistake_at (first_mistake text before) refl

  module _ (ns : List ℕ) (is : r ≡ Ok ns) where
    good : first_mistake text before ≡ None
    good = no_mistake ns is

    lengths : ns ≡ tabulate (λ s. length (read_list text before s)) 6
    unfolding read_answer
    lengths =
        let here : ◌≡◌ {A = Result (List ℕ) Mistake} (Ok ns) (Ok (tabulate (λ s. length (read_list text before s)) 6)) =
        sym is ∙ rw (good, read_answer) at to.answer in cc

    long : (s : ℕ) → s < 6 → get_or ns s 0 ≡ length (list_in text s)
    unfolding read_list
    long s h = ap (λ (l : List ℕ). get_or l s 0) lengths ∙ tabulate_at (λ s. length (read_list text before s)) 6 s 0 h ∙ rw (good, read_list) refl

    whole : (s : ℕ) → s < 6 → list_for after s ≡ lent (room_in before s) (list_in text s)
    unfolding read_list
    whole s h = ap (λ (ls : Lists). list_for ls s) to.held ∙ list_by (λ s. lent (room_in before s) (read_list text before s)) s h ∙ rw (good, read_list) refl

    pub list_within : (s : ℕ) → s < 6 → get_or ns s 0 ≤ length (list_for after s)
    unfolding lent
    list_within s h = rw (whole s h, long s h, length-append) (omega arith)

    list_read : (s : ℕ) → s < 6 → take (get_or ns s 0) (list_for after s) ≡ list_in text s
    unfolding lent
    list_read s h = rw (whole s h, long s h) (take_at (list_in text s) _ (length (list_in text s)) refl)

    -- the lists as far as their lengths go
    abbrev pub firsts : Lists
    firsts = lists_by (λ s. take (get_or ns s 0) (list_for after s))

    lists_said : firsts ≡ said text
    unfolding said
    lists_said = by_same (λ s. take (get_or ns s 0) (list_for after s)) (list_in text) list_read

    pub said_written : (room : ℕ) (w : Written) (out : List ℕ) → Writes firsts room w out → Writes (said text) room w out
    said_written room w out h = subst (λ (ls : Lists). Writes ls room w out) lists_said h

-- ---- the errors that a text's mistake and the writer's refusal become
pub err_is : (r : Result ℕ PackError) (e : PackError) → IsErrAnd r (λ x. x ≡ e) → r ≡ Err e
err_is (Ok n) e h = absurd h
err_is (Err x) e h = ap Err h
