-- What a read brought stands behind what came before, which it leaves as it was: together they are what the reader had first.
-- Assumes nothing.
use Rattle.std.proofs.Common.{◌≡◌, ℕ, ◌+◌, ◌≤◌, List, ◌++◌, Option, length, take, sym, ap, ◌∙◌, subst, length-take-le}
use Rattle.std.proofs.lemmas.List.{take-append-le}
use Rattle.std.proofs.Math.Seq.{take-append-add}
use Rattle.std.specs.Io.KnownBytes.{Consumes}
use Rattle.std.proofs.KnownBytes.{Consumes-trans}
use borrow.Rule.Slice.PartMut.{put_mid, post_of}

-- the first items of a list that was written from a on: those before a, and the first of those written
take-put_mid_past : (a k n : ℕ) (xs ys : List ℕ) → a ≤ length xs → n ≤ length ys → take (a + n) (put_mid a k xs ys) ≡ take a xs ++ take n ys
take-put_mid_past a k n xs ys within fits =
    let behind = ys ++ post_of a k xs in
    ap (λ m. take (m + n) (take a xs ++ behind)) (sym (length-take-le a xs within))
    ∙ take-append-add (take a xs) behind n
    ∙ ap (λ l. take a xs ++ l) (take-append-le n ys (post_of a k xs) fits)

pub consumes_past : (old mid new : Option (List ℕ)) (a k n : ℕ) (xs ys : List ℕ) → a ≤ length xs → n ≤ length ys
    → Consumes old mid (take a xs) → Consumes mid new (take n ys) → Consumes old new (take (a + n) (put_mid a k xs ys))
consumes_past old mid new a k n xs ys within fits before came =
    subst (Consumes old new) (sym (take-put_mid_past a k n xs ys within fits)) (Consumes-trans _ _ _ _ _ before came)
