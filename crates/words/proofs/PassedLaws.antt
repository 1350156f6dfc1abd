-- A comment, and a carriage return at the end of a line, change nothing of its words.
-- Assumes nothing.
use Prim.Native.Nat.{ℕ}
use mathlib.Core.Path.{◌≡◌, refl, ap, ◌∙◌}
use mathlib.Core.Bool.{Bool, true, false}
use mathlib.Core.List.{List, [], ◌∷◌, ◌++◌}
use mathlib.Core.Logic.{◌⊎◌, inl, inr}
use Rattle.base.specs.Pick.{pick}
use Rattle.words.specs.Words.{hash, blank, before, in_front, split_at, present, uncommented, words_of}
use Rattle.words.specs.Printed.{CommentPassed, ReturnPassed}
use Rattle.words.proofs.PlaceLaws.{since, before_go}
use Rattle.words.proofs.WordLaws.{behind, split_first}

before_comment : (l c : List ℕ) → before hash (l ++ (35 ∷ c)) ≡ before hash l
unfolding before hash
before_comment [] c = refl
before_comment (b ∷ l) c = ap (λ (m : List ℕ). pick (hash b) [] (b ∷ m)) (before_comment l c)

pub comment_passed : CommentPassed
unfolding words_of uncommented
comment_passed l c = ap (λ (m : List ℕ). present (split_at blank m)) (before_comment l c)

-- a byte more at the end of a line is one more before the comment, unless that has begun
before_more : (b : ℕ) (l : List ℕ) → hash b ≡ false
    → (before hash (l ++ (b ∷ [])) ≡ before hash l) ⊎ (before hash (l ++ (b ∷ [])) ≡ before hash l ++ (b ∷ []))
unfolding before
before_more b [] e = inr (before_go hash b [] e)
before_more b (c ∷ l) e = go (hash c) (before_more b l e)
  where
    go : (t : Bool)
        → (before hash (l ++ (b ∷ [])) ≡ before hash l) ⊎ (before hash (l ++ (b ∷ [])) ≡ before hash l ++ (b ∷ []))
        → (pick t [] (c ∷ before hash (l ++ (b ∷ []))) ≡ pick t [] (c ∷ before hash l))
        ⊎ (pick t [] (c ∷ before hash (l ++ (b ∷ []))) ≡ pick t [] (c ∷ before hash l) ++ (b ∷ []))
    go true s = inl refl
    go false (inl s) = inl (ap (λ (m : List ℕ). c ∷ m) s)
    go false (inr s) = inr (ap (λ (m : List ℕ). c ∷ m) s)

-- a cut at the end adds an empty piece, which is no word
split_last : (p : ℕ → Bool) (b : ℕ) (l : List ℕ) → p b ≡ true → split_at p (l ++ (b ∷ [])) ≡ split_at p l ++ ([] ∷ [])
unfolding split_at in_front
split_last p b [] e = rw e
split_last p b (c ∷ l) e = go (p c) (split_at p l) (split_first p l) (split_last p b l e)
  where
    go : (t : Bool) (ps : List (List ℕ))
        → ps ≡ before p l ∷ behind p (since p l) → split_at p (l ++ (b ∷ [])) ≡ ps ++ ([] ∷ [])
        → pick t ([] ∷ split_at p (l ++ (b ∷ []))) (in_front c (split_at p (l ++ (b ∷ [])))) ≡ pick t ([] ∷ ps) (in_front c ps) ++ ([] ∷ [])
    go true ps f k = ap (λ (qs : List (List ℕ)). [] ∷ qs) k
    go false ps f k = rw (k, f)

present_last : (ps : List (List ℕ)) → present (ps ++ ([] ∷ [])) ≡ present ps
unfolding present
present_last [] = refl
present_last ([] ∷ ps) = present_last ps
present_last ((b ∷ w) ∷ ps) = ap (λ (qs : List (List ℕ)). (b ∷ w) ∷ qs) (present_last ps)

return_blank : (blank 13 ≡ true) × (hash 13 ≡ false)
unfolding blank hash
return_blank = (refl, refl)

pub return_passed : ReturnPassed
unfolding words_of uncommented
return_passed l = go (before_more 13 l return_blank.1)
  where
    go : (before hash (l ++ (13 ∷ [])) ≡ before hash l) ⊎ (before hash (l ++ (13 ∷ [])) ≡ before hash l ++ (13 ∷ []))
        → present (split_at blank (before hash (l ++ (13 ∷ [])))) ≡ present (split_at blank (before hash l))
    go (inl s) = ap (λ (m : List ℕ). present (split_at blank m)) s
    go (inr s) =
        ap (λ (m : List ℕ). present (split_at blank m)) s
        ∙ ap present (split_last blank 13 (before hash l) return_blank.0)
        ∙ present_last (split_at blank (before hash l))
