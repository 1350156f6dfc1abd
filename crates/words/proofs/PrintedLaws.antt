-- What is printed is read back: a word has no byte at which a line is cut into words or the text into lines, so each cut that is found is
-- one that the printing put there. A number in decimal is such a word.
-- Assumes nothing.
use Prim.Native.Nat.{ℕ, ◌<◌}
use mathlib.Core.Path.{◌≡◌, refl, sym, ap, ◌∙◌}
use mathlib.Core.Bool.{Bool, true, false, not, ◌&&◌, false≢true}
use mathlib.Core.List.{List, [], ◌∷◌, ◌++◌, append_assoc, append-nil}
use Rattle.std.specs.Prelude.{Some}
use native.Mathlib.Omega.{arith}
use borrow.Author.Tests.{ne_eqb}
use lib.ListN.{length}
use lib.Seq.{drop-append_seam}
use Rattle.text.specs.Text.{decimal, all, digit}
use Rattle.text.proofs.DecimalLaws.{all_none, all_next, all_append, digit_was, digits_alone, spells_back}
use Rattle.words.specs.Words.{feed, hash, blank, before, in_front, split_at, lines_of, words_of}
use Rattle.words.specs.Places.{ends}
use Rattle.words.specs.Printed.{in_line, in_word, is_word, are_words, are_lines, line_from, line_of, text_of}
use Rattle.words.specs.Printed.{WordsBack, LinesBack, LastLineBack, WordsAreALine, NumberBack}
use Rattle.words.proofs.PlaceLaws.{before_stop, before_go}
use Rattle.words.proofs.SpelledLaws.{numeral_some}
use Rattle.words.proofs.WordLaws.{no_words, split_on, skip_blank, word_first}

-- ---- both tests passed, and what all pass is weaker tests pass
both : (a b : Bool) → a && b ≡ true → (a ≡ true) × (b ≡ true)
both true b e = (refl, e)
both false b e = absurd (false≢true e)

not_yes : (t : Bool) → not t ≡ true → t ≡ false
not_yes true e = absurd (false≢true e)
not_yes false e = refl

pub all_weaker : (p q : ℕ → Bool) → ((b : ℕ) → p b ≡ true → q b ≡ true) → (l : List ℕ) → all p l ≡ true → all q l ≡ true
all_weaker p q f [] e = all_none q
all_weaker p q f (b ∷ l) e =
    let h = both (p b) (all p l) (sym (all_next p b l) ∙ e) in
    rw (all_next q b l, f b h.0) (all_weaker p q f l h.1)

word_bytes : (w : List ℕ) → is_word w ≡ true → all in_word w ≡ true
unfolding is_word
word_bytes [] e = absurd (false≢true e)
word_bytes (b ∷ w) e = e

word_some : (w : List ℕ) → is_word w ≡ true → 0 < length w
unfolding is_word
word_some [] e = absurd (false≢true e)
word_some (b ∷ w) e = omega arith

-- ---- a word and what comes behind it
in_word_was : (b : ℕ) → in_word b ≡ true → (ends b ≡ false) × (in_line b ≡ true)
unfolding in_word
in_word_was b e = let h = both (not (ends b)) (in_line b) e in (not_yes (ends b) h.0, h.1)

before_word : (w r : List ℕ) → all in_word w ≡ true → before ends r ≡ [] → before ends (w ++ r) ≡ w
before_word [] r e d = d
before_word (b ∷ w) r e d =
    let h = both (in_word b) (all in_word w) (sym (all_next in_word b w) ∙ e) in
    before_go ends b (w ++ r) (in_word_was b h.0).0 ∙ ap (λ (l : List ℕ). b ∷ l) (before_word w r h.1 d)

pub word_read : (w r : List ℕ) → is_word w ≡ true → before ends r ≡ [] → words_of (w ++ r) ≡ w ∷ words_of r
word_read w r e d =
    let first = before_word w r (word_bytes w e) d in
    word_first (w ++ r) (rw first (word_some w e)) ∙ rw (first, drop-append_seam w r)

space_blank : blank 32 ≡ true
unfolding blank
space_blank = refl

space_ends : ends 32 ≡ true
unfolding ends blank
space_ends = refl

no_word_yet : (ws : List (List ℕ)) → before ends (line_from ws) ≡ []
unfolding line_from before
no_word_yet [] = refl
no_word_yet (w ∷ ws) = before_stop ends 32 (w ++ line_from ws) space_ends

line_from_back : (ws : List (List ℕ)) → are_words ws ≡ true → words_of (line_from ws) ≡ ws
unfolding line_from are_words
line_from_back [] e = no_words
line_from_back (w ∷ ws) e =
    let h = both (is_word w) (are_words ws) e in
    skip_blank 32 (w ++ line_from ws) space_blank
    ∙ word_read w (line_from ws) h.0 (no_word_yet ws)
    ∙ ap (λ (l : List (List ℕ)). w ∷ l) (line_from_back ws h.1)

pub words_back : WordsBack
unfolding line_of are_words
words_back [] e = no_words
words_back (w ∷ ws) e =
    let h = both (is_word w) (are_words ws) e in
    word_read w (line_from ws) h.0 (no_word_yet ws) ∙ ap (λ (l : List (List ℕ)). w ∷ l) (line_from_back ws h.1)

-- ---- lines
in_line_lem : (b : ℕ) → in_line b ≡ true → feed b ≡ false
unfolding in_line
in_line_lem b e = not_yes (feed b) e

pub line_read : (l r : List ℕ) → all in_line l ≡ true → lines_of (l ++ (10 ∷ r)) ≡ l ∷ lines_of r
unfolding lines_of split_at feed in_front
line_read [] r e = refl
line_read (b ∷ l) r e =
    let h = both (in_line b) (all in_line l) (sym (all_next in_line b l) ∙ e) in
    split_on feed b (l ++ (10 ∷ r)) (in_line_lem b h.0) ∙ ap (in_front b) (line_read l r h.1)

split_nowhere : (l : List ℕ) → all in_line l ≡ true → lines_of l ≡ l ∷ []
unfolding lines_of split_at in_front
split_nowhere [] e = refl
split_nowhere (b ∷ l) e =
    let h = both (in_line b) (all in_line l) (sym (all_next in_line b l) ∙ e) in
    split_on feed b l (in_line_lem b h.0) ∙ ap (in_front b) (split_nowhere l h.1)

pub last_line_back : LastLineBack
unfolding text_of are_lines
last_line_back [] l e d = split_nowhere l d
last_line_back (k ∷ ls) l e d =
    let h = both (all in_line k) (are_lines ls) e in
    rw (append_assoc k (10 ∷ text_of ls) l)
    (line_read k (text_of ls ++ l) h.0 ∙ ap (λ (m : List (List ℕ)). k ∷ m) (last_line_back ls l h.1 d))

pub lines_back : LinesBack
lines_back ls e = rw append-nil at (last_line_back ls [] e (all_none in_line))

word_line : (w : List ℕ) → is_word w ≡ true → all in_line w ≡ true
word_line w e = all_weaker in_word in_line (λ b h. (in_word_was b h).1) w (word_bytes w e)

line_from_line : (ws : List (List ℕ)) → are_words ws ≡ true → all in_line (line_from ws) ≡ true
unfolding line_from are_words all in_line feed
line_from_line [] e = refl
line_from_line (w ∷ ws) e =
    let h = both (is_word w) (are_words ws) e in
    all_append in_line (32 ∷ w) (line_from ws) (word_line w h.0) (line_from_line ws h.1)

pub words_are_a_line : WordsAreALine
unfolding line_of are_words
words_are_a_line [] e = all_none in_line
words_are_a_line (w ∷ ws) e =
    let h = both (is_word w) (are_words ws) e in
    all_append in_line w (line_from ws) (word_line w h.0) (line_from_line ws h.1)

-- ---- numbers
digit_in_word : (b : ℕ) → digit b ≡ true → in_word b ≡ true
unfolding in_word in_line ends blank hash feed
digit_in_word b e =
    let h = digit_was b e in
    rw (
      ne_eqb b 32 (λ k. omega (arith, h, k)),
      ne_eqb b 9 (λ k. omega (arith, h, k)),
      ne_eqb b 13 (λ k. omega (arith, h, k)),
      ne_eqb b 35 (λ k. omega (arith, h, k)),
      ne_eqb b 10 (λ k. omega (arith, h, k)),
    )

digits_word : (w : List ℕ) → 0 < length w → all digit w ≡ true → is_word w ≡ true
unfolding is_word
digits_word [] h e = absurd (omega arith)
digits_word (b ∷ w) h e = all_weaker digit in_word digit_in_word (b ∷ w) e

decimal_word : (n : ℕ) → is_word (decimal n) ≡ true
decimal_word n = let d = digits_alone n in digits_word (decimal n) d.0 d.1

pub number_back : NumberBack
number_back n h =
    let d = digits_alone n in
    (decimal_word n, numeral_some (decimal n) d.0 d.1 ∙ ap Some (rw (spells_back n h) (omega arith)))
