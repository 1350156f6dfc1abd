-- The lines of a printed text are those that were printed, and one by one they say the list of each section: a line of another section
-- says nothing of it.
-- Assumes nothing.
use Prim.Native.Nat.{ℕ, zero, suc, ◌+◌, ◌*◌, ◌/◌, ◌≤◌, ◌<◌}
use mathlib.Core.Path.{◌≡◌, refl, sym, ap, ap₂, ◌∙◌}
use mathlib.Core.Bool.{Bool, true, false}
use mathlib.Core.List.{List, [], ◌∷◌, ◌++◌, map, append_assoc, append-nil, map-append}
use native.Mathlib.Omega.{arith}
use native.Mathlib.Decide.{ℕ_discrete}
use borrow.Author.Tests.{eq-eqb, ne_eqb}
use lib.Dec.{eqb}
use lib.ListN.{length, get_or, take, drop}
use lib.Seq.{take-add, take_all}
use Rattle.base.specs.Pick.{pick, within}
use Rattle.base.specs.Tabulate.{tabulate}
use Rattle.base.proofs.Tests.{within_yes, within_above, same_test}
use Rattle.layout.specs.Names.{number_of}
use Rattle.layout.specs.Layout.{layout_in}
use Rattle.layout.specs.Rows.{listed}
use Rattle.words.specs.Words.{words_of}
use Rattle.words.specs.Printed.{are_words, are_lines, line_of, text_of}
use Rattle.words.proofs.WordLaws.{no_words}
use Rattle.words.proofs.PrintedLaws.{words_back, lines_back, words_are_a_line}
use Rattle.notation.specs.Notation.{Word, version_line, line_fields, form_of}
use Rattle.notation.specs.Meant.{line_said, text_lines, numbers_of, section_in, version_in, list_in}
use Rattle.notation.specs.Printed.{line_words, record_in, section_lines, record_lines, table_lines, printed}
use Rattle.notation.specs.Back.{spoken, sayable, Sayable, Printable, ReadBack}
use Rattle.notation.proofs.LineLaws.{line_back, line_are_words}

-- ---- the lines of a text
-- each line is of words
AllWords : List (List Word) → Type 0
AllWords [] = Unit
AllWords (l ∷ ls) = (are_words l ≡ true) × AllWords ls

all_words_append : (ks ls : List (List Word)) → AllWords ks → AllWords ls → AllWords (ks ++ ls)
unfolding AllWords
all_words_append [] ls h k = k
all_words_append (l ∷ ks) ls (e, h) k = (e, all_words_append ks ls h k)

all_words_tabulate : (f : ℕ → List Word) (n : ℕ) → ((i : ℕ) → i < n → are_words (f i) ≡ true) → AllWords (tabulate f n)
unfolding AllWords tabulate
all_words_tabulate f zero h = tt
all_words_tabulate f (suc n) h =
    all_words_append (tabulate f n) (f n ∷ []) (all_words_tabulate f n (λ i k. h i (omega arith))) (h n (omega arith), tt)

are_lines_lem : (ls : List (List Word)) → AllWords ls → are_lines (map line_of ls) ≡ true
unfolding AllWords are_lines
are_lines_lem [] h = refl
are_lines_lem (l ∷ ls) (e, h) = rw (words_are_a_line l e) (are_lines_lem ls h)

words_again : (ls : List (List Word)) → AllWords ls → map words_of (map line_of ls) ≡ ls
unfolding AllWords
words_again [] h = refl
words_again (l ∷ ls) (e, h) = ap₂ ◌∷◌ (words_back l e) (words_again ls h)

lines_again : (ls : List (List Word)) → AllWords ls → text_lines (text_of (map line_of ls)) ≡ ls ++ ([] ∷ [])
unfolding text_lines
lines_again ls h =
    ap (map words_of) (lines_back (map line_of ls) (are_lines_lem ls h))
    ∙ map-append words_of (map line_of ls) ([] ∷ [])
    ∙ ap₂ ◌++◌ (words_again ls h) (ap (λ (w : List Word). w ∷ []) no_words)

-- ---- what lines say of a section
section_append : (v s : ℕ) (ks ls : List (List Word)) → section_in v s (ks ++ ls) ≡ section_in v s ks ++ section_in v s ls
unfolding section_in
section_append v s [] ls = refl
section_append v s (l ∷ ks) ls =
    let here = numbers_of s (line_said v l) in
    ap (λ (ns : List ℕ). here ++ ns) (section_append v s ks ls) ∙ sym (append_assoc here (section_in v s ks) (section_in v s ls))

-- an empty line at the end says nothing
section_end : (v s : ℕ) (ls : List (List Word)) → section_in v s (ls ++ ([] ∷ [])) ≡ section_in v s ls
unfolding section_in line_said numbers_of
section_end v s ls = section_append v s ls ([] ∷ []) ∙ append-nil (section_in v s ls)

line_numbers : (v s t : ℕ) (ns : List ℕ) → t ≤ version_line → Sayable (line_fields v t) ns
    → numbers_of s (line_said v (line_words v t ns)) ≡ pick (eqb t s) ns []
unfolding numbers_of
line_numbers v s t ns h k = rw (line_back v t ns h k)

module _ (v s t : ℕ) (list : List ℕ) (known : t ≤ version_line) where
  -- the first n records
  records_said : (n : ℕ) → ((i : ℕ) → i < n → Sayable (line_fields v t) (record_in list t i))
      → section_in v s (tabulate (λ i. line_words v t (record_in list t i)) n) ≡ pick (eqb t s) (take (n * listed t) list) []
  unfolding tabulate section_in record_in
  records_said zero h = let e : 0 * listed t ≡ 0 = omega arith in rw e (go (eqb t s))
    where
      go : (b : Bool) → [] ≡ pick {A = List ℕ} b [] []
      go true = refl
      go false = refl
  records_said (suc n) h =
      let e : suc n * listed t ≡ n * listed t + listed t = omega arith in
      section_append v s (tabulate (λ i. line_words v t (record_in list t i)) n) (line_words v t (record_in list t n) ∷ [])
      ∙ ap₂ ◌++◌
      (records_said n (λ i k. h i (omega arith)))
      (append-nil _ ∙ line_numbers v s t (record_in list t n) known (h n (omega arith)))
      ∙ rw (e, take-add (n * listed t) (listed t) list) (go (eqb t s) (take (n * listed t) list) (record_in list t n))
    where
      go : (b : Bool) (xs ys : List ℕ) → pick b xs [] ++ pick b ys [] ≡ pick b (xs ++ ys) []
      go true xs ys = refl
      go false xs ys = refl

-- no section is among the first 0
none_yet : (s : ℕ) → within 1 0 s ≡ false
none_yet zero = refl
none_yet (suc s) = within_above 1 0 (suc s) (omega arith)

module _ (lists : ℕ → List ℕ) (p : Printable lists) where
  abbrev version : ℕ
  version = get_or (lists 0) 0 1

  section_said : (s t : ℕ) → 1 ≤ t → t ≤ 5 → section_in version s (section_lines version t (lists t)) ≡ pick (eqb t s) (lists t) []
  unfolding section_lines
  section_said s t low high =
      let n = length (lists t) / listed t in
      records_said version s t (lists t) (omega arith) n (λ i h. p.records t i low high h)
      ∙ ap (λ (ns : List ℕ). pick (eqb t s) ns []) (take_all (n * listed t) (lists t) (omega (arith, p.whole t low high)))

  -- of the first n sections
  sections_said : (s n : ℕ) → n ≤ 5 → section_in version s (record_lines version lists n) ≡ pick (within 1 n s) (lists s) []
  unfolding record_lines section_in
  sections_said s zero h = rw (none_yet s)
  sections_said s (suc n) h =
      section_append version s (record_lines version lists n) (section_lines version (suc n) (lists (suc n)))
      ∙ ap₂ ◌++◌ (sections_said s n (omega arith)) (section_said s (suc n) (omega arith) h)
      ∙ go (ℕ_discrete (suc n) s)
    where
      go : Dec (suc n ≡ s)
          → pick (within 1 n s) (lists s) [] ++ pick (eqb (suc n) s) (lists (suc n)) [] ≡ pick (within 1 (suc n) s) (lists s) []
      go (yes e) =
          let m = suc n in rw (← e, eq-eqb m m refl, within_above 1 n m (omega arith), within_yes 1 m m (omega arith, omega arith))
      go (no d) = rw (ne_eqb (suc n) s d, same_test s n s (suc n) (λ k. omega arith) (λ k. omega (arith, d))) (append-nil _)

  section_words : (t : ℕ) → 1 ≤ t → t ≤ 5 → AllWords (section_lines version t (lists t))
  unfolding section_lines
  section_words t low high =
      all_words_tabulate
      (λ i. line_words version t (record_in (lists t) t i))
      (length (lists t) / listed t)
      (λ i h. line_are_words version t (record_in (lists t) t i) (omega arith) (p.records t i low high h))

  sections_words : (n : ℕ) → n ≤ 5 → AllWords (record_lines version lists n)
  unfolding record_lines AllWords
  sections_words zero h = tt
  sections_words (suc n) h =
      all_words_append (record_lines version lists n) _ (sections_words n (omega arith)) (section_words (suc n) (omega arith) h)

  pub version_sayable : (w : ℕ) → Sayable (line_fields w version_line) (version ∷ [])
  unfolding Sayable sayable spoken form_of number_of line_fields layout_in
  version_sayable w = (p.version, tt)

  table_words : AllWords (table_lines lists)
  unfolding table_lines AllWords
  table_words = (
    line_are_words version version_line (version ∷ []) (omega arith) (version_sayable version),
    (line_are_words version 0 (drop 1 (lists 0)) (omega arith) p.delays, sections_words 5 (omega arith)),
  )

  -- the version's line has the same fields in every version, so it is read before the version is known
  pub version_said : version_in (table_lines lists ++ ([] ∷ [])) ≡ version
  unfolding version_in table_lines section_in line_words line_fields
  version_said = rw (line_numbers 1 version_line version_line (version ∷ []) (omega arith) (version_sayable 1))

  pub table_said : (s : ℕ)
      → section_in version s (table_lines lists ++ ([] ∷ []))
      ≡ pick (eqb version_line s) (version ∷ []) [] ++ (pick (eqb 0 s) (drop 1 (lists 0)) [] ++ pick (within 1 5 s) (lists s) [])
  unfolding table_lines section_in
  table_said s =
      section_end version s (table_lines lists)
      ∙ ap₂ ◌++◌
      (line_numbers version s version_line (version ∷ []) (omega arith) (version_sayable version))
      (ap₂ ◌++◌ (line_numbers version s 0 (drop 1 (lists 0)) (omega arith) p.delays) (sections_said s 5 (omega arith)))

  pub lines_are : text_lines (printed lists) ≡ table_lines lists ++ ([] ∷ [])
  unfolding printed
  lines_are = lines_again (table_lines lists) table_words

  -- there are four delays, so there is a number before them
  header_whole : version ∷ drop 1 (lists 0) ≡ lists 0
  unfolding Sayable line_fields layout_in
  header_whole = go (lists 0) p.delays
    where
      go : (l : List ℕ) → Sayable (line_fields version 0) (drop 1 l) → get_or l 0 1 ∷ drop 1 l ≡ l
      go [] h = absurd h
      go (n ∷ l) h = refl

pub read_back : ReadBack
unfolding list_in
read_back lists p zero h =
    rw (lines_are lists p, version_said lists p, table_said lists p 0)
    (ap (λ (ns : List ℕ). get_or (lists 0) 0 1 ∷ ns) (append-nil (drop 1 (lists 0))) ∙ header_whole lists p)
read_back lists p (suc s) h =
    rw (
      lines_are lists p,
      version_said lists p,
      table_said lists p (suc s),
      ne_eqb 6 (suc s) (λ e. omega (arith, e)),
      ne_eqb 0 (suc s) (λ e. omega (arith, e)),
      within_yes 1 5 (suc s) (omega arith, h),
    )
