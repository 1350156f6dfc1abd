-- What the bytes of a number and of a line of numbers are, and what it is to put bytes at a place of a text.
-- Assumes nothing.
use Rattle.std.specs.Prelude.{ℕ, zero, suc, ◌+◌, ◌-◌, ◌*◌, ◌/◌, ◌%◌, ◌^◌, ◌≤◌, ◌<◌, ◌≡◌, Bool, true, ◌&&◌, List, [], ◌∷◌, ◌++◌, ltb, length, take, drop}
use Rattle.base.specs.Pick.{pick, within}

-- The bytes of a number in decimal with no zero in front, at most so many: below ten it is one, 48 ('0') and the number; any other is
-- those of its tenth, and then 48 and the last digit. Of a number that has more digits they are the last.
unfoldable pub decimal_in : ℕ → ℕ → List ℕ
decimal_in zero n = []
decimal_in (suc most) n = pick (ltb n 10) ((48 + n) ∷ []) (decimal_in most (n / 10) ++ ((48 + n % 10) ∷ []))

-- The bytes of a number below 2 ^ 64: it has at most 20 digits.
unfoldable pub decimal : ℕ → List ℕ
decimal n = decimal_in 20 n

-- Each number with a space (32) before it.
unfoldable pub spaced_from : List ℕ → List ℕ
spaced_from [] = []
spaced_from (n ∷ ns) = (32 ∷ decimal n) ++ spaced_from ns

-- The numbers with one space between.
unfoldable pub spaced : List ℕ → List ℕ
spaced [] = []
spaced (n ∷ ns) = decimal n ++ spaced_from ns

-- A line: the numbers with one space between, then the line's end (10).
unfoldable pub line : List ℕ → List ℕ
line ns = spaced ns ++ (10 ∷ [])

-- As many of the bytes as there is room for from a place of a text on.
unfoldable pub fitting : List ℕ → ℕ → List ℕ → List ℕ
fitting text at bytes = take (length text - at) bytes

-- Bytes are put at a place of a text: those that fit stand there, all else is as before, and r is the place behind them. Where the place
-- is the text's end or past it, none fits: nothing changes and r is the place.
pub record Puts (before : List ℕ) (at : ℕ) (bytes : List ℕ) (r : ℕ) (after : List ℕ) : Type 0 where
  pub place : r ≡ at + length (fitting before at bytes)
  pub holds : after ≡ take at before ++ fitting before at bytes ++ drop (at + length (fitting before at bytes)) before

-- The number that bytes spell in decimal behind the digits of v.
unfoldable pub spells : ℕ → List ℕ → ℕ
spells v [] = v
spells v (b ∷ bs) = spells (v * 10 + (b - 48)) bs

-- The bytes of a number below 2 ^ 64 spell it: no digit is lost.
abbrev pub SpellsBack : Type 0
SpellsBack = (n : ℕ) → n < 2 ^ 64 → spells 0 (decimal n) ≡ n

-- Every byte passes a test.
unfoldable pub all : (ℕ → Bool) → List ℕ → Bool
all p [] = true
all p (b ∷ bs) = p b && all p bs

-- The digits are 48 ('0') to 57 ('9').
unfoldable pub digit : ℕ → Bool
digit b = within 48 57 b

-- The bytes of a number are digits alone, one at least.
abbrev pub DigitsAlone : Type 0
DigitsAlone = (n : ℕ) → (0 < length (decimal n)) × (all digit (decimal n) ≡ true)

-- A line of one number or more has at most 21 bytes a number: a line of six numbers fits 126 bytes.
abbrev pub LineFits : Type 0
LineFits = (ns : List ℕ) → 1 ≤ length ns → length (line ns) ≤ 21 * length ns
