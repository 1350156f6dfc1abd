-- What a text gains at two times it gains at once; and what it gains settles the text.
-- Assumes nothing.
use Rattle.std.proofs.Common.{ℕ, ◌+◌, ◌≤◌, ◌<◌, ◌≡◌, refl, sym, ◌∙◌, List, [], ◌∷◌, ◌++◌, length, take, get_or, add-one}
use Rattle.std.proofs.Math.Seq.{take-suc}
use Rattle.text.specs.declared.Text.{Text}
use Rattle.text.specs.Text.{decimal, spaced_from, spaced}
use Rattle.text.specs.Gains.{Gains}
use Rattle.text.proofs.PutLaws.{puts_none, puts_more, puts_whole}
use Rattle.text.proofs.LineLaws.{spaced_from_next, spaced_none}

pub gains_none : (a : Text) → Gains a [] a
gains_none a = record { same = refl; at_once = refl; puts = puts_none _ _ }

-- bytes, and others behind them
pub gains_more : (a b c : Text) (xs ys : List ℕ) → Gains a xs b → Gains b ys c → Gains a (xs ++ ys) c
gains_more a b c xs ys p q =
    record {
      same = q.same ∙ p.same;
      at_once = q.at_once ∙ p.at_once;
      puts = puts_more _ _ xs _ _ ys _ _ p.puts q.puts;
    }

-- one byte more of a list of bytes
pub gains_next : (a b c : Text) (xs : List ℕ) (i : ℕ) → i < length xs → Gains a (take i xs) b → Gains b (get_or xs i 0 ∷ []) c → Gains a (take (i + 1) xs) c
gains_next a b c xs i h p q = rw (add-one, take-suc xs i 0 h) (gains_more a b c _ _ p q)

-- one number more of those behind a space
pub gains_next_spaced : (a b c : Text) (ns : List ℕ) (i : ℕ) → i < length ns
    → Gains a (spaced_from (take i ns)) b → Gains b (32 ∷ decimal (get_or ns i 0)) c → Gains a (spaced_from (take (i + 1) ns)) c
gains_next_spaced a b c ns i h p q = rw (spaced_from_next ns i h) (gains_more a b c _ _ p q)

pub gains_no_number : (a : Text) (ns : List ℕ) → length ns ≡ 0 → Gains a (spaced ns) a
gains_no_number a ns h = rw (spaced_none ns h) (gains_none a)

pub gains_settles : (a b c : Text) (xs : List ℕ) → Gains a xs b → Gains a xs c → b ≡ c
gains_settles a b c xs p q i =
    record {
      bytes = record {
        ref_ptr = (p.at_once ∙ sym q.at_once) i;
        ghost_name = (p.same ∙ sym q.same) i;
        now = (p.puts.holds ∙ sym q.puts.holds) i;
      };
      at = (p.puts.place ∙ sym q.puts.place) i;
    }

-- bytes for which there is room, from the text's start on: they stand there whole
pub gains_whole : (a b : Text) (xs : List ℕ) → a.at ≡ 0 → length xs ≤ length a.bytes.now → Gains a xs b → take b.at b.bytes.now ≡ xs
gains_whole a b xs start room p = puts_whole a.bytes.now xs b.at b.bytes.now room (rw start at p.puts)
