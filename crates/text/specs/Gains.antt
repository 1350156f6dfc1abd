-- What it is that a text gains bytes at its place.
-- Assumes nothing.
use Rattle.std.specs.Prelude.{ℕ, List, ◌≡◌}
use Rattle.text.specs.declared.Text.{Text}
use Rattle.text.specs.Text.{Puts}

-- The bytes are put at the text's place, and it stands behind them; the text is the same one as before.
pub record Gains (old : Text) (bytes : List ℕ) (new : Text) : Type 0 where
  pub same : new.bytes.ghost_name ≡ old.bytes.ghost_name
  pub at_once : new.bytes.ref_ptr ≡ old.bytes.ref_ptr
  pub puts : Puts old.bytes.now old.at bytes new.at new.bytes.now
