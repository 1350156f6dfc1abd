-- What an optional number tells: whether there is one, and which.
-- Assumes nothing.
use mathlib.Core.Path.{◌≡◌, ap}
use mathlib.Core.Bool.{true, false}
use Rattle.std.specs.Prelude.{Option, None, Some}
use Prim.Native.Nat.{ℕ}
use Rattle.base.specs.Tests.{number_or0, is_some}

pub some_told : (o : Option ℕ) (n : ℕ) → o ≡ Some n → is_some o ≡ true
unfolding is_some
some_told o n e = ap is_some e

pub none_told : (o : Option ℕ) → o ≡ None → is_some o ≡ false
unfolding is_some
none_told o e = ap is_some e

pub number_told : (o : Option ℕ) (n : ℕ) → o ≡ Some n → number_or0 o ≡ n
unfolding number_or0
number_told o n e = ap number_or0 e
