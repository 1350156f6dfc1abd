-- A frame on a link: the ticks that it takes grow with its bytes, are some, and lie between the least frame's and the largest's. Nothing above
-- opens the definitions; only the laws under "the bytes on a link" know what a link does with a frame's bytes. Assumes nothing.
use Prim.Native.Nat.{ℕ, ◌+◌, ◌*◌, ◌-◌, ◌≤◌, ◌<◌}
use mathlib.Core.Path.{◌≡◌, refl, ap}
use native.Mathlib.Nat.{mul-le-mul, mul-le-mul_right, mul-pos}
use native.Mathlib.Omega.{arith}
use Rattle.frame.specs.Frame.{least_line, largest_line}
use Rattle.frame.proofs.FrameLaws.{least_line_is, largest_line_is}
use Rattle.network.specs.Link.{Link, on_line, line_ticks, least_ticks, most_ticks, spread_ticks}

module _ (link : Link) where
  -- ---- the bytes on a link
  on_line_is : (b : ℕ) → on_line link b ≡ b
  unfolding on_line
  on_line_is b = refl

  on_line_grows : (b c : ℕ) → b ≤ c → on_line link b ≤ on_line link c
  on_line_grows b c h = omega (arith, on_line_is b, on_line_is c)

  on_line_some : (b : ℕ) → least_line ≤ b → 0 < on_line link b
  on_line_some b h = omega (arith, on_line_is b, least_line_is)

  on_line_most : (lmax : ℕ) → lmax ≤ 1518 → on_line link (largest_line lmax) ≤ 1538
  on_line_most lmax h = omega (arith, on_line_is (largest_line lmax), largest_line_is lmax)

  -- ---- the ticks
  pub ticks_grow : (b c : ℕ) → b ≤ c → line_ticks link b ≤ line_ticks link c
  unfolding line_ticks
  ticks_grow b c h = mul-le-mul_right link.perbyte (on_line_grows b c h)

  pub ticks_some : 0 < link.perbyte → (b : ℕ) → least_line ≤ b → 0 < line_ticks link b
  unfolding line_ticks
  ticks_some s b h = mul-pos (on_line_some b h) s

  pub ticks_least : (b : ℕ) → least_line ≤ b → least_ticks link ≤ line_ticks link b
  unfolding least_ticks
  ticks_least = ticks_grow least_line

  pub ticks_most : (b lmax : ℕ) → b ≤ largest_line lmax → line_ticks link b ≤ most_ticks link lmax
  unfolding most_ticks
  ticks_most b lmax = ticks_grow b (largest_line lmax)

  -- as they are computed
  pub most_ticks_lem : (lmax : ℕ) → most_ticks link lmax ≡ largest_line lmax * link.perbyte
  unfolding line_ticks most_ticks
  most_ticks_lem lmax = rw (on_line_is (largest_line lmax))

  pub least_ticks_lem : least_ticks link ≡ 84 * link.perbyte
  unfolding line_ticks least_ticks
  least_ticks_lem = rw (on_line_is least_line, least_line_is)

  -- ---- the largest frame of a VL
  -- most less least is 01's (20 + Lmax − 84) × ticks per byte
  pub most_is : (lmax : ℕ) → least_line ≤ largest_line lmax → most_ticks link lmax ≡ least_ticks link + spread_ticks link lmax
  unfolding line_ticks least_ticks most_ticks spread_ticks
  most_is lmax h =
      let z : ℕ = on_line link (largest_line lmax) - on_line link least_line in
      let i : on_line link (largest_line lmax) ≡ on_line link least_line + z = omega (arith, on_line_grows least_line (largest_line lmax) h) in
      omega (arith, ap (λ (y : ℕ). y * link.perbyte) i)

  pub most_some : 0 < link.perbyte → (lmax : ℕ) → least_line ≤ largest_line lmax → 0 < most_ticks link lmax
  unfolding most_ticks
  most_some s lmax = ticks_some s (largest_line lmax)

  -- "Lmax 64 to 1,518", and 10 ticks a byte at most
  pub most_bound : link.perbyte ≤ 10 → (lmax : ℕ) → lmax ≤ 1518 → most_ticks link lmax ≤ 15380
  unfolding line_ticks most_ticks
  most_bound s lmax h = mul-le-mul (on_line_most lmax h) s
