-- A difference with its sign.
use Prim.Native.Nat.{ℕ, suc, ◌-◌, ◌≤◌, ◌<◌}
use native.Mathlib.Omega.{arith}
use Rattle.std.specs.Prelude.{Bool, cond, ◌++◌, ◌≡◌, pos, negsuc}
use Rattle.std.proofs.Math.Path.{ap}
use Rattle.std.proofs.Common.{◌∙◌, lt-ltb, le-ltb}
use Rattle.std.proofs.Math.IntN.{sub_ℕ}
use Rattle.text.specs.Words.{word, decimal, signed}

module _ (a b : ℕ) where
  pub signed_below : a < b → signed (sub_ℕ a b) ≡ word "-" ++ decimal (b - a)
  unfolding signed
  signed_below l =
      let one : suc (b - suc a) ≡ b - a = omega arith in
      ap (λ (t : Bool). signed (cond t (negsuc (b - suc a)) (pos (a - b)))) (lt-ltb a b l) ∙ ap (λ (n : ℕ). word "-" ++ decimal n) one

  pub signed_above : b ≤ a → signed (sub_ℕ a b) ≡ decimal (a - b)
  unfolding signed
  signed_above l = ap (λ (t : Bool). signed (cond t (negsuc (b - suc a)) (pos (a - b)))) (le-ltb a b l)
