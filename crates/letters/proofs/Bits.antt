-- Past the last bit of a map none stands.
use Rattle.std.proofs.Common.{◌≡◌, ℕ, ◌/◌, ◌%◌, ◌^◌, ◌<◌, ◌≤◌, false, eqb, ap, arith}
use Rattle.std.proofs.Math.Nat.{div-eq_of_lt}
use Rattle.std.proofs.Math.Pow.{pow_mono}
use Rattle.letters.specs.Sorts.{stands}

pub none_past : (map bit : ℕ) → map < 65536 → 16 ≤ bit → stands map bit ≡ false
none_past map bit small past =
    let more : 2 ^ 16 ≤ 2 ^ bit = pow_mono past in
    let none : map / 2 ^ bit ≡ 0 = div-eq_of_lt (omega arith) in
    ap (λ n. eqb (n % 2) 1) none
