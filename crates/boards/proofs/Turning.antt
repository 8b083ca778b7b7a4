-- Turns of a wheel, as the code works them out, and that the turn to a place leads there.
use Rattle.std.proofs.Common.{◌≡◌, ℕ, ◌+◌, ◌-◌, ◌%◌, ◌≤◌, ℤ, pos, negsuc, ◌+ℤ◌, ◌-ℤ◌, nat_abs, ◌≤ℤ◌, ap, ◌∙◌, arith, w8, w16, to_z, of_z}
use Rattle.std.proofs.lemmas.Int.{ints}
use Rattle.boards.specs.Wheels.{turn_of, turned_by}

pub turn_worked_out : (a x : ℕ) → to_z w8 (of_z w8 (to_z w8 ((x + 150 - a) % 100) -ℤ pos 50)) ≡ turn_of a x
unfolding turn_of
turn_worked_out a x = omega (arith, ints)

pub turned_worked_out :
    (a : ℕ) (t : ℤ) → a ≤ 99 → negsuc 49 ≤ℤ t → t ≤ℤ pos 49 →
    nat_abs (to_z w16 (of_z w16 (to_z w16 (of_z w16 (to_z w16 a +ℤ pos 100)) +ℤ to_z w16 (of_z w16 (to_z w8 (of_z w8 t)))))) % 100 ≡ turned_by a t
unfolding turned_by
turned_worked_out a t h low high =
    let e : to_z w16 (of_z w16 (to_z w16 (of_z w16 (to_z w16 a +ℤ pos 100)) +ℤ to_z w16 (of_z w16 (to_z w8 (of_z w8 t))))) ≡ pos (a + 100) +ℤ t = omega (arith, ints) in
    ap (λ z. nat_abs z % 100) e

pub turn_leads_there : (a x : ℕ) → a ≤ 99 → x ≤ 99 → turned_by a (turn_of a x) ≡ x
unfolding turn_of turned_by
turn_leads_there a x f g =
    let e : pos (a + 100) +ℤ (pos ((x + 150 - a) % 100) -ℤ pos 50) ≡ pos (a + 50 + (x + 150 - a) % 100) = omega (arith, ints) in
    ap (λ z. nat_abs z % 100) e ∙ omega arith

pub turn_low : (a x : ℕ) → negsuc 49 ≤ℤ turn_of a x
unfolding turn_of
turn_low a x = omega (arith, ints)

pub turn_high : (a x : ℕ) → turn_of a x ≤ℤ pos 49
unfolding turn_of
turn_high a x = omega (arith, ints)
