-- Sets of seats that are large enough have an honest seat in common.
use Rattle.std.proofs.Common.{◌≡◌, ℕ, zero, suc, ◌+◌, ◌*◌, ◌<◌, ◌≤◌, true, false, not, ◌&&◌, refl, inl, inr, arith}
use Rattle.std.proofs.lemmas.Bool.{cases_Bool, and_parts, not-true}
use Rattle.agreement.specs.Seats.{Seats, count}

-- how many seats there are, where at most f are faulty
abbrev pub seats : ℕ → ℕ
seats f = 3 * f + 1

abbrev pub Few : ℕ → Seats → Type 0
Few f t = count t (seats f) ≤ f

pub record Honest (f : ℕ) (t : Seats) (h : ℕ) : Type 0 where
  pub seat : h < seats f
  pub loyal : t h ≡ false

-- there are 2 f + 1 seats, or more, of whose honest ones P holds
pub record Backed (f : ℕ) (t : Seats) (P : ℕ → Type 0) : Type 0 where
  pub set : Seats
  pub enough : 2 * f + 1 ≤ count set (seats f)
  pub each : (h : ℕ) → Honest f t h → set h ≡ true → P h

-- the seats that are in a and in b, and not in t
abbrev pub shared : (t a b : Seats) → Seats
shared t a b k = a k && b k && not (t k)

pub count_shared : (t a b : Seats) (n : ℕ) → count a n + count b n ≤ n + count t n + count (shared t a b) n
count_shared t a b zero = omega arith
count_shared t a b (suc n) = grind (arith, count_shared t a b n)

-- a set that has members has one
pub member : (s : Seats) (n : ℕ) → 0 < count s n → (k : ℕ) × (k < n) × (s k ≡ true)
member s zero h = absurd (omega arith)
member s (suc n) h =
    elim (cases_Bool (s n)) [ inl e ↦ (n, omega arith, e) | inr e ↦ let r = member s n (grind arith) in (r.0, omega arith, r.2) ]

pub meet : (f : ℕ) (t a b : Seats) → Few f t → seats f + f < count a (seats f) + count b (seats f) →
    (h : ℕ) × Honest f t h × (a h ≡ true) × (b h ≡ true)
meet f t a b few e =
    let s = member (shared t a b) (seats f) (omega (arith, count_shared t a b (seats f))) in
    let p = and_parts (a s.0 && b s.0) (not (t s.0)) s.2 in
    let q = and_parts (a s.0) (b s.0) p.0 in
    (s.0, record { seat = s.1; loyal = not-true (t s.0) p.1 }, q.0, q.1)

pub count_all : (n : ℕ) → count (λ _. true) n ≡ n
count_all zero = refl
count_all (suc n) = omega (arith, count_all n)

-- f + 1 seats have an honest one
pub honest : (f : ℕ) (t a : Seats) → Few f t → f < count a (seats f) → (h : ℕ) × Honest f t h × (a h ≡ true)
honest f t a few e = let s = meet f t a (λ _. true) few (omega (arith, count_all (seats f))) in (s.0, s.1, s.2)

-- of what two quorums vouch for, one honest seat vouches for both
pub both : {f : ℕ} {t : Seats} {P Q : ℕ → Type 0} → Few f t → Backed f t P → Backed f t Q → (h : ℕ) × Honest f t h × P h × Q h
both {f} {t} few a b =
    let s = meet f t a.set b.set few (omega (arith, a.enough, b.enough)) in
    (s.0, s.1, a.each s.0 s.1 s.2, b.each s.0 s.1 s.3)

pub one : {f : ℕ} {t : Seats} {P : ℕ → Type 0} → Few f t → Backed f t P → (h : ℕ) × Honest f t h × P h
one few a = let s = both few a a in (s.0, s.1, s.2)

-- what holds where P does
pub backed_map : {f : ℕ} {t : Seats} {P Q : ℕ → Type 0} → ((h : ℕ) → P h → Q h) → Backed f t P → Backed f t Q
backed_map g a = record { set = a.set; enough = a.enough; each = λ h o m. g h (a.each h o m) }
