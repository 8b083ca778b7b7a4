-- How long letters and their parts are.
use Rattle.std.proofs.Common.{◌≡◌, ℕ, ◌+◌, ◌*◌, ◌≤◌, true, List, [], ◌∷◌, ◌++◌, length, is_some, Some, None, Option, refl, arith, lit<}
use lib.Count.{ones, ones_step, ones-le}
use Rattle.std.proofs.lemmas.List.{length-append}
use Rattle.std.proofs.lemmas.Bool.Decides.{nat_tests}
use Rattle.std.proofs.lemmas.Grind.{common_steps}
use Rattle.terms.specs.declared.numbers.Change.{Change}
use Rattle.terms.specs.declared.numbers.KeyNumber.{KeyNumber}
use Rattle.terms.specs.declared.numbers.View.{View}
use Rattle.terms.specs.declared.sizes.Sizes.{Sizes}
use Rattle.letters.specs.declared.sorts.Seal.{Seal}
use Rattle.letters.specs.declared.sorts.SeatSet.{SeatSet}
use Rattle.letters.specs.declared.certificates.Vote.{Vote as CastVote}
use Rattle.letters.specs.declared.certificates.Certificate.{Certificate}
use Rattle.letters.specs.declared.certificates.Basis.{Basis}
use Rattle.letters.specs.Bytes.{le2, le4, le8, map_of, row_bytes}
use Rattle.letters.specs.Certificates.{vote_seals, number_bytes, certificate_bytes}
use Rattle.letters.specs.declared.bodies.Body.{Body}
use Rattle.letters.specs.Layout.{movers_bytes, basis_bytes, grounds_bytes, body_bytes}
use Rattle.letters.specs.Ranges.{votes_within, certificate_fits, basis_fits, grounds_fit, body_fits}
use Rattle.letters.specs.Statements.{outcome_number}
use Rattle.writing.specs.Longest.{longest_of, Suffices}

pub two_length : (n : ℕ) → length (le2 n) ≡ 2
unfolding le2
two_length n = refl

pub four_length : (n : ℕ) → length (le4 n) ≡ 4
unfolding le4
four_length n = refl

pub eight_length : (n : ℕ) → length (le8 n) ≡ 8
unfolding le8
eight_length n = refl

pub number_length : (n : Option KeyNumber) → length (number_bytes n) ≤ 4
number_length n = grind (arith, four_length)

-- one more bit below a map
ones_double : (m : ℕ) → ones (0 + 2 * m) ≡ ones m
ones_double m = grind (arith, ones_step (0 + 2 * m))

ones_more : (m : ℕ) → ones (1 + 2 * m) ≡ 1 + ones m
ones_more m = grind (arith, ones_step (1 + 2 * m))

-- eight bytes for each row that has a seal
pub rows_length : (rs : List (Option Seal)) → length (row_bytes rs) ≡ 8 * ones (map_of is_some rs)
unfolding row_bytes map_of
rows_length [] = omega (arith, ones-le 0 0 (lit< tt))
rows_length (r ∷ rs) = grind (arith, common_steps, eight_length, rows_length rs, ones_double, ones_more)

-- no more votes than enrolments
pub votes_length : (es : List (Option Seal)) (vs : List (Option CastVote)) → votes_within es vs ≡ true → length (row_bytes (vote_seals vs)) ≤ length (row_bytes es)
unfolding row_bytes vote_seals votes_within
votes_length es [] h = omega arith
votes_length [] (v ∷ vs) h = grind (arith, votes_length [] vs)
votes_length (e ∷ es) (v ∷ vs) h = grind (arith, common_steps, votes_length es vs, eight_length)

-- under the lengths that a certificate within range has
pub certificate_length : (sizes : Sizes) (c : Certificate) → certificate_fits sizes c ≡ true → length (certificate_bytes c) ≤ 4 + 4 + 8 + 16 * sizes.locks
certificate_length sizes c h = grind (arith, nat_tests, common_steps, rows_length, votes_length, number_length, eight_length, ones-le sizes.locks)

pub basis_length : (sizes : Sizes) (t : Change) (v : View) (b : Basis) → basis_fits sizes t v b ≡ true → length (basis_bytes b) ≤ 1 + 2 + 8 + 16 * sizes.faults
basis_length sizes t v b h = grind (arith, nat_tests, common_steps, rows_length, two_length, eight_length)

pub grounds_length : (sizes : Sizes) (t : Change) (v : View) (b : Option Basis) → grounds_fit sizes t v b ≡ true → length (grounds_bytes b) ≤ 4 + (1 + 2 + 8 + 16 * sizes.faults) + (4 + 4 + 8 + 16 * sizes.locks)
grounds_length sizes t v None h = omega arith
grounds_length sizes t v (Some b) h =
    let f : certificate_fits sizes b.certificate ≡ true = grind (arith, nat_tests) in
    rw (length-append (number_bytes (outcome_number b.outcome) ++ basis_bytes b) _, length-append (number_bytes (outcome_number b.outcome)) _) (omega (arith, number_length (outcome_number b.outcome), basis_length sizes t v b h, certificate_length sizes b.certificate f))

movers_length : (v : View) (m : SeatSet) → length (movers_bytes v m) ≤ 2
movers_length v m = grind (arith, two_length)

pub body_length : (sizes : Sizes) (t : Change) (b : Body Certificate Basis) → body_fits sizes t b ≡ true → length (body_bytes t b) ≤ 5 + 1 + 4 + (1 + 2 + 8 + 16 * sizes.faults) + (4 + 4 + 8 + 16 * sizes.locks)
body_length sizes t b h = grind (arith, nat_tests, common_steps, number_length, four_length, eight_length, certificate_length, grounds_length, movers_length)

-- no letter within range is longer
pub letter_length : (sizes : Sizes) → Suffices sizes (longest_of sizes)
letter_length sizes l h = grind (arith, nat_tests, common_steps, body_length, eight_length)
