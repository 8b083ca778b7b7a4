-- From the bytes of a statement back to the statement: its numbers, and a left inverse by kind.
use Rattle.std.proofs.Common.{◌≡◌, ℕ, ◌-◌, ◌/◌, ◌%◌, ◌^◌, ◌<◌, true, cond, eqb, ltb, List, [], ◌∷◌, get_or, Some, None, fold, Option, sym, ap, ◌∙◌, arith}
use Rattle.std.proofs.lemmas.Nat.{mod_below, pow_pos}
use Rattle.std.proofs.lemmas.Bool.Decides.{nat_tests}
use Rattle.terms.specs.declared.numbers.Change.{Change}
use Rattle.terms.specs.declared.numbers.KeyNumber.{KeyNumber}
use Rattle.terms.specs.declared.numbers.Place.{Place}
use Rattle.terms.specs.declared.numbers.View.{View}
use Rattle.terms.specs.declared.parties.Party.{Party}
use Rattle.terms.specs.declared.parties.Party.TheVariants.{Controller, Lock, Office}
use Rattle.terms.specs.declared.sizes.Sizes.{Sizes}
use Rattle.terms.specs.Numbers.{seat, place, view_of, change, key}
use Rattle.terms.specs.Parties.{party_number}
use Rattle.letters.specs.declared.sorts.Answer.{Answer}
use Rattle.letters.specs.declared.sorts.Answer.TheVariants.{Ready, Refuse}
use Rattle.letters.specs.declared.sorts.Digest.{Digest}
use Rattle.letters.specs.declared.sorts.Kind.{Kind}
use Rattle.letters.specs.declared.sorts.Kind.TheVariants as K
use Rattle.letters.specs.declared.certificates.Certificate.{Certificate}
use Rattle.letters.specs.declared.certificates.Basis.{Basis}
use Rattle.letters.specs.declared.bodies.Brief.{Brief}
use Rattle.letters.specs.declared.bodies.Letter.{Letter}
use Rattle.letters.specs.declared.bodies.Body.{Body}
use Rattle.letters.specs.declared.statements.Statement.{Statement}
use Rattle.letters.specs.Bodies.{in_brief}
use Rattle.letters.specs.Bytes.{le4, le8}
use Rattle.letters.specs.Certificates.{fnv_step, certificate_bytes, certificate_digest}
use Rattle.letters.specs.Ranges.{letter_fits, body_fits, number_fits}
use Rattle.letters.specs.Sorts.{kind_number, digest}
use Rattle.letters.specs.Statements.{statement_of, vote_statement, statement_bytes, place_byte, view_byte, number_word, digest_word, flags_of}
use Rattle.roundtrip.specs.Laws.{statement, StatementsTell}

-- a statement in plain numbers
record Numbers : Type 0 where
  kind : ℕ
  change : ℕ
  sender : ℕ
  place : ℕ
  view : ℕ
  flags : ℕ
  number : ℕ
  basis : ℕ
  digest : ℕ

abbrev numbers : Statement → Numbers
numbers s = record {
  kind = kind_number s.kind;
  change = s.change.0;
  sender = party_number s.sender;
  place = place_byte s.place;
  view = view_byte s.view;
  flags = flags_of s;
  number = number_word s.number;
  basis = view_byte s.basis;
  digest = digest_word s.digest;
}

abbrev number_in : Numbers → Option KeyNumber
number_in f = cond (eqb (f.flags % 2) 1) (Some (key f.number)) None

abbrev made : Numbers → Kind → Party → Option Place → Option View → Option Answer → Option View → Option Digest → Statement
made f k q p v a b d = record { kind = k; change = change f.change; sender = q; place = p; view = v; number = number_in f; answer = a; basis = b; digest = d }

abbrev controller : Numbers → Party
controller f = Controller (seat f.sender)

abbrev lock : Numbers → Party
lock f = Lock (place (f.sender - 32))

abbrev from : Numbers → Statement
from f =
    cond (eqb f.kind 1) (made f K.Enrol (lock f) None None None None None)
    (cond (eqb f.kind 2) (made f K.Receipt (controller f) (Some (place f.place)) None None None None)
    (cond (eqb f.kind 3) (made f K.Order Office None None None None None)
    (cond (eqb f.kind 4) (made f K.Summons (controller f) None None None None None)
    (cond (eqb f.kind 5) (made f K.Vote (lock f) None None (Some (cond (ltb f.flags 2) Refuse Ready)) None None)
    (cond (eqb f.kind 6) (made f K.Proposal (controller f) None (Some (view_of f.view)) None None (Some (digest f.digest)))
    (cond (eqb f.kind 7) (made f K.Assent (controller f) None (Some (view_of f.view)) None None (Some (digest f.digest)))
    (cond (eqb f.kind 8) (made f K.Confirm (controller f) None (Some (view_of f.view)) None None (Some (digest f.digest)))
    (cond (eqb f.kind 9) (made f K.Result (controller f) None None None None None)
    (cond (ltb f.flags 4) (made f K.Move (controller f) None (Some (view_of f.view)) None None None)
    (made f K.Move (controller f) None (Some (view_of f.view)) None (Some (view_of f.basis)) (Some (digest f.digest))))))))))))

back : (t : Change) (b : Body Digest Brief) → from (numbers (statement_of t b)) ≡ statement_of t b
back t b = grind arith

-- what a party may say: what a letter says, or a vote on an order, which may be a cancel
pub data Said : Statement → Type 0 where
  in-letter : (t : Change) (b : Body Digest Brief) → Said (statement_of t b)
  in-vote : (t : Change) (p : Place) (n : Option KeyNumber) (a : Answer) → Said (vote_statement t p n a)

said_back : {s : Statement} → Said s → from (numbers s) ≡ s
said_back (in-letter t b) = back t b
said_back (in-vote t p n a) = grind arith

-- numbers small enough for their bytes
pub record Small (s : Statement) : Type 0 where
  pub change : s.change.0 < 256
  pub sender : party_number s.sender < 256
  pub number : number_word s.number < 4294967296
  pub digest : digest_word s.digest < 18446744073709551616

four : (n m : ℕ) → n < 4294967296 → m < 4294967296 → n % 256 ≡ m % 256 → n / 256 % 256 ≡ m / 256 % 256 → n / 65536 % 256 ≡ m / 65536 % 256 → n / 16777216 % 256 ≡ m / 16777216 % 256 → n ≡ m
four n m a b p q r s = omega arith

eight : (n m : ℕ) → n < 18446744073709551616 → m < 18446744073709551616 → n % 256 ≡ m % 256 → n / 256 % 256 ≡ m / 256 % 256 → n / 65536 % 256 ≡ m / 65536 % 256 → n / 16777216 % 256 ≡ m / 16777216 % 256
    → n / 4294967296 % 256 ≡ m / 4294967296 % 256 → n / 1099511627776 % 256 ≡ m / 1099511627776 % 256 → n / 281474976710656 % 256 ≡ m / 281474976710656 % 256 → n / 72057594037927936 % 256 ≡ m / 72057594037927936 % 256 → n ≡ m
eight n m a b p q r s t u v w = omega arith

same_numbers : (s u : Statement) → Small s → Small u → statement_bytes s ≡ statement_bytes u → numbers s ≡ numbers u
unfolding statement_bytes le4 le8
same_numbers s u a b e =
    let at : (i : ℕ) → get_or (statement_bytes s) i 0 ≡ get_or (statement_bytes u) i 0 = λ i. ap (λ (xs : List ℕ). get_or xs i 0) e in
    let p1 : s.change.0 ≡ u.change.0 = omega (arith, at 1, a.change, b.change) in
    let p2 : party_number s.sender ≡ party_number u.sender = omega (arith, at 2, a.sender, b.sender) in
    let p3 = four _ _ a.number b.number (at 6) (at 7) (at 8) (at 9) in
    let p4 = eight _ _ a.digest b.digest (at 16) (at 17) (at 18) (at 19) (at 20) (at 21) (at 22) (at 23) in
    λ i. record { kind = at 0 i; change = p1 i; sender = p2 i; place = at 3 i; view = at 4 i; flags = at 5 i; number = p3 i; basis = at 10 i; digest = p4 i }

-- a digest is a word
fnv_below : (h : ℕ) (bs : List ℕ) → h < 2 ^ 64 → fold fnv_step h bs < 2 ^ 64
fnv_below h [] p = p
fnv_below h (b ∷ bs) p = fnv_below (fnv_step h b) bs (mod_below _ (2 ^ 64) (pow_pos 64))

pub digest_below : (c : Certificate) → (certificate_digest c).0 < 2 ^ 64
digest_below c = fnv_below 14695981039346656037 (certificate_bytes c) (omega arith)

pub number_below : (n : Option KeyNumber) → number_fits n ≡ true → number_word n < 4294967296
number_below n e = grind (arith, nat_tests)

-- the numbers of a letter's statement are small, kind by kind
pub small : (sizes : Sizes) (t : Change) (b : Body Certificate Basis) → t.0 < 256 → body_fits sizes t b ≡ true → Small (statement_of t (in_brief b))
small sizes t b h f = record {
  change = grind arith;
  sender = grind (arith, nat_tests, mod_below);
  number = grind (arith, nat_tests);
  digest = grind (arith, nat_tests, digest_below);
}

small_letter : (sizes : Sizes) (l : Letter Certificate Basis) → letter_fits sizes l ≡ true → Small (statement l)
small_letter sizes l f = small sizes l.change l.body (grind (arith, nat_tests)) (grind arith)

-- statements with small numbers and the same bytes are the same
pub same_statements : {s u : Statement} → Said s → Said u → Small s → Small u → statement_bytes s ≡ statement_bytes u → s ≡ u
same_statements {s} {u} p q h k e = sym (said_back p) ∙ (ap from (same_numbers s u h k e) ∙ said_back q)

pub statements_tell : StatementsTell
statements_tell sizes l m f g e = same_statements (in-letter l.change (in_brief l.body)) (in-letter m.change (in_brief m.body)) (small_letter sizes l f) (small_letter sizes m g) e
