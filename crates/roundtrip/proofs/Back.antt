-- A letter within range is read back from its bytes.
use Rattle.std.proofs.Common.{◌≡◌, ℕ, ◌+◌, ◌/◌, ◌%◌, true, not, eqb, leb, List, [], ◌∷◌, ◌++◌, length, Ok, sym, refl, ap, ◌∙◌, subst, ap₂, arith}
use Rattle.std.proofs.lemmas.Nat.{mod_below}
use Rattle.std.proofs.lemmas.Bool.Decides.{nat_tests}
use Rattle.std.proofs.lemmas.Bool.{le-leb, ltb-true, cond-true, and_parts}
use Rattle.terms.specs.declared.numbers.Change.{Change}
use Rattle.terms.specs.declared.numbers.Seat.{Seat}
use Rattle.terms.specs.declared.numbers.View.{View}
use Rattle.terms.specs.declared.parties.Outcome.{Outcome}
use Rattle.terms.specs.declared.parties.Party.{Party}
use Rattle.terms.specs.declared.parties.Party.TheVariants.{Controller, Lock, Office}
use Rattle.terms.specs.declared.sizes.Sizes.{Sizes}
use Rattle.terms.specs.Numbers.{is_change}
use Rattle.terms.specs.Sizes.{seat_count}
use Rattle.letters.specs.declared.sorts.Kind.{Kind}
use Rattle.letters.specs.declared.sorts.Kind.TheVariants as K
use Rattle.letters.specs.declared.sorts.Digest.{Digest}
use Rattle.letters.specs.declared.sorts.Seal.{Seal}
use Rattle.letters.specs.declared.sorts.SeatSet.{SeatSet}
use Rattle.letters.specs.declared.certificates.Basis.{Basis}
use Rattle.letters.specs.declared.certificates.Certificate.{Certificate}
use Rattle.letters.specs.declared.bodies.Body.{Body}
use Rattle.letters.specs.declared.bodies.Body.TheVariants.{Enrol, Receipt, Order, Summons, Vote, Proposal, Assent, Confirm, Result, Move}
use Rattle.letters.specs.Bodies.{retold, letter}
use Rattle.letters.specs.Bytes.{le2, le4, le8}
use Rattle.letters.specs.Certificates.{number_bytes, certificate_bytes}
use Rattle.letters.specs.Layout.{bit, common, number_bit, head, viewed_bytes, movers_bytes, grounds_bytes, move_map, body_bytes, layout}
use Rattle.letters.specs.Ranges.{is_byte, is_word, seat_fits, leads, grounds_fit, body_fits}
use Rattle.letters.specs.Sorts.{kind_number, answer_number, stands}
use Rattle.letters.specs.Statements.{outcome_number}
use Rattle.reading.specs.Fields as F
use Rattle.reading.specs.Parts.{Span, Spans}
use Rattle.reading.specs.Spans.{grounds_if}
use Rattle.reading.specs.Form.{fits, proposal_view_fits, body_field, read}
use Rattle.kept.specs.Kept.{certificate_in, basis_in}
use Rattle.roundtrip.specs.Laws.{kept_result, LettersAreReadBack}
use Rattle.roundtrip.proofs.Pieces.{Piece, first_part, second_part, whole}
use Rattle.roundtrip.proofs.Steps.{after, pass, two_reads}
use Rattle.roundtrip.proofs.Fields as R
use Rattle.roundtrip.proofs.Fields.{Stands, party_bytes, view_bytes, outcome_bytes, seal_of, seal_fits}
use Rattle.roundtrip.proofs.Certificates.{fits_parts, certificate_reads, certificate_back, span_of}
use Rattle.roundtrip.proofs.Bases.{grounds_read}
use Rattle.roundtrip.proofs.Maps.{MapFits, order_map, order_fits_lem, viewed_map, viewed_fits, proposal_map, proposal_fits, movers_bit_lem, move_fits, movers_read}

-- map, kind and change, with which every letter begins
abbrev pub begin : ℕ → Kind → Change → List ℕ
begin m k t = (m % 256) ∷ (m / 256) ∷ kind_number k ∷ (t.0 % 256) ∷ []

abbrev pub keep_body : Body Span Spans → Body Certificate Basis
keep_body b = retold (λ (c : Span). certificate_in c.bytes) basis_in b

-- what is read of a body, and that the same is kept
record BodyRead (sizes : Sizes) (t : Change) (b : Body Certificate Basis) (xs : List ℕ) (e : ℕ) : Type 0 where
  map : ℕ
  kind : Kind
  body : Body Span Spans
  starts : Piece xs 0 (begin map kind t) 4
  fitting : MapFits kind map
  reads : body_field sizes t map kind xs 4 ≡ Ok (body, e)
  keeps : keep_body body ≡ b

-- a head: what every letter begins with, and the sender
module _ (m : ℕ) (k : Kind) (t : Change) (q : Party) {xs : List ℕ} {e : ℕ} (p : Piece xs 0 (head m k t q) e) where
  start : Piece xs 0 (begin m k t) 4
  start = first_part (begin m k t) (party_bytes q) p

  sender : Piece xs 4 (party_bytes q) e
  sender = second_part (begin m k t) (party_bytes q) p

leader_fits : (sizes : Sizes) (t : Change) (v : View) (s : Seat) → leads sizes t v s ≡ true → seat_fits sizes s ≡ true
leader_fits sizes t v s e = let k = mod_below v.0 (seat_count sizes) (omega arith) in grind (arith, nat_tests)

-- the fields of an assent or a confirm
record ViewedRead (sizes : Sizes) (k : Kind) (t : Change) (s : Seat) (v : View) (x : Outcome) (d : Digest) (xs : List ℕ) (e : ℕ) : Type 0 where
  a3 : ℕ
  starts : Piece xs 0 (begin (viewed_map (outcome_number x)) k t) 4
  senders : F.controller_field sizes xs 4 ≡ Ok (s, 5)
  views : F.view_field xs 5 ≡ Ok (v, 6)
  outcomes : F.outcome_if (R.changes x) xs 6 ≡ Ok (x, a3)
  digests : F.digest_field xs a3 ≡ Ok (d, e)

viewed_read : (sizes : Sizes) (k : Kind) (t : Change) (s : Seat) (v : View) (x : Outcome) (d : Digest) {xs : List ℕ} {e : ℕ} → seat_fits sizes s ≡ true → R.outcome_fits x ≡ true → is_word d.0 ≡ true
    → Piece xs 0 (viewed_bytes k t (Controller s) v (outcome_number x) d.0) e → ViewedRead sizes k t s v x d xs e
viewed_read sizes k t s v x d {xs} {e} fs fx fd q =
    let m = viewed_map (outcome_number x) in
    let l = head m k t (Controller s) in
    let h2 = first_part ((l ++ view_bytes v) ++ outcome_bytes x) (le8 d.0) q in
    let h1 = first_part (l ++ view_bytes v) (outcome_bytes x) h2 in
    let h = first_part l (view_bytes v) h1 in
    record {
      a3 = 0 + length ((l ++ view_bytes v) ++ outcome_bytes x);
      starts = start m k t (Controller s) h;
      senders = R.controller_reads sizes (record { piece = sender m k t (Controller s) h; fit = fs });
      views = R.view_reads (second_part l (view_bytes v) h1);
      outcomes = R.outcome_reads x _ (record { piece = second_part (l ++ view_bytes v) (outcome_bytes x) h2; fit = fx });
      digests = R.digest_reads (record { piece = second_part ((l ++ view_bytes v) ++ outcome_bytes x) (le8 d.0) q; fit = fd });
    }

proposal_read : (sizes : Sizes) (t : Change) (s : Seat) (v : View) (x : Outcome) (c : Certificate) (w : SeatSet) {xs : List ℕ} {e : ℕ} → body_fits sizes t (Proposal s v x c w) ≡ true → Piece xs 0 (body_bytes t (Proposal s v x c w)) e → BodyRead sizes t (Proposal s v x c w) xs e
proposal_read sizes t s v x c w {xs} {e} f q₀ =
    let z = eqb v.0 0 in
    let m = proposal_map (outcome_number x) (not z) in
    let (g, o5, o11) = proposal_fits (outcome_number x) (not z) in
    let fc = fits_parts sizes c (grind (arith, and_parts, f)) in
    let l = head m K.Proposal t (Controller s) in
    let q : Piece xs 0 ((((l ++ view_bytes v) ++ outcome_bytes x) ++ certificate_bytes c) ++ movers_bytes v w) e =
    subst (λ b. Piece xs 0 ((((head (common + bit 4 + number_bit (outcome_number x) + bit 10 + b) K.Proposal t (Controller s) ++ view_bytes v) ++ outcome_bytes x) ++ certificate_bytes c) ++ movers_bytes v w) e) (movers_bit_lem z) q₀ in
    let h3 = first_part (((l ++ view_bytes v) ++ outcome_bytes x) ++ certificate_bytes c) (movers_bytes v w) q in
    let h2 = first_part ((l ++ view_bytes v) ++ outcome_bytes x) (certificate_bytes c) h3 in
    let h1 = first_part (l ++ view_bytes v) (outcome_bytes x) h2 in
    let h = first_part l (view_bytes v) h1 in
    let a3 = 0 + length ((l ++ view_bytes v) ++ outcome_bytes x) in
    let a4 = 0 + length (((l ++ view_bytes v) ++ outcome_bytes x) ++ certificate_bytes c) in
    record {
      map = m;
      kind = K.Proposal;
      body = Proposal s v x (span_of (certificate_bytes c) a3) w;
      starts = start m K.Proposal t (Controller s) h;
      fitting = g;
      reads =
          after _ (R.controller_reads sizes (record { piece = sender m K.Proposal t (Controller s) h; fit = leader_fits sizes t v s (grind (arith, f)) }))
          (after _ (R.view_reads (second_part l (view_bytes v) h1))
          (pass (proposal_view_fits sizes t v s (stands m 11)) 5 _ _ (ap (λ y. proposal_view_fits sizes t v s y) o11 ∙ grind arith)
          (after _ (ap (λ y. F.outcome_if y xs 6) o5 ∙ R.outcome_reads x a3 (record { piece = second_part (l ++ view_bytes v) (outcome_bytes x) h2; fit = grind (arith, f) }))
          (after _ (certificate_reads sizes c fc (second_part ((l ++ view_bytes v) ++ outcome_bytes x) (certificate_bytes c) h3))
          (after _ (ap (λ y. F.movers_if y sizes xs a4) o11 ∙ movers_read v sizes w (grind (arith, f)) (second_part (((l ++ view_bytes v) ++ outcome_bytes x) ++ certificate_bytes c) (movers_bytes v w) q)) refl)))));
      keeps = ap (λ (k : Certificate). Proposal s v x k w) (certificate_back sizes c fc);
    }

body_read : (sizes : Sizes) (t : Change) (b : Body Certificate Basis) {xs : List ℕ} {e : ℕ} → body_fits sizes t b ≡ true → Piece xs 0 (body_bytes t b) e → BodyRead sizes t b xs e
body_read sizes t (Enrol p) {xs} {e} f q = record {
  map = common;
  kind = K.Enrol;
  body = Enrol p;
  starts = start common K.Enrol t (Lock p) q;
  fitting = (refl, refl);
  reads = after _ (R.lock_reads sizes (record { piece = sender common K.Enrol t (Lock p) q; fit = f })) refl;
  keeps = refl;
}
body_read sizes t (Receipt s p) {xs} {e} f q =
    let m = common + bit 3 in
    let h = first_part (head m K.Receipt t (Controller s)) (p.0 ∷ []) q in
    record {
      map = m;
      kind = K.Receipt;
      body = Receipt s p;
      starts = start m K.Receipt t (Controller s) h;
      fitting = (refl, refl);
      reads =
          after _ (R.controller_reads sizes (record { piece = sender m K.Receipt t (Controller s) h; fit = grind (arith, f) }))
          (after _ (R.place_reads sizes (record { piece = second_part (head m K.Receipt t (Controller s)) (p.0 ∷ []) q; fit = grind (arith, f) })) refl);
      keeps = refl;
    }
body_read sizes t (Order n) {xs} {e} f q =
    let m = order_map n in
    let (g, _, o) = order_fits_lem n in
    let h = first_part (head m K.Order t Office) (number_bytes n) q in
    record {
      map = m;
      kind = K.Order;
      body = Order n;
      starts = start m K.Order t Office h;
      fitting = g;
      reads =
          after _ (R.office_reads sizes (sender m K.Order t Office h))
          (after _ (ap (λ x. F.number_if x xs 5) o ∙ R.number_if_reads n e (record { piece = second_part (head m K.Order t Office) (number_bytes n) q; fit = f })) refl);
      keeps = refl;
    }
body_read sizes t (Summons s n z) {xs} {e} f q =
    let m = common + bit 5 + bit 8 in
    let l = head m K.Summons t (Controller s) in
    let h1 = first_part (l ++ le4 n.0) (le8 z.0) q in
    let h = first_part l (le4 n.0) h1 in
    record {
      map = m;
      kind = K.Summons;
      body = Summons s n z;
      starts = start m K.Summons t (Controller s) h;
      fitting = (refl, refl);
      reads =
          after _ (R.controller_reads sizes (record { piece = sender m K.Summons t (Controller s) h; fit = grind (arith, f) }))
          (after _ (R.number_reads (record { piece = second_part l (le4 n.0) h1; fit = grind (arith, f) }))
          (after _ (R.seal_reads (record { piece = second_part (l ++ le4 n.0) (le8 z.0) q; fit = grind (arith, f) })) refl));
      keeps = refl;
    }
body_read sizes t (Vote p n x) {xs} {e} f q =
    let m = common + bit 5 + bit 6 in
    let l = head m K.Vote t (Lock p) in
    let h1 = first_part (l ++ le4 n.0) (answer_number x ∷ []) q in
    let h = first_part l (le4 n.0) h1 in
    record {
      map = m;
      kind = K.Vote;
      body = Vote p n x;
      starts = start m K.Vote t (Lock p) h;
      fitting = (refl, refl);
      reads =
          after _ (R.lock_reads sizes (record { piece = sender m K.Vote t (Lock p) h; fit = grind (arith, f) }))
          (after _ (R.number_reads (record { piece = second_part l (le4 n.0) h1; fit = grind (arith, f) }))
          (after _ (R.answer_reads (second_part (l ++ le4 n.0) (answer_number x ∷ []) q)) refl));
      keeps = refl;
    }
body_read sizes t (Proposal s v x c w) {xs} {e} f q = proposal_read sizes t s v x c w f q
body_read sizes t (Assent s v x d) {xs} {e} f q =
    let m = viewed_map (outcome_number x) in
    let (g, _, o) = viewed_fits (outcome_number x) in
    let (fs, f1) = and_parts (seat_fits sizes s) _ f in
    let (fv, f2) = and_parts (is_byte v.0) _ f1 in
    let (fl, f3) = and_parts (not (leads sizes t v s)) _ f2 in
    let (fx, fd) = and_parts (R.outcome_fits x) (is_word d.0) f3 in
    let r = viewed_read sizes K.Assent t s v x d fs fx fd q in
    record {
      map = m;
      kind = K.Assent;
      body = Assent s v x d;
      starts = r.starts;
      fitting = g;
      reads =
          after _ r.senders
          (after _ r.views
          (pass _ 5 _ _ fl
          (after _ (ap (λ x. F.outcome_if x xs 6) o ∙ r.outcomes)
          (after _ r.digests refl))));
      keeps = refl;
    }
body_read sizes t (Confirm s v x d) {xs} {e} f q =
    let m = viewed_map (outcome_number x) in
    let (_, g, o) = viewed_fits (outcome_number x) in
    let (fs, f1) = and_parts (seat_fits sizes s) _ f in
    let (fv, f2) = and_parts (is_byte v.0) _ f1 in
    let (fx, fd) = and_parts (R.outcome_fits x) (is_word d.0) f2 in
    let r = viewed_read sizes K.Confirm t s v x d fs fx fd q in
    record {
      map = m;
      kind = K.Confirm;
      body = Confirm s v x d;
      starts = r.starts;
      fitting = g;
      reads =
          after _ r.senders
          (after _ r.views
          (after _ (ap (λ x. F.outcome_if x xs 6) o ∙ r.outcomes)
          (after _ r.digests refl)));
      keeps = refl;
    }
body_read sizes t (Result s x) {xs} {e} f q =
    let m = order_map (outcome_number x) in
    let (_, g, o) = order_fits_lem (outcome_number x) in
    let l = head m K.Result t (Controller s) in
    let h = first_part l (outcome_bytes x) q in
    record {
      map = m;
      kind = K.Result;
      body = Result s x;
      starts = start m K.Result t (Controller s) h;
      fitting = g;
      reads =
          after _ (R.controller_reads sizes (record { piece = sender m K.Result t (Controller s) h; fit = grind (arith, f) }))
          (after _ (ap (λ x. F.outcome_if x xs 5) o ∙ R.outcome_reads x e (record { piece = second_part l (outcome_bytes x) q; fit = grind (arith, f) })) refl);
      keeps = refl;
    }
body_read sizes t (Move s v b) {xs} {e} f q =
    let m = move_map b in
    let (g, o9, o5) = move_fits b in
    let l = head m K.Move t (Controller s) in
    let h1 = first_part (l ++ view_bytes v) (grounds_bytes b) q in
    let h = first_part l (view_bytes v) h1 in
    let (fs, f1) = and_parts (seat_fits sizes s) _ f in
    let (fv, f2) = and_parts (is_byte v.0) _ f1 in
    let (fz, fb) = and_parts (not (eqb v.0 0)) (grounds_fit sizes t v b) f2 in
    let w = grounds_read sizes t v b fb (second_part (l ++ view_bytes v) (grounds_bytes b) q) in
    record {
      map = m;
      kind = K.Move;
      body = Move s v w.spans;
      starts = start m K.Move t (Controller s) h;
      fitting = g;
      reads =
          after _ (R.controller_reads sizes (record { piece = sender m K.Move t (Controller s) h; fit = fs }))
          (after _ (R.view_reads (second_part l (view_bytes v) h1))
          (pass _ 5 _ _ fz
          (after _ (ap₂ (λ x y. grounds_if x y sizes t v xs 6) o9 o5 ∙ w.reads) refl)));
      keeps = ap (Move s v) w.keeps;
    }

-- a letter, from the readings of its fields
letter_read : (sizes : Sizes) (xs : List ℕ) (t : Change) (b : Body Certificate Basis) (z : Seal) (e : ℕ) → is_change t.0 ≡ true → BodyRead sizes t b xs e → Stands seal_of seal_fits xs e (z, length xs)
    → kept_result (read sizes xs) ≡ Ok (letter t b z)
unfolding le2
letter_read sizes xs t b z e ft r q =
    let m = r.map in
    let k = r.kind in
    let small = ltb-true m 8192 (and_parts _ _ r.fitting.0).0 in
    let high : m / 256 % 256 ≡ m / 256 = omega arith in
    let p1 : Piece xs 0 ((m % 256) ∷ (m / 256) ∷ []) 2 = first_part ((m % 256) ∷ (m / 256) ∷ []) (kind_number k ∷ (t.0 % 256) ∷ []) r.starts in
    let p2 : Piece xs 2 (kind_number k ∷ (t.0 % 256) ∷ []) 4 = second_part ((m % 256) ∷ (m / 256) ∷ []) (kind_number k ∷ (t.0 % 256) ∷ []) r.starts in
    let p3 : Piece xs 2 (kind_number k ∷ []) 3 = first_part (kind_number k ∷ []) ((t.0 % 256) ∷ []) p2 in
    let p4 : Piece xs 3 ((t.0 % 256) ∷ []) 4 = second_part (kind_number k ∷ []) ((t.0 % 256) ∷ []) p2 in
    let p1' : Piece xs 0 (le2 m) 2 = subst (λ n. Piece xs 0 ((m % 256) ∷ n ∷ []) 2) (sym high) p1 in
    let w : read sizes xs ≡ Ok (letter t r.body z) =
    after _ (after _ (two_reads p1' (omega arith)) (cond-true _ _ _ r.fitting.0))
    (after _ (R.kind_reads k p3)
    (after _ (cond-true (fits k m) _ _ r.fitting.1)
    (after _ (R.change_reads (record { piece = p4; fit = ft }))
    (after _ r.reads
    (after _ (R.seal_reads q)
    (after _ (cond-true (leb (length xs) (length xs)) _ _ (le-leb _ _ (omega arith))) refl)))))) in
    ap kept_result w ∙ ap (λ (y : Body Certificate Basis). Ok (letter t y z)) r.keeps

pub letters_are_read_back : LettersAreReadBack
letters_are_read_back sizes l f =
    let xs = layout l in
    let q = whole xs in
    let body = body_bytes l.change l.body in
    letter_read sizes xs l.change l.body l.seal _ (grind (arith, f)) (body_read sizes l.change l.body (grind (arith, f)) (first_part body (le8 l.seal.0) q)) (record { piece = second_part body (le8 l.seal.0) q; fit = grind (arith, f) })
