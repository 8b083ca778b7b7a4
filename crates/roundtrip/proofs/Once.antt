-- What is read has the bytes of the letter kept, and is within range.
use Rattle.std.proofs.Common.{◌≡◌, ℕ, ◌+◌, ◌/◌, ◌%◌, Bool, true, cond, not, ◌&&◌, eqb, ltb, leb, List, [], ◌∷◌, length, Some, Ok, sym, ap, subst, arith}
use Rattle.std.proofs.lemmas.Bool.{leb-true, ltb-true, eqb-true, and_parts, and_from}
use Rattle.terms.specs.declared.numbers.Change.{Change}
use Rattle.terms.specs.declared.sizes.Sizes.{Sizes}
use Rattle.letters.specs.declared.sorts.Kind.{Kind}
use Rattle.letters.specs.declared.sorts.Kind.TheVariants as K
use Rattle.letters.specs.declared.certificates.Certificate.{Certificate}
use Rattle.letters.specs.declared.bodies.Letter.{Letter}
use Rattle.letters.specs.declared.bodies.Body.{Body}
use Rattle.letters.specs.Bodies.{each_basis}
use Rattle.letters.specs.Bytes.{le2}
use Rattle.letters.specs.Certificates.{certificate_bytes, digest_of}
use Rattle.letters.specs.Layout.{bit, common, body_bytes, layout}
use Rattle.letters.specs.Ranges.{certificate_fits, body_fits, letter_fits}
use Rattle.letters.specs.Sorts.{stands}
use Rattle.letters.specs.Statements.{outcome_number}
use Rattle.reading.specs.Fields as F
use Rattle.reading.specs.Parts.{Span, Spans}
use Rattle.reading.specs.Form.{fits, fit, leads, proposal_view_fits, body_field, read}
use Rattle.kept.specs.Kept.{certificate_in, basis_in, kept}
use Rattle.roundtrip.specs.Laws.{Bytes, certificate_part, OneForm, WhatIsReadIsInRange, KeptCertificateHasTheSameBytes, KeptCertificateHasTheSameDigest}
use Rattle.roundtrip.proofs.Pieces.{Piece, join, all_of}
use Rattle.roundtrip.proofs.Steps.{step, found, passed, chosen, ok_same, two_found}
use Rattle.roundtrip.proofs.Fields as R
use Rattle.roundtrip.proofs.Certificates.{parts_fit, certificate_found, certified_is, same_certificate}
use Rattle.roundtrip.proofs.Bases.{grounds_found}
use Rattle.roundtrip.proofs.Maps.{order_map_lem, viewed_map_lem, proposal_map_lem, move_map_lem, movers_found}
use Rattle.roundtrip.proofs.Back.{begin, keep_body}

-- a body that was read stands from the start up to the offset beside it, and is within range
record BodyFound (sizes : Sizes) (t : Change) (xs : List ℕ) (p : Body Span Spans × ℕ) : Type 0 where
  piece : Piece xs 0 (body_bytes t (keep_body p.0)) p.1
  fit : body_fits sizes t (keep_body p.0) ≡ true
  same : (c : Span) → certificate_part p.0 ≡ Some c → certificate_bytes (certificate_in c.bytes) ≡ c.bytes

moved_is : (l moved z : Bool) → (l && cond moved (not z) z) ≡ true → (l ≡ true) × (moved ≡ not z)
moved_is l moved z e = grind arith

module _ (sizes : Sizes) (t : Change) (m : ℕ) (xs : List ℕ) (bytes : Bytes xs) (small : ltb m 8192 ≡ true) (o : ℕ) (p : Body Span Spans × ℕ) where
  -- what every letter begins with, by its own map
  starts : (k : Kind) (n : ℕ) → m ≡ n → Piece xs 0 (begin m k t) o → Piece xs 0 (begin n k t) o
  starts k n e q = subst (λ x. Piece xs 0 (begin x k t) o) e q

  body_found : (k : Kind) → Piece xs 0 (begin m k t) o → fits k m ≡ true → body_field sizes t m k xs o ≡ Ok p → BodyFound sizes t xs p
  body_found K.Enrol b f e =
      found _ p (R.lock_found sizes xs bytes o) e (λ q1 s1 d1.
      subst (BodyFound sizes t xs) (ok_same d1) (record {
        piece = join (starts K.Enrol common (eqb-true _ _ f) b) s1.piece;
        fit = s1.fit;
        same = λ c e. cc;
      }))
  body_found K.Receipt b f e =
      found _ p (R.controller_found sizes xs bytes o) e (λ q1 s1 d1.
      found _ p (R.place_found sizes xs bytes q1.1) d1 (λ q2 s2 d2.
      subst (BodyFound sizes t xs) (ok_same d2) (record {
        piece = join (join (starts K.Receipt (common + bit 3) (eqb-true _ _ f) b) s1.piece) s2.piece;
        fit = and_from _ _ s1.fit s2.fit;
        same = λ c e. cc;
      })))
  body_found K.Order b f e =
      found _ p (R.office_found sizes xs bytes o) e (λ q1 s1 d1.
      found _ p (R.number_if_found (stands m 5) xs bytes q1.1 s1.within) d1 (λ q2 s2 d2.
      subst (BodyFound sizes t xs) (ok_same d2) (record {
        piece = join (join (starts K.Order _ (order_map_lem m q2.0 small f s2.1) b) s1) s2.0.piece;
        fit = s2.0.fit;
        same = λ c e. cc;
      })))
  body_found K.Summons b f e =
      found _ p (R.controller_found sizes xs bytes o) e (λ q1 s1 d1.
      found _ p (R.number_found xs bytes q1.1) d1 (λ q2 s2 d2.
      found _ p (R.seal_found xs bytes q2.1) d2 (λ q3 s3 d3.
      subst (BodyFound sizes t xs) (ok_same d3) (record {
        piece = join (join (join (starts K.Summons (common + bit 5 + bit 8) (eqb-true _ _ f) b) s1.piece) s2.piece) s3.piece;
        fit = and_from _ _ s1.fit (and_from _ _ s2.fit s3.fit);
        same = λ c e. cc;
      }))))
  body_found K.Vote b f e =
      found _ p (R.lock_found sizes xs bytes o) e (λ q1 s1 d1.
      found _ p (R.number_found xs bytes q1.1) d1 (λ q2 s2 d2.
      found _ p (R.answer_found xs bytes q2.1) d2 (λ q3 s3 d3.
      subst (BodyFound sizes t xs) (ok_same d3) (record {
        piece = join (join (join (starts K.Vote (common + bit 5 + bit 6) (eqb-true _ _ f) b) s1.piece) s2.piece) s3;
        fit = and_from _ _ s1.fit s2.fit;
        same = λ c e. cc;
      }))))
  body_found K.Proposal b f e =
      found _ p (R.controller_found sizes xs bytes o) e (λ q1 s1 d1.
      found _ p (R.view_found xs bytes q1.1) d1 (λ q2 s2 d2.
      let (v2, d2') = passed (proposal_view_fits sizes t q2.0 q1.0 (stands m 11)) q1.1 _ p d2 in
      found _ p (R.outcome_found (stands m 5) xs bytes q2.1 s2.piece.within) d2' (λ q3 s3 d3.
      found _ p (certificate_found sizes xs bytes q3.1) d3 (λ q4 s4 d4.
      let (l, moved) = moved_is (leads sizes t q2.0 q1.0) (stands m 11) (eqb q2.0.0 0) v2 in
      found _ p (movers_found q2.0 (stands m 11) sizes xs bytes q4.1 s4.piece.within moved) d4 (λ q5 s5 d5.
      let c = certified_is sizes xs q3.1 q4 s4 in
      let c4 = subst (λ (c : Certificate). Piece xs q3.1 (certificate_bytes c) q4.1) (sym c) s4.piece in
      let f4 = subst (λ (c : Certificate). certificate_fits sizes c ≡ true) (sym c) (parts_fit sizes s4.certificate s4.fits) in
      let b' = starts K.Proposal _ (proposal_map_lem m (outcome_number q3.0) (eqb q2.0.0 0) small f s3.1 moved) b in
      subst (BodyFound sizes t xs) (ok_same d5) (record {
        piece = join (join (join (join (join b' s1.piece) s2.piece) s3.0.piece) c4) s5.0;
        fit = and_from _ _ s2.fit (and_from _ _ l (and_from _ _ s3.0.fit (and_from _ _ f4 s5.1)));
        same = λ c g. same_certificate sizes xs q3.1 q4 s4 c g;
      }))))))
  body_found K.Assent b f e =
      found _ p (R.controller_found sizes xs bytes o) e (λ q1 s1 d1.
      found _ p (R.view_found xs bytes q1.1) d1 (λ q2 s2 d2.
      let (v2, d2') = passed (not (leads sizes t q2.0 q1.0)) q1.1 _ p d2 in
      found _ p (R.outcome_found (stands m 5) xs bytes q2.1 s2.piece.within) d2' (λ q3 s3 d3.
      found _ p (R.digest_found xs bytes q3.1) d3 (λ q4 s4 d4.
      let b' = starts K.Assent _ (viewed_map_lem m (outcome_number q3.0) small f s3.1) b in
      subst (BodyFound sizes t xs) (ok_same d4) (record {
        piece = join (join (join (join b' s1.piece) s2.piece) s3.0.piece) s4.piece;
        fit = and_from _ _ s1.fit (and_from _ _ s2.fit (and_from _ _ v2 (and_from _ _ s3.0.fit s4.fit)));
        same = λ c e. cc;
      })))))
  body_found K.Confirm b f e =
      found _ p (R.controller_found sizes xs bytes o) e (λ q1 s1 d1.
      found _ p (R.view_found xs bytes q1.1) d1 (λ q2 s2 d2.
      found _ p (R.outcome_found (stands m 5) xs bytes q2.1 s2.piece.within) d2 (λ q3 s3 d3.
      found _ p (R.digest_found xs bytes q3.1) d3 (λ q4 s4 d4.
      let b' = starts K.Confirm _ (viewed_map_lem m (outcome_number q3.0) small f s3.1) b in
      subst (BodyFound sizes t xs) (ok_same d4) (record {
        piece = join (join (join (join b' s1.piece) s2.piece) s3.0.piece) s4.piece;
        fit = and_from _ _ s1.fit (and_from _ _ s2.fit (and_from _ _ s3.0.fit s4.fit));
        same = λ c e. cc;
      })))))
  body_found K.Result b f e =
      found _ p (R.controller_found sizes xs bytes o) e (λ q1 s1 d1.
      found _ p (R.outcome_found (stands m 5) xs bytes q1.1 s1.piece.within) d1 (λ q2 s2 d2.
      subst (BodyFound sizes t xs) (ok_same d2) (record {
        piece = join (join (starts K.Result _ (order_map_lem m (outcome_number q2.0) small f s2.1) b) s1.piece) s2.0.piece;
        fit = and_from _ _ s1.fit s2.0.fit;
        same = λ c e. cc;
      })))
  body_found K.Move b f e =
      found _ p (R.controller_found sizes xs bytes o) e (λ q1 s1 d1.
      found _ p (R.view_found xs bytes q1.1) d1 (λ q2 s2 d2.
      let (v2, d2') = passed (not (eqb q2.0.0 0)) q1.1 _ p d2 in
      found _ p (grounds_found sizes t q2.0 (stands m 9) (stands m 5) xs bytes q2.1 s2.piece.within) d2' (λ q3 s3 d3.
      let b' = starts K.Move _ (move_map_lem m (each_basis basis_in q3.0) small f s3.some s3.outcome) b in
      subst (BodyFound sizes t xs) (ok_same d3) (record {
        piece = join (join (join b' s1.piece) s2.piece) s3.piece;
        fit = and_from _ _ s1.fit (and_from _ _ s2.fit (and_from _ _ v2 s3.fit));
        same = s3.same;
      }))))

-- ---- the whole letter

-- the bytes are those of the letter kept, which is within range
record LetterFound (sizes : Sizes) (xs : List ℕ) (l : Letter Span Spans) : Type 0 where
  bytes : xs ≡ layout (kept l)
  fit : letter_fits sizes (kept l) ≡ true
  same : (c : Span) → certificate_part l.body ≡ Some c → certificate_bytes (certificate_in c.bytes) ≡ c.bytes

-- a map: its two bytes, and that no bit from 13 on stands
map_found : (xs : List ℕ) → Bytes xs → (a : ℕ) (p : ℕ × ℕ) → F.map_field xs a ≡ Ok p → Piece xs a ((p.0 % 256) ∷ (p.0 / 256) ∷ []) p.1 × (ltb p.0 8192 ≡ true)
unfolding le2
map_found xs bytes a p e =
    step (F.two xs a) _ p e (λ q e1 e2.
    let (f, e3) = chosen (ltb q.0 8192 && stands q.0 0) q _ p e2 in
    let (g, _) = and_parts (ltb q.0 8192) (stands q.0 0) f in
    let (s, b) = two_found xs bytes a q e1 in
    let h = ltb-true _ _ g in
    let high : q.0 / 256 % 256 ≡ q.0 / 256 = omega arith in
    subst (λ (p : ℕ × ℕ). Piece xs a ((p.0 % 256) ∷ (p.0 / 256) ∷ []) p.1 × (ltb p.0 8192 ≡ true)) e3
    (subst (λ n. Piece xs a ((q.0 % 256) ∷ n ∷ []) q.1) high s, g))

letter_found : (sizes : Sizes) (xs : List ℕ) (l : Letter Span Spans) → Bytes xs → read sizes xs ≡ Ok l → LetterFound sizes xs l
letter_found sizes xs l bytes e =
    found _ l (map_found xs bytes 0) e (λ q1 s1 d1.
    found _ l (R.kind_found xs bytes q1.1) d1 (λ q2 s2 d2.
    step (fit q2.0 q1.0) _ l d2 (λ q3 e3 d3.
    found _ l (R.change_found xs bytes q2.1) d3 (λ q4 s4 d4.
    let f3 = (chosen (fits q2.0 q1.0) tt _ q3 e3).0 in
    found _ l (λ q. body_found sizes q4.0 q1.0 xs bytes s1.1 q4.1 q q2.0 (join s1.0 (join s2 s4.piece)) f3) d4 (λ q5 s5 d5.
    found _ l (R.seal_found xs bytes q5.1) d5 (λ q6 s6 d6.
    step (F.ended xs q6.1) _ l d6 (λ q7 e7 d7.
    let f7 = leb-true _ _ (chosen (leb (length xs) q6.1) tt _ q7 e7).0 in
    subst (LetterFound sizes xs) (ok_same d7) (record {
      bytes = all_of (join s5.piece s6.piece) f7;
      fit = and_from _ _ s4.fit (and_from _ _ s6.fit s5.fit);
      same = s5.same;
    }))))))))

pub one_form : OneForm
one_form sizes xs l bytes e = (letter_found sizes xs l bytes e).bytes

pub what_is_read_is_in_range : WhatIsReadIsInRange
what_is_read_is_in_range sizes xs l bytes e = (letter_found sizes xs l bytes e).fit

pub kept_certificate_has_the_same_bytes : KeptCertificateHasTheSameBytes
kept_certificate_has_the_same_bytes sizes xs l c bytes e f = (letter_found sizes xs l bytes e).same c f

pub kept_certificate_has_the_same_digest : KeptCertificateHasTheSameDigest
kept_certificate_has_the_same_digest sizes xs l c bytes e f = ap digest_of (sym ((letter_found sizes xs l bytes e).same c f))
