-- A certificate's bytes are read as it, and what is read as a certificate has its bytes.
use Rattle.std.proofs.Common.{◌≡◌, ℕ, ◌+◌, ◌*◌, ◌/◌, ◌%◌, ◌^◌, ◌<◌, ◌≤◌, Bool, true, false, cond, ◌&&◌, ◌||◌, eqb, leb, List, [], ◌∷◌, ◌++◌, length, is_some, Some, None, Ok, Err, Option, sym, refl, ap, ◌∙◌, subst, arith}
use lib.Bits.{bit_and}
use lib.Count.{ones}
use Rattle.std.proofs.lemmas.Nat.{pow_pos, div_below, mod_below, div-add-mod'}
use Rattle.std.proofs.lemmas.Bool.Decides.{nat_tests}
use Rattle.std.proofs.lemmas.Bool.{leb-true, le-leb, ltb-true, eqb-true, eq-eqb, cond-true}
use Rattle.terms.specs.declared.numbers.KeyNumber.{KeyNumber}
use Rattle.terms.specs.declared.sizes.Sizes.{Sizes}
use Rattle.terms.specs.Numbers.{is_key, key_of}
use Rattle.letters.specs.declared.sorts.Seal.{Seal}
use Rattle.letters.specs.declared.certificates.Certificate.{Certificate}
use Rattle.letters.specs.declared.certificates.Vote.{Vote}
use Rattle.letters.specs.Bytes.{le4, le8, four_at, eight_at, map_of, row_bytes, rows_at}
use Rattle.letters.specs.Certificates.{ready_vote, order_flag, number_bytes, vote_seals, certificate_bytes}
use Rattle.letters.specs.Ranges.{is_word, number_fits, rows_fit, votes_within, cancel_unvoted, certificate_fits}
use Rattle.letters.specs.Sorts.{seal}
use Rattle.reading.specs.Fields.{byte, seals}
use Rattle.reading.specs.Parts.{Span}
use Rattle.reading.specs.Spans.{enrolled_field, places_field, flag_field, certificate_fields, certificate_field}
use Rattle.kept.specs.Kept.{votes_of, certificate_in}
use Rattle.roundtrip.specs.Laws.{Bytes}
use Rattle.roundtrip.proofs.Pieces.{Piece, join, first_part, second_part, whole, between_is, four_at_lem, eight_at_lem}
use Rattle.roundtrip.proofs.Rows.{rows_length, rows_read, rows_found, votes_back, seals_map, seals_long, ready_within, voted_within, votes_seals, votes_map, votes_long, votes_ready, votes_within_lem}
use Rattle.roundtrip.proofs.Steps.{after, came, step, found, pass, passed, checked_found, chosen, ok_same, byte_reads, byte_found}
use Rattle.roundtrip.proofs.Fields.{Stands, number_if_reads, number_if_found, seal_reads, seal_found, seal_of, seal_fits}

-- ---- maps

pub map_low : (n k : ℕ) → n < 2 ^ k → n / 2 ^ k ≡ 0
map_low n k h = let d = div_below n (2 ^ k) 1 (pow_pos k) (omega arith) in omega arith

pub low_map : (n k : ℕ) → n / 2 ^ k ≡ 0 → n < 2 ^ k
low_map n k e =
    let d : 0 * 2 ^ k + n % 2 ^ k ≡ n = ap (λ q. q * 2 ^ k + n % 2 ^ k) (sym e) ∙ div-add-mod' n (2 ^ k) in
    omega (arith, mod_below n (2 ^ k) (pow_pos k))

-- ---- the range of a certificate, part by part

pub record Fits (sizes : Sizes) (c : Certificate) : Type 0 where
  pub places : length c.enrolled ≡ 8
  pub voters : length c.votes ≡ 8
  pub low : map_of is_some c.enrolled < 2 ^ sizes.locks
  pub inside : votes_within c.enrolled c.votes ≡ true
  pub unvoted : cancel_unvoted c.order.number c.votes ≡ true
  pub number : number_fits c.order.number ≡ true
  pub word : is_word c.order.seal.0 ≡ true
  pub enrolments : rows_fit c.enrolled ≡ true
  pub ballots : rows_fit (vote_seals c.votes) ≡ true

pub fits_parts : (sizes : Sizes) (c : Certificate) → certificate_fits sizes c ≡ true → Fits sizes c
fits_parts sizes c f = record {
  places = grind (arith, nat_tests);
  voters = grind (arith, nat_tests);
  low = grind (arith, nat_tests);
  inside = grind arith;
  unvoted = grind arith;
  number = grind arith;
  word = grind arith;
  enrolments = grind arith;
  ballots = grind arith;
}

pub parts_fit : (sizes : Sizes) (c : Certificate) → Fits sizes c → certificate_fits sizes c ≡ true
parts_fit sizes c f = grind (arith, nat_tests)

-- ---- the fields

pub seals_reads : (n : ℕ) {xs ys : List ℕ} {a b : ℕ} → Piece xs a ys b → length ys ≡ n * 8 → seals n xs a ≡ Ok (tt, b)
seals_reads n {xs} {ys} {a} {b} p l =
    let e : a + n * 8 ≡ b = omega (arith, p.ends) in
    cond-true (leb (a + n * 8) (length xs)) (Ok (tt, a + n * 8)) (Err _) (le-leb _ _ (omega (arith, p.within))) ∙ ap (λ k. Ok (tt, k)) e

pub seals_found : (n : ℕ) (xs : List ℕ) (a : ℕ) (p : Unit {0} × ℕ) → seals n xs a ≡ Ok p → (a + n * 8 ≤ length xs) × (a + n * 8 ≡ p.1)
seals_found n xs a p e = let c = chosen _ _ _ _ e in (leb-true _ _ c.0, ap (λ (q : Unit {0} × ℕ). q.1) c.1)

enrolled_reads : (sizes : Sizes) {xs : List ℕ} {a b n : ℕ} → Piece xs a (n ∷ []) b → n < 2 ^ sizes.locks → enrolled_field sizes xs a ≡ Ok (n, b)
enrolled_reads sizes {xs} {a} {b} {n} p h = after _ (byte_reads p) (pass _ a _ _ (eq-eqb _ _ (map_low n sizes.locks h)) refl)

places_reads : (of : ℕ) {xs : List ℕ} {a b n : ℕ} → Piece xs a (n ∷ []) b → bit_and n of ≡ n → places_field of xs a ≡ Ok (n, b)
places_reads of {xs} {a} {b} {n} p h = after _ (byte_reads p) (pass _ a _ _ (eq-eqb _ _ h) refl)

flag_reads : (voted : ℕ) (o : Option KeyNumber) {xs : List ℕ} {a b : ℕ} → Piece xs a (order_flag o ∷ []) b → (o ≡ None → voted ≡ 0) → flag_field voted xs a ≡ Ok (is_some o, b)
flag_reads voted None {xs} {a} {b} p h = after _ (byte_reads p) (pass _ a _ _ (eq-eqb voted 0 (h refl)) refl)
flag_reads voted (Some n) {xs} {a} {b} p h = after _ (byte_reads p) refl

module _ (xs : List ℕ) (bytes : Bytes xs) (a : ℕ) where
  enrolled_found : (sizes : Sizes) (p : ℕ × ℕ) → enrolled_field sizes xs a ≡ Ok p → Piece xs a (p.0 ∷ []) p.1 × (p.0 < 256) × (p.0 < 2 ^ sizes.locks)
  enrolled_found sizes p e =
      let (e1, t) = checked_found byte (λ n. eqb (n / 2 ^ sizes.locks) 0) xs a p e in
      let (s, b) = byte_found xs bytes a p e1 in
      (s, b, low_map _ _ (eqb-true _ _ t))

  places_found : (of : ℕ) (p : ℕ × ℕ) → places_field of xs a ≡ Ok p → Piece xs a (p.0 ∷ []) p.1 × (p.0 < 256) × (bit_and p.0 of ≡ p.0)
  places_found of p e =
      let (e1, t) = checked_found byte (λ n. eqb (bit_and n of) n) xs a p e in
      let (s, b) = byte_found xs bytes a p e1 in
      (s, b, eqb-true _ _ t)

  flag_found : (voted : ℕ) (p : Bool × ℕ) → flag_field voted xs a ≡ Ok p → Piece xs a (cond p.0 1 0 ∷ []) p.1 × (p.0 ≡ false → voted ≡ 0)
  flag_found voted p e =
      let (q, e1, e2) = came (byte xs a) _ p e in
      let (t, e3) = passed (eqb q.0 1 || (eqb q.0 0 && eqb voted 0)) a _ p e2 in
      let (s, b) = byte_found xs bytes a q e1 in
      let f : q.0 ≡ cond (eqb q.0 1) 1 0 = grind (arith, nat_tests, t) in
      subst (λ (p : Bool × ℕ). Piece xs a (cond p.0 1 0 ∷ []) p.1 × (p.0 ≡ false → voted ≡ 0)) (ok_same e3) (subst (λ k. Piece xs a (k ∷ []) q.1) f s, λ g. grind (arith, nat_tests, t, g))

-- ---- a certificate that was written

abbrev maps : Certificate → List ℕ
maps c = map_of is_some c.enrolled ∷ map_of is_some c.votes ∷ map_of ready_vote c.votes ∷ order_flag c.order.number ∷ []

-- the parts of a certificate, where they stand
pub record Parts (c : Certificate) (xs : List ℕ) (a b : ℕ) : Type 0 where
  pub a4 : ℕ
  pub a5 : ℕ
  pub a6 : ℕ
  pub a7 : ℕ
  pub enrolled_piece : Piece xs a (map_of is_some c.enrolled ∷ []) (a + 1)
  pub voted_piece : Piece xs (a + 1) (map_of is_some c.votes ∷ []) (a + 1 + 1)
  pub ready_piece : Piece xs (a + 1 + 1) (map_of ready_vote c.votes ∷ []) (a + 1 + 1 + 1)
  pub flag_piece : Piece xs (a + 1 + 1 + 1) (order_flag c.order.number ∷ []) a4
  pub number_piece : Piece xs a4 (number_bytes c.order.number) a5
  pub seal_piece : Piece xs a5 (le8 c.order.seal.0) a6
  pub enrolments_piece : Piece xs a6 (row_bytes c.enrolled) a7
  pub votes_piece : Piece xs a7 (row_bytes (vote_seals c.votes)) b

pub apart : (c : Certificate) {xs : List ℕ} {a b : ℕ} → Piece xs a (certificate_bytes c) b → Parts c xs a b
apart c {xs} {a} {b} p =
    let e = map_of is_some c.enrolled ∷ [] in
    let v = map_of is_some c.votes ∷ [] in
    let r = map_of ready_vote c.votes ∷ [] in
    let o = order_flag c.order.number ∷ [] in
    let n = number_bytes c.order.number in
    let z = le8 c.order.seal.0 in
    let es = row_bytes c.enrolled in
    let vs = row_bytes (vote_seals c.votes) in
    let q4 = first_part (((maps c ++ n) ++ z) ++ es) vs p in
    let q3 = first_part ((maps c ++ n) ++ z) es q4 in
    let q2 = first_part (maps c ++ n) z q3 in
    let q1 = first_part (maps c) n q2 in
    let m1 = second_part e (v ++ r ++ o) q1 in
    let m2 = second_part v (r ++ o) m1 in
    record {
      a4 = _;
      a5 = _;
      a6 = _;
      a7 = _;
      enrolled_piece = first_part e (v ++ r ++ o) q1;
      voted_piece = first_part v (r ++ o) m1;
      ready_piece = first_part r o m2;
      flag_piece = second_part r o m2;
      number_piece = second_part (maps c) n q2;
      seal_piece = second_part (maps c ++ n) z q3;
      enrolments_piece = second_part ((maps c ++ n) ++ z) es q4;
      votes_piece = second_part (((maps c ++ n) ++ z) ++ es) vs p;
    }

pub fields_read : (sizes : Sizes) (c : Certificate) {xs : List ℕ} {a b : ℕ} → Fits sizes c → Piece xs a (certificate_bytes c) b → certificate_fields sizes xs a ≡ Ok (tt, b)
fields_read sizes c {xs} {a} {b} f p =
    let s = apart c p in
    let e = map_of is_some c.enrolled in
    let v = map_of is_some c.votes in
    after _ (enrolled_reads sizes s.enrolled_piece f.low)
    (after _ (places_reads e s.voted_piece (voted_within c.enrolled c.votes f.inside))
    (after _ (places_reads v s.ready_piece (ready_within c.votes))
    (after _ (flag_reads v c.order.number s.flag_piece (λ e. grind (arith, nat_tests, f.unvoted, e)))
    (after _ (number_if_reads c.order.number s.a5 (record { piece = s.number_piece; fit = f.number }))
    (after _ (seal_reads (record { piece = s.seal_piece; fit = f.word }))
    (after _ (seals_reads (ones e) s.enrolments_piece (rows_length c.enrolled))
    (seals_reads (ones v) s.votes_piece (rows_length (vote_seals c.votes) ∙ ap (λ m. ones m * 8) (seals_map c.votes)))))))))

-- a part of a letter that begins at `a`
abbrev pub span_of : List ℕ → ℕ → Span
span_of bs a = record { bytes = bs; offset = a }

pub certificate_reads : (sizes : Sizes) (c : Certificate) {xs : List ℕ} {a b : ℕ} → Fits sizes c → Piece xs a (certificate_bytes c) b → certificate_field sizes xs a ≡ Ok (span_of (certificate_bytes c) a, b)
certificate_reads sizes c {xs} {a} {b} f p = after _ (fields_read sizes c f p) (ap (λ bs. Ok (span_of bs a, b)) (between_is p))

pub rows_at_lem : (n map : ℕ) (rs : List (Option Seal)) (xs : List ℕ) (a k b : ℕ) → length rs ≡ n → map_of is_some rs ≡ map → a ≡ k → rows_fit rs ≡ true → Piece xs a (row_bytes rs) b → rows_at n map xs k ≡ rs
rows_at_lem n map rs xs a k b l m e f p = simp (← l, ← m, ← e) (rows_read rs f p)

abbrev certificate_of : Option KeyNumber → Seal → List (Option Seal) → List (Option Vote) → Certificate
certificate_of n z es vs = record { order = record { number = n; seal = z }; enrolled = es; votes = vs }

-- the rows of a certificate, from the offset of its enrolments on
rows_back : (sizes : Sizes) (c : Certificate) {bs : List ℕ} {b : ℕ} → Fits sizes c → (s : Parts c bs 0 b) (k : ℕ) → s.a6 ≡ k →
    (rows_at 8 (map_of is_some c.enrolled) bs k ≡ c.enrolled)
    × (votes_of (map_of ready_vote c.votes) (rows_at 8 (map_of is_some c.votes) bs (k + ones (map_of is_some c.enrolled) * 8)) ≡ c.votes)
rows_back sizes c {bs} {b} f s k o =
    let es = c.enrolled in
    let vs = c.votes in
    let o7 : s.a7 ≡ k + ones (map_of is_some es) * 8 = omega (arith, s.enrolments_piece.ends, rows_length es) in
    let r = rows_at_lem 8 _ (vote_seals vs) bs s.a7 _ b (seals_long vs ∙ f.voters) (seals_map vs) o7 f.ballots s.votes_piece in
    (rows_at_lem 8 _ es bs s.a6 k _ f.places refl o f.enrolments s.enrolments_piece, ap (votes_of (map_of ready_vote vs)) r ∙ votes_back vs)

back_by : (sizes : Sizes) (n : Option KeyNumber) (z : Seal) (es : List (Option Seal)) (vs : List (Option Vote)) → Fits sizes (certificate_of n z es vs) → certificate_in (certificate_bytes (certificate_of n z es vs)) ≡ certificate_of n z es vs
unfolding le4 le8
back_by sizes None z es vs f =
    let c = certificate_of None z es vs in
    let bs = certificate_bytes c in
    let s = apart c (whole bs) in
    let o5 : s.a5 ≡ 4 = omega (arith, s.flag_piece.ends, s.number_piece.ends) in
    let e0 : eight_at bs 4 ≡ z.0 = subst (λ k. eight_at bs k ≡ z.0) o5 (eight_at_lem s.seal_piece (ltb-true _ _ f.word)) in
    let r = rows_back sizes c f s 12 (omega (arith, s.seal_piece.ends)) in
    λ i. record { order = record { number = None; seal = seal (e0 i) }; enrolled = r.0 i; votes = r.1 i }
back_by sizes (Some n) z es vs f =
    let c = certificate_of (Some n) z es vs in
    let bs = certificate_bytes c in
    let s = apart c (whole bs) in
    let o4 : s.a4 ≡ 4 = omega (arith, s.flag_piece.ends) in
    let o5 : s.a5 ≡ 8 = omega (arith, s.number_piece.ends) in
    let k0 : four_at bs 4 ≡ n.0 = subst (λ k. four_at bs k ≡ n.0) o4 (four_at_lem s.number_piece (grind (arith, nat_tests, f.number))) in
    let k1 : key_of (four_at bs 4) ≡ Some n = ap key_of k0 ∙ cond-true (is_key n.0) (Some n) None f.number in
    let e0 : eight_at bs 8 ≡ z.0 = subst (λ k. eight_at bs k ≡ z.0) o5 (eight_at_lem s.seal_piece (ltb-true _ _ f.word)) in
    let r = rows_back sizes c f s 16 (omega (arith, s.seal_piece.ends)) in
    λ i. record { order = record { number = k1 i; seal = seal (e0 i) }; enrolled = r.0 i; votes = r.1 i }

pub certificate_back : (sizes : Sizes) (c : Certificate) → Fits sizes c → certificate_in (certificate_bytes c) ≡ c
certificate_back sizes c f = back_by sizes c.order.number c.order.seal c.enrolled c.votes f

-- ---- a certificate that was read

-- the bytes at `a` up to the offset beside it are those of a certificate within range
pub record Certified (sizes : Sizes) (xs : List ℕ) (a : ℕ) (p : Span × ℕ) : Type 0 where
  pub certificate : Certificate
  pub fits : Fits sizes certificate
  pub piece : Piece xs a (certificate_bytes certificate) p.1
  pub part : p.0 ≡ span_of (certificate_bytes certificate) a

-- the certificate of the fields that were found
module _ (sizes : Sizes) (xs : List ℕ) (bytes : Bytes xs) (a b : ℕ) where
  found_parts : (e v r : ℕ) (t : Bool) (n : Option KeyNumber) (z : Seal) (a1 a2 a3 a4 a5 a6 a7 : ℕ)
      → Piece xs a (e ∷ []) a1 × (e < 256) × (e < 2 ^ sizes.locks)
      → Piece xs a1 (v ∷ []) a2 × (v < 256) × (bit_and v e ≡ v)
      → Piece xs a2 (r ∷ []) a3 × (r < 256) × (bit_and r v ≡ r)
      → Piece xs a3 (cond t 1 0 ∷ []) a4 × (t ≡ false → v ≡ 0)
      → Stands number_bytes number_fits xs a4 (n, a5) × (t ≡ is_some n)
      → Stands seal_of seal_fits xs a5 (z, a6)
      → (a6 + ones e * 8 ≤ length xs) × (a6 + ones e * 8 ≡ a7)
      → (a7 + ones v * 8 ≤ length xs) × (a7 + ones v * 8 ≡ b)
      → (c : Certificate) × Fits sizes c × Piece xs a (certificate_bytes c) b
  found_parts e v r t n z a1 a2 a3 a4 a5 a6 a7 (p1, b1, l1) (p2, b2, l2) (p3, b3, l3) (p4, l4) (p5, l5) p6 (l7, o7) (l8, o8) =
      let es = rows_at 8 e xs a6 in
      let rs = rows_at 8 v xs a7 in
      let vs = votes_of r rs in
      let r7 = rows_found 8 e xs a6 bytes b1 l7 in
      let r8 = rows_found 8 v xs a7 bytes b2 l8 in
      let c = certificate_of n z es vs in
      let mv : map_of is_some vs ≡ v = votes_map r rs ∙ r8.same in
      let mr : map_of ready_vote vs ≡ r = votes_ready r rs (rw r8.same l3) in
      let f4 : cond t 1 0 ≡ order_flag n = grind (arith, l5) in
      let q1 = subst (λ k. Piece xs a (k ∷ []) a1) (sym r7.same) p1 in
      let q2 = subst (λ k. Piece xs a1 (k ∷ []) a2) (sym mv) p2 in
      let q3 = subst (λ k. Piece xs a2 (k ∷ []) a3) (sym mr) p3 in
      let q4 = subst (λ k. Piece xs a3 (k ∷ []) a4) f4 p4 in
      let q7 = subst (λ k. Piece xs a6 (row_bytes es) k) o7 r7.piece in
      let q8 = subst (λ (w : List (Option Seal)). Piece xs a7 (row_bytes w) b) (sym (votes_seals r rs)) (subst (λ k. Piece xs a7 (row_bytes rs) k) o8 r8.piece) in (
        c,
        record {
          places = r7.long;
          voters = votes_long r rs ∙ r8.long;
          low = subst (λ k. k < 2 ^ sizes.locks) (sym r7.same) l1;
          inside = votes_within_lem r es rs (rw (r8.same, r7.same) l2);
          unvoted = grind (arith, nat_tests, l4, l5, mv);
          number = p5.fit;
          word = p6.fit;
          enrolments = r7.fit;
          ballots = subst (λ (w : List (Option Seal)). rows_fit w ≡ true) (sym (votes_seals r rs)) r8.fit;
        },
        join (join (join (join (join q1 (join q2 (join q3 q4))) p5.piece) p6.piece) q7) q8,
      )

  fields_found : (u : Unit {0}) → certificate_fields sizes xs a ≡ Ok (u, b) → (c : Certificate) × Fits sizes c × Piece xs a (certificate_bytes c) b
  fields_found u e0 =
      found _ (u, b) (enrolled_found xs bytes a sizes) e0 (λ q1 s1 d1.
      found _ (u, b) (places_found xs bytes q1.1 q1.0) d1 (λ q2 s2 d2.
      found _ (u, b) (places_found xs bytes q2.1 q2.0) d2 (λ q3 s3 d3.
      found _ (u, b) (flag_found xs bytes q3.1 q2.0) d3 (λ q4 s4 d4.
      found _ (u, b) (number_if_found q4.0 xs bytes q4.1 s4.0.within) d4 (λ q5 s5 d5.
      found _ (u, b) (seal_found xs bytes q5.1) d5 (λ q6 s6 d6.
      found _ (u, b) (seals_found (ones q1.0) xs q6.1) d6 (λ q7 s7 d7.
      found_parts q1.0 q2.0 q3.0 q4.0 q5.0 q6.0 q1.1 q2.1 q3.1 q4.1 q5.1 q6.1 q7.1 s1 s2 s3 s4 s5 s6 s7 (seals_found (ones q2.0) xs q7.1 (u, b) d7))))))))

pub certificate_found : (sizes : Sizes) (xs : List ℕ) → Bytes xs → (a : ℕ) (p : Span × ℕ) → certificate_field sizes xs a ≡ Ok p → Certified sizes xs a p
certificate_found sizes xs bytes a p e =
    step (certificate_fields sizes xs a) _ p e (λ q e1 e2.
    let w = fields_found sizes xs bytes a q.1 q.0 e1 in
    subst (Certified sizes xs a) (ok_same e2) (record { certificate = w.0; fits = w.1; piece = w.2; part = ap (λ bs. span_of bs a) (between_is w.2) }))

-- what is kept of the part
pub certified_is : (sizes : Sizes) (xs : List ℕ) (a : ℕ) (p : Span × ℕ) (r : Certified sizes xs a p) → certificate_in p.0.bytes ≡ r.certificate
certified_is sizes xs a p r = ap (λ (s : Span). certificate_in s.bytes) r.part ∙ certificate_back sizes r.certificate r.fits

pub certified_same : (sizes : Sizes) (xs : List ℕ) (a : ℕ) (p : Span × ℕ) → Certified sizes xs a p → certificate_bytes (certificate_in p.0.bytes) ≡ p.0.bytes
certified_same sizes xs a p r = ap certificate_bytes (certified_is sizes xs a p r) ∙ ap (λ (s : Span). s.bytes) (sym r.part)

some_same : {A : Type 0} {x y : A} → ◌≡◌ {A = Option A} (Some x) (Some y) → x ≡ y
some_same e = cc

pub same_certificate : (sizes : Sizes) (xs : List ℕ) (a : ℕ) (p : Span × ℕ) → Certified sizes xs a p → (c : Span) → Some p.0 ≡ Some c → certificate_bytes (certificate_in c.bytes) ≡ c.bytes
same_certificate sizes xs a p r c e = subst (λ (s : Span). certificate_bytes (certificate_in s.bytes) ≡ s.bytes) (some_same e) (certified_same sizes xs a p r)
