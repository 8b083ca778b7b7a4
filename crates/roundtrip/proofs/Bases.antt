-- A basis' bytes are read as it, and what is read as a basis has its bytes.
use Rattle.std.proofs.Common.{◌≡◌, ℕ, ◌+◌, ◌*◌, ◌/◌, ◌^◌, ◌<◌, ◌≤◌, Bool, true, false, not, ◌&&◌, eqb, ltb, List, [], ◌∷◌, ◌++◌, length, is_some, Some, None, Ok, Option, sym, refl, ap, ◌∙◌, subst, ap₂, arith}
use lib.Count.{ones}
use Rattle.std.proofs.lemmas.Bool.Decides.{nat_tests}
use Rattle.std.proofs.lemmas.Bool.{ltb-true, eq-eqb, and_parts, and_from}
use Rattle.terms.specs.declared.numbers.Change.{Change}
use Rattle.terms.specs.declared.numbers.View.{View}
use Rattle.terms.specs.declared.parties.Outcome.{Outcome}
use Rattle.terms.specs.declared.sizes.Sizes.{Sizes}
use Rattle.terms.specs.Parties.{leader_of}
use Rattle.terms.specs.Sizes.{seat_count}
use Rattle.letters.specs.declared.sorts.Seal.{Seal}
use Rattle.letters.specs.declared.certificates.Basis.{Basis}
use Rattle.letters.specs.declared.certificates.Certificate.{Certificate}
use Rattle.letters.specs.Bodies.{each_basis}
use Rattle.letters.specs.Bytes.{le2, le8, two_at, eight_at, map_of, row_bytes, rows_at}
use Rattle.letters.specs.Certificates.{certificate_bytes}
use Rattle.letters.specs.Layout.{basis_bytes, grounds_bytes}
use Rattle.letters.specs.Ranges.{is_word, rows_fit, certificate_fits, basis_fits, grounds_fit}
use Rattle.letters.specs.Sorts.{seal, stands}
use Rattle.reading.specs.Fields.{two, view_field}
use Rattle.reading.specs.Parts.{Span, Spans}
use Rattle.reading.specs.Spans.{basis_view_field, assenters_field, basis_fields, basis_field, grounds_if}
use Rattle.kept.specs.Kept.{certificate_in, basis_in}
use Rattle.roundtrip.specs.Laws.{Bytes, grounds_certificate}
use Rattle.roundtrip.proofs.Pieces.{Piece, join, first_part, second_part, nothing, whole, between_is, two_at_lem, eight_at_lem}
use Rattle.roundtrip.proofs.Rows.{map_below, rows_length, rows_found}
use Rattle.roundtrip.proofs.Steps.{after, step, found, pass, checked_found, ok_same, two_reads, two_found}
use Rattle.roundtrip.proofs.Fields.{Stands, view_reads, view_found, outcome_reads, outcome_found, outcome_bytes, outcome_fits, changes, seal_reads, seal_found, seal_of, seal_fits}
use Rattle.roundtrip.proofs.Certificates.{Fits, fits_parts, parts_fit, map_low, low_map, seals_reads, seals_found, rows_at_lem, span_of, certificate_reads, certificate_back, Certified, certificate_found, same_certificate}

-- the range of a basis, part by part
pub record Grounded (sizes : Sizes) (t : Change) (v : View) (b : Basis) : Type 0 where
  pub below : ltb b.view.0 v.0 ≡ true
  pub long : length b.assents ≡ 16
  pub low : map_of is_some b.assents < 2 ^ seat_count sizes
  pub many : ones (map_of is_some b.assents) ≡ 2 * sizes.faults
  pub others : not (stands (map_of is_some b.assents) (leader_of sizes t b.view).0) ≡ true
  pub outcome_fit : outcome_fits b.outcome ≡ true
  pub word : is_word b.leader_seal.0 ≡ true
  pub fit : rows_fit b.assents ≡ true
  pub certificate_fit : Fits sizes b.certificate

pub grounded : (sizes : Sizes) (t : Change) (v : View) (b : Basis) → basis_fits sizes t v b ≡ true → Grounded sizes t v b
grounded sizes t v b f =
    let c : certificate_fits sizes b.certificate ≡ true = grind (arith, and_parts) in
    record {
      below = grind arith;
      long = grind (arith, nat_tests);
      low = grind (arith, nat_tests);
      many = grind (arith, nat_tests);
      others = grind arith;
      outcome_fit = grind arith;
      word = grind arith;
      fit = grind arith;
      certificate_fit = fits_parts sizes b.certificate c;
    }

pub ground_fits : (sizes : Sizes) (t : Change) (v : View) (b : Basis) → Grounded sizes t v b → basis_fits sizes t v b ≡ true
ground_fits sizes t v b g = let c = parts_fit sizes b.certificate g.certificate_fit in grind (arith, nat_tests)

-- ---- a basis that was written

record Parts (b : Basis) (xs : List ℕ) (a e : ℕ) : Type 0 where
  a2 : ℕ
  a3 : ℕ
  view_piece : Piece xs a (b.view.0 ∷ []) (a + 1)
  seats_piece : Piece xs (a + 1) (le2 (map_of is_some b.assents)) a2
  seal_piece : Piece xs a2 (le8 b.leader_seal.0) a3
  rows_piece : Piece xs a3 (row_bytes b.assents) e

apart : (b : Basis) {xs : List ℕ} {a e : ℕ} → Piece xs a (basis_bytes b) e → Parts b xs a e
apart b {xs} {a} {e} p =
    let v = b.view.0 ∷ [] in
    let m = le2 (map_of is_some b.assents) in
    let z = le8 b.leader_seal.0 in
    let r = row_bytes b.assents in
    let q2 = first_part ((v ++ m) ++ z) r p in
    let q1 = first_part (v ++ m) z q2 in
    record { a2 = _; a3 = _; view_piece = first_part v m q1; seats_piece = second_part v m q1; seal_piece = second_part (v ++ m) z q2; rows_piece = second_part ((v ++ m) ++ z) r p }

seats_below : (rs : List (Option Seal)) → length rs ≡ 16 → map_of is_some rs < 65536
seats_below rs l = let h = map_below is_some rs in let k : map_of is_some rs < 2 ^ 16 = subst (λ n. map_of is_some rs < 2 ^ n) l h in k

basis_fields_lem : (sizes : Sizes) (t : Change) (v : View) (b : Basis) {xs : List ℕ} {a e : ℕ} → Grounded sizes t v b → Piece xs a (basis_bytes b) e → basis_fields sizes t v xs a ≡ Ok (tt, e)
basis_fields_lem sizes t v b {xs} {a} {e} g p =
    let s = apart b p in
    let m = map_of is_some b.assents in
    after _ (after _ (view_reads s.view_piece) (pass _ a _ _ g.below refl))
    (after _
    (after _ (two_reads s.seats_piece (seats_below b.assents g.long))
    (pass _ (a + 1) _ _ (and_from _ _ (eq-eqb _ _ (map_low m (seat_count sizes) g.low)) (and_from _ _ (eq-eqb _ _ g.many) g.others)) refl))
    (after _ (seal_reads (record { piece = s.seal_piece; fit = g.word }))
    (seals_reads (2 * sizes.faults) s.rows_piece (rows_length b.assents ∙ ap (λ n. n * 8) g.many))))

pub basis_reads : (sizes : Sizes) (t : Change) (v : View) (b : Basis) {xs : List ℕ} {a e : ℕ} → Grounded sizes t v b → Piece xs a (basis_bytes b) e → basis_field sizes t v xs a ≡ Ok (span_of (basis_bytes b) a, e)
basis_reads sizes t v b {xs} {a} {e} g p = after _ (basis_fields_lem sizes t v b g p) (ap (λ bs. Ok (span_of bs a, e)) (between_is p))

-- the parts of a move that show a basis
abbrev pub spans_of : Basis → ℕ → ℕ → Spans
spans_of b a1 a2 = record { outcome = b.outcome; basis = span_of (basis_bytes b) a1; certificate = span_of (certificate_bytes b.certificate) a2 }

pub basis_back : (sizes : Sizes) (t : Change) (v : View) (b : Basis) (a1 a2 : ℕ) → Grounded sizes t v b → basis_in (spans_of b a1 a2) ≡ b
unfolding le2 le8
basis_back sizes t v b a1 a2 g =
    let bs = basis_bytes b in
    let s = apart b (whole bs) in
    let m = map_of is_some b.assents in
    let o2 : s.a2 ≡ 3 = omega (arith, s.seats_piece.ends) in
    let o3 : s.a3 ≡ 11 = omega (arith, s.seal_piece.ends) in
    let e1 : two_at bs 1 ≡ m = two_at_lem s.seats_piece (seats_below b.assents g.long) in
    let e2 : eight_at bs 3 ≡ b.leader_seal.0 = subst (λ k. eight_at bs k ≡ b.leader_seal.0) o2 (eight_at_lem s.seal_piece (ltb-true _ _ g.word)) in
    let e3 : rows_at 16 (two_at bs 1) bs 11 ≡ b.assents = rows_at_lem 16 (two_at bs 1) b.assents bs s.a3 11 _ g.long (sym e1) o3 g.fit s.rows_piece in
    let e4 = certificate_back sizes b.certificate g.certificate_fit in
    λ i. record { view = b.view; outcome = b.outcome; certificate = e4 i; leader_seal = seal (e2 i); assents = e3 i }

-- ---- a basis that was read

abbrev pub basis_of : View → Seal → List (Option Seal) → Outcome → Certificate → Basis
basis_of u z rs x c = record { view = u; outcome = x; certificate = c; leader_seal = z; assents = rs }

abbrev pub base_bytes : View → Seal → List (Option Seal) → List ℕ
base_bytes u z rs = (((u.0 ∷ []) ++ le2 (map_of is_some rs)) ++ le8 z.0) ++ row_bytes rs

-- a basis but for its outcome and its certificate, which stands at `a` up to e
pub record Based (sizes : Sizes) (t : Change) (v : View) (xs : List ℕ) (a e : ℕ) : Type 0 where
  pub view : View
  pub leader_seal : Seal
  pub assents : List (Option Seal)
  pub grounds : (x : Outcome) (c : Certificate) → outcome_fits x ≡ true → Fits sizes c → Grounded sizes t v (basis_of view leader_seal assents x c)
  pub piece : Piece xs a (base_bytes view leader_seal assents) e

module _ (sizes : Sizes) (t : Change) (v : View) (xs : List ℕ) (bytes : Bytes xs) (a : ℕ) where
  basis_view_found : (p : View × ℕ) → basis_view_field v xs a ≡ Ok p → Piece xs a (p.0.0 ∷ []) p.1 × (ltb p.0.0 v.0 ≡ true)
  basis_view_found p e =
      let (e1, f) = checked_found view_field (λ u. ltb u.0 v.0) xs a p e in
      ((view_found xs bytes a p e1).piece, f)

  Assenters : View → ℕ × ℕ → Type 0
  Assenters u p = Piece xs a (le2 p.0) p.1 × (p.0 < 65536) × (p.0 < 2 ^ seat_count sizes) × (ones p.0 ≡ 2 * sizes.faults) × (not (stands p.0 (leader_of sizes t u).0) ≡ true)

  assenters_found : (u : View) (p : ℕ × ℕ) → assenters_field sizes t u xs a ≡ Ok p → Assenters u p
  unfolding Assenters
  assenters_found u p e =
      let (e1, f) = checked_found two (λ n. eqb (n / 2 ^ seat_count sizes) 0 && (eqb (ones n) (2 * sizes.faults) && not (stands n (leader_of sizes t u).0))) xs a p e in
      let (s, b) = two_found xs bytes a p e1 in
      let low : p.0 / 2 ^ seat_count sizes ≡ 0 = grind (arith, nat_tests, f) in
      (s, b, low_map _ _ low, grind (arith, nat_tests, f), grind (arith, f))

module _ (sizes : Sizes) (t : Change) (v : View) (xs : List ℕ) (bytes : Bytes xs) (a b : ℕ) where
  found_parts : (u : View) (m : ℕ) (z : Seal) (a1 a2 a3 : ℕ)
      → Piece xs a (u.0 ∷ []) a1 × (ltb u.0 v.0 ≡ true)
      → Assenters sizes t v xs bytes a1 u (m, a2)
      → Stands seal_of seal_fits xs a2 (z, a3)
      → (a3 + 2 * sizes.faults * 8 ≤ length xs) × (a3 + 2 * sizes.faults * 8 ≡ b)
      → Based sizes t v xs a b
  unfolding Assenters
  found_parts u m z a1 a2 a3 (p1, l1) (p2, b2, l2, o2, s2) p3 (l4, o4) =
      let k : a3 + ones m * 8 ≤ length xs = subst (λ n. a3 + n * 8 ≤ length xs) (sym o2) l4 in
      let e : a3 + ones m * 8 ≡ b = ap (λ n. a3 + n * 8) o2 ∙ o4 in
      let rs = rows_at 16 m xs a3 in
      let r = rows_found 16 m xs a3 bytes b2 k in
      let q2 = subst (λ n. Piece xs a1 (le2 n) a2) (sym r.same) p2 in
      let q4 = subst (λ n. Piece xs a3 (row_bytes rs) n) e r.piece in
      record {
        view = u;
        leader_seal = z;
        assents = rs;
        grounds = λ x c f g. record {
          below = l1;
          long = r.long;
          low = subst (λ n. n < 2 ^ seat_count sizes) (sym r.same) l2;
          many = ap ones r.same ∙ o2;
          others = subst (λ n. not (stands n (leader_of sizes t u).0) ≡ true) (sym r.same) s2;
          outcome_fit = f;
          word = p3.fit;
          fit = r.fit;
          certificate_fit = g;
        };
        piece = join (join (join p1 q2) p3.piece) q4;
      }

  fields_found : (u : Unit {0}) → basis_fields sizes t v xs a ≡ Ok (u, b) → Based sizes t v xs a b
  fields_found w e0 =
      found _ (w, b) (basis_view_found sizes t v xs bytes a) e0 (λ q1 s1 d1.
      found _ (w, b) (assenters_found sizes t v xs bytes q1.1 q1.0) d1 (λ q2 s2 d2.
      found _ (w, b) (seal_found xs bytes q2.1) d2 (λ q3 s3 d3.
      found_parts q1.0 q2.0 q3.0 q1.1 q2.1 q3.1 s1 s2 s3 (seals_found (2 * sizes.faults) xs q3.1 (w, b) d3))))

-- the basis and its part
pub record BasedAt (sizes : Sizes) (t : Change) (v : View) (xs : List ℕ) (a : ℕ) (p : Span × ℕ) : Type 0 where
  pub base : Based sizes t v xs a p.1
  pub part : p.0 ≡ span_of (base_bytes base.view base.leader_seal base.assents) a

pub basis_found : (sizes : Sizes) (t : Change) (v : View) (xs : List ℕ) → Bytes xs → (a : ℕ) (p : Span × ℕ) → basis_field sizes t v xs a ≡ Ok p → BasedAt sizes t v xs a p
basis_found sizes t v xs bytes a p e =
    step (basis_fields sizes t v xs a) _ p e (λ q e1 e2.
    let w = fields_found sizes t v xs bytes a q.1 q.0 e1 in
    subst (BasedAt sizes t v xs a) (ok_same e2) (record { base = w; part = ap (λ bs. span_of bs a) (between_is w.piece) }))

-- ---- the grounds of a move

abbrev pub numbered_in : Option Basis → Bool
numbered_in None = false
numbered_in (Some b) = changes b.outcome

-- what is read of them, and that the same is kept
pub record GroundsRead (sizes : Sizes) (t : Change) (v : View) (b : Option Basis) (xs : List ℕ) (a e : ℕ) : Type 0 where
  pub spans : Option Spans
  pub reads : grounds_if (is_some b) (numbered_in b) sizes t v xs a ≡ Ok (spans, e)
  pub keeps : each_basis basis_in spans ≡ b

pub grounds_read : (sizes : Sizes) (t : Change) (v : View) (b : Option Basis) {xs : List ℕ} {a e : ℕ} → grounds_fit sizes t v b ≡ true → Piece xs a (grounds_bytes b) e → GroundsRead sizes t v b xs a e
grounds_read sizes t v None {xs} {a} {e} f p = record { spans = None; reads = ap (λ k. Ok (None, k)) (omega (arith, p.ends)); keeps = refl }
grounds_read sizes t v (Some b) {xs} {a} {e} f p =
    let g = grounded sizes t v b f in
    let x = outcome_bytes b.outcome in
    let q1 = first_part (x ++ basis_bytes b) (certificate_bytes b.certificate) p in
    let q2 = second_part (x ++ basis_bytes b) (certificate_bytes b.certificate) p in
    let q3 = first_part x (basis_bytes b) q1 in
    let q4 = second_part x (basis_bytes b) q1 in
    let a1 = a + length x in
    let a2 = a + length (x ++ basis_bytes b) in
    record {
      spans = Some (spans_of b a1 a2);
      reads =
          after _ (outcome_reads b.outcome a1 (record { piece = q3; fit = g.outcome_fit }))
          (after _ (basis_reads sizes t v b g q4)
          (after _ (certificate_reads sizes b.certificate g.certificate_fit q2) refl));
      keeps = ap Some (basis_back sizes t v b a1 a2 g);
    }

-- what stands there, of what was read
pub record GroundsFound (sizes : Sizes) (t : Change) (v : View) (given numbered : Bool) (xs : List ℕ) (a : ℕ) (p : Option Spans × ℕ) : Type 0 where
  pub piece : Piece xs a (grounds_bytes (each_basis basis_in p.0)) p.1
  pub fit : grounds_fit sizes t v (each_basis basis_in p.0) ≡ true
  pub some : given ≡ is_some (each_basis basis_in p.0)
  pub outcome : given ≡ true → numbered ≡ numbered_in (each_basis basis_in p.0)
  pub same : (c : Span) → grounds_certificate p.0 ≡ Some c → certificate_bytes (certificate_in c.bytes) ≡ c.bytes

spans_found : (sizes : Sizes) (t : Change) (v : View) (numbered : Bool) (xs : List ℕ) (a : ℕ) (x : Outcome) (a1 e : ℕ) (s : Span) (a2 : ℕ) (k : Span)
    → Stands outcome_bytes outcome_fits xs a (x, a1) × (numbered ≡ changes x) → BasedAt sizes t v xs a1 (s, a2) → Certified sizes xs a2 (k, e)
    → GroundsFound sizes t v true numbered xs a (Some (record { outcome = x; basis = s; certificate = k }), e)
spans_found sizes t v numbered xs a x a1 e s a2 k (p, n) q r =
    let w = q.base in
    let c = r.certificate in
    let b = basis_of w.view w.leader_seal w.assents x c in
    let g = w.grounds x c p.fit r.fits in
    let h : basis_in (record { outcome = x; basis = s; certificate = k }) ≡ b = ap₂ (λ (s k : Span). basis_in (record { outcome = x; basis = s; certificate = k })) q.part r.part ∙ basis_back sizes t v b a1 a2 g in
    record {
      piece = subst (λ (z : Basis). Piece xs a (grounds_bytes (Some z)) e) (sym h) (join (join p.piece w.piece) r.piece);
      fit = subst (λ (z : Basis). grounds_fit sizes t v (Some z) ≡ true) (sym h) (ground_fits sizes t v b g);
      some = refl;
      outcome = λ _. n;
      same = λ d f. same_certificate sizes xs a2 (k, e) r d f;
    }

pub grounds_found : (sizes : Sizes) (t : Change) (v : View) (given numbered : Bool) (xs : List ℕ) → Bytes xs → (a : ℕ) → a ≤ length xs → (p : Option Spans × ℕ) → grounds_if given numbered sizes t v xs a ≡ Ok p → GroundsFound sizes t v given numbered xs a p
grounds_found sizes t v false numbered xs bytes a h p e = subst (GroundsFound sizes t v false numbered xs a) (ok_same e)
    (record { piece = nothing xs a h; fit = refl; some = refl; outcome = λ f. cc; same = λ c f. cc })
grounds_found sizes t v true numbered xs bytes a h p e =
    found _ p (outcome_found numbered xs bytes a h) e (λ q1 s1 d1.
    found _ p (basis_found sizes t v xs bytes q1.1) d1 (λ q2 s2 d2.
    found _ p (certificate_found sizes xs bytes q2.1) d2 (λ q3 s3 d3.
    subst (GroundsFound sizes t v true numbered xs a) (ok_same d3) (spans_found sizes t v numbered xs a q1.0 q1.1 q3.1 q2.0 q2.1 q3.0 s1 s2 s3))))
