-- Each small step keeps the groups within range that it touches.
use Rattle.std.proofs.Common.{◌≡◌, ℕ, ◌+◌, ◌*◌, ◌^◌, ◌<◌, ◌≤◌, Bool, true, false, cond, ◌&&◌, ltb, List, [], ◌∷◌, length, get_or, set, replicate, is_some, Some, None, fold, Option, sym, refl, ap, ◌∙◌, subst, inl, inr, arith, pow_pos}
use lib.Count.{ones}
use Rattle.std.proofs.lemmas.Nat.{mod_below}
use Rattle.std.proofs.lemmas.List.{length-set, get_or-set_other}
use Rattle.std.proofs.lemmas.Option.{same_Some}
use Rattle.std.proofs.lemmas.Bool.{and_parts, and_from, eq-eqb, lt-ltb, ltb-true, not_from_false, not_from_true}
use Rattle.terms.specs.declared.numbers.Change.{Change}
use Rattle.terms.specs.declared.numbers.KeyNumber.{KeyNumber}
use Rattle.terms.specs.declared.numbers.Seat.{Seat}
use Rattle.terms.specs.declared.numbers.View.{View}
use Rattle.terms.specs.declared.parties.Outcome.{Outcome}
use Rattle.terms.specs.declared.parties.Outcome.TheVariants.{Keep, Number}
use Rattle.terms.specs.declared.sizes.Sizes.{Sizes}
use Rattle.terms.specs.Numbers.{view_of}
use Rattle.terms.specs.Parties.{leader_of}
use Rattle.terms.specs.Sizes.{seat_count}
use Rattle.letters.specs.declared.sorts.Seal.{Seal}
use Rattle.letters.specs.declared.certificates.Basis.{Basis}
use Rattle.letters.specs.declared.certificates.Certificate.{Certificate}
use Rattle.letters.specs.declared.certificates.Order.{Order}
use Rattle.letters.specs.declared.certificates.Vote.{Vote}
use Rattle.letters.specs.Bytes.{map_of}
use Rattle.letters.specs.Certificates.{fnv_step, some_enrolled, all_ready, result_under, result_of, certificate_bytes, certificate_digest, vote_seals}
use Rattle.letters.specs.Ranges.{is_word, number_fits, rows_fit, votes_within, cancel_unvoted, certificate_fits, grounds_fit}
use Rattle.letters.specs.Sorts.{stands}
use Rattle.letters.specs.Statements.{outcome_number}
use Rattle.ballots.specs.declared.Pair.{Pair}
use Rattle.ballots.specs.Kinds.{same_outcome}
use Rattle.controllers.specs.declared.controller.Controller.{Controller}
use Rattle.controllers.specs.declared.controller.MoveRecord.{MoveRecord}
use Rattle.controllers.specs.declared.controller.Proposal.{Proposal}
use Rattle.controllers.specs.declared.controller.Round.{Round}
use Rattle.controllers.specs.Rules.{ordered_number, or_else, pair_of, with_proposal, assented, confirmed, empty_round, basis_from}
use Rattle.roundtrip.proofs.Certificates.{fits_parts, parts_fit}
use Rattle.roundtrip.proofs.Bases.{grounded, ground_fits}
use Rattle.steps.specs.Ranges.{order_fits, PapersFit, ProposalFits, RoundFits, OwnBasisFits, RecordFits, RecordsFit}
use Rattle.steps.proofs.Replies.{none_some}
use Rattle.steps.proofs.Rows.{ones_none, map_set, ones_set, same_set, stands_at, none_filled, seals_set, votes_set, within_registered, within_voted, row_cases, blank_row, blank_map}

-- ---- certificates

-- a digest is a word
fnv_below : (h : ℕ) (bs : List ℕ) → h < 2 ^ 64 → fold fnv_step h bs < 2 ^ 64
fnv_below h [] p = p
fnv_below h (b ∷ bs) p = fnv_below (fnv_step h b) bs (mod_below _ (2 ^ 64) (pow_pos 64))

pub digest_word_lem : (c : Certificate) → is_word (certificate_digest c).0 ≡ true
digest_word_lem c = lt-ltb _ _ (fnv_below 14695981039346656037 (certificate_bytes c) (omega arith))

-- a certificate's result is its order's number, or keep
pub result_number : (sizes : Sizes) (c : Certificate) → certificate_fits sizes c ≡ true → number_fits (outcome_number (result_of c)) ≡ true
result_number sizes c f = under c.order.number (fits_parts sizes c f).number
  where
    ready : (b : Bool) (n : KeyNumber) → number_fits (Some n) ≡ true → number_fits (outcome_number (cond b (Number n) Keep)) ≡ true
    ready true n e = e
    ready false n e = refl

    under : (n : Option KeyNumber) → number_fits n ≡ true → number_fits (outcome_number (result_under c n)) ≡ true
    under None e = refl
    under (Some n) e = ready (some_enrolled c.enrolled (length c.enrolled) && all_ready c.enrolled c.votes (length c.enrolled)) n e

pub order_of : (sizes : Sizes) (c : Certificate) → certificate_fits sizes c ≡ true → order_fits (Some c.order) ≡ true
order_of sizes c f = let g = fits_parts sizes c f in and_from _ _ g.number g.word

pub outcome_number_lem : (sizes : Sizes) (c : Certificate) (x : Outcome) → certificate_fits sizes c ≡ true → x ≡ result_of c → number_fits (outcome_number x) ≡ true
outcome_number_lem sizes c x f e = rw e (result_number sizes c f)

pub outcome_same : (x : Outcome) → same_outcome x x ≡ true
outcome_same Keep = refl
outcome_same (Number n) = eq-eqb _ _ refl

-- ---- registered places, order and votes

-- nobody has voted where no number was ordered
unvoted_still : (vs : List (Option Vote)) (n : Option KeyNumber) → cancel_unvoted None vs ≡ true → cancel_unvoted n vs ≡ true
unvoted_still vs None e = e
unvoted_still vs (Some n) e = refl

pub new_papers : (sizes : Sizes) → PapersFit sizes (replicate 8 None) None (replicate 8 None)
unfolding votes_within vote_seals rows_fit
new_papers sizes = record {
  registered_rows = refl;
  registered_places = omega (arith, blank_map Seal 8, pow_pos sizes.locks);
  registered_seals = refl;
  ordered = refl;
  vote_rows = refl;
  within = refl;
  unvoted = eq-eqb _ _ (blank_map Vote 8);
  vote_seals_holds = refl;
}

module _ {sizes : Sizes} {registered : List (Option Seal)} {order : Option Order} {votes : List (Option Vote)} (g : PapersFit sizes registered order votes) where
  -- a place is registered
  pub registers : (p : ℕ) (z : Seal) → p < sizes.locks → is_word z.0 ≡ true → PapersFit sizes (set registered p (Some z)) order votes
  registers p z l w = assumption (length-set registered p (Some z) ∙ g.registered_rows, map_set registered p sizes.locks z g.registered_places l, seals_set registered p z g.registered_seals w, within_registered registered votes p z g.within)

  -- a registered place votes under an order with a number
  pub votes_on : (p : ℕ) (v : Vote) (m : KeyNumber) → ordered_number order ≡ Some m → is_some (get_or registered p None) ≡ true → is_word v.seal.0 ≡ true → PapersFit sizes registered order (set votes p (Some v))
  votes_on p v m e r w =
      let unvoted : cancel_unvoted (ordered_number order) (set votes p (Some v)) ≡ true = ap (λ n. cancel_unvoted n (set votes p (Some v))) e in
      assumption (length-set votes p (Some v) ∙ g.vote_rows, within_voted registered votes p v r g.within, unvoted, ap rows_fit (votes_set votes p v) ∙ seals_set (vote_seals votes) p v.seal g.vote_seals_holds w)

  -- an order is held, if none was
  pub orders_first : (o : Order) → order_fits (Some o) ≡ true → PapersFit sizes registered (or_else order o) votes
  orders_first o f = assumption (fits order g.ordered, still order g.unvoted)
    where
      fits : (h : Option Order) → order_fits h ≡ true → order_fits (or_else h o) ≡ true
      fits None e = f
      fits (Some h) e = e

      still : (h : Option Order) → cancel_unvoted (ordered_number h) votes ≡ true → cancel_unvoted (ordered_number (or_else h o)) votes ≡ true
      still None e = unvoted_still votes o.number e
      still (Some h) e = e

  -- the own certificate is within range
  pub own_fits : (o : Order) → order ≡ Some o → certificate_fits sizes (record { order = o; enrolled = registered; votes = votes }) ≡ true
  own_fits o e =
      let f : order_fits (Some o) ≡ true = ap order_fits (sym e) ∙ g.ordered in
      let p = and_parts (number_fits o.number) (is_word o.seal.0) f in
      parts_fit sizes _ (record {
        places = g.registered_rows;
        voters = g.vote_rows;
        low = g.registered_places;
        inside = g.within;
        unvoted = ap (λ h. cancel_unvoted (ordered_number h) votes) (sym e) ∙ g.unvoted;
        number = p.0;
        word = p.1;
        enrolments = g.registered_seals;
        ballots = g.vote_seals_holds;
      })

-- ---- what belongs to a view

pub new_round : (sizes : Sizes) (t : Change) (v : View) → RoundFits sizes t v empty_round
unfolding rows_fit
new_round sizes t v = record {
  proposal = λ p e. absurd (none_some refl e);
  assents = record {
    rows = refl;
    seats = omega (arith, blank_map Seal 16, pow_pos (seat_count sizes));
    few = omega (arith, ap ones (blank_map Seal 16), ones_none);
    leaderless = stands_at {A = Seal} (replicate 16 None) (leader_of sizes t v).0 ∙ ap is_some (blank_row {A = Seal} 16 (leader_of sizes t v).0);
    words = refl;
  };
  assent_rows = refl;
  same_seats = blank_map Pair 16 ∙ sym (blank_map Seal 16);
  agreeing = λ p e k x f. absurd (none_some refl e);
  none = λ _. blank_map Seal 16;
  confirm_rows = refl;
}

module _ {sizes : Sizes} {t : Change} {v : View} {r : Round} (g : RoundFits sizes t v r) where
  -- a proposal is held where none was
  pub holds_one : (p : Proposal) → r.proposal ≡ None → ProposalFits sizes p → RoundFits sizes t v (with_proposal r p)
  holds_one p e f = record {
    proposal = λ q i. subst (ProposalFits sizes) (same_Some _ _ i) f;
    assents = g.assents;
    assent_rows = g.assent_rows;
    same_seats = g.same_seats;
    agreeing = λ q i k x j. absurd (none_some (none_filled r.assents k (g.same_seats ∙ g.none e)) j);
    none = λ i. absurd (none_some i refl);
    confirm_rows = g.confirm_rows;
  }

  -- an assent to the held proposal is recorded
  pub assents_one : (s : Seat) (x : Pair) (z : Seal) (p : Proposal) → r.proposal ≡ Some p → x ≡ pair_of p → s.0 < seat_count sizes → (s.0 ≡ (leader_of sizes t v).0 → ⊥) → is_some (get_or r.assents s.0 None) ≡ false → ones (map_of is_some r.assents) < 2 * sizes.faults → is_word z.0 ≡ true → RoundFits sizes t v (assented r s x z)
  assents_one s x z p e q l other free room w = record {
    proposal = g.proposal;
    assents = record {
      rows = length-set r.seals s.0 (Some z) ∙ g.assents.rows;
      seats = map_set r.seals s.0 (seat_count sizes) z g.assents.seats l;
      few = let n : ones (map_of is_some r.assents) ≡ ones (map_of is_some r.seals) = ap ones g.same_seats in omega (arith, ones_set r.seals s.0 z long free', room, n);
      leaderless = stands_at (set r.seals s.0 (Some z)) (leader_of sizes t v).0 ∙ ap is_some (get_or-set_other r.seals s.0 (leader_of sizes t v).0 (Some z) None (λ i. other (sym i))) ∙ sym (stands_at r.seals (leader_of sizes t v).0) ∙ g.assents.leaderless;
      words = seals_set r.seals s.0 z g.assents.words w;
    };
    assent_rows = length-set r.assents s.0 (Some x) ∙ g.assent_rows;
    same_seats = same_set r.assents r.seals s.0 x z (g.assent_rows ∙ sym g.assents.rows) g.same_seats;
    agreeing = λ o i k y j. elim (row_cases r.assents s.0 k x y j) [ inl c ↦ sym c.1 ∙ q ∙ ap pair_of (same_Some _ _ (sym e ∙ i)) | inr c ↦ g.agreeing o i k y c ];
    none = λ i. absurd (none_some i e);
    confirm_rows = g.confirm_rows;
  }
    where
      long : s.0 < length r.seals
      long = omega (arith, g.assents.rows, l)

      free' : is_some (get_or r.seals s.0 None) ≡ false
      free' = sym (stands_at r.seals s.0) ∙ ap (λ m. stands m s.0) (sym g.same_seats) ∙ stands_at r.assents s.0 ∙ free

  -- a confirm is recorded
  pub confirms_one : (s : Seat) (x : Pair) → RoundFits sizes t v (confirmed r s x)
  confirms_one s x = assumption (length-set r.confirms s.0 (Some x) ∙ g.confirm_rows)

-- ---- bases

pub new_basis : (sizes : Sizes) (t : Change) (v : View) → OwnBasisFits sizes t v None
new_basis sizes t v = record { grounds = refl; true_result = refl }

-- 2f assents make a basis
pub makes_basis : (sizes : Sizes) (t : Change) (u : Controller) (p : Proposal) → RoundFits sizes t u.view u.round → u.round.proposal ≡ Some p → ones (map_of is_some u.round.seals) ≡ 2 * sizes.faults → OwnBasisFits sizes t u.view (Some (basis_from u p))
makes_basis sizes t u p g e full =
    let f = g.proposal p e in
    record {
      grounds = ground_fits sizes t (view_of (u.view.0 + 1)) (basis_from u p) (record {
        below = lt-ltb _ _ (omega arith);
        long = g.assents.rows;
        low = g.assents.seats;
        many = full;
        others = not_from_false _ g.assents.leaderless;
        outcome_fit = outcome_number_lem sizes p.certificate p.outcome f.certificate f.outcome;
        word = f.seal;
        fit = g.assents.words;
        certificate_fit = fits_parts sizes p.certificate f.certificate;
      });
      true_result = not_from_true _ (subst (λ x. same_outcome (result_of p.certificate) x ≡ true) (sym f.outcome) (outcome_same (result_of p.certificate)));
    }

-- a basis that is below a view is below a later one
pub grounds_later : (sizes : Sizes) (t : Change) (v w : View) (b : Option Basis) → grounds_fit sizes t v b ≡ true → v.0 ≤ w.0 → grounds_fit sizes t w b ≡ true
grounds_later sizes t v w None f l = refl
grounds_later sizes t v w (Some b) f l =
    let g = grounded sizes t v b f in
    let below : ltb b.view.0 w.0 ≡ true = lt-ltb _ _ (omega (arith, ltb-true _ _ g.below)) in
    ground_fits sizes t w b assumption

pub basis_later : (sizes : Sizes) (t : Change) (v w : View) (b : Option Basis) → OwnBasisFits sizes t v b → v.0 ≤ w.0 → OwnBasisFits sizes t w b
basis_later sizes t v w b g l = record { grounds = grounds_later sizes t (view_of (v.0 + 1)) (view_of (w.0 + 1)) b g.grounds (omega arith); true_result = g.true_result }

-- ---- records of moves

pub new_records : (sizes : Sizes) (t : Change) → RecordsFit sizes t (replicate 16 None)
new_records sizes t = record {
  rows = refl;
  seats = λ k r e. absurd (none_some (blank_row 16 k) e);
  each = λ k r e. absurd (none_some (blank_row 16 k) e);
}

pub records_one : (sizes : Sizes) (t : Change) (rs : List (Option MoveRecord)) (s : ℕ) (r : MoveRecord) → RecordsFit sizes t rs → s < seat_count sizes → RecordFits sizes t r → RecordsFit sizes t (set rs s (Some r))
records_one sizes t rs s r g l f = record {
  rows = length-set rs s (Some r) ∙ g.rows;
  seats = λ k q e. elim (row_cases rs s k r q e) [ inl c ↦ omega (arith, c.0, l) | inr c ↦ g.seats k q c ];
  each = λ k q e. elim (row_cases rs s k r q e) [ inl c ↦ subst (RecordFits sizes t) c.1 f | inr c ↦ g.each k q c ];
}
