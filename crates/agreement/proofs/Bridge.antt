-- From bytes to words: what the letters of a call give out, and what letters handed in vouch for.
use Rattle.std.proofs.Common.{◌≡◌, ℕ, zero, suc, ◌+◌, ◌%◌, ◌<◌, Bool, true, false, cond, not, eqb, ltb, leb, ◌⊎◌, List, [], ◌∷◌, ◌++◌, map, get_or, Some, None, Ok, Err, Option, Result as Res, sym, refl, ap, ◌∙◌, subst, inl, inr, mod-lt, arith}
use Rattle.std.proofs.lemmas.Bool.{cases_Bool, and_parts, leb-true, ltb-true, not-false}
use Rattle.terms.specs.declared.numbers.Change.{Change}
use Rattle.terms.specs.declared.numbers.KeyNumber.{KeyNumber}
use Rattle.terms.specs.declared.numbers.Place.{Place}
use Rattle.terms.specs.declared.numbers.Seat.{Seat}
use Rattle.terms.specs.declared.numbers.View.{View}
use Rattle.terms.specs.declared.parties.Outcome.{Outcome}
use Rattle.terms.specs.declared.parties.Party.TheVariants as P
use Rattle.terms.specs.declared.refusals.Refusal.{Refusal}
use Rattle.terms.specs.declared.sizes.Sizes.{Sizes}
use Rattle.terms.specs.Numbers.{is_change, seat, place, seat_of, place_of}
use Rattle.terms.specs.Parties.{party_number, leader_of}
use Rattle.terms.specs.Sizes.{seat_count}
use Rattle.letters.specs.declared.sorts.Seal.{Seal}
use Rattle.letters.specs.declared.certificates.Basis.{Basis}
use Rattle.letters.specs.declared.certificates.Certificate.{Certificate}
use Rattle.letters.specs.declared.certificates.Vote.{Vote}
use Rattle.letters.specs.declared.bodies.Body.{Body}
use Rattle.letters.specs.declared.bodies.Body.TheVariants as B
use Rattle.letters.specs.declared.bodies.Letter.{Letter}
use Rattle.letters.specs.declared.statements.Borne.{Borne}
use Rattle.letters.specs.declared.statements.Statement.{Statement}
use Rattle.letters.specs.Bodies.{in_brief, letter}
use Rattle.letters.specs.Certificates.{certificate_digest}
use Rattle.letters.specs.Inner.{bears, consed, rows_borne, enrol_borne, enrol_row, vote_borne, vote_row, certificate_borne, assent_borne, assent_row, basis_borne, inner_borne}
use Rattle.letters.specs.Ranges.{is_byte, leads, seat_fits, number_fits, body_fits, certificate_fits, basis_fits}
use Rattle.letters.specs.Sorts.{seat_set}
use Rattle.letters.specs.Statements.{statement_of, statement_bytes, order_statement, outcome_number}
use Rattle.reading.specs.Bind.{◌>>=◌}
use Rattle.reading.specs.Form.{read}
use Rattle.reading.specs.Parts.{Span, Spans}
use Rattle.kept.specs.Kept.{kept, kept_body}
use Rattle.roundtrip.specs.Laws.{kept_result}
use Rattle.roundtrip.proofs.Tells as T
use Rattle.roundtrip.proofs.Tells.{Small, small, digest_below, number_below, same_statements}
use Rattle.letters.specs.Senders.{sender_of}
use Rattle.seals.specs.Opening.{Relation, accepted, opening, accept_all, accept_sender, accept_letter, sender_borne}
use Rattle.posting.specs.declared.few.AtMostTwo.TheVariants.{Nothing, One, Two}
use Rattle.posting.specs.declared.few.Seals.{Seals}
use Rattle.posting.specs.Posting.{letters_of, lengths_of}
use Rattle.posting.specs.Replies.{Bodies}
use Rattle.steps.specs.Outputs.{letters_in}
use Rattle.agreement.specs.Seats.{Seats, faulty}
use Rattle.agreement.specs.Calls.{Vault}
use Rattle.agreement.specs.Runs.{Given, given_of, given_in, given_by, Among, here as first, there as later, HasGiven, of_another_change, gave, borne_by, Unforged}
use Rattle.agreement.proofs.Words.{Saying, says, Said, here, there, words_of, words_told, spoken, uttered, log_of}
use Rattle.agreement.proofs.Turns.{Vouched}
use Rattle.std.proofs.lemmas.Option.{same_Some}
use Rattle.steps.proofs.Replies.{none_some}
use Rattle.roundtrip.proofs.Bases.{grounded}
use Rattle.roundtrip.proofs.Certificates.{parts_fit}

-- ---- what the letters of a call give out

-- what a letter of a change gives out
abbrev pub given_for : Change → Body Certificate Basis → Given
given_for t b = record { party = sender_of b; statement = statement_of t (in_brief b) }

abbrev pub givens : Change → Bodies → List Given
givens t Nothing = []
givens t (One b) = given_for t b ∷ []
givens t (Two b c) = given_for t c ∷ given_for t b ∷ []

pub log_spoken : (t : Change) (bs : Bodies) (gs : List Given) → log_of (givens t bs ++ gs) ≡ spoken bs ++ log_of gs
log_spoken t Nothing gs = refl
log_spoken t (One b) gs = rw (words_told t b) refl
log_spoken t (Two b c) gs = rw (words_told t b, words_told t c) refl

pub same_sender : (b : Body Span Spans) → sender_of (kept_body b) ≡ sender_of b
same_sender (B.Enrol p) = refl
same_sender b = refl

given_back : (t : Change) (b : Body Certificate Basis) (z : Seal) (r : Res (Letter Span Spans) Refusal) → kept_result r ≡ Ok (letter t b z) → given_in r ≡ given_for t b ∷ []
given_back t b z (Err e) q = cc
given_back t b z (Ok l) q =
    let e : kept l ≡ letter t b z = cc in
    let change_same : l.change ≡ t = ap {A = Letter Certificate Basis} (λ x. x.change) e in
    let body_same : kept_body l.body ≡ b = ap {A = Letter Certificate Basis} (λ x. x.body) e in
    let g : ◌≡◌ {A = Given} (given_of l) (given_for t b) = λ i. record { party = (sym (same_sender l.body) ∙ ap (λ (x : Body Certificate Basis). sender_of x) body_same) i; statement = statement_of (change_same i) (in_brief (body_same i)) } in
    ap (λ (x : Given). x ∷ []) g

head_same : {A : Type 0} {x y : A} {xs ys : List A} → x ∷ xs ≡ y ∷ ys → x ≡ y
head_same e = cc

tail_same : {A : Type 0} {x y : A} {xs ys : List A} → x ∷ xs ≡ y ∷ ys → xs ≡ ys
tail_same e = cc

-- letters that are read back are given out
pub given_by_lem : (sizes : Sizes) (t : Change) (bs : Bodies) (zs : Seals) (out : List ℕ) → letters_in sizes (lengths_of t bs zs) out ≡ map Ok (letters_of t bs zs) → given_by sizes (Ok (lengths_of t bs zs)) out ≡ givens t bs
given_by_lem sizes t Nothing zs out e = refl
given_by_lem sizes t (One b) zs out e = given_back t b zs.first _ (head_same e)
given_by_lem sizes t (Two b c) zs out e =
    let f = given_back t b zs.first _ (head_same e) in
    let g = given_back t c zs.second _ (head_same (tail_same e)) in
    rw (g, f) refl

-- ---- seals that are accepted

from_consed : {A : Type 0} {b : A} (o : Option A) (bs : List A) → Among b (consed o bs) → (o ≡ Some b) ⊎ Among b bs
from_consed None bs m = inr m
from_consed (Some c) bs (first e) = inl (ap Some (sym e))
from_consed (Some c) bs (later m) = inr m

pub from_append : {A : Type 0} {b : A} (xs ys : List A) → Among b (xs ++ ys) → Among b xs ⊎ Among b ys
from_append [] ys m = inr m
from_append (x ∷ xs) ys (first e) = inl (first e)
from_append (x ∷ xs) ys (later m) = elim (from_append xs ys m) [ inl k ↦ inl (later k) | inr k ↦ inr k ]

from_rows : {b : Borne} (row : ℕ → Option Borne) (k n : ℕ) → Among b (rows_borne row k n) → (j : ℕ) × (row j ≡ Some b)
unfolding rows_borne
from_rows row k zero m = elim m [ ]
from_rows row k (suc n) m = elim (from_consed (row k) (rows_borne row (k + 1) n) m) [ inl e ↦ (k, e) | inr i ↦ from_rows row (k + 1) n i ]

passes : {A B : Type 0} (b : Bool) (x : A) (e : Refusal) (f : A → Res B Refusal) (m : B) → (cond b (Ok x) (Err e) >>= f) ≡ Ok m → (b ≡ true) × (f x ≡ Ok m)
passes true x e f m q = (refl, q)
passes false x e f m q = cc

accepted_in : (holds : Relation) (bs : List Borne) (n m : ℕ) → accept_all holds bs n ≡ Ok m → (b : Borne) → Among b bs → accepted holds b ≡ true
unfolding accept_all
accepted_in holds [] n m e b i = elim i [ ]
accepted_in holds (c ∷ bs) n m e b (first q) = rw q (passes (accepted holds c) (n + 1) _ (accept_all holds bs) m e).0
accepted_in holds (c ∷ bs) n m e b (later i) = accepted_in holds bs (n + 1) m (passes (accepted holds c) (n + 1) _ (accept_all holds bs) m e).1 b i

then_ok : {A B : Type 0} (r : Res A Refusal) (f : A → Res B Refusal) (m : B) → (r >>= f) ≡ Ok m → (x : A) × (r ≡ Ok x) × (f x ≡ Ok m)
then_ok (Ok x) f m q = (x, refl, q)
then_ok (Err e) f m q = cc

-- a letter that opens has the form, and each seal that it bears is accepted
pub record Opened (sizes : Sizes) (holds : Relation) (bytes : List ℕ) (l : Letter Span Spans) : Type 0 where
  pub has_form : read sizes bytes ≡ Ok l
  pub all_accepted : (b : Borne) → Among b (borne_by sizes (Ok l)) → accepted holds b ≡ true

pub opened : (sizes : Sizes) (holds : Relation) (bytes : List ℕ) (l : Letter Span Spans) → opening sizes holds bytes ≡ Ok l → Opened sizes holds bytes l
opened sizes holds bytes l e =
    let p = then_ok (read sizes bytes) _ l e in
    let q = then_ok (accept_letter sizes holds p.0.change (kept_body p.0.body) p.0.seal) _ l p.2 in
    let r = q.2 in let same : p.0 ≡ l = cc in
    let a = then_ok (accept_sender holds (sender_borne p.0.change (kept_body p.0.body) p.0.seal)) _ q.0 q.1 in
    let sealed = passes (accepted holds (sender_borne p.0.change (kept_body p.0.body) p.0.seal)) tt _ (λ _. accept_all holds (inner_borne sizes p.0.change (kept_body p.0.body)) 0) q.0 q.1 in
    go p.0 p.1 same sealed.0 q.0 sealed.1
  where
    go : (k : Letter Span Spans) → read sizes bytes ≡ Ok k → k ≡ l → accepted holds (sender_borne k.change (kept_body k.body) k.seal) ≡ true → (m : ℕ) → accept_all holds (inner_borne sizes k.change (kept_body k.body)) 0 ≡ Ok m → Opened sizes holds bytes l
    go k form same own m inner = subst (Opened sizes holds bytes) same (record { has_form = form; all_accepted = λ b i. seals b i })
      where
        seals : (b : Borne) → Among b (borne_by sizes (Ok k)) → accepted holds b ≡ true
        seals b (first e) = rw e own
        seals b (later i) = accepted_in holds _ 0 m inner b i

-- ---- statements that can be told from their bytes

pub record Proper (t : Change) (b : Borne) : Type 0 where
  pub change : b.statement.change ≡ t
  pub said : T.Said b.statement
  pub small : Small b.statement

place_below : (j : ℕ) (p : Place) → place_of j ≡ Some p → p.0 < 8
place_below j p e = elim (cases_Bool (ltb j 8)) [
  | inl q ↦ (let f : place j ≡ p = same_Some _ _ (rw q at e) in let g = ap {A = Place} (λ x. x.0) f in omega (arith, ltb-true _ _ q))
  | inr q ↦ absurd (none_some refl (rw q at e))
]

seat_below : (j : ℕ) (s : Seat) → seat_of j ≡ Some s → s.0 < 16
seat_below j s e = elim (cases_Bool (ltb j 16)) [
  | inl q ↦ (let f : seat j ≡ s = same_Some _ _ (rw q at e) in let g = ap {A = Seat} (λ x. x.0) f in omega (arith, ltb-true _ _ q))
  | inr q ↦ absurd (none_some refl (rw q at e))
]

enrol_proper : (t : Change) → t.0 < 256 → (o : Option Place) → ((p : Place) → o ≡ Some p → p.0 < 8) → (z : Option Seal) (b : Borne) → enrol_borne t o z ≡ Some b → Proper t b
enrol_proper t h (Some p) below (Some z) b e = subst (Proper t) (same_Some _ _ e) (record { change = refl; said = T.in-letter t (B.Enrol p); small = record { change = h; sender = omega (arith, below p refl); number = omega arith; digest = omega arith } })
enrol_proper t h o below z b e = absurd (none_some refl e)

vote_proper : (t : Change) → t.0 < 256 → (n : Option KeyNumber) → number_fits n ≡ true → (o : Option Place) → ((p : Place) → o ≡ Some p → p.0 < 8) → (v : Option Vote) (b : Borne) → vote_borne t n o v ≡ Some b → Proper t b
vote_proper t h n fit (Some p) below (Some v) b e = subst (Proper t) (same_Some _ _ e) (record { change = refl; said = T.in-vote t p n v.answer; small = record { change = h; sender = omega (arith, below p refl); number = number_below n fit; digest = omega arith } })
vote_proper t h n fit o below v b e = absurd (none_some refl e)

assent_proper : (t : Change) → t.0 < 256 → (u : View) (x : Outcome) (c : Certificate) → number_fits (outcome_number x) ≡ true → (o : Option Seat) → ((s : Seat) → o ≡ Some s → s.0 < 16) → (z : Option Seal) (b : Borne) → assent_borne t u x (certificate_digest c) o z ≡ Some b → Proper t b
assent_proper t h u x c fit (Some s) below (Some z) b e = subst (Proper t) (same_Some _ _ e) (record { change = refl; said = T.in-letter t (B.Assent s u x (certificate_digest c)); small = record { change = h; sender = omega (arith, below s refl); number = number_below (outcome_number x) fit; digest = digest_below c } })
assent_proper t h u x c fit o below z b e = absurd (none_some refl e)

order_proper : (sizes : Sizes) (t : Change) → t.0 < 256 → (n : Option KeyNumber) (z : Seal) → number_fits n ≡ true → Proper t (bears P.Office (order_statement t n) z)
order_proper sizes t h n z fit = record { change = refl; said = T.in-letter t (B.Order n); small = small sizes t (B.Order n) h fit }

order_number : (sizes : Sizes) (c : Certificate) → certificate_fits sizes c ≡ true → number_fits c.order.number ≡ true
order_number sizes c fit = grind arith

certificate_proper : (sizes : Sizes) (t : Change) → t.0 < 256 → (c : Certificate) → certificate_fits sizes c ≡ true → (b : Borne) → Among b (certificate_borne t c) → Proper t b
certificate_proper sizes t h c fit b (first e) = subst (Proper t) (sym e) (order_proper sizes t h c.order.number c.order.seal (order_number sizes c fit))
certificate_proper sizes t h c fit b (later m) = elim (from_append (rows_borne (enrol_row t c.enrolled) 0 8) _ m) [
  | inl i ↦ (let r = from_rows (enrol_row t c.enrolled) 0 8 i in enrol_proper t h (place_of r.0) (place_below r.0) (get_or c.enrolled r.0 None) b r.1)
  | inr i ↦ (let r = from_rows (vote_row t c.order.number c.votes) 0 8 i in vote_proper t h c.order.number (order_number sizes c fit) (place_of r.0) (place_below r.0) (get_or c.votes r.0 None) b r.1)
]

basis_proper : (sizes : Sizes) (t : Change) → t.0 < 256 → (b : Basis) → number_fits (outcome_number b.outcome) ≡ true → (x : Borne) → Among x (basis_borne sizes t b) → Proper t x
basis_proper sizes t h b g x (first e) = let low : b.view.0 % seat_count sizes < seat_count sizes = mod-lt b.view.0 (omega arith) in subst (Proper t) (sym e) (record {
  change = refl;
  said = T.in-letter t (B.Proposal (leader_of sizes t b.view) b.view b.outcome (certificate_digest b.certificate) (seat_set 0));
  small = record { change = h; sender = omega (arith, low, sizes.faults_range); number = number_below (outcome_number b.outcome) g; digest = digest_below b.certificate };
})
basis_proper sizes t h b g x (later m) =
    let r = from_rows (assent_row t b.view b.outcome (certificate_digest b.certificate) b.assents) 0 16 m in
    assent_proper t h b.view b.outcome b.certificate g (seat_of r.0) (seat_below r.0) (get_or b.assents r.0 None) x r.1

inner_proper : (sizes : Sizes) (t : Change) → t.0 < 256 → (b : Body Certificate Basis) → body_fits sizes t b ≡ true → (x : Borne) → Among x (inner_borne sizes t b) → Proper t x
inner_proper sizes t h (B.Summons s n z) fit x (first e) = subst (Proper t) (sym e) (order_proper sizes t h (Some n) z (let q : number_fits (Some n) ≡ true = grind arith in q))
inner_proper sizes t h (B.Summons s n z) fit x (later m) = elim m [ ]
inner_proper sizes t h (B.Proposal s v o c ms) fit x m =
    let p = and_parts (number_fits (outcome_number o)) _ (and_parts (leads sizes t v s) _ (and_parts (is_byte v.0) _ fit).1).1 in
    certificate_proper sizes t h c (and_parts (certificate_fits sizes c) _ p.1).0 x m
inner_proper sizes t h (B.Move s v (Some b)) fit x m =
    let f : basis_fits sizes t v b ≡ true = (and_parts (not (eqb v.0 0)) _ (and_parts (is_byte v.0) _ (and_parts (seat_fits sizes s) _ fit).1).1).1 in
    let g = grounded sizes t v b f in
    elim (from_append (basis_borne sizes t b) (certificate_borne t b.certificate) m) [
      | inl i ↦ basis_proper sizes t h b g.outcome_fit x i
      | inr i ↦ certificate_proper sizes t h b.certificate (parts_fit sizes b.certificate g.certificate_fit) x i
    ]
inner_proper sizes t h b fit x m = elim m [ ]

change_told : (t : Change) (b : Body Certificate Basis) → (statement_of t (in_brief b)).change ≡ t
change_told t (B.Move s v None) = refl
change_told t b = refl

sealed_proper : (sizes : Sizes) (t : Change) → t.0 < 256 → (b : Body Certificate Basis) (z : Seal) → body_fits sizes t b ≡ true → (x : Borne) → Among x (sender_borne t b z ∷ inner_borne sizes t b) → Proper t x
sealed_proper sizes t h b z fit x (first e) = subst (Proper t) (sym e) (record { change = change_told t b; said = T.in-letter t (in_brief b); small = small sizes t b h fit })
sealed_proper sizes t h b z fit x (later m) = inner_proper sizes t h b fit x m

-- ---- what letters vouch for

-- what was given out came from a letter within range
pub record Uttered (R : Vault) (g : Given) : Type 0 where
  pub body : Body Certificate Basis
  pub is : g ≡ given_for R.change body
  pub fits : body_fits R.sizes R.change body ≡ true

pub among_said : (g : Given) (gs : List Given) → Among g gs → Said (uttered g) (log_of gs)
among_said g (x ∷ gs) (first e) = here (ap {A = Given} uttered e)
among_said g (x ∷ gs) (later m) = there (among_said g gs m)
among_said g [] m = elim m [ ]

pub change_below : (t : Change) → is_change t.0 ≡ true → t.0 < 256
change_below t e = omega (arith, leb-true _ _ (and_parts (leb 1 t.0) (leb t.0 255) e).1)

pub statement_told : (R : Vault) (g : Given) → is_change R.change.0 ≡ true → Uttered R g → (st : Statement) → T.Said st → Small st → statement_bytes g.statement ≡ statement_bytes st → g.statement ≡ st
statement_told R g num u st said sm e =
    let same : g.statement ≡ statement_of R.change (in_brief u.body) = ap {A = Given} (λ x. x.statement) u.is in
    same_statements (subst T.Said (sym same) (T.in-letter R.change (in_brief u.body))) said (subst Small (sym same) (small R.sizes R.change u.body (change_below R.change num) u.fits)) sm e

module _ (R : Vault) (honest : Seats) (gs : List Given) (num : is_change R.change.0 ≡ true) (told : (g : Given) → Among g gs → Uttered R g) where
  pub said_given : (x : Borne) → Proper R.change x → HasGiven R gs x.party x.statement → Said (says (party_number x.party) (words_of x.statement)) (log_of gs)
  said_given x proper (of_another_change ne) = absurd (ne (ap {A = Change} (λ c. c.0) proper.change))
  said_given x proper (gave g among party bytes) =
      let st = statement_told R g num (told g among) x.statement proper.said proper.small bytes in
      let e : ◌≡◌ {A = Saying} (uttered g) (says (party_number x.party) (words_of x.statement)) = λ i. says (party_number (party i)) (words_of (st i)) in
      subst (λ (s : Saying). Said s (log_of gs)) e (among_said g gs among)

  -- a letter of this change that opens vouches for what it bears
  pub vouched : (bytes : List ℕ) (l : Letter Span Spans) → Opened R.sizes R.relation bytes l → l.change ≡ R.change → body_fits R.sizes R.change (kept_body l.body) ≡ true → Unforged R honest gs bytes
      → Vouched (faulty honest) (log_of gs) (sender_borne R.change (kept_body l.body) l.seal ∷ inner_borne R.sizes R.change (kept_body l.body))
  vouched bytes l o same fit fair = λ x i loyal.
      let j : Among x (borne_by R.sizes (Ok l)) = subst (λ (c : Change). Among x (sender_borne c (kept_body l.body) l.seal ∷ inner_borne R.sizes c (kept_body l.body))) (sym same) i in
      let k : Among x (borne_by R.sizes (read R.sizes bytes)) = subst (λ (r : Res (Letter Span Spans) Refusal). Among x (borne_by R.sizes r)) (sym o.has_form) j in
      said_given x (sealed_proper R.sizes R.change (change_below R.change num) (kept_body l.body) l.seal fit x i) (fair x k (not-false _ loyal) (o.all_accepted x j))
