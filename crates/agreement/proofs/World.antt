-- What holds of the whole vault after every sound list of calls.
use Rattle.std.proofs.Common.{◌≡◌, ℕ, ◌+◌, ◌<◌, ◌≤◌, true, false, cond, eqb, List, ◌++◌, length, get_or, set, Option, refl, ap, ◌∙◌, subst, inl, inr, arith, length-set}
use Rattle.std.proofs.lemmas.List.{get_or-set_other, get_or-set_same}
use Rattle.std.proofs.lemmas.Bool.{both_ways, cases_Bool, cases_eq, eq-eqb, ne_eqb}
use Rattle.terms.specs.declared.numbers.KeyNumber.{KeyNumber}
use Rattle.terms.specs.declared.numbers.Place.{Place}
use Rattle.terms.specs.declared.numbers.Seat.{Seat}
use Rattle.terms.specs.declared.parties.Party.TheVariants as P
use Rattle.terms.specs.Numbers.{is_change, seat, place}
use Rattle.boards.specs.Boards.{Meaning, in_force}
use Rattle.posting.specs.declared.few.AtMostTwo.TheVariants.{Nothing, One, Two}
use Rattle.posting.specs.Replies.{served, Bodies}
use Rattle.controllers.specs.declared.controller.Controller.{Controller}
use Rattle.controllers.specs.Letters.{fresh_controller}
use Rattle.locks.specs.declared.lock.Lock.{Lock}
use Rattle.locks.specs.Fresh.{fresh_lock}
use Rattle.locks.specs.Rules as L
use Rattle.locks.specs.Rules.{replied, deed_done, board_after}
use Rattle.office.specs.declared.Office.{Office}
use Rattle.steps.specs.RangeLaws.{SendsInRange}
use Rattle.steps.specs.Ranges.{ControllerFits, LockFits}
use Rattle.agreement.specs.Seats.{Seats, count}
use Rattle.agreement.specs.Calls.{Vault, State, controller_at, lock_at}
use Rattle.agreement.specs.Runs.{Given, Among, here as first, there as later}
use Rattle.agreement.proofs.Meet.{seats, Honest}
use Rattle.agreement.proofs.Words.{Log, spoken, lock_party, log_of}
use Rattle.agreement.proofs.Core.{Rules}
use Rattle.agreement.proofs.Mirror.{faults, Mirror}
use Rattle.agreement.proofs.Steps.{Good}
use Rattle.agreement.proofs.Turns as T
use Rattle.agreement.proofs.Turns.{Keeps}
use Rattle.agreement.proofs.Doors.{Frame}
use Rattle.agreement.proofs.Locks.{LockInv, receipts_of}
use Rattle.agreement.proofs.Senders.{From, rules_spoken, mirror_spoken, lock_spoken}
use Rattle.agreement.proofs.Bridge.{givens, log_spoken, from_append, Uttered}

pub record World (R : Vault) (t : Seats) (from s : State) (gs : List Given) (n : ℕ → ℕ) : Type 0 where
  pub numbered : is_change R.change.0 ≡ true
  pub rules : Rules (faults R) t (log_of gs)
  pub told : (g : Given) → Among g gs → Uttered R g
  pub seats_there : seats (faults R) ≤ length s.controllers
  pub locks_there : R.sizes.locks ≤ length s.locks
  pub seat_fits_holds : (h : ℕ) → h < seats (faults R) → ControllerFits R.sizes R.change (controller_at s h)
  pub lock_fits : (p : ℕ) → p < R.sizes.locks → LockFits R.sizes (lock_at s p)
  pub seated : (h : ℕ) → h < seats (faults R) → (controller_at s h).seat ≡ seat h
  pub placed : (p : ℕ) → p < R.sizes.locks → (lock_at s p).place ≡ place p
  pub mirrors : (h : ℕ) → Honest (faults R) t h → Mirror R t (log_of gs) h (controller_at s h)
  pub locks : (p : ℕ) → p < R.sizes.locks → t (lock_party p) ≡ false → LockInv R t (log_of gs) p (in_force from.board (place p)) (lock_at s p) (in_force s.board (place p)) (n p)

fewer : {R : Vault} {t : Seats} {l : Log} {p : ℕ} {was : Option KeyNumber} {k : Lock} {force : Option KeyNumber} {n m : ℕ} → m ≤ n → LockInv R t l p was k force n → LockInv R t l p was k force m
fewer {R} {k = k} {m = m} h i = let counted : m ≤ count (receipts_of k) (seats (faults R)) = omega (arith, i.counted) in assumption

-- where fewer receipts were served, it holds as well
pub fewer_served : {R : Vault} {t : Seats} {from s : State} {gs : List Given} {n m : ℕ → ℕ} → ((p : ℕ) → m p ≤ n p) → World R t from s gs n → World R t from s gs m
fewer_served {R} {t} {from} {s} {gs} {m = m} h W =
    let locks : (p : ℕ) → p < R.sizes.locks → t (lock_party p) ≡ false → LockInv R t (log_of gs) p (in_force from.board (place p)) (lock_at s p) (in_force s.board (place p)) (m p) = λ p lt o. fewer (h p) (W.locks p lt o) in
    assumption

uttered_givens : (R : Vault) (bs : Bodies) → SendsInRange R.sizes R.change bs → (g : Given) → Among g (givens R.change bs) → Uttered R g
uttered_givens R Nothing fit g m = elim m [ ]
uttered_givens R (One b) fit g (first e) = record { body = b; is = e; fits = fit b refl }
uttered_givens R (One b) fit g (later m) = elim m [ ]
uttered_givens R (Two b c) fit g (first e) = record { body = c; is = e; fits = fit c (inr refl) }
uttered_givens R (Two b c) fit g (later (first e)) = record { body = b; is = e; fits = fit b (inl refl) }
uttered_givens R (Two b c) fit g (later (later m)) = elim m [ ]

abbrev pub with_controllers : State → List Controller → State
with_controllers s cs = record { controllers = cs; locks = s.locks; office = s.office; board = s.board }

abbrev pub with_locks : State → List Lock → Meaning → State
with_locks s ks m = record { controllers = s.controllers; locks = ks; office = s.office; board = m }

abbrev pub with_office : State → Office → State
with_office s o = record { controllers = s.controllers; locks = s.locks; office = o; board = s.board }

pub keeps_good : {R : Vault} {t : Seats} {l : Log} {h : ℕ} {c : Controller} {bs : Bodies} → Keeps R t l h (served c bs) → Good R t (spoken bs ++ l) h c
keeps_good (T.yes g) = g

module _ {R : Vault} {t : Seats} {from s : State} {gs : List Given} {n : ℕ → ℕ} (W : World R t from s gs n) where
  told_more : (bs : Bodies) → SendsInRange R.sizes R.change bs → (g : Given) → Among g (givens R.change bs ++ gs) → Uttered R g
  told_more bs fit g m = elim (from_append (givens R.change bs) gs m) [ inl i ↦ uttered_givens R bs fit g i | inr i ↦ W.told g i ]

  pub controller_served : (h : ℕ) → h < seats (faults R) → (v : Controller) (bs : Bodies) → v.seat ≡ (controller_at s h).seat → ControllerFits R.sizes R.change v → From (P.Controller (controller_at s h).seat) bs → SendsInRange R.sizes R.change bs
      → (Honest (faults R) t h → Good R t (spoken bs ++ log_of gs) h v) → World R t from (with_controllers s (set s.controllers h v)) (givens R.change bs ++ gs) n
  controller_served h lt v bs same fit own sends keeps = record {
    numbered = W.numbered;
    rules = rw (log_spoken R.change bs gs) (elim (cases_Bool (t h)) [
      | inl e ↦ rules_spoken (P.Controller (seat h)) (λ q. both_ways _ q.loyal e) bs mine W.rules
      | inr e ↦ (keeps (record { seat = lt; loyal = e })).rules
    ]);
    told = told_more bs sends;
    seats_there = omega (arith, length-set s.controllers h v, W.seats_there);
    locks_there = W.locks_there;
    seat_fits_holds = λ k lk. elim (cases_eq k h) [
      | inl e ↦ rw (e, there_is) fit
      | inr e ↦ rw (get_or-set_other s.controllers h k v (fresh_controller (seat k)) e) (W.seat_fits_holds k lk)
    ];
    lock_fits = W.lock_fits;
    seated = λ k lk. elim (cases_eq k h) [
      | inl e ↦ rw (e, there_is) (same ∙ W.seated h lt)
      | inr e ↦ rw (get_or-set_other s.controllers h k v (fresh_controller (seat k)) e) (W.seated k lk)
    ];
    placed = W.placed;
    mirrors = λ k q. rw (log_spoken R.change bs gs) (elim (cases_eq k h) [
      | inl e ↦ (let m = (keeps (rw e at q)).mirror in rw (e, there_is) m)
      | inr e ↦ rw (get_or-set_other s.controllers h k v (fresh_controller (seat k)) e) (mirror_spoken (P.Controller (seat h)) k _ e bs mine (W.mirrors k q))
    ]);
    locks = λ p lp o. rw (log_spoken R.change bs gs) (lock_spoken (P.Controller (seat h)) (λ e. omega (arith, R.sizes.faults_range)) bs mine (W.locks p lp o));
  }
    where
      mine : From (P.Controller (seat h)) bs
      mine = subst (λ (x : Seat). From (P.Controller x) bs) (W.seated h lt) own

      there_is : get_or (set s.controllers h v) h (fresh_controller (seat h)) ≡ v
      there_is = get_or-set_same s.controllers h v (fresh_controller (seat h)) (omega (arith, W.seats_there))

  pub lock_served : (p : ℕ) → p < R.sizes.locks → (more : ℕ) (j : Lock) (d : L.Deed) (bs : Bodies) → j.place ≡ (lock_at s p).place → Frame s.board (deed_done s.board (lock_at s p).place d) (lock_at s p).place
      → (t (lock_party (lock_at s p).place.0) ≡ false → LockInv R t (spoken bs ++ log_of gs) (lock_at s p).place.0 (in_force from.board (place p)) j (in_force (deed_done s.board (lock_at s p).place d) (lock_at s p).place) (more + n p))
      → LockFits R.sizes j → From (P.Lock (lock_at s p).place) bs → SendsInRange R.sizes R.change bs
      → World R t from (with_locks s (set s.locks p j) (deed_done s.board (lock_at s p).place d)) (givens R.change bs ++ gs) (λ q. cond (eqb q p) more 0 + n q)
  lock_served p lt more j d bs same frame inv fit own sends = record {
    numbered = W.numbered;
    rules = rw (log_spoken R.change bs gs) (rules_spoken (P.Lock (place p)) (λ q. omega (arith, q.seat, R.sizes.faults_range)) bs mine W.rules);
    told = told_more bs sends;
    seats_there = W.seats_there;
    locks_there = omega (arith, length-set s.locks p j, W.locks_there);
    seat_fits_holds = W.seat_fits_holds;
    lock_fits = λ q lq. elim (cases_eq q p) [
      | inl e ↦ rw (e, there_is) fit
      | inr e ↦ rw (get_or-set_other s.locks p q j (fresh_lock (place q)) e) (W.lock_fits q lq)
    ];
    seated = W.seated;
    placed = λ q lq. elim (cases_eq q p) [
      | inl e ↦ rw (e, there_is) (same ∙ W.placed p lt)
      | inr e ↦ rw (get_or-set_other s.locks p q j (fresh_lock (place q)) e) (W.placed q lq)
    ];
    mirrors = λ h q. rw (log_spoken R.change bs gs) (mirror_spoken (P.Lock (place p)) h _ (λ e. omega (arith, q.seat, R.sizes.faults_range)) bs mine (W.mirrors h q));
    locks = λ q lq o. rw (log_spoken R.change bs gs) (elim (cases_eq q p) [
      | inl e ↦ rw (e, there_is, eq-eqb p p refl) (here_inv (rw e at o))
      | inr e ↦ rw (get_or-set_other s.locks p q j (fresh_lock (place q)) e, ne_eqb q p e, framed q e) (fewer (omega arith) (lock_spoken (P.Lock (place p)) (λ z. e (omega arith)) bs mine (W.locks q lq o)))
    ]);
  }
    where
      mine : From (P.Lock (place p)) bs
      mine = subst (λ (x : Place). From (P.Lock x) bs) (W.placed p lt) own

      there_is : get_or (set s.locks p j) p (fresh_lock (place p)) ≡ j
      there_is = get_or-set_same s.locks p j (fresh_lock (place p)) (omega (arith, W.locks_there))

      after_it : Meaning
      after_it = deed_done s.board (lock_at s p).place d

      here_inv : t (lock_party p) ≡ false → LockInv R t (spoken bs ++ log_of gs) p (in_force from.board (place p)) j (in_force after_it (place p)) (more + n p)
      here_inv = subst (λ (x : Place). t (lock_party x.0) ≡ false → LockInv R t (spoken bs ++ log_of gs) x.0 (in_force from.board (place p)) j (in_force after_it x) (more + n p)) (W.placed p lt) inv

      framed : (q : ℕ) → (q ≡ p → ⊥) → in_force after_it (place q) ≡ in_force s.board (place q)
      framed q ne = frame.other (place q) (λ e. ne (e ∙ ap {A = Place} (λ x. x.0) (W.placed p lt)))

  pub office_served : (o : Office) (bs : Bodies) → From P.Office bs → SendsInRange R.sizes R.change bs → World R t from (with_office s o) (givens R.change bs ++ gs) n
  office_served o bs own sends = record {
    numbered = W.numbered;
    rules = rw (log_spoken R.change bs gs) (rules_spoken P.Office (λ q. omega (arith, q.seat, R.sizes.faults_range)) bs own W.rules);
    told = told_more bs sends;
    seats_there = W.seats_there;
    locks_there = W.locks_there;
    seat_fits_holds = W.seat_fits_holds;
    lock_fits = W.lock_fits;
    seated = W.seated;
    placed = W.placed;
    mirrors = λ h q. rw (log_spoken R.change bs gs) (mirror_spoken P.Office h _ (λ e. omega (arith, q.seat, R.sizes.faults_range)) bs own (W.mirrors h q));
    locks = λ p lp z. rw (log_spoken R.change bs gs) (lock_spoken P.Office (λ e. omega (arith, R.sizes.locks_range)) bs own (W.locks p lp z));
  }
