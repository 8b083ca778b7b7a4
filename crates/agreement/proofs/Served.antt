-- Every call on a vault keeps what holds of it.
use Rattle.std.proofs.Common.{◌≡◌, ℕ, ◌+◌, ◌<◌, ◌≤◌, Bool, true, false, cond, ◌&&◌, eqb, leb, List, ◌++◌, map, length, set, is_ok, Ok, sym, refl, ap, subst, arith}
use Rattle.std.proofs.lemmas.List.{set-get_or}
use Rattle.std.proofs.lemmas.Bool.{cond_both, eq-eqb, and_parts, and_right, leb-true, le-leb}
use Rattle.terms.specs.declared.parties.Party.{Party}
use Rattle.terms.specs.declared.parties.Party.TheVariants as P
use Rattle.terms.specs.declared.refusals.Refusal.{Refusal}
use Rattle.terms.specs.declared.refusals.RuleCause.{RuleCause}
use Rattle.terms.specs.Numbers.{seat, place}
use Rattle.letters.specs.Bytes.{written}
use Rattle.boards.specs.Boards.{Meaning, in_force}
use Rattle.seals.specs.Scratch.{cleared}
use Rattle.posting.specs.declared.few.AtMostTwo.{AtMostTwo}
use Rattle.posting.specs.declared.few.Seals.{Seals}
use Rattle.posting.specs.Calls as U
use Rattle.posting.specs.Calls.{has_room, pointed, called, finished}
use Rattle.posting.specs.Posting.{letters_of, lengths_of, bytes_of, fits, needed}
use Rattle.posting.specs.Replies.{Reply, refused, served, Bodies, after}
use Rattle.controllers.specs.declared.controller.Controller.{Controller}
use Rattle.controllers.specs.Letters.{fresh_controller}
use Rattle.locks.specs.declared.lock.Lock.{Lock}
use Rattle.locks.specs.Fresh.{fresh_lock}
use Rattle.locks.specs.Rules as L
use Rattle.locks.specs.Rules.{replied, deed_done, board_after, lock_after}
use Rattle.office.specs.declared.Office.{Office}
use Rattle.steps.specs.Outputs.{letters_in}
use Rattle.steps.specs.RangeLaws.{SendsInRange}
use Rattle.steps.specs.Ranges.{ControllerFits, LockFits}
use Rattle.steps.specs.Steps.{sent_in}
use Rattle.agreement.specs.Seats.{Seats}
use Rattle.agreement.specs.Calls.{Vault, State, controller_at, lock_at, Call, Went, controller_went, lock_went, office_went}
use Rattle.agreement.specs.Runs.{Given, given_by, given_at, hands_receipt, receipt_at}
use Rattle.agreement.proofs.Meet.{seats, Honest}
use Rattle.agreement.proofs.Words.{log_of}
use Rattle.agreement.proofs.Mirror.{faults}
use Rattle.agreement.proofs.PerRule.{cond_twice}
use Rattle.agreement.proofs.Turns.{Keeps}
use Rattle.agreement.proofs.Locks as F
use Rattle.agreement.proofs.Locks.{LockInv, Fine}
use Rattle.agreement.proofs.Senders.{From, Own, yes, OwnLock, yes_lock}
use Rattle.agreement.proofs.Bridge.{givens, given_by_lem}
use Rattle.agreement.proofs.World.{World, fewer_served, with_controllers, with_locks, keeps_good, controller_served, lock_served, office_served}

own_from : {E V : Type 0} {q : Party} {u : V} {bs : Bodies} → Own q {E = E} {U = V} (served u bs) → From q bs
own_from (yes k) = k

own_lock : {q : Party} {k : Lock} {d : L.Deed} {bs : Bodies} → OwnLock q (L.served k d bs) → From q bs
own_lock (yes_lock k) = k

module _ {R : Vault} {t : Seats} {from s : State} {gs : List Given} {n : ℕ → ℕ} (W : World R t from s gs n) (call : Call) (zs : Seals) where
  abbrev pub After : Went → Type 0
  After w = World R t from w.state (given_at R w ++ gs) (λ p. receipt_at R p call w + n p)

  -- no receipt is served by a call that is refused
  pub none_served : {r : State} → World R t from r gs n → World R t from r gs (λ p. cond (hands_receipt R p call.request && false) 1 0 + n p)
  none_served V = fewer_served (λ p. rw (and_right (hands_receipt R p call.request) false refl) (omega arith)) V

  -- nor by one that hands in none
  quiet_served : {r : State} {hs : List Given} → ((p : ℕ) → hands_receipt R p call.request ≡ false) → World R t from r hs n → World R t from r hs (λ p. cond (hands_receipt R p call.request && true) 1 0 + n p)
  quiet_served quiet V = fewer_served (λ p. rw (quiet p) (omega arith)) V

  -- reading the output of a served call gives the letters that were sent
  abbrev pub ReadsBack : {V : Type 0} → V → Reply Refusal V → Type 0
  ReadsBack u r = (lengths : AtMostTwo ℕ) → (called R.change u call.out call.scratch zs r).answer ≡ Ok lengths
      → letters_in R.sizes lengths (called R.change u call.out call.scratch zs r).out ≡ map Ok (letters_of R.change (sent_in r) zs)

  given_served : {V : Type 0} (u v : V) (bs : Bodies) → has_room call.out call.scratch ≡ true → fits R.change bs call.out ≡ true → ReadsBack u (served v bs)
      → given_by R.sizes (Ok (lengths_of R.change bs zs)) (written (bytes_of R.change bs zs) call.out) ≡ givens R.change bs
  given_served {V} u v bs room fit back =
      let done : U.Went V = U.went (Ok (lengths_of R.change bs zs)) v (written (bytes_of R.change bs zs) call.out) (cleared call.scratch) in
      let e : called R.change u call.out call.scratch zs (served v bs) ≡ done = rw (room, fit) refl in
      given_by_lem R.sizes R.change bs zs _ (subst (λ (w : U.Went V). letters_in R.sizes (lengths_of R.change bs zs) w.out ≡ map Ok (letters_of R.change bs zs)) e (back (lengths_of R.change bs zs) (ap {A = U.Went V} (λ w. w.answer) e)))

  -- ---- a controller

  same_controllers : (h : ℕ) → World R t from (with_controllers s (set s.controllers h (controller_at s h))) gs (λ p. cond (hands_receipt R p call.request && false) 1 0 + n p)
  same_controllers h = none_served (subst (λ (cs : List Controller). World R t from (with_controllers s cs) gs n) (sym (set-get_or s.controllers h (fresh_controller (seat h)))) W)

  pub controller_turn : (h : ℕ) → h < seats (faults R) → ((p : ℕ) → hands_receipt R p call.request ≡ false) → (to : ℕ) (r : Reply RuleCause Controller)
      → Own (P.Controller (controller_at s h).seat) r → (after (controller_at s h) r).seat ≡ (controller_at s h).seat → ControllerFits R.sizes R.change (after (controller_at s h) r) → SendsInRange R.sizes R.change (sent_in r)
      → ReadsBack (controller_at s h) (pointed to r) → (Honest (faults R) t h → Keeps R t (log_of gs) h r)
      → After (controller_went s h (called R.change (controller_at s h) call.out call.scratch zs (pointed to r)))
  controller_turn h lt quiet to (refused e) own seat-same fit sends back keeps =
      cond_both (has_room call.out call.scratch) _ _ (λ (w : U.Went Controller). After (controller_went s h w)) (λ _. same_controllers h) (λ _. same_controllers h)
  controller_turn h lt quiet to (served v bs) own seat-same fit sends back keeps =
      cond_both (has_room call.out call.scratch) _ _ (λ (w : U.Went Controller). After (controller_went s h w))
      (λ room. cond_both (fits R.change bs call.out) _ _ (λ (w : U.Went Controller). After (controller_went s h w))
      (λ fit-out. rw (given_served (controller_at s h) v bs room fit-out back) (quiet_served quiet (controller_served W h lt v bs seat-same fit (own_from own) sends (λ o. keeps_good (keeps o)))))
      (λ _. same_controllers h))
      (λ _. same_controllers h)

  -- ---- the office

  pub office_turn : ((p : ℕ) → hands_receipt R p call.request ≡ false) → (r : Reply Refusal Office) → Own P.Office r → SendsInRange R.sizes R.change (sent_in r) → ReadsBack s.office r
      → After (office_went s (called R.change s.office call.out call.scratch zs r))
  office_turn quiet (refused e) own sends back =
      cond_both (has_room call.out call.scratch) _ _ (λ (w : U.Went Office). After (office_went s w)) (λ _. none_served W) (λ _. none_served W)
  office_turn quiet (served v bs) own sends back =
      cond_both (has_room call.out call.scratch) _ _ (λ (w : U.Went Office). After (office_went s w))
      (λ room. cond_both (fits R.change bs call.out) _ _ (λ (w : U.Went Office). After (office_went s w))
      (λ fit-out. rw (given_served s.office v bs room fit-out back) (quiet_served quiet (office_served W v bs (own_from own) sends)))
      (λ _. none_served W))
      (λ _. none_served W)

  -- ---- a lock

  same_locks : (p : ℕ) → World R t from (with_locks s (set s.locks p (lock_at s p)) s.board) gs (λ q. cond (hands_receipt R q call.request && false) 1 0 + n q)
  same_locks p = none_served (subst (λ (ks : List Lock). World R t from (with_locks s ks s.board) gs n) (sym (set-get_or s.locks p (fresh_lock (place p)))) W)

  -- room is enough for what a lock sends
  roomy_fits : (bs : Bodies) → needed R.change bs ≤ 253 → has_room call.out call.scratch ≡ true → fits R.change bs call.out ≡ true
  roomy_fits bs h room = le-leb _ _ (omega (arith, leb-true _ _ (and_parts (leb 256 (length call.out)) _ room).0))

  pub lock_turn : (p : ℕ) → p < R.sizes.locks → (more : ℕ) → ((q : ℕ) → hands_receipt R q call.request ≡ true → (q ≡ p) × (1 ≤ more)) → (to : ℕ) (r : L.Reply)
      → OwnLock (P.Lock (lock_at s p).place) r → LockFits R.sizes (lock_after (lock_at s p) r) → SendsInRange R.sizes R.change (sent_in (replied r)) → needed R.change (sent_in (replied r)) ≤ 253
      → ReadsBack (lock_at s p) (pointed to (replied r)) → Fine R t (log_of gs) (in_force from.board (place p)) (lock_at s p) s.board more (n p) r
      → After (lock_went s call p r (called R.change (lock_at s p) call.out call.scratch zs (pointed to (replied r))))
  lock_turn p lt more bounded to (L.refused e) own fit sends few back fine =
      cond_twice (has_room call.out call.scratch) _ _ s.board s.board (λ (w : U.Went Lock) (m : Meaning). World R t from (with_locks s (set s.locks p w.unit) m) (given_by R.sizes w.answer w.out ++ gs) (λ q. cond (hands_receipt R q call.request && is_ok w.answer) 1 0 + n q))
      (λ _. same_locks p) (λ _. same_locks p)
  lock_turn p lt more bounded to (L.served j d bs) own fit sends few back (F.yes same frame inv) =
      cond_twice (has_room call.out call.scratch) _ _ (deed_done s.board (lock_at s p).place d) s.board (λ (w : U.Went Lock) (m : Meaning). World R t from (with_locks s (set s.locks p w.unit) m) (given_by R.sizes w.answer w.out ++ gs) (λ q. cond (hands_receipt R q call.request && is_ok w.answer) 1 0 + n q))
      (λ room. let fit-out = roomy_fits bs few room in
      rw fit-out (rw (given_served (lock_at s p) j bs room fit-out back) (fewer_served counts (lock_served W p lt more j d bs same frame inv fit (own_lock own) sends))))
      (λ _. same_locks p)
    where
      bit : (q : ℕ) (b : Bool) → (b ≡ true → (q ≡ p) × (1 ≤ more)) → cond (b && true) 1 0 ≤ cond (eqb q p) more 0
      bit q true k = let e = k refl in rw (eq-eqb q p e.0) e.1
      bit q false k = omega arith

      counts : (q : ℕ) → cond (hands_receipt R q call.request && true) 1 0 + n q ≤ cond (eqb q p) more 0 + n q
      counts q = omega (arith, bit q (hands_receipt R q call.request) (bounded q))
