-- From what a unit's call says to what the call on the whole vault says.
use Rattle.std.proofs.Common.{◌≡◌, ℕ, ◌<◌, Bool, true, false, cond, ◌&&◌, ltb, List, length, get_or, set, Some, None, Ok, Err, Option, Result, sym, refl, ap, ◌∙◌, subst, arith}
use Rattle.std.specs.Result.{result_ok}
use Rattle.std.proofs.lemmas.Bool.{false≢true}
use Rattle.std.proofs.lemmas.Bool.Decides.{nat_tests}
use Rattle.std.proofs.lemmas.List.{get_or_default}
use Rattle.terms.specs.declared.numbers.Change.{Change}
use Rattle.terms.specs.declared.numbers.Place.{Place}
use Rattle.terms.specs.declared.parties.Party.{Party}
use Rattle.terms.specs.declared.refusals.Refusal.{Refusal}
use Rattle.terms.specs.declared.refusals.RuleCause.{RuleCause}
use Rattle.terms.specs.declared.sizes.Sizes.{Sizes}
use Rattle.terms.specs.Numbers.{seat, place}
use Rattle.terms.specs.Parties.{seat_in, place_in, party_in}
use Rattle.terms.specs.Sizes.{seat_count}
use Rattle.letters.specs.declared.sorts.Seal.{Seal}
use Rattle.seals.specs.Opening.{Relation}
use Rattle.seals.specs.Scratch.{cleared, scratch_after}
use Rattle.boards.specs.Boards.{Meaning}
use Rattle.posting.specs.declared.few.Seals.{Seals}
use Rattle.posting.specs.Calls as Unit-calls
use Rattle.posting.specs.Calls.{Goes, has_room, pointed, reply_sealed}
use Rattle.posting.specs.Posting.{no_seals}
use Rattle.posting.specs.Replies.{Bodies, Reply, refused, served}
use Rattle.posting.proofs.Goes.{scratch_room}
use Rattle.controllers.specs.declared.controller.Controller.{Controller}
use Rattle.locks.specs.declared.lock.Lock.{Lock}
use Rattle.locks.specs.Rules as Lock-rules
use Rattle.locks.specs.Rules.{replied, board_after, board_called, nothing, passing, enrol_rule, may_apply, decline_rule, may_decline}
use Rattle.office.specs.declared.Office.{Office}
use Rattle.agreement.specs.Calls.{Vault, State, Call, Went, went, Turn, halted, unopened, of_controller, of_lock, of_office, asks_controller, asks_lock, controller_at, lock_at, no_such_unit, hands_in, handed_to, turn_for, turn_of, turn_went, turn_sealed, controller_went, lock_went, office_went, step, Step}
use Rattle.vault.specs.Vaults.{reach, Turned}

plain_sealed : {U : Type 0} (holds : Relation) (t : Change) (zs : Seals) (from : ℕ) (r : Reply RuleCause U) → reply_sealed holds t zs (pointed from r) ≡ true → reply_sealed holds t zs r ≡ true
plain_sealed holds t zs from (refused c) e = refl
plain_sealed holds t zs from (served u bs) e = e

-- ---- what a turn comes to

pub step_by : (v : Vault) (s : State) (call : Call) (turn : Turn) (w : Went) → turn_of v s call ≡ turn → Turned v s call turn w → Step v s call w
unfolding step
step_by v s call turn w t g = record {
  seals = g.seals;
  words = g.words;
  goes = g.goes ∙ sym (ap (turn_went v.change s call g.seals) t);
  sealed = λ o. ap (turn_sealed v.relation v.change g.seals) t ∙ g.sealed o;
}

-- a turn that is as another
pub turned_along : (v : Vault) (s : State) (call : Call) (turn turn' : Turn) (w : Went) → turn ≡ turn' → Turned v s call turn w → Turned v s call turn' w
turned_along v s call turn turn' w t g = subst (λ x. Turned v s call x w) t g

pub halted_turn : (v : Vault) (s : State) (call : Call) (e e' : Refusal) → e' ≡ e → Turned v s call (halted e) (went (Err e') s call.out call.scratch)
halted_turn v s call e e' k = record {
  seals = no_seals;
  words = refl;
  goes = ap (λ x. went (Err x) s call.out call.scratch) k;
  sealed = λ o. absurd (false≢true o);
}

pub unopened_turn : (v : Vault) (s : State) (call : Call) (e : Refusal) (scratch' : List ℕ) → has_room call.out call.scratch ≡ true → scratch' ≡ scratch_after call.scratch → Turned v s call (unopened e) (went (Err e) s call.out scratch')
unopened_turn v s call e scratch' h k = record {
  seals = no_seals;
  words = refl;
  goes = ap (went (Err e) s call.out) (k ∙ ap (λ b. cond b (cleared call.scratch) call.scratch) (scratch_room call.out call.scratch h));
  sealed = λ o. absurd (false≢true o);
}

controller_turn :
    (v : Vault) (s : State) (call : Call) (h : ℕ) (rule : Seal → Reply Refusal Controller) (w : Unit-calls.Went Controller) →
    Goes v.relation v.change (controller_at s h) call.out call.scratch rule w → Turned v s call (of_controller h rule) (controller_went s h w)
controller_turn v s call h rule w g = record { seals = g.seals; words = g.words; goes = ap (controller_went s h) g.goes; sealed = g.sealed }

-- ---- whose turn it is

-- a unit of a sort is asked for: none has the number, or the table does not reach it, or it is its turn
module _ {K : Type 0} (k : K) (n len : ℕ) (ask : Option K → Turn) (turn : Turn) (none : ask None ≡ halted no_such_unit) (some : ask (Some k) ≡ cond (ltb n len) turn (halted no_such_unit)) where
  asked : (b c : Bool) (at : ℕ) → ltb n len ≡ c → Ok at ≡ cond (b && c) (Ok n) (Err no_such_unit) → (ask (cond b (Some k) None) ≡ turn) × (at ≡ n)
  asked true true at e r = (some ∙ ap (λ x. cond x turn (halted no_such_unit)) e, cc)
  asked true false at e r = cc
  asked false c at e r = cc

  unasked : (b c : Bool) (e' : Refusal) → ltb n len ≡ c → Err e' ≡ cond (b && c) (Ok n) (Err no_such_unit) → (ask (cond b (Some k) None) ≡ halted no_such_unit) × (e' ≡ no_such_unit)
  unasked true true e' e r = cc
  unasked true false e' e r = (some ∙ ap (λ x. cond x turn (halted no_such_unit)) e, cc)
  unasked false c e' e r = (none, cc)

module _ (s : State) (sizes : Sizes) (n : ℕ) where
  pub asks_controller_holds : (rest : Controller → Turn) (at : ℕ) → Ok at ≡ reach n (seat_count sizes) (length s.controllers) → (asks_controller s (seat_in sizes n) rest ≡ rest (controller_at s n)) × (at ≡ n)
  asks_controller_holds rest at r = asked (seat n) n (length s.controllers) (λ o. asks_controller s o rest) (rest (controller_at s n)) refl refl (ltb n (seat_count sizes)) (ltb n (length s.controllers)) at refl r

  pub asks_no_controller : (rest : Controller → Turn) (e : Refusal) → Err e ≡ reach n (seat_count sizes) (length s.controllers) → (asks_controller s (seat_in sizes n) rest ≡ halted no_such_unit) × (e ≡ no_such_unit)
  asks_no_controller rest e r = unasked (seat n) n (length s.controllers) (λ o. asks_controller s o rest) (rest (controller_at s n)) refl refl (ltb n (seat_count sizes)) (ltb n (length s.controllers)) e refl r

  pub asks_lock_holds : (rest : Lock → Turn) (at : ℕ) → Ok at ≡ reach n sizes.locks (length s.locks) → (asks_lock s (place_in sizes n) rest ≡ rest (lock_at s n)) × (at ≡ n)
  asks_lock_holds rest at r = asked (place n) n (length s.locks) (λ o. asks_lock s o rest) (rest (lock_at s n)) refl refl (ltb n sizes.locks) (ltb n (length s.locks)) at refl r

  pub asks_no_lock : (rest : Lock → Turn) (e : Refusal) → Err e ≡ reach n sizes.locks (length s.locks) → (asks_lock s (place_in sizes n) rest ≡ halted no_such_unit) × (e ≡ no_such_unit)
  asks_no_lock rest e r = unasked (place n) n (length s.locks) (λ o. asks_lock s o rest) (rest (lock_at s n)) refl refl (ltb n sizes.locks) (ltb n (length s.locks)) e refl r

-- ---- a call on one unit: the unit is reached, and the call goes by its rule

within : (n count len at : ℕ) (b : Bool) → (ltb n count && ltb n len) ≡ b → Ok at ≡ cond b (Ok n) (Err no_such_unit) → n < len
within n count len at true e r = grind (arith, nat_tests)
within n count len at false e r = cc

pub reached : (n count len at : ℕ) → Ok at ≡ reach n count len → n < len
reached n count len at r = within n count len at (ltb n count && ltb n len) refl r

pub controller_goes :
    (v : Vault) (s : State) (call : Call) (n at : ℕ) (d : Controller) (rule : Controller → Seal → Reply Refusal Controller) (w : Unit-calls.Went Controller) →
    at ≡ n → n < length s.controllers →
    Goes v.relation v.change (get_or s.controllers at d) call.out call.scratch (rule (get_or s.controllers at d)) w →
    Turned v s call (of_controller n (rule (controller_at s n))) (controller_went s at w)
controller_goes v s call n at d rule w e h g =
    let same : get_or s.controllers at d ≡ controller_at s n = ap (λ k. get_or s.controllers k d) e ∙ get_or_default s.controllers n d _ h in
    subst (λ k. Turned v s call (of_controller n (rule (controller_at s n))) (controller_went s k w)) (sym e)
    (controller_turn v s call n (rule (controller_at s n)) w (subst (λ u. Goes v.relation v.change u call.out call.scratch (rule u) w) same g))

pub no_such_step : (v : Vault) (s : State) (call : Call) (e : Refusal) → (turn_of v s call ≡ halted no_such_unit) × (e ≡ no_such_unit) → Step v s call (went (Err e) s call.out call.scratch)
no_such_step v s call e t = step_by v s call (halted no_such_unit) _ t.0 (halted_turn v s call no_such_unit e t.1)

-- a lock's turn, with the board that it leaves
lock_turn :
    (v : Vault) (s : State) (call : Call) (p from : ℕ) (r : Lock-rules.Reply) (w : Unit-calls.Went Lock) →
    Goes v.relation v.change (lock_at s p) call.out call.scratch (λ z. pointed from (replied r)) w → Turned v s call (of_lock p from r) (lock_went s call p r w)
lock_turn v s call p from r w g = record {
  seals = g.seals;
  words = g.words;
  goes = ap (lock_went s call p r) g.goes;
  sealed = λ o. plain_sealed v.relation v.change g.seals from (replied r) (g.sealed o);
}

abbrev board_of : State → Call → Lock → Lock-rules.Reply → Meaning
board_of s call k r = board_called s.board k.place call.out call.scratch r

abbrev left_by : State → ℕ → Unit-calls.Went Lock → Meaning → Went
left_by s at w m = went w.answer (record { controllers = s.controllers; locks = set s.locks at w.unit; office = s.office; board = m }) w.out w.scratch

pub lock_goes :
    (v : Vault) (s : State) (call : Call) (n at from : ℕ) (d : Lock) (rule : Lock → Lock-rules.Reply) (w : Unit-calls.Went Lock) (m : Meaning) →
    at ≡ n → n < length s.locks →
    Goes v.relation v.change (get_or s.locks at d) call.out call.scratch (λ z. pointed from (replied (rule (get_or s.locks at d)))) w →
    m ≡ board_of s call (get_or s.locks at d) (rule (get_or s.locks at d)) →
    Turned v s call (of_lock n from (rule (lock_at s n))) (left_by s at w m)
lock_goes v s call n at from d rule w m e h g b =
    let same : get_or s.locks at d ≡ lock_at s n = ap (λ k. get_or s.locks k d) e ∙ get_or_default s.locks n d _ h in
    let turn = of_lock n from (rule (lock_at s n)) in
    subst (λ x. Turned v s call turn (left_by s at w x)) (sym (b ∙ ap (λ k. board_of s call k (rule k)) same))
    (subst (λ k. Turned v s call turn (left_by s k w (board_of s call (lock_at s n) (rule (lock_at s n))))) (sym e)
    (lock_turn v s call n from (rule (lock_at s n)) w (subst (λ u. Goes v.relation v.change u call.out call.scratch (λ z. pointed from (replied (rule u))) w) same g)))

-- a rule that leaves the board alone
same_either : {A : Type 0} (b : Bool) (x : A) → x ≡ cond b x x
same_either true x = refl
same_either false x = refl

quiet : (m : Meaning) (p : Place) (g : Result (Unit {0}) RuleCause) (k : Lock) (bs : Bodies) → board_after m p (passing g (Lock-rules.served k nothing bs)) ≡ m
quiet m p (Ok x) k bs = refl
quiet m p (Err c) k bs = refl

pub enrol_quiet : (k : Lock) (m : Meaning) → board_after m k.place (enrol_rule k) ≡ m
enrol_quiet k m = quiet m k.place (may_apply k) _ _

pub decline_quiet : (k : Lock) (m : Meaning) → board_after m k.place (decline_rule k) ≡ m
decline_quiet k m = quiet m k.place (may_decline k) _ _

pub quiet_lock_goes :
    (v : Vault) (s : State) (call : Call) (n at from : ℕ) (d : Lock) (rule : Lock → Lock-rules.Reply) (w : Unit-calls.Went Lock) →
    at ≡ n → n < length s.locks →
    Goes v.relation v.change (get_or s.locks at d) call.out call.scratch (λ z. pointed from (replied (rule (get_or s.locks at d)))) w →
    ((k : Lock) (m : Meaning) → board_after m k.place (rule k) ≡ m) →
    Turned v s call (of_lock n from (rule (lock_at s n))) (left_by s at w s.board)
quiet_lock_goes v s call n at from d rule w e h g q =
    lock_goes v s call n at from d rule w s.board e h g
    (same_either (has_room call.out call.scratch) s.board ∙ ap (λ m. cond (has_room call.out call.scratch) m s.board) (sym (q (get_or s.locks at d) s.board)))

pub office_turn :
    (v : Vault) (s : State) (call : Call) (r : Reply Refusal Office) (w : Unit-calls.Went Office) →
    Goes v.relation v.change s.office call.out call.scratch (λ z. r) w → Turned v s call (of_office r) (office_went s w)
office_turn v s call r w g = record { seals = g.seals; words = g.words; goes = ap (office_went s) g.goes; sealed = g.sealed }

-- the index that is reached
pub ok_at : (r : Result ℕ Refusal) (at : ℕ) → Some at ≡ result_ok r → Ok at ≡ r
ok_at (Ok n) at e = cc
ok_at (Err x) at e = cc

-- a question to the unit that is reached
pub asked_at :
    {U A : Type 0} (answer : U → A) (none : A) (units : List U) (n count at : ℕ) (d e : U) → Ok at ≡ reach n count (length units) →
    answer (get_or units at d) ≡ cond (ltb n count && ltb n (length units)) (answer (get_or units n e)) none
asked_at answer none units n count at d e r = found (ltb n count && ltb n (length units)) refl r
  where
    found : (b : Bool) → (ltb n count && ltb n (length units)) ≡ b → Ok at ≡ cond b (Ok n) (Err no_such_unit) → answer (get_or units at d) ≡ cond b (answer (get_or units n e)) none
    found true k q = let same : at ≡ n = cc in ap (λ i. answer (get_or units i d)) same ∙ ap answer (get_or_default units n d e (within n count (length units) at true k q))
    found false k q = cc

-- ---- a call on one unit of the vault: the unit that is reached has its turn, and none has where none is reached

module _ {v : Vault} {s : State} {call : Call} (n : ℕ) where
  pub controller_step :
      (rule : Controller → Seal → Reply Refusal Controller) (at : ℕ) (d : Controller) (w : Unit-calls.Went Controller) →
      turn_of v s call ≡ asks_controller s (seat_in v.sizes n) (λ u. of_controller n (rule u)) → Ok at ≡ reach n (seat_count v.sizes) (length s.controllers) →
      Goes v.relation v.change (get_or s.controllers at d) call.out call.scratch (rule (get_or s.controllers at d)) w → Step v s call (controller_went s at w)
  controller_step rule at d w t r g =
      let found = asks_controller_holds s v.sizes n (λ u. of_controller n (rule u)) at r in
      step_by v s call _ _ (t ∙ found.0) (controller_goes v s call n at d rule w found.1 (reached n _ _ at r) g)

  pub no_controller_step :
      (rest : Controller → Turn) (e : Refusal) → turn_of v s call ≡ asks_controller s (seat_in v.sizes n) rest → Err e ≡ reach n (seat_count v.sizes) (length s.controllers) →
      Step v s call (went (Err e) s call.out call.scratch)
  no_controller_step rest e t r = let found = asks_no_controller s v.sizes n rest e r in no_such_step v s call e (t ∙ found.0, found.1)

  pub quiet_lock_step :
      (rule : Lock → Lock-rules.Reply) (at : ℕ) (d : Lock) (w : Unit-calls.Went Lock) → ((k : Lock) (m : Meaning) → board_after m k.place (rule k) ≡ m) →
      turn_of v s call ≡ asks_lock s (place_in v.sizes n) (λ k. of_lock n 0 (rule k)) → Ok at ≡ reach n v.sizes.locks (length s.locks) →
      Goes v.relation v.change (get_or s.locks at d) call.out call.scratch (λ z. pointed 0 (replied (rule (get_or s.locks at d)))) w → Step v s call (left_by s at w s.board)
  quiet_lock_step rule at d w q t r g =
      let found = asks_lock_holds s v.sizes n (λ k. of_lock n 0 (rule k)) at r in
      step_by v s call _ _ (t ∙ found.0) (quiet_lock_goes v s call n at 0 d rule w found.1 (reached n _ _ at r) g q)

  pub no_lock_step :
      (rest : Lock → Turn) (e : Refusal) → turn_of v s call ≡ asks_lock s (place_in v.sizes n) rest → Err e ≡ reach n v.sizes.locks (length s.locks) →
      Step v s call (went (Err e) s call.out call.scratch)
  no_lock_step rest e t r = let found = asks_no_lock s v.sizes n rest e r in no_such_step v s call e (t ∙ found.0, found.1)

-- a call that hands in bytes, by whom they are for
pub handed_step :
    {v : Vault} {s : State} {call : Call} (n : ℕ) (bytes : List ℕ) (to : Option Party) (w : Went) →
    call.request ≡ hands_in n bytes → party_in v.sizes n ≡ to → Turned v s call (handed_to v s call bytes to) w → Step v s call w
handed_step {v} {s} {call} n bytes to w asked for t = step_by v s call _ w (ap (turn_for v s call) asked ∙ ap (handed_to v s call bytes) for) t
