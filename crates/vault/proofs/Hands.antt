-- The turn of a party that bytes are handed to, step by step.
use Rattle.std.proofs.Common.{◌≡◌, ℕ, ◌<◌, true, false, cond, ltb, List, length, get_or, set, Ok, Err, Result, sym, refl, ap, ◌∙◌, subst}
use Rattle.std.proofs.lemmas.Bool.{cond-true, cond-false, false_from_ne_true, lt-ltb, ltb-true}
use Rattle.terms.specs.declared.refusals.Refusal.{Refusal}
use Rattle.terms.specs.Parties.{party_number}
use Rattle.terms.specs.Refusals.{no_room}
use Rattle.letters.specs.declared.bodies.Letter.{Letter}
use Rattle.reading.specs.Parts.{Span, Spans}
use Rattle.kept.specs.Kept.{kept}
use Rattle.boards.specs.Boards.{Meaning}
use Rattle.letters.specs.Senders.{sender_of}
use Rattle.seals.specs.Opening.{opening, open_answer}
use Rattle.seals.specs.Scratch.{cleared, scratch_after}
use Rattle.posting.specs.declared.few.AtMostTwo.{AtMostTwo}
use Rattle.posting.specs.Calls as Unit-calls
use Rattle.posting.specs.Calls.{Goes, has_room, pointed}
use Rattle.posting.proofs.Goes.{goes_along, goes_cleared, room_cleared, scratch_room}
use Rattle.controllers.specs.declared.controller.Controller.{Controller}
use Rattle.controllers.specs.Letters as Controllers
use Rattle.locks.specs.declared.lock.Lock.{Lock}
use Rattle.locks.specs.Letters as Locks
use Rattle.locks.specs.Rules.{replied, board_after, board_called}
use Rattle.agreement.specs.Calls.{Vault, State, Call, Went, went, Turn, halted, unopened, controller_at, controller_went, after_opening, opens, letter_to_controller, letter_to_lock, lock_at, sender, no_such_unit}
use Rattle.agreement.proofs.Bridge.{same_sender}
use Rattle.vault.specs.Vaults.{Turned}
use Rattle.vault.proofs.Steps.{turned_along, halted_turn, unopened_turn, controller_goes, lock_goes}

module _ (v : Vault) (s : State) (call : Call) (bytes : List ℕ) (rests : Vault → State → Letter Span Spans → Turn) where
  abbrev rest : Letter Span Spans → Turn
  rest = rests v s

  after_no_room : has_room call.out call.scratch ≡ false → after_opening v call bytes rest ≡ halted no_room
  after_no_room h = cond-false _ _ _ h

  after_opening_holds : has_room call.out call.scratch ≡ true → after_opening v call bytes rest ≡ opens (opening v.sizes v.relation bytes) rest
  after_opening_holds h = cond-true _ _ _ h

  -- what opening answered
  answered_so : (a : Result (Letter Span Spans) Refusal) → has_room call.out call.scratch ≡ true → a ≡ open_answer v.sizes v.relation bytes call.scratch → after_opening v call bytes rest ≡ opens a rest
  answered_so a h e =
      after_opening_holds h
      ∙ ap (λ x. opens x rest) (sym (e ∙ ap (λ b. cond b (opening v.sizes v.relation bytes) (Err no_room)) (scratch_room call.out call.scratch h)))

  -- the unit is there or not
  module _ (h len : ℕ) where
    abbrev pub handed_turn : Turn
    handed_turn = cond (ltb h len) (after_opening v call bytes rest) (halted no_such_unit)

    there : h < len → handed_turn ≡ after_opening v call bytes rest
    there l = cond-true _ _ _ (lt-ltb h len l)

    pub hands_to_nobody : (e : Refusal) → (h < len → ⊥) → e ≡ no_such_unit → Turned v s call handed_turn (went (Err e) s call.out call.scratch)
    hands_to_nobody e l k =
        turned_along v s call (halted no_such_unit) handed_turn _ (sym (cond-false _ _ _ (false_from_ne_true (ltb h len) (λ q. l (ltb-true h len q))))) (halted_turn v s call no_such_unit e k)

    pub hands_without_room : (a : Result (AtMostTwo ℕ) Refusal) → h < len → has_room call.out call.scratch ≡ false → a ≡ Err no_room → Turned v s call handed_turn (went a s call.out call.scratch)
    hands_without_room a l r k =
        subst (λ x. Turned v s call handed_turn (went x s call.out call.scratch)) (sym k)
        (turned_along v s call (halted no_room) handed_turn _ (sym (there l ∙ after_no_room r)) (halted_turn v s call no_room no_room refl))

    pub hands_unopened : (e : Refusal) (scratch' : List ℕ) → h < len → has_room call.out call.scratch ≡ true → Err e ≡ open_answer v.sizes v.relation bytes call.scratch → scratch' ≡ scratch_after call.scratch → Turned v s call handed_turn (went (Err e) s call.out scratch')
    hands_unopened e scratch' l r o k = turned_along v s call (unopened e) handed_turn _ (sym (there l ∙ answered_so (Err e) r o)) (unopened_turn v s call e scratch' r k)

    pub hands_opened : (x : Letter Span Spans) (w : Went) → h < len → has_room call.out call.scratch ≡ true → Ok x ≡ open_answer v.sizes v.relation bytes call.scratch → Turned v s call (rest x) w → Turned v s call handed_turn w
    hands_opened x w l r o t = turned_along v s call (rest x) handed_turn w (sym (there l ∙ answered_so (Ok x) r o)) t

-- a controller receives what was opened
pub controller_receives :
    (v : Vault) (s : State) (call : Call) (n at : ℕ) (d : Controller) (l : Letter Span Spans) (scratch' : List ℕ) (w : Unit-calls.Went Controller) →
    at ≡ n → n < length s.controllers → has_room call.out call.scratch ≡ true → scratch' ≡ scratch_after call.scratch →
    Goes v.relation v.change (get_or s.controllers at d) call.out scratch' (λ own. pointed (party_number (sender_of (kept l).body)) (Controllers.letter_rule v.sizes v.change (get_or s.controllers at d) (kept l) own)) w →
    Turned v s call (letter_to_controller v n (controller_at s n) l) (controller_went s at w)
controller_receives v s call n at d l scratch' w e h r k g =
    controller_goes v s call n at d (λ u own. pointed (sender l) (Controllers.letter_rule v.sizes v.change u (kept l) own)) w e h
    (goes_cleared v.relation v.change _ call.out call.scratch scratch' _ w r k
    (goes_along (λ z. ap (λ q. pointed (party_number q) (Controllers.letter_rule v.sizes v.change (get_or s.controllers at d) (kept l) z)) (same_sender l.body)) g))

-- a lock receives what was opened
pub lock_receives :
    (v : Vault) (s : State) (call : Call) (n at : ℕ) (d : Lock) (l : Letter Span Spans) (scratch' : List ℕ) (w : Unit-calls.Went Lock) (m : Meaning) →
    at ≡ n → n < length s.locks → has_room call.out call.scratch ≡ true → scratch' ≡ scratch_after call.scratch →
    Goes v.relation v.change (get_or s.locks at d) call.out scratch' (λ own. pointed (sender l) (replied (Locks.letter_rule v.sizes v.change (get_or s.locks at d) s.board l))) w →
    m ≡ board_called s.board (get_or s.locks at d).place call.out scratch' (Locks.letter_rule v.sizes v.change (get_or s.locks at d) s.board l) →
    Turned v s call (letter_to_lock v s n (lock_at s n) l) (went w.answer (record { controllers = s.controllers; locks = set s.locks at w.unit; office = s.office; board = m }) w.out w.scratch)
lock_receives v s call n at d l scratch' w m e h r k g b =
    let u = get_or s.locks at d in
    let rule = Locks.letter_rule v.sizes v.change u s.board l in
    let clear : scratch' ≡ cleared call.scratch = k ∙ ap (λ x. cond x (cleared call.scratch) call.scratch) (scratch_room call.out call.scratch r) in
    let goes = goes_cleared v.relation v.change u call.out call.scratch scratch' _ w r k g in
    let room : has_room call.out scratch' ≡ true = ap (has_room call.out) clear ∙ room_cleared call.out call.scratch r in
    lock_goes v s call n at (sender l) d (λ x. Locks.letter_rule v.sizes v.change x s.board l) w m e h goes
    (b ∙ ap (λ x. cond x (board_after s.board u.place rule) s.board) (room ∙ sym r))
