-- One seat or place more.
use Rattle.std.proofs.Common.{◌≡◌, ℕ, ◌+◌, true, not, ◌&&◌, ◌||◌, List, get_or, fold, is_some, None, Option, refl, ap, add-one}
use Rattle.std.specs.List.{list_all, range_with_len}
use Rattle.terms.specs.declared.numbers.View.{View}
use Rattle.letters.specs.declared.sorts.Seal.{Seal}
use Rattle.controllers.specs.declared.controller.MoveRecord.{MoveRecord}
use Rattle.controllers.specs.Choice.{stands_in, names, offer, better, best, all_recorded, covers, add_seat, picked}
use Rattle.letters.proofs.Below.{all_below, fold_below}

pub best_none : (records : List (Option MoveRecord)) (movers : ℕ) (v : View) → best records movers v 0 ≡ None
unfolding best
best_none records movers v = refl

pub best_more : (records : List (Option MoveRecord)) (movers : ℕ) (v : View) (n : ℕ) → best records movers v (n + 1) ≡ better (best records movers v n) (offer (stands_in movers n) (get_or records n None) v)
unfolding best
best_more records movers v n = ap (best records movers v) (add-one n)

pub recorded_none : (records : List (Option MoveRecord)) (movers : ℕ) (v : View) → all_recorded records movers v 0 ≡ true
unfolding all_recorded
recorded_none records movers v = refl

pub recorded_more : (records : List (Option MoveRecord)) (movers : ℕ) (v : View) (n : ℕ) → all_recorded records movers v (n + 1) ≡ (all_recorded records movers v n && (not (stands_in movers n) || names (get_or records n None) v))
unfolding all_recorded
recorded_more records movers v n = ap (all_recorded records movers v) (add-one n)

pub covers_none : (registered enrolled : List (Option Seal)) → covers registered enrolled 0 ≡ true
unfolding covers
covers_none registered enrolled = refl

pub covers_more : (registered enrolled : List (Option Seal)) (n : ℕ) → covers registered enrolled (n + 1) ≡ (covers registered enrolled n && (not (is_some (get_or registered n None)) || is_some (get_or enrolled n None)))
unfolding covers
covers_more registered enrolled n = ap (covers registered enrolled) (add-one n)

pub picked_none : (records : List (Option MoveRecord)) (v : View) (quorum : ℕ) → picked records v quorum 0 ≡ record { map = 0; count = 0 }
unfolding picked
picked_none records v quorum = refl

pub picked_more : (records : List (Option MoveRecord)) (v : View) (quorum n : ℕ) → picked records v quorum (n + 1) ≡ add_seat (picked records v quorum n) n quorum (names (get_or records n None) v)
unfolding picked
picked_more records v quorum n = ap (picked records v quorum) (add-one n)

pub best_folded : (records : List (Option MoveRecord)) (movers : ℕ) (v : View) → fold (λ b n. better b (offer (stands_in movers n) (get_or records n None) v)) None (range_with_len 0 16) ≡ best records movers v 16
best_folded records movers v = fold_below (λ b n. better b (offer (stands_in movers n) (get_or records n None) v)) None (best records movers v) (best_none records movers v) (best_more records movers v) 16

pub all_have_record : (records : List (Option MoveRecord)) (movers : ℕ) (v : View) → list_all (λ n. not (stands_in movers n) || names (get_or records n None) v) (range_with_len 0 16) ≡ all_recorded records movers v 16
all_have_record records movers v = all_below (λ n. not (stands_in movers n) || names (get_or records n None) v) (all_recorded records movers v) (recorded_none records movers v) (recorded_more records movers v) 16

pub all_covered : (registered enrolled : List (Option Seal)) → list_all (λ n. not (is_some (get_or registered n None)) || is_some (get_or enrolled n None)) (range_with_len 0 8) ≡ covers registered enrolled 8
all_covered registered enrolled = all_below (λ n. not (is_some (get_or registered n None)) || is_some (get_or enrolled n None)) (covers registered enrolled) (covers_none registered enrolled) (covers_more registered enrolled) 8
