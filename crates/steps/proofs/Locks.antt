-- What holds of every step of a lock and of the office.
use Rattle.std.proofs.Common.{Some, None, arith}
use Rattle.std.proofs.lemmas.Bool.Decides.{nat_tests}
use Rattle.std.proofs.lemmas.List.{get_or-set_other, length-set}
use Rattle.steps.specs.Steps.{to_lock, lock_reply}
use Rattle.steps.specs.Laws.{PlaceStays, StandingNeverFalls, EndedLockStays, OtherPlacesStay, OfficeOrdersOnce}

pub place_stays : PlaceStays
unfolding lock_reply
place_stays sizes t k m (to_lock l) = grind (arith, nat_tests)
place_stays sizes t k m s = grind (arith, nat_tests)

pub standing_never_falls : StandingNeverFalls
unfolding lock_reply
standing_never_falls sizes t k m (to_lock l) = grind (arith, nat_tests)
standing_never_falls sizes t k m s = grind (arith, nat_tests)

pub ended_lock_stays : EndedLockStays
unfolding lock_reply
ended_lock_stays sizes t k m (to_lock l) e = record { lock = grind (arith, nat_tests); board = grind (arith, nat_tests); force = grind (arith, nat_tests) }
ended_lock_stays sizes t k m s e = record { lock = grind (arith, nat_tests); board = grind (arith, nat_tests); force = grind (arith, nat_tests) }

pub other_places_stay : OtherPlacesStay
unfolding lock_reply
other_places_stay sizes t k m (to_lock l) q n = grind (arith, nat_tests, get_or-set_other, length-set)
other_places_stay sizes t k m s q n = grind (arith, nat_tests)

pub office_orders_once : OfficeOrdersOnce
office_orders_once o None h = record { office = grind (arith, nat_tests); nothing_sent = grind (arith, nat_tests) }
office_orders_once o (Some n) h = record { office = grind (arith, nat_tests); nothing_sent = grind (arith, nat_tests) }
