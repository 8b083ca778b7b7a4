-- What a vault answers to questions: none of a unit that is absent, or that the table does not reach.
use Rattle.std.specs.Prelude.{ℕ, cond, ◌&&◌, List, length, Some, None, Option, nat_lt, slice_index_or}
use Rattle.terms.specs.declared.numbers.KeyNumber.{KeyNumber}
use Rattle.terms.specs.declared.numbers.Place.{Place}
use Rattle.terms.specs.declared.numbers.View.{View}
use Rattle.terms.specs.declared.parties.Outcome.{Outcome}
use Rattle.terms.specs.Numbers.{seat, place}
use Rattle.terms.specs.Parties.{place_in}
use Rattle.terms.specs.Sizes.{seat_count}
use Rattle.boards.specs.Boards.{Meaning, in_force, staged_at}
use Rattle.controllers.specs.declared.controller.Controller.{Controller}
use Rattle.controllers.specs.Letters.{fresh_controller}
use Rattle.locks.specs.declared.lock.Lock.{Lock}
use Rattle.locks.specs.declared.lock.Standing.{Standing}
use Rattle.locks.specs.Fresh.{fresh_lock}
use Rattle.vault.specs.declared.vault.Vault.{Vault}

abbrev pub view_at : Vault → List Controller → ℕ → Option View
view_at v cs n = cond (nat_lt n (seat_count v.sizes) && nat_lt n (length cs)) (Some (slice_index_or cs n (fresh_controller (seat n))).view) None

abbrev pub result_at : Vault → List Controller → ℕ → Option Outcome
result_at v cs n = cond (nat_lt n (seat_count v.sizes) && nat_lt n (length cs)) (slice_index_or cs n (fresh_controller (seat n))).result None

abbrev pub standing_at : Vault → List Lock → ℕ → Option Standing
standing_at v ks n = cond (nat_lt n v.sizes.locks && nat_lt n (length ks)) (Some (slice_index_or ks n (fresh_lock (place n))).standing) None

abbrev pub at_place : Option Place → (Place → Option KeyNumber) → Option KeyNumber
at_place None ask = None
at_place (Some p) ask = ask p

abbrev pub force_at : Vault → Meaning → ℕ → Option KeyNumber
force_at v m n = at_place (place_in v.sizes n) (in_force m)

abbrev pub staged_number_at : Vault → Meaning → ℕ → Option KeyNumber
staged_number_at v m n = at_place (place_in v.sizes n) (staged_at m)
