-- Records of moves: which view they name, and the basis that must be chosen.
use Rattle.std.specs.Prelude.{ℕ, zero, suc, ◌+◌, ◌/◌, ◌%◌, ◌^◌, Bool, true, false, cond, not, ◌&&◌, ◌||◌, List, is_some, Some, None, Option, ◌==◌, nat_lt, slice_index_or}
use Rattle.terms.specs.declared.numbers.View.{View}
use Rattle.letters.specs.declared.sorts.Seal.{Seal}
use Rattle.letters.specs.declared.certificates.Basis.{Basis}
use Rattle.controllers.specs.declared.controller.MoveRecord.{MoveRecord}
use Rattle.controllers.specs.declared.controller.Picked.{Picked}

abbrev pub same_view : MoveRecord → MoveRecord → Bool
same_view r q = r.view.0 == q.view.0

abbrev pub stands_in : ℕ → ℕ → Bool
stands_in map s = map / 2 ^ s % 2 == 1

-- a record names exactly this view
abbrev pub names : Option MoveRecord → View → Bool
names None v = false
names (Some r) v = r.view.0 == v.0

abbrev pub basis_of : Option MoveRecord → Option Basis
basis_of None = None
basis_of (Some r) = r.basis

-- the basis that a mover's record of this view has
abbrev pub offer : Bool → Option MoveRecord → View → Option Basis
offer mover slot v = cond (mover && names slot v) (basis_of slot) None

-- the one with the higher view; at a tie the first
abbrev pub better : Option Basis → Option Basis → Option Basis
better b None = b
better None (Some n) = Some n
better (Some b) (Some n) = cond (nat_lt b.view.0 n.view.0) (Some n) (Some b)

-- the highest basis among the movers' records of this view at the first n seats, the lowest seat at a tie
unfoldable pub best : List (Option MoveRecord) → ℕ → View → ℕ → Option Basis
best records movers v zero = None
best records movers v (suc n) = better (best records movers v n) (offer (stands_in movers n) (slice_index_or records n None) v)

-- each mover among the first n seats has a record of this view
unfoldable pub all_recorded : List (Option MoveRecord) → ℕ → View → ℕ → Bool
all_recorded records movers v zero = true
all_recorded records movers v (suc n) = all_recorded records movers v n && (not (stands_in movers n) || names (slice_index_or records n None) v)

-- each of the first n places that is registered is enrolled
unfoldable pub covers : List (Option Seal) → List (Option Seal) → ℕ → Bool
covers registered enrolled zero = true
covers registered enrolled (suc n) = covers registered enrolled n && (not (is_some (slice_index_or registered n None)) || is_some (slice_index_or enrolled n None))

-- ---- the movers that a leader names: the lowest seats with a record of the view, as many as a quorum

abbrev pub add_seat : Picked → ℕ → ℕ → Bool → Picked
add_seat p s quorum named = cond (named && nat_lt p.count quorum) (record { map = p.map + 2 ^ s; count = p.count + 1 }) p

-- among the first n seats
unfoldable pub picked : List (Option MoveRecord) → View → ℕ → ℕ → Picked
picked records v quorum zero = record { map = 0; count = 0 }
picked records v quorum (suc n) = add_seat (picked records v quorum n) n quorum (names (slice_index_or records n None) v)
