-- The sizes of a vault.
use Rattle.std.specs.Prelude.{ℕ, ◌+◌, ◌*◌, cond, ◌&&◌, Ok, Err, Result, nat_le}
use Rattle.terms.specs.declared.sizes.Sizes.{Sizes}
use Rattle.terms.specs.declared.refusals.Refusal.{Refusal}
use Rattle.terms.specs.Refusals.{set_up}

-- N, how many controllers a vault of these sizes has
abbrev pub seat_count : Sizes → ℕ
seat_count s = 3 * s.faults + 1

-- so many seats that any two sets of them share an honest one
abbrev pub quorum_of : Sizes → ℕ
quorum_of s = 2 * s.faults + 1

-- the two sizes as plain numbers
pub record Counts : Type 0 where
  pub faults : ℕ
  pub locks : ℕ

abbrev pub counts : ℕ → ℕ → Counts
counts f l = record { faults = f; locks = l }

-- a vault bears 1 to 5 faulty controllers and has 1 to 8 locks; other sizes are refused
abbrev pub vault_of : ℕ → ℕ → Result Counts Refusal
vault_of f l = cond ((nat_le 1 f && nat_le f 5) && (nat_le 1 l && nat_le l 8)) (Ok (counts f l)) (Err set_up)

-- what was answered, in plain numbers
abbrev pub sized : Result Sizes Refusal → Result Counts Refusal
sized (Ok s) = Ok (counts s.faults s.locks)
sized (Err e) = Err e
