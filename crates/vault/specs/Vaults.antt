-- A vault over lent tables: what its calls find and leave, and its set-up.
use Rattle.std.specs.Prelude.{◌≡◌, ℕ, true, cond, ◌&&◌, List, is_ok, Ok, Err, Option, Result, nat_lt}
use Rattle.terms.specs.declared.parties.Party.{Party}
use Rattle.terms.specs.declared.refusals.Refusal.{Refusal}
use Rattle.seals.specs.Opening.{Relation}
use Rattle.boards.specs.Boards.{Meaning}
use Rattle.posting.specs.declared.few.Seals.{Seals}
use Rattle.posting.specs.Posting.{are_words}
use Rattle.controllers.specs.declared.controller.Controller.{Controller}
use Rattle.locks.specs.declared.lock.Lock.{Lock}
use Rattle.agreement.specs.Calls as Calls
use Rattle.agreement.specs.Calls.{State, Request, Call, Went, Turn, turn_went, turn_sealed, handed_to, no_such_unit}
use Rattle.vault.specs.declared.vault.Vault.{Vault}

-- what stays through all calls
abbrev pub constant : Vault → Relation → Calls.Vault
constant v holds = record { sizes = v.sizes; change = v.change; relation = holds }

-- what calls alter
abbrev pub state : List Controller → List Lock → Vault → Meaning → State
state cs ks v m = record { controllers = cs; locks = ks; office = v.office; board = m }

abbrev pub call : Request → List ℕ → List ℕ → Call
call r out scratch = record { request = r; out = out; scratch = scratch }

-- the index of a unit: its number, if it is below the count of the vault's units of its sort, and the table reaches it
abbrev pub reach : ℕ → ℕ → ℕ → Result ℕ Refusal
reach n count reached = cond (nat_lt n count && nat_lt n reached) (Ok n) (Err no_such_unit)

-- all but the office is as it was
abbrev pub same_vault : Vault → Vault → Type 0
same_vault v w = (v.sizes ≡ w.sizes) × (v.change ≡ w.change)

-- the turn of a party that bytes are handed to
abbrev pub handed : Calls.Vault → State → Call → List ℕ → Option Party → Turn
handed v s c bytes q = handed_to v s c bytes q

-- a call that came to a turn: what it answers and leaves, with some seals in the relation
pub record Turned (v : Calls.Vault) (s : State) (c : Call) (turn : Turn) (w : Went) : Type 0 where
  pub seals : Seals
  pub words : are_words seals ≡ true
  pub goes : w ≡ turn_went v.change s c seals turn
  pub sealed : is_ok w.answer ≡ true → turn_sealed v.relation v.change seals turn ≡ true
