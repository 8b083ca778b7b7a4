-- Setting up a vault.
use Rattle.std.specs.Prelude.{◌≡◌, ℕ, zero, suc, ◌+◌, ◌*◌, Bool, true, false, cond, not, ◌&&◌, List, length, Ok, Err, Result, nat_le, slice_set}
use Rattle.terms.specs.declared.numbers.Change.{Change}
use Rattle.terms.specs.declared.refusals.Refusal.{Refusal}
use Rattle.terms.specs.Numbers.{is_change, change, seat, place}
use Rattle.terms.specs.Refusals.{set_up}
use Rattle.terms.specs.Sizes.{Counts, counts}
use Rattle.boards.specs.Boards.{Meaning, how_many, has_staged}
use Rattle.controllers.specs.declared.controller.Controller.{Controller}
use Rattle.controllers.specs.Letters.{fresh_controller}
use Rattle.locks.specs.declared.lock.Lock.{Lock}
use Rattle.locks.specs.Fresh.{fresh_lock}
use Rattle.office.specs.declared.Office.{Office}
use Rattle.office.specs.Rules.{office}
use Rattle.agreement.specs.Runs.{SetUp}
use Rattle.seals.specs.Opening.{Relation}
use Rattle.vault.specs.declared.vault.Vault.{Vault}
use Rattle.vault.specs.Vaults.{constant, state}

-- the first n records are new, the others as they were
unfoldable pub renewed : {U : Type 0} → (ℕ → U) → ℕ → List U → List U
renewed new zero us = us
renewed new (suc n) us = slice_set (renewed new n us) n (new n)

abbrev pub new_controller : ℕ → Controller
new_controller n = fresh_controller (seat n)

abbrev pub new_lock : ℕ → Lock
new_lock n = fresh_lock (place n)

-- nothing is staged at the first n places
unfoldable pub unstaged_below : Meaning → ℕ → Bool
unstaged_below m zero = true
unstaged_below m (suc n) = unstaged_below m n && not (has_staged m (place n))

-- tables for all units, and a board with a place for each lock and nothing staged
abbrev pub furnished : ℕ → ℕ → Meaning → List Controller → List Lock → Bool
furnished f l m cs ks = (nat_le (3 * f + 1) (length cs) && nat_le l (length ks)) && (nat_le l (how_many m) && unstaged_below m (how_many m))

-- and a change number in range
abbrev pub accepts : ℕ → ℕ → ℕ → Meaning → List Controller → List Lock → Bool
accepts f l t m cs ks = is_change t && furnished f l m cs ks

-- and 1 to 5 faults, 1 to 8 locks
abbrev pub sets_up : ℕ → ℕ → ℕ → Meaning → List Controller → List Lock → Bool
sets_up f l t m cs ks = ((nat_le 1 f && nat_le f 5) && (nat_le 1 l && nat_le l 8)) && accepts f l t m cs ks

-- a vault in plain numbers
pub record Told : Type 0 where
  pub sizes : Counts
  pub change : Change
  pub office : Office

abbrev pub told : Result Vault Refusal → Result Told Refusal
told (Ok v) = Ok (record { sizes = counts v.sizes.faults v.sizes.locks; change = v.change; office = v.office })
told (Err e) = Err e

abbrev pub vault_set_up : Bool → ℕ → ℕ → ℕ → Result Told Refusal
vault_set_up fits f l t = cond fits (Ok (record { sizes = counts f l; change = change t; office = office false })) (Err set_up)

-- both tables after a set-up
abbrev pub controllers_set_up : Bool → ℕ → List Controller → List Controller
controllers_set_up fits f cs = cond fits (renewed new_controller (3 * f + 1) cs) cs

abbrev pub locks_set_up : Bool → ℕ → List Lock → List Lock
locks_set_up fits l ks = cond fits (renewed new_lock l ks) ks

-- a vault that was set up is the start of lists of calls, over any relation of seals
abbrev pub Starts : Result Vault Refusal → List Controller → List Lock → Meaning → Type 0
Starts r cs ks m = (v : Vault) (holds : Relation) → r ≡ Ok v → SetUp (constant v holds) (state cs ks v m)
