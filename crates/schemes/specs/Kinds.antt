-- The two kinds of seals, by their rows.
use Rattle.std.specs.Prelude.{ℕ, Bool, cond, List, [], Ok, Err, Result, ◌==◌, slice_index_or}
use Rattle.terms.specs.declared.parties.Party.{Party}
use Rattle.terms.specs.declared.refusals.Refusal.{Refusal}
use Rattle.terms.specs.Refusals.{set_up}
use Rattle.letters.specs.declared.sorts.Seal.{Seal}
use Rattle.letters.specs.Bytes.{eight_at}
use Rattle.letters.specs.Sorts.{seal}
use Rattle.schemes.specs.declared.keys.RowSeals.{RowSeals}
use Rattle.schemes.specs.Rows.{row_of, enough}
use Rattle.schemes.specs.Sip.{sip_hash}
use Rattle.schemes.specs.Sheet.{sheet_sum}

-- the party's row; a party past the last row has none
abbrev pub row_for : List (List ℕ) → Party → List ℕ
row_for rows q = slice_index_or rows (row_of q) []

-- SipHash-2-4 of the statement under the party's key of sixteen bytes
abbrev pub digest_seal : List (List ℕ) → Party → List ℕ → Seal
digest_seal keys q statement = seal (sip_hash (eight_at (row_for keys q) 0) (eight_at (row_for keys q) 8) statement)

-- the weighted sum of the party's 25 words
abbrev pub sheet_seal : List (List ℕ) → Party → List ℕ → Seal
sheet_seal sheets q statement = seal (sheet_sum (row_for sheets q) statement)

-- one seal is the party's on a statement, and no other
abbrev pub is_seal : Seal → Seal → Bool
is_seal y z = y.0 == z.0

-- rows for all parties are taken; fewer are refused
abbrev pub taken : {R : Type 0} → List R → Result (List R) Refusal
taken rows = cond (enough rows) (Ok rows) (Err set_up)

abbrev pub rows_of : {R : Type 0} → Result (RowSeals R) Refusal → Result (List R) Refusal
rows_of (Ok s) = Ok s.rows.now
rows_of (Err e) = Err e
