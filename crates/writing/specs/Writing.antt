-- Bytes written over the start of a buffer: all of them, or none where there is no room.
use Rattle.std.specs.Prelude.{ℕ, Bool, cond, List, ◌++◌, length, Ok, Err, Result, nat_le}
use Rattle.terms.specs.declared.refusals.Refusal.{Refusal}
use Rattle.terms.specs.Refusals.{no_room}
use Rattle.letters.specs.Bytes.{written}

-- the buffer is at least as long as the bytes
abbrev pub room_for : List ℕ → List ℕ → Bool
room_for ys xs = nat_le (length ys) (length xs)

-- `a` if there is room for the bytes, else refused
abbrev pub if_room : {A : Type 0} → A → List ℕ → List ℕ → Result A Refusal
if_room a ys xs = cond (room_for ys xs) (Ok a) (Err no_room)

-- how many bytes were written
abbrev pub write_answer : List ℕ → List ℕ → Result ℕ Refusal
write_answer ys xs = if_room (length ys) ys xs

-- of two, one after the other, how many bytes each has
abbrev pub both_answer : List ℕ → List ℕ → List ℕ → Result (ℕ × ℕ) Refusal
both_answer ys zs xs = if_room (length ys, length zs) (ys ++ zs) xs

-- the buffer afterwards: the bytes and then the rest as it was; refused, it is as it was
abbrev pub write_buffer : List ℕ → List ℕ → List ℕ
write_buffer ys xs = cond (room_for ys xs) (written ys xs) xs
