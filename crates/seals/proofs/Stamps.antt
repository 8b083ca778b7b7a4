-- A statement fills the room that it is written into.
use Rattle.std.proofs.Common.{◌≡◌, ℕ, true, cond, leb, List, [], ◌++◌, length, drop, refl, ap, ◌∙◌, arith, append-nil}
use Rattle.std.proofs.lemmas.List.{drop_all}
use Rattle.std.proofs.lemmas.Bool.{le-leb}
use Rattle.letters.specs.declared.statements.Statement.{Statement}
use Rattle.letters.specs.Bytes.{le4, le8, written}
use Rattle.letters.specs.Statements.{statement_bytes}
use Rattle.writing.specs.Writing.{write_buffer}

statement_length : (s : Statement) → length (statement_bytes s) ≡ 24
unfolding statement_bytes le4 le8
statement_length s = refl

pub stamped : (s : Statement) (xs : List ℕ) → length xs ≡ 24 → write_buffer (statement_bytes s) xs ≡ statement_bytes s
stamped s xs h =
    let room : leb (length (statement_bytes s)) (length xs) ≡ true = le-leb _ _ (omega (arith, h, statement_length s)) in
    let rest : drop (length (statement_bytes s)) xs ≡ [] = drop_all _ xs (omega (arith, h, statement_length s)) in
    ap (λ b. cond b (written (statement_bytes s) xs) xs) room ∙ (ap (λ t. statement_bytes s ++ t) rest ∙ append-nil (statement_bytes s))
