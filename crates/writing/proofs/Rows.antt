-- The seals of some rows, and of one row more.
use Rattle.std.proofs.Common.{◌≡◌, ℕ, ◌+◌, ◌<◌, ◌≤◌, List, [], ◌∷◌, ◌++◌, length, map, take, get_or, Option, sym, refl, ap, ◌∙◌, arith}
use Rattle.std.proofs.lemmas.List.{append_assoc, append-nil, take_more, map-append}
use Rattle.letters.specs.declared.sorts.Seal.{Seal}
use Rattle.letters.specs.declared.certificates.Vote.{Vote}
use Rattle.letters.specs.Bytes.{le8, seal_bytes, row_bytes}
use Rattle.letters.specs.Certificates.{vote_seal, vote_seals}

rows_append : (rs ss : List (Option Seal)) → row_bytes (rs ++ ss) ≡ row_bytes rs ++ row_bytes ss
unfolding row_bytes
rows_append [] ss = refl
rows_append (r ∷ rs) ss = ap (λ z. seal_bytes r ++ z) (rows_append rs ss) ∙ sym (append_assoc (seal_bytes r) (row_bytes rs) (row_bytes ss))

pub rows_none : row_bytes [] ≡ []
unfolding row_bytes
rows_none = refl

pub rows_more : (rs : List (Option Seal)) (r : Option Seal) → row_bytes (rs ++ r ∷ []) ≡ row_bytes rs ++ seal_bytes r
unfolding row_bytes
rows_more rs r = rows_append rs (r ∷ []) ∙ ap (λ z. row_bytes rs ++ z) (append-nil (seal_bytes r))

-- row i more of those that stand in a buffer already
pub rows_next :
    {A : Type 0} {before after : List ℕ} {r : Option Seal} (old : List ℕ) (seal : A → Option Seal) (xs : List A) (i : ℕ) (x : A) →
    i < length xs → x ≡ get_or xs i x → before ≡ old ++ row_bytes (map seal (take i xs)) → after ≡ before ++ seal_bytes r → r ≡ seal x →
    after ≡ old ++ row_bytes (map seal (take (i + 1) xs))
rows_next {A} {before} {after} {r} old seal xs i x h at b a e =
    let more : take (i + 1) xs ≡ take i xs ++ x ∷ [] = take_more xs i x h ∙ ap (λ z. take i xs ++ z ∷ []) (sym at) in
    rw (a, b, e, more, map-append, rows_more, append_assoc)

-- no seal is longer than eight bytes
pub seal_length : (r : Option Seal) → length (seal_bytes r) ≤ 8
unfolding le8
seal_length r = grind arith

pub map_seals : (vs : List (Option Vote)) → map vote_seal vs ≡ vote_seals vs
unfolding vote_seals
map_seals [] = refl
map_seals (v ∷ vs) = ap (λ z. vote_seal v ∷ z) (map_seals vs)
