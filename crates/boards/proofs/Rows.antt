-- The first doors of a fixed row.
use Rattle.std.proofs.Common.{◌≡◌, ℕ, ◌<◌, List, map, take, set, sym, ap, ◌∙◌}
use Rattle.std.proofs.lemmas.List.{map-set}
use Rattle.std.proofs.Math.Seq.{take-set-lt}

-- a write into a row that is shown as a whole as each of its doors is, seen in what its first n show
pub row_of_set :
    {X Y : Type 0} (f : X → Y) (all : List X → List Y) → ((xs : List X) → all xs ≡ map f xs) → (n : ℕ) (xs : List X) (i : ℕ) (y : X) → i < n →
    all (take n (set xs i y)) ≡ set (all (take n xs)) i (f y)
row_of_set f all each n xs i y h =
    each (take n (set xs i y)) ∙ ap (map f) (take-set-lt n xs i y h) ∙ map-set f (take n xs) i y ∙ ap (λ zs. set zs i (f y)) (sym (each (take n xs)))
