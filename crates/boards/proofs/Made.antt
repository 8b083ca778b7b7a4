-- The steps of a loop that makes the doors of a board.
use Rattle.std.proofs.Common.{◌≡◌, ℕ, ◌+◌, ◌<◌, ◌≤◌, Bool, true, false, ◌&&◌, List, [], ◌∷◌, ◌++◌, map, length, get_or, take, drop, Some, None, sym, ap, ◌∙◌, arith}
use Rattle.std.proofs.lemmas.List.{at_drop_more, at_drop_all, map_more, take_all}
use Rattle.terms.specs.Numbers.{within}
use Rattle.boards.specs.declared.door.Door.{Door}
use Rattle.boards.specs.Boards.{each}

-- what is left of the list decides whether it fits, and the doors so far are made of the others
pub record Filled {A : Type 0} (fit : A → Bool) (make : A → Door) (xs : List A) (i : ℕ) (doors : List Door) : Type 0 where
  pub left : each fit (drop i xs) ≡ each fit xs
  pub so_far : doors ≡ map make (take i xs)

each_more :
    {A : Type 0} (fit : A → Bool) (xs : List A) (i : ℕ) (x : A) → i < length xs → x ≡ get_or xs i x →
    each fit (drop i xs) ≡ fit x && each fit (drop (i + 1) xs)
unfolding each
each_more fit xs i x h is = at_drop_more (each fit) xs i x h ∙ ap (λ y. fit y && each fit (drop (i + 1) xs)) (sym is)

-- the next entry x gave a door, which comes after the doors so far
pub filled_more :
    {A : Type 0} (fit : A → Bool) (make : A → Door) (xs : List A) (i : ℕ) (x : A) (doors : List Door) (door : Door) (more : List Door) →
    Filled fit make xs i doors → i < length xs → x ≡ get_or xs i x → Some door ≡ within (fit x) (make x) → more ≡ doors ++ door ∷ [] →
    Filled fit make xs (i + 1) more
filled_more fit make xs i x doors door more f h is given e =
    let ok : fit x ≡ true = grind (arith, given) in
    let same : door ≡ make x = grind (arith, given) in
    record {
      left = sym (each_more fit xs i x h is ∙ ap (λ b. b && each fit (drop (i + 1) xs)) ok) ∙ f.left;
      so_far = e ∙ ap (λ d. doors ++ d ∷ []) (same ∙ ap make is) ∙ ap (λ ds. ds ++ make (get_or xs i x) ∷ []) f.so_far ∙ sym (map_more make xs i x h);
    }

-- the next entry x gave none
pub filled_unfit :
    {A : Type 0} (fit : A → Bool) (make : A → Door) (xs : List A) (i : ℕ) (x : A) (doors : List Door) →
    Filled fit make xs i doors → i < length xs → x ≡ get_or xs i x → None ≡ within (fit x) (make x) → each fit xs ≡ false
filled_unfit fit make xs i x doors f h is given = let more = each_more fit xs i x h is in grind (arith, given, f.left)

pub filled_fit :
    {A : Type 0} (fit : A → Bool) (make : A → Door) (xs : List A) (i : ℕ) (doors : List Door) →
    Filled fit make xs i doors → length xs ≤ i → each fit xs ≡ true
unfolding each
filled_fit fit make xs i doors f h = sym f.left ∙ at_drop_all (each fit) xs i h

pub filled_all :
    {A : Type 0} (fit : A → Bool) (make : A → Door) (xs : List A) (i : ℕ) (doors : List Door) →
    Filled fit make xs i doors → length xs ≤ i → doors ≡ map make xs
filled_all fit make xs i doors f h = f.so_far ∙ ap (map make) (take_all i xs h)
