-- Rows one by one, and the same over whole lists.
use Rattle.std.proofs.Common.{◌≡◌, ℕ, zero, suc, ◌<◌, ◌≤◌, Bool, ◌&&◌, ◌||◌, List, length, take, get_or, is_some, None, Option, refl, sym, ap, ◌∙◌, add-one, arith}
use Rattle.std.proofs.lemmas.List.{take_all}
use Rattle.std.proofs.lemmas.List.Folds.{list_any_more, list_all_more}
use Rattle.std.proofs.lemmas.Slice.Zip.{get_or-zip, length-zip}
use Rattle.std.specs.List.{list_any, list_all, zip}
use Rattle.letters.specs.declared.sorts.Seal.{Seal}
use Rattle.letters.specs.declared.certificates.Vote.{Vote}
use Rattle.letters.specs.Certificates.{row_ready, all_ready, some_enrolled}

some_of_first : (es : List (Option Seal)) (n : ℕ) → n ≤ length es → some_enrolled es n ≡ list_any is_some (take n es)
unfolding some_enrolled
some_of_first es zero h = refl
some_of_first es (suc n) h =
    ap (λ b. b || is_some (get_or es n None)) (some_of_first es n (omega arith))
    ∙ sym (list_any_more is_some es n None (omega arith)) ∙ ap (λ k. list_any is_some (take k es)) (add-one n)

pub some_of_all : (es : List (Option Seal)) → some_enrolled es (length es) ≡ list_any is_some es
some_of_all es = some_of_first es (length es) (omega arith) ∙ ap (list_any is_some) (take_all (length es) es (omega arith))

abbrev pub ready_pair : Option Seal × Option Vote → Bool
ready_pair p = row_ready p.0 p.1

module _ (es : List (Option Seal)) (vs : List (Option Vote)) (same : length es ≡ length vs) where
  ready_of_first : (n : ℕ) → n ≤ length es → all_ready es vs n ≡ list_all ready_pair (take n (zip es vs))
  unfolding all_ready
  ready_of_first zero h = refl
  ready_of_first (suc n) h =
      let long : n < length (zip es vs) = omega (arith, length-zip es vs) in
      ap (λ b. b && row_ready (get_or es n None) (get_or vs n None)) (ready_of_first n (omega arith))
      ∙ ap (λ p. list_all ready_pair (take n (zip es vs)) && ready_pair p) (sym (get_or-zip es vs n (None, None) (omega arith) (omega arith)))
      ∙ sym (list_all_more ready_pair (zip es vs) n (None, None) long) ∙ ap (λ k. list_all ready_pair (take k (zip es vs))) (add-one n)

  pub ready_of_all : all_ready es vs (length es) ≡ list_all ready_pair (zip es vs)
  ready_of_all =
      ready_of_first (length es) (omega arith)
      ∙ ap (list_all ready_pair) (take_all (length es) (zip es vs) (omega (arith, length-zip es vs)))
