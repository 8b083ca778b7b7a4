-- In a row of steps a controller gives at most one voice a view.
use Rattle.std.proofs.Common.{◌≡◌, ℕ, ◌+◌, ◌<◌, false, cond, eqb, ◌⊎◌, List, [], ◌∷◌, ◌++◌, Some, count_by, sym, refl, ap, ◌∙◌, inl, inr, arith}
use Rattle.std.proofs.lemmas.List.Sums.{sum_by-append}
use Rattle.std.proofs.lemmas.Bool.{cases_Bool, cases_order, eqb-true, ne_eqb}
use Rattle.terms.specs.declared.numbers.Change.{Change}
use Rattle.terms.specs.declared.numbers.View.{View}
use Rattle.terms.specs.declared.sizes.Sizes.{Sizes}
use Rattle.letters.specs.declared.sorts.Seal.{Seal}
use Rattle.controllers.specs.declared.controller.Controller.{Controller}
use Rattle.controllers.specs.declared.controller.Proposal.{Proposal}
use Rattle.steps.specs.Steps.{ControllerStep, controller_next, controller_sends}
use Rattle.steps.specs.Laws.{Voice, SpokenOnce}
use Rattle.steps.specs.Voices.{voices_in, voices_of, AtMostOneVoiceAView}
use Rattle.steps.proofs.Replies.{none_some}
use Rattle.steps.proofs.Controllers.{view_never_falls, proposal_stays}
use Rattle.steps.proofs.Voices.{Spoke, silent, spoken, step_spoke}

-- no voice of this view will be given any more: it is past, or a proposal is held in it
abbrev Over : Controller → ℕ → Type 0
Over u v = (v < u.view.0) ⊎ ((v ≡ u.view.0) × ((p : Proposal) × (u.round.proposal ≡ Some p)))

abbrev in_view : ℕ → List Voice → ℕ
in_view v ks = count_by (λ k. eqb k.view.0 v) ks

module _ (sizes : Sizes) (t : Change) (u : Controller) (s : ControllerStep) (own : Seal) where
  over_stays : (v : ℕ) → Over u v → Over (controller_next sizes t u s own) v
  over_stays v (inl l) = inl (omega (arith, l, view_never_falls sizes t u s own))
  over_stays v (inr (e, (p, h))) = elim (cases_order (controller_next sizes t u s own).view.0 u.view.0) [
    | inl q ↦ inr (e ∙ sym q, (p, proposal_stays sizes t u s own p h q))
    | inr q ↦ inl (let k = view_never_falls sizes t u s own in elim q [ inl l ↦ omega (arith, k, l) | inr l ↦ omega (arith, l, e) ])
  ]

  present : (k : Voice) → SpokenOnce u (controller_next sizes t u s own) k → k.view.0 ≡ u.view.0
  present k h = ap (λ (w : View). w.0) h.present

  -- then the step gives none
  over_silent : (v : ℕ) (ks : List Voice) → Spoke u (controller_next sizes t u s own) ks → Over u v → in_view v ks ≡ 0
  over_silent v ks (silent e) o = ap (in_view v) e
  over_silent v ks (spoken k e h) (inl l) =
      let n : eqb k.view.0 v ≡ false = ne_eqb _ _ (λ q. omega (arith, q, present k h, l)) in
      ap (in_view v) e ∙ ap (λ b. 0 + cond b 1 0) n
  over_silent v ks (spoken k e h) (inr (q, (p, i))) = absurd (none_some h.unspoken i)

  -- a step gives none of a view, or one, and then no more
  once : (v : ℕ) (ks : List Voice) → Spoke u (controller_next sizes t u s own) ks → (in_view v ks ≡ 0) ⊎ ((in_view v ks ≡ 1) × Over (controller_next sizes t u s own) v)
  once v ks (silent e) = inl (ap (in_view v) e)
  once v ks (spoken k e h) = elim (cases_Bool (eqb k.view.0 v)) [
    | inl q ↦ inr (ap (in_view v) e ∙ ap (λ b. 0 + cond b 1 0) q, inr (sym (eqb-true _ _ q) ∙ present k h ∙ ap (λ (w : View). w.0) (sym h.same_view_holds), (h.holds.proposal, h.holds.holds)))
    | inr q ↦ inl (ap (in_view v) e ∙ ap (λ b. 0 + cond b 1 0) q)
  ]

joined : (v : ℕ) (xs ys : List Voice) → in_view v (xs ++ ys) ≡ in_view v xs + in_view v ys
joined v xs ys = sum_by-append (λ k. cond (eqb k.view.0 v) 1 0) xs ys

row_silent : (sizes : Sizes) (t : Change) (u : Controller) (ss : List (ControllerStep × Seal)) (v : ℕ) → Over u v → in_view v (voices_of sizes t u ss) ≡ 0
unfolding voices_of
row_silent sizes t u [] v o = refl
row_silent sizes t u (s ∷ ss) v o =
    let a = over_silent sizes t u s.0 s.1 v _ (step_spoke sizes t u s.0 s.1) o in
    let b = row_silent sizes t (controller_next sizes t u s.0 s.1) ss v (over_stays sizes t u s.0 s.1 v o) in
    joined v (voices_in (controller_sends sizes t u s.0 s.1)) _ ∙ omega (arith, a, b)

pub at_most_one_voice_a_view : AtMostOneVoiceAView
unfolding voices_of
at_most_one_voice_a_view sizes t u [] v = omega arith
at_most_one_voice_a_view sizes t u (s ∷ ss) v =
    let j = joined v (voices_in (controller_sends sizes t u s.0 s.1)) (voices_of sizes t (controller_next sizes t u s.0 s.1) ss) in
    elim (once sizes t u s.0 s.1 v _ (step_spoke sizes t u s.0 s.1)) [
      | inl a ↦ (let b = at_most_one_voice_a_view sizes t (controller_next sizes t u s.0 s.1) ss v in omega (arith, j, a, b))
      | inr a ↦ (let b = row_silent sizes t (controller_next sizes t u s.0 s.1) ss v a.1 in omega (arith, j, a.0, b))
    ]
