-- What holds of every step of a controller.
use Rattle.std.proofs.Common.{◌≡◌, ℕ, true, not, eqb, get_or, is_some, None, refl, ◌∙◌, inl, inr, arith}
use Rattle.std.proofs.lemmas.Bool.Decides.{nat_tests}
use Rattle.std.proofs.lemmas.Bool.{cond_both}
use Rattle.terms.specs.declared.numbers.Change.{Change}
use Rattle.terms.specs.declared.sizes.Sizes.{Sizes}
use Rattle.letters.specs.declared.sorts.Seal.{Seal}
use Rattle.letters.specs.declared.certificates.Basis.{Basis}
use Rattle.letters.specs.declared.certificates.Certificate.{Certificate}
use Rattle.letters.specs.declared.bodies.Body.{Body}
use Rattle.letters.specs.declared.bodies.Body.TheVariants as B
use Rattle.posting.specs.Replies.{after}
use Rattle.controllers.specs.declared.controller.Controller.{Controller}
use Rattle.controllers.specs.Letters.{body_rule}
use Rattle.controllers.specs.Rules.{Reply, confirming, pair}
use Rattle.steps.specs.Steps.{ControllerStep, to_controller, controller_reply, controller_next}
use Rattle.steps.proofs.Rows.{row_stays}
use Rattle.steps.proofs.Voices.{Bases, assent_bases}
use Rattle.steps.specs.Laws.{SeatStays, ViewNeverFalls, ResultStays, OrderStays, RegisteredPlacesStay, RegisteredPlacesNeverGrow, BasisNeverFalls, ProposalStaysInItsView}

pub seat_stays : SeatStays
unfolding controller_reply confirming
seat_stays sizes t u (to_controller l) own = grind (arith, nat_tests)
seat_stays sizes t u s own = grind (arith, nat_tests)

pub view_never_falls : ViewNeverFalls
unfolding controller_reply confirming
view_never_falls sizes t u (to_controller l) own = grind (arith, nat_tests)
view_never_falls sizes t u s own = grind (arith, nat_tests)

pub result_stays : ResultStays
unfolding controller_reply confirming
result_stays sizes t u (to_controller l) own x h = grind (arith, nat_tests)
result_stays sizes t u s own x h = grind (arith, nat_tests)

pub order_stays : OrderStays
unfolding controller_reply confirming
order_stays sizes t u (to_controller l) own x h = grind (arith, nat_tests)
order_stays sizes t u s own x h = grind (arith, nat_tests)

pub proposal_stays : ProposalStaysInItsView
unfolding controller_reply confirming
proposal_stays sizes t u (to_controller l) own p h e = grind (arith, nat_tests)
proposal_stays sizes t u s own p h e = grind (arith, nat_tests)

registered_body : (sizes : Sizes) (t : Change) (u : Controller) (b : Body Certificate Basis) (z own : Seal) (p : ℕ) → is_some (get_or u.registered p None) ≡ true → is_some (get_or (after u (body_rule sizes t u b z own)).registered p None) ≡ true
unfolding confirming
registered_body sizes t u (B.Enrol q) z own p h = let k = row_stays u.registered q.0 p z h in grind (arith, nat_tests)
registered_body sizes t u b z own p h = let same : (after u (body_rule sizes t u b z own)).registered ≡ u.registered = grind (arith, nat_tests) in rw same h

pub registered_places_stay : RegisteredPlacesStay
unfolding controller_reply
registered_places_stay sizes t u (to_controller l) own p h = cond_both (not (eqb l.change.0 t.0)) _ _ (λ (r : Reply). is_some (get_or (after u r).registered p None) ≡ true) (λ _. h) (λ _. registered_body sizes t u l.body l.seal own p h)
registered_places_stay sizes t u s own p h = grind (arith, nat_tests)

-- under an order the registered places stay as they are
registered_same : (sizes : Sizes) (t : Change) (u : Controller) (s : ControllerStep) (own : Seal) → is_some u.order ≡ true → (controller_next sizes t u s own).registered ≡ u.registered
unfolding controller_reply confirming
registered_same sizes t u (to_controller l) own h = grind (arith, nat_tests)
registered_same sizes t u s own h = grind (arith, nat_tests)

pub registered_places_never_grow : RegisteredPlacesNeverGrow
registered_places_never_grow sizes t u s own h p e = rw (registered_same sizes t u s own h) at e

basis_body : (sizes : Sizes) (t : Change) (u : Controller) (b : Body Certificate Basis) (z own : Seal) → Bases u (after u (body_rule sizes t u b z own))
basis_body sizes t u (B.Assent s v x d) z own = assent_bases sizes u s v (pair x d) z
basis_body sizes t u b z own = inl (grind (arith, nat_tests))

basis_ways : (sizes : Sizes) (t : Change) (u : Controller) (s : ControllerStep) (own : Seal) → Bases u (controller_next sizes t u s own)
unfolding controller_reply
basis_ways sizes t u (to_controller l) own = cond_both (not (eqb l.change.0 t.0)) _ _ (λ (r : Reply). Bases u (after u r)) (λ _. inl refl) (λ _. basis_body sizes t u l.body l.seal own)
basis_ways sizes t u s own = inl (grind (arith, nat_tests))

pub basis_never_falls : BasisNeverFalls
basis_never_falls sizes t u s own b e h = elim (basis_ways sizes t u s own) [
  | inl q ↦ record { basis = b; holds = q ∙ e; no_lower = omega arith }
  | inr q ↦ record { basis = q.basis; holds = q.holds; no_lower = omega (arith, q.no_lower) }
]
