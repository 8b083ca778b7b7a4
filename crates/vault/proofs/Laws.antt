-- A call that goes by the rules keeps the law.
use Rattle.agreement.specs.Calls.{Vault, State, Call, Went, Step}
use Rattle.agreement.specs.Law.{HoldsOneResult}
use Rattle.agreement.proofs.Final.{honest_locks_never_part_after, honest_controllers_hold_one_result}
use Rattle.vault.specs.Laws.{ShareOneResult, VotedReadyIfEnrolled, OrderedByOffice}

-- what each call on a vault promises of its last state
pub record KeepsLaws (v : Vault) (s : State) (call : Call) (w : Went) : Type 0 where
  pub by_the_rules : Step v s call w
  pub share_one_result : ShareOneResult v s call w
  pub voted_ready_if_enrolled : VotedReadyIfEnrolled v s call w
  pub ordered_by_office : OrderedByOffice v s call w
  pub one_result : HoldsOneResult v s call w

pub keeps_laws : {v : Vault} {s : State} {call : Call} {w : Went} → Step v s call w → KeepsLaws v s call w
keeps_laws {v} {s} {call} {w} by = record {
  by_the_rules = by;
  share_one_result = λ honest from run sound. (honest_locks_never_part_after v s call w by honest from run sound).alike;
  voted_ready_if_enrolled = λ honest from run sound. (honest_locks_never_part_after v s call w by honest from run sound).included;
  ordered_by_office = λ honest from run sound. (honest_locks_never_part_after v s call w by honest from run sound).ordered;
  one_result = honest_controllers_hold_one_result v s call w by;
}
