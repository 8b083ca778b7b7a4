use Rattle.std.proofs.Common.{◌≡◌, ◌++◌, length, sym, ap, ◌∙◌, append-nil, length-append, arith}
use Rattle.std.proofs.lemmas.List.{take_all}
use Rattle.letters.specs.Bytes.{seal_bytes, le8}
use Rattle.writing.proofs.Rows.{rows_none, rows_next, seal_length}
use Rattle.writing.proofs.drafts.Draft.extend_rows.Goals as goal
use Rattle.writing.proofs.drafts.Draft.extend_rows.Goals.{in-Some, in_default}

pub loop-row-init : goal.loop-row-init
loop-row-init g c = (λ seal k. sym (ap (λ z. c.args.self.now ++ z) rows_none ∙ append-nil c.args.self.now), omega arith)

pub loop-row-preserved : goal.loop-row-preserved
unfolding le8
loop-row-preserved g c =
    let one : c.match-seal_of.self ≡ c.loop-row.self ++ seal_bytes c.seal_of.result = elim c.match-seal_of.branch [
      | in-Some w ↦ w.self-is ∙ w.extend.ensures ∙ ap (λ z. c.loop-row.self ++ z) w.to_le_bytes.ensures ∙ ap (λ z. c.loop-row.self ++ seal_bytes z) (sym w.in-Some.is)
      | in_default w ↦ w.self-is ∙ sym (append-nil c.loop-row.self) ∙ ap (λ z. c.loop-row.self ++ seal_bytes z) (sym w.in_default.is)
    ] in (
      λ seal k. rows_next c.args.self.now seal c.args.rows.now c.loop-row.row-index c.row-item.result (omega arith) c.row-item.is (c.loop-row.invariant.0 seal k) one (k _ _ c.seal_of.ensures),
      omega (arith, ap length one, length-append c.loop-row.self (seal_bytes c.seal_of.result), seal_length c.seal_of.result),
    )

pub returns : goal.returns
returns g c = record { rows = λ seal k. rw (take_all c.loop-row.row-index c.args.rows.now (omega arith)) at c.loop-row.invariant.0 seal k; within = omega arith }
