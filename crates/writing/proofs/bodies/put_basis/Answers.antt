use Rattle.std.proofs.Common.{is_some, rules}
use Rattle.letters.specs.Bytes.{le2, le8}
use Rattle.std.proofs.lemmas.List.{append_assoc, map-id}
use Rattle.writing.proofs.bodies.put_basis.Goals as goal

pub returns-clause-joined : goal.returns-clause-joined
unfolding le2 le8
returns-clause-joined g c =
    let map = c.map_of.ensures.map is_some (λ x r h. search rules) in
    let rows = c.extend_rows.ensures.rows (λ r. r) (λ x r h. search rules) in
    rw (rows, map-id, c.extend-3.ensures, c.extend-2.ensures, c.extend.ensures, c.number.ensures, c.to_le_bytes.ensures, c.to_le_bytes-2.ensures, ← map) (search (rules, append_assoc))
