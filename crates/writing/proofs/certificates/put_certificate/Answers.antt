use Rattle.std.proofs.Common.{is_some, rules}
use Rattle.letters.specs.Bytes.{le8}
use Rattle.letters.specs.Certificates.{ready_vote, vote_seal}
use Rattle.std.proofs.lemmas.List.{append_assoc, map-id}
use Rattle.writing.proofs.Rows.{map_seals}
use Rattle.writing.proofs.certificates.put_certificate.Goals as goal

pub returns-clause-joined : goal.returns-clause-joined
unfolding le8
returns-clause-joined g c =
    let enrolled = c.map_of-enrolled.ensures.map is_some (λ x r h. search rules) in
    let voted = c.map_of-voted.ensures.map is_some (λ x r h. search rules) in
    let ready = c.map_of-ready.ensures.map ready_vote (λ x r h. search rules) in
    let seals = c.extend_rows.ensures.rows (λ r. r) (λ x r h. search rules) in
    let votes = c.extend_rows-2.ensures.rows vote_seal (λ x r h. search rules) in
    rw (votes, map_seals, seals, map-id, c.extend-2.ensures, c.put_number.ensures.joined, c.extend.ensures, enrolled, voted, ready) (search (rules, append_assoc))
