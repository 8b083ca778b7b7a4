use Rattle.std.proofs.Common.{rules}
use Rattle.std.proofs.lemmas.List.{append_assoc}
use Rattle.writing.proofs.bodies.put_grounds.Goals as goal

pub returns-in-Some-clause-joined : goal.returns-in-Some-clause-joined
returns-in-Some-clause-joined g c =
    rw (c.in-Some.is, c.put_certificate.ensures.joined, c.put_basis.ensures.joined, c.put_number.ensures.joined, c.outcome_number.ensures) (search (rules, append_assoc))
