use Rattle.std.proofs.Common.{refl, rules}
use Rattle.posting.specs.Posting.{no_seals}
use Rattle.office.proofs.Office.order.Goals as goal

pub returns : goal.returns
returns g c = record { seals = no_seals; words = refl; goes = search rules; sealed = search rules }
