-- Who sends a letter.
use Rattle.terms.specs.declared.parties.Party.{Party}
use Rattle.terms.specs.declared.parties.Party.TheVariants.{Controller, Lock, Office}
use Rattle.letters.specs.declared.bodies.Body.{Body}
use Rattle.letters.specs.declared.bodies.Body.TheVariants.{Enrol, Receipt, Order, Summons, Vote, Proposal, Assent, Confirm, Result, Move}

abbrev pub sender_of : {C B : Type 0} → Body C B → Party
sender_of (Enrol p) = Lock p
sender_of (Receipt s p) = Controller s
sender_of (Order n) = Office
sender_of (Summons s n z) = Controller s
sender_of (Vote p n a) = Lock p
sender_of (Proposal s v x c m) = Controller s
sender_of (Assent s v x d) = Controller s
sender_of (Confirm s v x d) = Controller s
sender_of (Result s x) = Controller s
sender_of (Move s v b) = Controller s
