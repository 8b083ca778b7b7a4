-- Letters as values, and what their statements tell of certificate and basis.
use Rattle.std.specs.Prelude.{Some, None, Option}
use Rattle.terms.specs.declared.numbers.Change.{Change}
use Rattle.letters.specs.declared.sorts.Seal.{Seal}
use Rattle.letters.specs.declared.sorts.Digest.{Digest}
use Rattle.letters.specs.declared.sorts.Kind.{Kind}
use Rattle.letters.specs.declared.sorts.Kind.TheVariants as K
use Rattle.letters.specs.declared.certificates.Certificate.{Certificate}
use Rattle.letters.specs.declared.certificates.Basis.{Basis}
use Rattle.letters.specs.declared.bodies.Brief.{Brief}
use Rattle.letters.specs.declared.bodies.Letter.{Letter}
use Rattle.letters.specs.declared.bodies.Body.{Body}
use Rattle.letters.specs.declared.bodies.Body.TheVariants.{Enrol, Receipt, Order, Summons, Vote, Proposal, Assent, Confirm, Result, Move}
use Rattle.letters.specs.Certificates.{certificate_digest}

abbrev pub each_basis : {B B' : Type 0} → (B → B') → Option B → Option B'
each_basis g None = None
each_basis g (Some b) = Some (g b)

-- the same letter, with another account of its certificate and its basis
abbrev pub retold : {C B C' B' : Type 0} → (C → C') → (B → B') → Body C B → Body C' B'
retold f g (Enrol p) = Enrol p
retold f g (Receipt s p) = Receipt s p
retold f g (Order n) = Order n
retold f g (Summons s n z) = Summons s n z
retold f g (Vote p n a) = Vote p n a
retold f g (Proposal s v x c m) = Proposal s v x (f c) m
retold f g (Assent s v x d) = Assent s v x d
retold f g (Confirm s v x d) = Confirm s v x d
retold f g (Result s x) = Result s x
retold f g (Move s v b) = Move s v (each_basis g b)

-- what a move's statement tells of its basis
abbrev pub brief_of : Basis → Brief
brief_of b = record { view = b.view; outcome = b.outcome; digest = certificate_digest b.certificate }

-- a letter as its statement tells it
abbrev pub in_brief : Body Certificate Basis → Body Digest Brief
in_brief b = retold certificate_digest brief_of b

-- which kind of letter it is
abbrev pub kind_of_body : {C B : Type 0} → Body C B → Kind
kind_of_body (Enrol p) = K.Enrol
kind_of_body (Receipt s p) = K.Receipt
kind_of_body (Order n) = K.Order
kind_of_body (Summons s n z) = K.Summons
kind_of_body (Vote p n a) = K.Vote
kind_of_body (Proposal s v x c m) = K.Proposal
kind_of_body (Assent s v x d) = K.Assent
kind_of_body (Confirm s v x d) = K.Confirm
kind_of_body (Result s x) = K.Result
kind_of_body (Move s v b) = K.Move

abbrev pub letter : {C B : Type 0} → Change → Body C B → Seal → Letter C B
letter t b z = record { change = t; body = b; seal = z }
