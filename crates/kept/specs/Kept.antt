-- What a controller keeps of a part: the certificate or the basis in its bytes.
use Rattle.std.specs.Prelude.{ℕ, ◌+◌, ◌*◌, ◌/◌, ◌%◌, Bool, true, false, cond, List, [], ◌∷◌, Some, None, Option, ◌==◌, count_ones, slice_index}
use Rattle.terms.specs.Numbers.{key_of, view_of}
use Rattle.letters.specs.declared.sorts.Answer.{Answer}
use Rattle.letters.specs.declared.sorts.Answer.TheVariants.{Ready, Refuse}
use Rattle.letters.specs.declared.sorts.Seal.{Seal}
use Rattle.letters.specs.declared.certificates.Basis.{Basis}
use Rattle.letters.specs.declared.certificates.Certificate.{Certificate}
use Rattle.letters.specs.declared.certificates.Order.{Order}
use Rattle.letters.specs.declared.certificates.Vote.{Vote}
use Rattle.letters.specs.declared.bodies.Body.{Body}
use Rattle.letters.specs.declared.bodies.Letter.{Letter}
use Rattle.letters.specs.Bodies.{retold, letter}
use Rattle.letters.specs.Bytes.{two_at, four_at, eight_at, rows_at}
use Rattle.letters.specs.Sorts.{seal}
use Rattle.reading.specs.Parts.{Span, Spans}

abbrev pub answer_if : Bool → Answer
answer_if true = Ready
answer_if false = Refuse

abbrev pub vote_of : Bool → Option Seal → Option Vote
vote_of ready None = None
vote_of ready (Some z) = Some (record { answer = answer_if ready; seal = z })

-- the votes: a seal for each place that voted, and a bit for each that is ready
unfoldable pub votes_of : ℕ → List (Option Seal) → List (Option Vote)
votes_of ready [] = []
votes_of ready (r ∷ rs) = vote_of (ready % 2 == 1) r ∷ votes_of (ready / 2) rs

-- byte 3 says whether a number comes before the office's seal
abbrev pub order_in : List ℕ → Order
order_in bs =
    cond (slice_index bs 3 == 1)
    (record { number = key_of (four_at bs 4); seal = seal (eight_at bs 8) })
    (record { number = None; seal = seal (eight_at bs 4) })

-- where the seals of the enrolments begin
abbrev pub enrolments_at : List ℕ → ℕ
enrolments_at bs = cond (slice_index bs 3 == 1) 16 12

-- the certificate in its bytes: maps of enrolled, voted and ready places, the order, and the seals
abbrev pub certificate_in : List ℕ → Certificate
certificate_in bs = record {
  order = order_in bs;
  enrolled = rows_at 8 (slice_index bs 0) bs (enrolments_at bs);
  votes = votes_of (slice_index bs 2) (rows_at 8 (slice_index bs 1) bs (enrolments_at bs + count_ones (slice_index bs 0) * 8));
}

-- the basis in its bytes: view, seat map, the leader's seal, and the seals of the seats
abbrev pub basis_in : Spans → Basis
basis_in g = record {
  view = view_of (slice_index g.basis.bytes 0);
  outcome = g.outcome;
  certificate = certificate_in g.certificate.bytes;
  leader_seal = seal (eight_at g.basis.bytes 3);
  assents = rows_at 16 (two_at g.basis.bytes 1) g.basis.bytes 11;
}

abbrev pub certificate_of : Span → Certificate
certificate_of c = certificate_in c.bytes

-- what a letter that was read says, with its certificate and its basis as values
abbrev pub kept_body : Body Span Spans → Body Certificate Basis
kept_body b = retold certificate_of basis_in b

abbrev pub kept : Letter Span Spans → Letter Certificate Basis
kept l = letter l.change (kept_body l.body) l.seal
