-- The certificate: its result, its bytes and its digest.
use Rattle.std.specs.Prelude.{ℕ, zero, suc, ◌*◌, ◌%◌, ◌^◌, Bool, true, false, cond, ◌&&◌, ◌||◌, List, [], ◌∷◌, ◌++◌, length, is_some, Some, None, fold, Option, bit_xor, slice_index_or}
use Rattle.terms.specs.declared.numbers.KeyNumber.{KeyNumber}
use Rattle.terms.specs.declared.parties.Outcome.{Outcome}
use Rattle.terms.specs.declared.parties.Outcome.TheVariants.{Keep, Number}
use Rattle.letters.specs.declared.sorts.Seal.{Seal}
use Rattle.letters.specs.declared.sorts.Digest.{Digest}
use Rattle.letters.specs.declared.sorts.Answer.{Answer}
use Rattle.letters.specs.declared.sorts.Answer.TheVariants.{Ready, Refuse}
use Rattle.letters.specs.declared.certificates.Vote.{Vote}
use Rattle.letters.specs.declared.certificates.Certificate.{Certificate}
use Rattle.letters.specs.Sorts.{digest}
use Rattle.letters.specs.Bytes.{le4, le8, map_of, row_bytes}

abbrev pub is_ready : Answer → Bool
is_ready Ready = true
is_ready Refuse = false

abbrev pub ready_vote : Option Vote → Bool
ready_vote None = false
ready_vote (Some v) = is_ready v.answer

-- a place is not enrolled, or has voted ready
abbrev pub row_ready : Option Seal → Option Vote → Bool
row_ready None v = true
row_ready (Some z) v = ready_vote v

-- each of the first n places that is enrolled has voted ready
unfoldable pub all_ready : List (Option Seal) → List (Option Vote) → ℕ → Bool
all_ready es vs zero = true
all_ready es vs (suc n) = all_ready es vs n && row_ready (slice_index_or es n None) (slice_index_or vs n None)

-- one of the first n places is enrolled
unfoldable pub some_enrolled : List (Option Seal) → ℕ → Bool
some_enrolled es zero = false
some_enrolled es (suc n) = some_enrolled es n || is_some (slice_index_or es n None)

abbrev pub result_under : Certificate → Option KeyNumber → Outcome
result_under c None = Keep
result_under c (Some n) =
    cond (some_enrolled c.enrolled (length c.enrolled) && all_ready c.enrolled c.votes (length c.enrolled)) (Number n) Keep

-- the ordered number, if some place is enrolled and all that are enrolled are ready; else keep
abbrev pub result_of : Certificate → Outcome
result_of c = result_under c c.order.number

-- 1 for a number, 0 for a cancel
abbrev pub order_flag : Option KeyNumber → ℕ
order_flag (Some n) = 1
order_flag None = 0

abbrev pub number_bytes : Option KeyNumber → List ℕ
number_bytes (Some n) = le4 n.0
number_bytes None = []

abbrev pub vote_seal : Option Vote → Option Seal
vote_seal (Some v) = Some v.seal
vote_seal None = None

unfoldable pub vote_seals : List (Option Vote) → List (Option Seal)
vote_seals [] = []
vote_seals (v ∷ vs) = vote_seal v ∷ vote_seals vs

-- maps of enrolled, voted and ready places and the flag; the number if there is one; the seals
-- of the office, of the enrolments and of the votes, places rising
abbrev pub certificate_bytes : Certificate → List ℕ
certificate_bytes c =
    ((((map_of is_some c.enrolled ∷ map_of is_some c.votes ∷ map_of ready_vote c.votes ∷ order_flag c.order.number ∷ [])
    ++ number_bytes c.order.number)
    ++ le8 c.order.seal.0)
    ++ row_bytes c.enrolled)
    ++ row_bytes (vote_seals c.votes)

-- FNV-1a, 64 bits
abbrev pub fnv_step : ℕ → ℕ → ℕ
fnv_step h b = (bit_xor h b * 1099511628211) % 2 ^ 64

abbrev pub fnv : List ℕ → ℕ
fnv bs = fold fnv_step 14695981039346656037 bs

-- the digest of bytes
abbrev pub digest_of : List ℕ → Digest
digest_of bs = digest (fnv bs)

-- the digest of a certificate is that of its bytes
abbrev pub certificate_digest : Certificate → Digest
certificate_digest c = digest_of (certificate_bytes c)
