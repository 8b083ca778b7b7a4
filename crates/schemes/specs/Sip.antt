-- SipHash-2-4, on numbers below 2 ^ 64.
use Rattle.std.specs.Prelude.{ℕ, zero, suc, ◌+◌, ◌-◌, ◌*◌, ◌/◌, ◌%◌, ◌^◌, List, length, bit_or, bit_xor}
use Rattle.letters.specs.Bytes.{eight_at}
use Rattle.schemes.specs.declared.sip.State.{State}

abbrev pub add : ℕ → ℕ → ℕ
add a b = (a + b) % 2 ^ 64

-- x turned left by k of 64 bits
abbrev pub rotl : ℕ → ℕ → ℕ
rotl x k = bit_or ((x * 2 ^ (k % 64)) % 2 ^ 64) (x / 2 ^ ((64 - k % 64) % 64))

-- the first half of a round: two mixes side by side
unfoldable pub first : State → State
first s =
    let a = add s.v0 s.v1 in
    let c = add s.v2 s.v3 in
    record { v0 = rotl a 32; v1 = bit_xor (rotl s.v1 13) a; v2 = c; v3 = bit_xor (rotl s.v3 16) c }

-- the second half: the same, crosswise
unfoldable pub second : State → State
second s =
    let a = add s.v0 s.v3 in
    let c = add s.v2 s.v1 in
    record { v0 = a; v1 = bit_xor (rotl s.v1 17) c; v2 = rotl c 32; v3 = bit_xor (rotl s.v3 21) a }

abbrev pub round : State → State
round s = second (first s)

abbrev pub into3 : State → ℕ → State
into3 s w = record { v0 = s.v0; v1 = s.v1; v2 = s.v2; v3 = bit_xor s.v3 w }

abbrev pub into0 : State → ℕ → State
into0 s w = record { v0 = bit_xor s.v0 w; v1 = s.v1; v2 = s.v2; v3 = s.v3 }

-- takes a word in: two rounds
unfoldable pub absorb : State → ℕ → State
absorb s w = into0 (round (round (into3 s w))) w

abbrev pub start : ℕ → ℕ → State
start k0 k1 = record { v0 = bit_xor k0 8317987319222330741; v1 = bit_xor k1 7237128888997146477; v2 = bit_xor k0 7816392313619706465; v3 = bit_xor k1 8387220255154660723 }

-- the state after the first n words of a message
unfoldable pub absorbed : ℕ → List ℕ → State → State
absorbed zero m s = s
absorbed (suc n) m s = absorb (absorbed n m s) (eight_at m (n * 8))

-- the last word: what is left of the message, and its length in the top byte
abbrev pub last_word : List ℕ → ℕ
last_word m = bit_or (eight_at m (length m / 8 * 8)) (length m % 256 * 72057594037927936)

abbrev pub into2 : State → State
into2 s = record { v0 = s.v0; v1 = s.v1; v2 = bit_xor s.v2 255; v3 = s.v3 }

-- four rounds at the end
unfoldable pub finish : State → ℕ
finish s =
    let e = round (round (round (round (into2 s)))) in
    bit_xor (bit_xor e.v0 e.v1) (bit_xor e.v2 e.v3)

-- the hash of a message under the two words of a key
abbrev pub sip_hash : ℕ → ℕ → List ℕ → ℕ
sip_hash k0 k1 m = finish (absorb (absorbed (length m / 8) m (start k0 k1)) (last_word m))
