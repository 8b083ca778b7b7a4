use Rattle.std.proofs.Common.{◌≡◌}
use Rattle.schemes.specs.Sip.{absorbed, start}
use Rattle.schemes.proofs.sip.sip_hash.Given as goal

abbrev pub invariant-loop-word : goal.invariant-loop-word
invariant-loop-word l = l.s ≡ absorbed l.word-index l.m (start l.k0 l.k1)
