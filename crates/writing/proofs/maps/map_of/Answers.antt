use Rattle.std.proofs.Common.{length, ap, arith}
use Rattle.std.proofs.lemmas.List.{length_push}
use Rattle.writing.proofs.RowMaps.{map_room, map_byte}
use Rattle.writing.proofs.maps.map_of.Goals as goal

pub with_bit-map-requires : goal.with_bit-map-requires
with_bit-map-requires g c = map_room c.loop-row.invariant.2 (omega (arith, ap length c.in-Some.ensures.steps, length_push c.next.new.self.iter.rest.now c.in-Some.row.now)) c.requires.few

pub returns-clause-byte : goal.returns-clause-byte
returns-clause-byte g c = map_byte c.loop-row.invariant.2
