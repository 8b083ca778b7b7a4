-- What opening answers, without references.
use Rattle.std.specs.Prelude.{Ok, Err, Result}
use Rattle.terms.specs.declared.refusals.Refusal.{Refusal}
use Rattle.letters.specs.declared.bodies.Letter.{Letter}
use Rattle.reading.specs.Parts.{Span, Spans, shown}
use Rattle.seals.specs.declared.opening.Opened.{Opened}

abbrev pub opened_letter : Result Opened Refusal → Result (Letter Span Spans) Refusal
opened_letter (Ok o) = Ok (shown o.letter)
opened_letter (Err e) = Err e
