-- The worked cases hold.
use Rattle.std.proofs.Common.{◌+◌, ◌*◌, ◌%◌, true, false, ◌&&◌, refl, ap}
use Rattle.std.proofs.lemmas.Bool.{and_right}
use Rattle.terms.specs.Numbers.{seat}
use Rattle.boards.specs.Wheels.{turn_of}
use Rattle.letters.specs.Certificates.{all_ready, some_enrolled}
use Rattle.letters.specs.Bytes.{le4, le8}
use Rattle.letters.specs.Statements.{statement_bytes}
use Rattle.schemes.specs.Sheet.{weighted}
use Rattle.cases.specs.Cases.{WorkedCases}

pub worked_cases : WorkedCases
unfolding turn_of all_ready some_enrolled le4 le8 statement_bytes weighted
worked_cases =
    record {
      seat_2_leads_view_9 = λ sizes t e. ap (λ f. seat (9 % (3 * f + 1))) e;
      turns_49_forth = refl;
      turns_50_back = refl;
      wheels_take_5020 = λ b p has. ap (λ h. h && true) has;
      wheels_do_not_take_5019 = λ b p. and_right _ false refl;
      keypad_takes_111112 = λ k p has. ap (λ h. h && true) has;
      keypad_does_not_take_111111 = λ k p. and_right _ false refl;
      both_ready = λ z d e u v. refl;
      first_refuses = λ z d e u v. refl;
      second_refuses = λ z d e u v. refl;
      nobody_enrolled = λ z vs. refl;
      enrolment_of_lock_2 = refl;
      order_of_123456 = refl;
    }
