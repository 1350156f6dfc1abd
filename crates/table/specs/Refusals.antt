-- 01's number, section and row of each refusal, and of what a routine answers. (01, last paragraph: "Where an answer is an enum, a
-- definition sets out this paper's number and values for each of its cases.") The fourth number is the named test. Assumes nothing.
use Rattle.std.specs.Prelude.{Option, None, Some, Result, Ok, Err}
use Rattle.table.specs.declared.Answer.{Answer}
use Rattle.table.specs.declared.Refusal.{Refusal}
use Rattle.table.specs.declared.Refusal.TheVariants.{TooShort, Header, WrongLength, Record, Reference, Sample, LateSystem, TooManyRows, ResultTooShort, EndlessQueue, EndlessPort, NoRoom}
use Rattle.table.specs.Answers.{answer, accepted}

unfoldable pub answer_of : Refusal → Answer
answer_of TooShort = answer 1 0 0 0
answer_of (Header test) = answer 2 0 0 test
answer_of WrongLength = answer 3 0 0 0
answer_of (Record section row test) = answer 4 section row test
answer_of (Reference section row test) = answer 5 section row test
answer_of (Sample row) = answer 6 3 row 0
answer_of (LateSystem row) = answer 7 1 row 0
answer_of TooManyRows = answer 8 0 0 0
answer_of ResultTooShort = answer 8 0 0 1
answer_of (EndlessQueue row) = answer 9 2 row 0
answer_of (EndlessPort row) = answer 10 4 row 0
answer_of NoRoom = answer 11 0 0 0

-- "0: accepted", whatever is handed out with it
unfoldable pub said : {T : Type 0} → Result T Refusal → Answer
said (Ok x) = accepted
said (Err r) = answer_of r

-- the answer that a routine gives, and none where it refuses nothing
unfoldable pub given : {T : Type 0} → Result T Refusal → Option Answer
given (Ok x) = None
given (Err r) = Some (answer_of r)
