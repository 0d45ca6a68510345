-- Document 01, 'Refused calls', and document 02's from 15 up: the number of each cause. The one place where they are written.
use Rattle.std.specs.Prelude.{ℕ}
use Rattle.terms.specs.declared.Refusal.{Refusal}
use Rattle.terms.specs.declared.Refusal.TheVariants.{IllFormed, Shape, Length, LabelCode, PointNotInUse, LabelNotInUse, CountFull, LabelsFull, PointsFull, FloatSpaceFull, ValueTooLarge, SequenceFull, ManagerCapacity, NotReleasable, HoldWidth, NoEarlierReading, ClassText, TextLength}

abbrev pub number : Refusal → ℕ
-- ill-formed store, manager, hold or product, or a lent slice too short for its part
number IllFormed = 1
-- shape outside the bounds, on opening
number Shape = 2
-- wrong length of a point or output slice
number Length = 3
-- label code above 23, labels on
number LabelCode = 4
-- index not below the table length, or with count 0
number PointNotInUse = 5
-- label index not in use
number LabelNotInUse = 6
-- inc of a point or label count at 65,535
number CountFull = 7
-- labels on, every label index in use
number LabelsFull = 8
-- no index free and the table cannot grow
number PointsFull = 9
-- after compaction and growth, the floats to be written would pass the store length
number FloatSpaceFull = 10
-- listed value too large, look-ahead above 65,535, weight above 16,777,216
number ValueTooLarge = 11
-- sequence number at 4,294,967,295
number SequenceFull = 12
-- manager opened at 0, or opened at or changed to above 1,024
number ManagerCapacity = 13
-- release of an index free or not below capacity
number NotReleasable = 14
-- a hold opened with a width of 0 or not below capacity
number HoldWidth = 15
-- an absent reading of a probe with no earlier one
number NoEarlierReading = 16
-- a text that is not that of an allowed table of classes
number ClassText = 17
-- a lent text too short for what is written
number TextLength = 18
