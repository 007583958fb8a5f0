-- Refusals: what each one is called, numbered and means.
--   number_of e      its number, by which programs show it
--   meaning_of e     its meaning, in the words that are printed
--   refusing t e r   refused with e where t holds, else r; nested so that the smaller number comes first
use Rattle.std.specs.Prelude.{ℕ, Bool, true, false, List, Err, codes, Result}
use Rattle.ps2.specs.declared.refusal.Refusal.{Refusal}
use Rattle.ps2.specs.declared.refusal.Refusal.TheVariants.{UnknownCommand, NoSuchLine, FieldOutOfRange, FileEndsInside, BadRecord, TooManyReadings, BufferTooShort, FileTooLong, OutputEmpty, InputFull, PrefixInLegacy, NoRoom}

abbrev pub number_of : Refusal → ℕ
number_of UnknownCommand = 1
number_of NoSuchLine = 2
number_of FieldOutOfRange = 3
number_of FileEndsInside = 4
number_of BadRecord = 5
number_of TooManyReadings = 6
number_of BufferTooShort = 7
number_of FileTooLong = 8
number_of OutputEmpty = 21
number_of InputFull = 22
number_of PrefixInLegacy = 23
number_of NoRoom = 24

abbrev pub meaning_of : Refusal → List ℕ
meaning_of UnknownCommand = codes "command byte not in the table"
meaning_of NoSuchLine = codes "no such line"
meaning_of FieldOutOfRange = codes "event field out of range"
meaning_of FileEndsInside = codes "the file ends inside a record, or is empty"
meaning_of BadRecord = codes "unknown kind, or wrong length for its kind"
meaning_of TooManyReadings = codes "more than 32,768 readings"
meaning_of BufferTooShort = codes "the buffer is shorter than the lane"
meaning_of FileTooLong = codes "the file is above 65,536 bytes"
meaning_of OutputEmpty = codes "data read while no byte waits"
meaning_of InputFull = codes "write while the input buffer is full"
meaning_of PrefixInLegacy = codes "routing prefix in Legacy mode"
meaning_of NoRoom = codes "no room for the event"

abbrev pub refusing : {A : Type 0} → Bool → Refusal → Result A Refusal → Result A Refusal
refusing true e r = Err e
refusing false e r = r
