-- Faults: what is wrong with a line.
--   fault_words f   a fault in words
use Rattle.std.specs.Prelude.{ℕ, List, codes}
use Rattle.talk.specs.declared.fault.Fault.{Fault}
use Rattle.talk.specs.declared.fault.Fault.TheVariants.{UnknownWord, BadByte, BadMovement, OutOfRange, NoMouse}

abbrev pub fault_words : Fault → List ℕ
fault_words UnknownWord = codes "unknown word"
fault_words BadByte = codes "a byte is two hexadecimal digits"
fault_words BadMovement = codes "a movement has four numbers"
fault_words OutOfRange = codes "number out of range"
fault_words NoMouse = codes "no mouse yet"
