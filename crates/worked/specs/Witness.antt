-- A witness that the law of runs is not empty: one run that meets every premise of its fairness for port 2.
--   before, window   the records played until all ports talk, and seven reads with a turn between each two
--   early, late      their calls
--   Witness          it is a run of a controller, has a send, a force and a timeout, and meets the premises
use Rattle.std.specs.Prelude.{◌≡◌, true, List, [], ◌∷◌, ◌++◌}
use Rattle.session.specs.Records.{Item, data_read, turn, stroke}
use Rattle.parts.specs.declared.lines.Port.TheVariants.{P0, P2}
use Rattle.parts.specs.declared.settings.Mode.TheVariants.{Multiplexed}
use Rattle.rules.specs.States.{mode_of}
use Rattle.rules.specs.LoneCable.{send, force}
use Rattle.rules.specs.Histories.{History, new, ◌⊕◌, after, steps, reads, read_count, Steady, Ready, includes}
use Rattle.rules.specs.Law.{Spans, Among, Reached}
use Rattle.player.specs.Transcripts.{state_to, history_to}
use Rattle.worked.specs.Cases.{blanks, five_boards, told, activation}

-- a force at port 0; then, with port 3's byte waiting, two sends to port 2: the second times out
abbrev pub prologue : List Item
prologue = activation ++ (told 0xd3 0x42 ++ (data_read ∷ stroke 3 (0x81 ∷ []) ∷ turn ∷ (told 0x92 0xf4 ++ (told 0x92 0xf4 ++ (data_read ∷ turn ∷ data_read ∷ turn ∷ data_read ∷ [])))))

abbrev pub before : List Item
before = prologue ++ (stroke 0 (1 ∷ 2 ∷ 3 ∷ []) ∷ stroke 1 (1 ∷ 2 ∷ 3 ∷ []) ∷ stroke 2 (1 ∷ 2 ∷ 3 ∷ []) ∷ stroke 3 (1 ∷ 2 ∷ 3 ∷ []) ∷ turn ∷ [])

abbrev pub window : List Item
window = data_read ∷ turn ∷ data_read ∷ turn ∷ data_read ∷ turn ∷ data_read ∷ turn ∷ data_read ∷ turn ∷ data_read ∷ turn ∷ data_read ∷ []

abbrev pub early : History
early = history_to new five_boards before

abbrev pub late : History
late = history_to new (state_to five_boards before) window

pub record Witness : Type 0 where
  pub reached : Reached blanks (early ⊕ late) (state_to five_boards (before ++ window))
  pub multiplexes : mode_of (after blanks early) ≡ Multiplexed
  pub spans : Spans early
  pub steady : Steady late
  pub seven : read_count late ≡ 7
  pub ready : Ready blanks P2 early late
  pub includes : includes blanks P2 early late ≡ true
  pub sends : Among (send 0xf4) (steps P2 early)
  pub forces : Among (force 0x42) (steps P0 early)
  pub timeout : Among (record { error = true; byte = 0xfe }) (reads blanks P2 early)
