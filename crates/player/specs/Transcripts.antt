-- Transcripts: a session file played from its first record to its last, or to the first that is refused.
--   lines_from n s is e    the lines of the records is, played from the state s, n records before them; then of the ending
--   state_to, history_to   the state after the records, and the calls that they made behind a history
--   tower_devices          ports 0 and 1 wheel mice, 2 and 3 boards, all on cables; the keyboard a board
--   transcript file        the whole text
--   Runs file              the calls so made, from power-on, and the law behind them
use Rattle.std.specs.Prelude.{◌≡◌, ℕ, ◌+◌, true, false, List, [], ◌∷◌, ◌++◌}
use Rattle.devices.specs.Boards.{blank, board_model, board_kind}
use Rattle.devices.specs.Cables.{cable_value, cable_model}
use Rattle.mouse.specs.declared.settings.Variant.TheVariants.{Wheel}
use Rattle.mouse.specs.Mice.{began}
use Rattle.mouse.specs.MouseKind.{mouse_kind, mouse_model}
use Rattle.session.specs.Records.{Item}
use Rattle.session.specs.Files.{Session, Ending, complete, refused, session_of}
use Rattle.parts.specs.declared.settings.Mode.TheVariants.{Multiplexed}
use Rattle.rules.specs.Banks.{Kinds, Values}
use Rattle.rules.specs.States.{State, power_on, mode_of}
use Rattle.rules.specs.Histories.{History, new}
use Rattle.rules.specs.Law.{Reached, Lawful}
use Rattle.bank.specs.Fives.{kinds_of}
use Rattle.player.specs.declared.reply.Reply.TheVariants.{Refused}
use Rattle.player.specs.Replies.{line_text}
use Rattle.player.specs.Plays.{call_by, reply_to, played_to, gone}

-- a good end has no line
abbrev pub end_line : ℕ → Ending → List ℕ
end_line n complete = []
end_line n (refused e) = line_text (n + 1) (Refused e)

module _ {K : Kinds} where
  unfoldable pub lines_from : ℕ → State K → List Item → Ending → List ℕ
  lines_from n s [] e = end_line n e
  lines_from n s (i ∷ is) e = line_text (n + 1) (reply_to i s) ++ lines_from (n + 1) (played_to i s) is e

  -- the lines of a session, n records behind its start
  abbrev pub lines_of : ℕ → State K → Session → List ℕ
  lines_of n s x = lines_from n s x.records x.ending

  unfoldable pub state_to : State K → List Item → State K
  state_to s [] = s
  state_to s (i ∷ is) = state_to (played_to i s) is

  unfoldable pub history_to : History → State K → List Item → History
  history_to h s [] = h
  history_to h s (i ∷ is) = history_to (gone (call_by i s) h) (played_to i s) is

-- the kinds of the devices of the tower
abbrev pub tower_kinds : Kinds
tower_kinds = kinds_of (cable_model mouse_model) (cable_model mouse_model) (cable_model board_model) (cable_model board_model) board_model

abbrev pub tower_devices : Values tower_kinds
tower_devices = record {
  port0 = cable_value mouse_kind true (began Wheel false);
  port1 = cable_value mouse_kind true (began Wheel false);
  port2 = cable_value board_kind true blank;
  port3 = cable_value board_kind true blank;
  keyboard = blank;
}

abbrev pub transcript : List ℕ → List ℕ
transcript file = lines_of 0 (power_on tower_devices) (session_of file)

pub record Runs (file : List ℕ) : Type 0 where
  pub reached : Reached tower_devices (history_to new (power_on tower_devices) (session_of file).records) (state_to (power_on tower_devices) (session_of file).records)
  pub lawful : mode_of (state_to (power_on tower_devices) (session_of file).records) ≡ Multiplexed → Lawful tower_devices (history_to new (power_on tower_devices) (session_of file).records)
