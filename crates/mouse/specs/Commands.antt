-- Commands: the byte of each command that a host can send.
--   command_of b   the command of a byte, none where it is not listed
use Rattle.std.specs.Prelude.{ℕ, cond, Some, None, Option, ◌==◌}
use Rattle.mouse.specs.declared.command.Command.{Command}
use Rattle.mouse.specs.declared.command.Command.TheVariants.{Scale1To1, Scale2To1, SetResolution, StatusRequest, SetStream, ReadData, ResetWrap, SetWrap, SetRemote, GetId, SetRate, Enable, Disable, SetDefaults, Resend}

-- FFh, the Reset, is told apart before this
abbrev pub command_of : ℕ → Option Command
command_of b =
    cond (b == 0xE6) (Some Scale1To1)
    (cond (b == 0xE7) (Some Scale2To1)
    (cond (b == 0xE8) (Some SetResolution)
    (cond (b == 0xE9) (Some StatusRequest)
    (cond (b == 0xEA) (Some SetStream)
    (cond (b == 0xEB) (Some ReadData)
    (cond (b == 0xEC) (Some ResetWrap)
    (cond (b == 0xEE) (Some SetWrap)
    (cond (b == 0xF0) (Some SetRemote)
    (cond (b == 0xF2) (Some GetId)
    (cond (b == 0xF3) (Some SetRate)
    (cond (b == 0xF4) (Some Enable)
    (cond (b == 0xF5) (Some Disable)
    (cond (b == 0xF6) (Some SetDefaults)
    (cond (b == 0xFE) (Some Resend) None))))))))))))))
