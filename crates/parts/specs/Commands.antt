-- Commands: the table of command bytes.
--   decoded a b   the command of a byte, by what was awaited before it; none where the table has no such byte
--   is_prefix b   90h to 93h
--   awaits w      what the next data byte is for after a host byte
--   needs w a     the line whose held place a host byte needs: an answer the controller's own, an argument that is
--                 held and a byte that is sent its own line
use Rattle.std.specs.Prelude.{ℕ, ◌-◌, Bool, cond, ◌&&◌, Some, None, Option, ◌==◌, nat_le}
use Rattle.parts.specs.declared.dialog.Awaited.{Awaited}
use Rattle.parts.specs.declared.dialog.Awaited.TheVariants.{CommandByte, KeyboardLoopback, AuxLoopback, AuxSend, Route}
use Rattle.parts.specs.declared.settings.Gate.{Gate}
use Rattle.parts.specs.declared.settings.Gate.TheVariants as gate
use Rattle.parts.specs.declared.dialog.Command.{Command}
use Rattle.parts.specs.declared.dialog.Command.TheVariants.{ReadCommandByte, Await, Disable, Enable, AuxTest, SelfTest, KeyboardTest}
use Rattle.parts.specs.declared.dialog.HostByte.{HostByte}
use Rattle.parts.specs.declared.dialog.HostByte.TheVariants as host
use Rattle.parts.specs.declared.dialog.Place.{Place}
use Rattle.parts.specs.declared.dialog.Place.TheVariants.{Zero}
use Rattle.parts.specs.declared.dialog.Dialog.{Dialog}
use Rattle.parts.specs.declared.lines.Line.{Line}
use Rattle.parts.specs.declared.lines.Line.TheVariants.{Aux, Keyboard, Controller}
use Rattle.parts.specs.declared.lines.Port.TheVariants.{P0}
use Rattle.parts.specs.Lines.{port_at}

-- nothing written, nothing awaited, place 0
abbrev pub new_dialog : Dialog
new_dialog = record { input = None; awaited = None; place = Zero }

-- the same dialog at another place
abbrev pub with_place : Place → Dialog → Dialog
with_place q d = record { input = d.input; awaited = d.awaited; place = q }

-- next after a prefix A7h and A8h act on that port's flag, else on bit 5
abbrev pub aux_gate : Option Awaited → Gate
aux_gate None = gate.Aux
aux_gate (Some CommandByte) = gate.Aux
aux_gate (Some KeyboardLoopback) = gate.Aux
aux_gate (Some AuxLoopback) = gate.Aux
aux_gate (Some AuxSend) = gate.Aux
aux_gate (Some (Route p)) = gate.OnePort p

abbrev pub is_prefix : ℕ → Bool
is_prefix b = nat_le 0x90 b && nat_le b 0x93

abbrev pub decoded : Option Awaited → ℕ → Option Command
decoded a b =
    cond (is_prefix b) (Some (Await (Some (Route (port_at (b - 0x90))))))
    (cond (b == 0x20) (Some ReadCommandByte)
    (cond (b == 0x60) (Some (Await (Some CommandByte)))
    (cond (b == 0xa7) (Some (Disable (aux_gate a)))
    (cond (b == 0xa8) (Some (Enable (aux_gate a)))
    (cond (b == 0xa9) (Some AuxTest)
    (cond (b == 0xaa) (Some SelfTest)
    (cond (b == 0xab) (Some KeyboardTest)
    (cond (b == 0xad) (Some (Disable gate.Keyboard))
    (cond (b == 0xae) (Some (Enable gate.Keyboard))
    (cond (b == 0xd2) (Some (Await (Some KeyboardLoopback)))
    (cond (b == 0xd3) (Some (Await (Some AuxLoopback)))
    (cond (b == 0xd4) (Some (Await (Some AuxSend))) None))))))))))))

-- what the next data byte is for after a command
abbrev pub command_awaits : Command → Option Awaited
command_awaits ReadCommandByte = None
command_awaits (Await a) = a
command_awaits (Disable g) = None
command_awaits (Enable g) = None
command_awaits AuxTest = None
command_awaits SelfTest = None
command_awaits KeyboardTest = None

-- answers need the place of the controller itself
abbrev pub command_needs : Command → Option Line
command_needs ReadCommandByte = Some Controller
command_needs (Await a) = None
command_needs (Disable g) = None
command_needs (Enable g) = None
command_needs AuxTest = Some Controller
command_needs SelfTest = Some Controller
command_needs KeyboardTest = Some Controller

abbrev pub awaits : HostByte → Option Awaited
awaits (host.Command c) = command_awaits c
awaits (host.Data b) = None

-- a data byte needs the place of the line that it goes to
abbrev pub data_needs : Option Awaited → Option Line
data_needs None = Some Keyboard
data_needs (Some CommandByte) = None
data_needs (Some KeyboardLoopback) = Some Keyboard
data_needs (Some AuxLoopback) = Some (Aux P0)
data_needs (Some AuxSend) = Some (Aux P0)
data_needs (Some (Route p)) = Some (Aux p)

abbrev pub needs : HostByte → Option Awaited → Option Line
needs (host.Command c) a = command_needs c
needs (host.Data b) a = data_needs a
