-- What an event asks of a server. GDB remote protocol, gdb's manual, appendix E, section "Packet
-- Acknowledgment"; that a packet over the limit has the empty answer is this project's own rule.
use Rattle.std.specs.Prelude.{Bool, true, false}
use Rattle.gdb_packets.specs.declared.framing.Event.{Event}
use Rattle.gdb_packets.specs.declared.framing.Event.TheVariants.{Again, Packet, TooLong}
use Rattle.gdb_packets.specs.declared.duties.Duty.{Duty}
use Rattle.gdb_packets.specs.declared.duties.Duty.TheVariants.{Nothing, SendAgain, Refuse, Answer}
use Rattle.gdb_packets.specs.declared.duties.Duty.TheVariants.{AnswerEmpty}

-- while packets are acknowledged, or not
abbrev pub duty_of : (acknowledges : Bool) → Event → Duty
duty_of true Again = SendAgain
duty_of false Again = Nothing
duty_of true (Packet true) = Answer true
duty_of true (Packet false) = Refuse
duty_of false (Packet is_sound) = Answer false
duty_of true (TooLong true) = AnswerEmpty true
duty_of true (TooLong false) = Refuse
duty_of false (TooLong is_sound) = AnswerEmpty false
