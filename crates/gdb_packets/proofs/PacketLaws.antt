-- Packets are read back.
use Rattle.std.proofs.Common.{◌≡◌, ◌≤◌, ℕ, List, [], ◌∷◌, ◌++◌, length, true}
use Rattle.std.proofs.Common.{false, eqb, arith, refl, ap, ◌∙◌, Option, Some, None, option_map}
use Rattle.std.specs.Prelude.{IfSome, unwrap_or}
use Rattle.gdb_packets.specs.Hexadecimal.{◌>>=◌, nibble_of, number_digits}
use Rattle.gdb_packets.specs.Hexadecimal.{number_from}
use Rattle.gdb_packets.specs.Openings.{plain_text}
use Rattle.gdb_packets.specs.Packets.{packet_from, stretch_from, stretch_in, number_behind}
use Rattle.gdb_packets.specs.Packets.{number_or_none, point_from, point_in, point_packet}
use Rattle.gdb_packets.specs.Packets.{point_kind, exec_file_from, exec_file_in}
use Rattle.gdb_packets.specs.Packets.{read_file_from, read_file_in}
use Rattle.gdb_packets.specs.Texts.{packet_text, IsSpelled, IsStretch, numbers_text, stretch_text}
use Rattle.gdb_packets.specs.Texts.{number_text, marked_text, point_text, kind_number}
use Rattle.gdb_packets.specs.ReadBack.{IsNumber}
use Rattle.gdb_packets.specs.declared.openings.Plain.{Plain}
use Rattle.gdb_packets.specs.declared.openings.Plain.TheVariants.{NoAcknowledgement, StopReason}
use Rattle.gdb_packets.specs.declared.openings.Plain.TheVariants.{CurrentThread, FirstThreads}
use Rattle.gdb_packets.specs.declared.openings.Plain.TheVariants.{NextThreads, Registers, Continue}
use Rattle.gdb_packets.specs.declared.openings.Plain.TheVariants.{Step, BackContinue, BackStep}
use Rattle.gdb_packets.specs.declared.openings.Plain.TheVariants.{Kill}
use Rattle.gdb_packets.specs.declared.packets.Stretch.{Stretch}
use Rattle.gdb_packets.specs.declared.packets.Point.{Point}
use Rattle.gdb_packets.specs.declared.packets.PointKind.{PointKind}
use Rattle.gdb_packets.specs.declared.packets.PointKind.TheVariants.{SoftwareBreakpoint}
use Rattle.gdb_packets.specs.declared.packets.PointKind.TheVariants.{HardwareBreakpoint}
use Rattle.gdb_packets.specs.declared.packets.PointKind.TheVariants.{WriteWatchpoint}
use Rattle.gdb_packets.specs.declared.packets.PointKind.TheVariants.{ReadWatchpoint}
use Rattle.gdb_packets.specs.declared.packets.PointKind.TheVariants.{AccessWatchpoint}
use Rattle.gdb_packets.specs.declared.packets.Packet.{Packet}
use Rattle.gdb_packets.specs.declared.packets.Packet.TheVariants.{Alone, Supported, Attached, Alive}
use Rattle.gdb_packets.specs.declared.packets.Packet.TheVariants.{GeneralThread, ResumedThread}
use Rattle.gdb_packets.specs.declared.packets.Packet.TheVariants.{Register, Memory, Write, Insert}
use Rattle.gdb_packets.specs.declared.packets.Packet.TheVariants.{Remove, ResumeForms, Resume}
use Rattle.gdb_packets.specs.declared.packets.Packet.TheVariants.{Detach, KillProcess, Description}
use Rattle.gdb_packets.specs.declared.packets.Packet.TheVariants.{ExecFile, Threads, SetFileSystem}
use Rattle.gdb_packets.specs.declared.packets.Packet.TheVariants.{CloseFile, OpenFile, FileStatus}
use Rattle.gdb_packets.specs.declared.packets.Packet.TheVariants.{ReadFile, Monitor, Malformed}
use Rattle.gdb_packets.specs.declared.packets.Packet.TheVariants.{Unknown}
use Rattle.gdb_packets.proofs.ReadBackLaws.{number_again, number_apart, number_some, id_again}
use Rattle.gdb_packets.proofs.ReadBackLaws.{around_again, IsApart}

-- ---- fields

stretch_again : (s : Stretch) → IsStretch s → stretch_from (stretch_text s) ≡ Some s
stretch_again s h =
    ap (λ o. o >>= stretch_in)
    (around_again 44 (number_digits s.from) (number_digits s.length) (number_apart 44 s.from refl))
    ∙ rw (number_again s.from h.0, number_again s.length h.1) refl

behind_again : (mark : ℕ) (o : Option ℕ) → IfSome o IsNumber → eqb mark mark ≡ true
    → number_behind mark (marked_text mark o) ≡ Some o
behind_again mark None h e = refl
behind_again mark (Some n) h e = rw (e, number_again n h) refl

some_number : (text : List ℕ) → 1 ≤ length text
    → number_or_none text ≡ option_map Some (number_from text)
some_number [] h = absurd (omega (arith, h))
some_number (c ∷ cs) h = refl

or_none_again : (o : Option ℕ) → IfSome o IsNumber → number_or_none (number_text o) ≡ Some o
or_none_again None h = refl
or_none_again (Some n) h =
    some_number (number_digits n) (number_some n) ∙ ap (λ v. option_map Some v) (number_again n h)

or_none_apart : (mark : ℕ) (o : Option ℕ) → nibble_of mark ≡ None → IsApart mark (number_text o)
or_none_apart mark None none = tt
or_none_apart mark (Some n) none = number_apart mark n none

kind_again : (k : PointKind) → point_kind (kind_number k) ≡ Some k
kind_again SoftwareBreakpoint = refl
kind_again HardwareBreakpoint = refl
kind_again WriteWatchpoint = refl
kind_again ReadWatchpoint = refl
kind_again AccessWatchpoint = refl

kind_small : (k : PointKind) → IsNumber (kind_number k)
kind_small SoftwareBreakpoint = omega arith
kind_small HardwareBreakpoint = omega arith
kind_small WriteWatchpoint = omega arith
kind_small ReadWatchpoint = omega arith
kind_small AccessWatchpoint = omega arith

point_again : (packet : Point → Packet) (p : Point) → IsStretch p.at
    → point_from packet (point_text p) ≡ Some (packet p)
point_again packet p h =
    ap (λ o. point_in packet o (point_text p))
    (around_again 44 (number_digits (kind_number p.kind)) (stretch_text p.at)
    (number_apart 44 (kind_number p.kind) refl))
    ∙ rw (
      number_again (kind_number p.kind) (kind_small p.kind),
      kind_again p.kind,
      stretch_again p.at h,
    ) refl

exec_again : (o : Option ℕ) (s : Stretch) → IfSome o IsNumber → IsStretch s
    → exec_file_from (number_text o ++ 58 ∷ stretch_text s) ≡ Some (ExecFile o s)
exec_again o s h k =
    ap (λ v. v >>= exec_file_in)
    (around_again 58 (number_text o) (stretch_text s) (or_none_apart 58 o refl))
    ∙ rw (or_none_again o h, stretch_again s k) refl

read_again : (file : ℕ) (s : Stretch) → IsNumber file → IsStretch s
    → read_file_from (number_digits file ++ 44 ∷ numbers_text s.length s.from)
    ≡ Some (ReadFile file s)
read_again file s h k =
    let turned : Stretch = record { from = s.length; length = s.from } in
    ap (λ v. v >>= read_file_in)
    (around_again 44 (number_digits file) (numbers_text s.length s.from)
    (number_apart 44 file refl))
    ∙ rw (number_again file h, stretch_again turned (k.1, k.0)) refl

-- ---- packets

plain_again : (plain : Plain) → packet_from (plain_text plain) ≡ Alone plain
plain_again NoAcknowledgement = refl
plain_again StopReason = refl
plain_again CurrentThread = refl
plain_again FirstThreads = refl
plain_again NextThreads = refl
plain_again Registers = refl
plain_again Continue = refl
plain_again Step = refl
plain_again BackContinue = refl
plain_again BackStep = refl
plain_again Kill = refl

-- what is read behind an opening
known : (packet : Packet) (o : Option Packet) → o ≡ Some packet → unwrap_or o Malformed ≡ packet
known packet o e = ap (λ v. unwrap_or v Malformed) e

pub packet_again : (packet : Packet) → IsSpelled packet
    → packet_from (packet_text packet) ≡ packet
packet_again (Alone plain) h = plain_again plain
packet_again (Supported false) h = refl
packet_again (Supported true) h = refl
packet_again (Attached None) h = refl
packet_again (Attached (Some n)) h =
    known _ _ (ap (λ v. option_map Attached v) (behind_again 58 (Some n) h refl))
packet_again (Alive id) h = known _ _ (ap (λ v. option_map Alive v) (id_again id h))
packet_again (GeneralThread id) h =
    known _ _ (ap (λ v. option_map GeneralThread v) (id_again id h))
packet_again (ResumedThread id) h =
    known _ _ (ap (λ v. option_map ResumedThread v) (id_again id h))
packet_again (Register n) h = known _ _ (ap (λ v. option_map Register v) (number_again n h))
packet_again (Memory s) h = known _ _ (ap (λ v. option_map Memory v) (stretch_again s h))
packet_again Write h = refl
packet_again (Insert p) h = known _ _ (point_again (point_packet true) p h)
packet_again (Remove p) h = known _ _ (point_again (point_packet false) p h)
packet_again ResumeForms h = refl
packet_again Resume h = refl
packet_again (Detach o) h =
    known _ _ (ap (λ v. option_map Detach v) (behind_again 59 o h refl))
packet_again (KillProcess n) h = known _ _ (ap (λ v. option_map KillProcess v) (number_again n h))
packet_again (Description s) h =
    known _ _ (ap (λ v. option_map Description v) (stretch_again s h))
packet_again (ExecFile o s) h = known _ _ (exec_again o s h.0 h.1)
packet_again (Threads s) h = known _ _ (ap (λ v. option_map Threads v) (stretch_again s h))
packet_again (SetFileSystem n) h =
    known _ _ (ap (λ v. option_map SetFileSystem v) (number_again n h))
packet_again (CloseFile n) h = known _ _ (ap (λ v. option_map CloseFile v) (number_again n h))
packet_again OpenFile h = refl
packet_again (FileStatus n) h = known _ _ (ap (λ v. option_map FileStatus v) (number_again n h))
packet_again (ReadFile file s) h = known _ _ (read_again file s h.0 h.1)
packet_again (Monitor command) h = absurd h
packet_again Malformed h = absurd h
packet_again Unknown h = absurd h
