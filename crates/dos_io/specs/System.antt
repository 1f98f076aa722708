-- What is known of the outside over std. This project's own.
use Rattle.std.specs.Prelude.{◌≡◌, ℕ, ◌<◌, List, length, Option, IfSome}
use Rattle.std.specs.Io.KnownBytes.{Appends}
use Rattle.dos_io.specs.declared.std_host.StdHost.{StdHost}
use Rattle.dos_io.specs.declared.system.StdStream.{StdStream}

-- what the writer below a standard stream holds, where that is known
abbrev pub writer_bytes : {W : Type 0} → (W → Option (List ℕ)) → StdStream W → Option (List ℕ)
writer_bytes contents stream = contents stream.writer

-- there was a file that had these bytes left and no more, where that is known
abbrev pub Gave : {F : Type 0} → (F → Option (List ℕ)) → List ℕ → Type 0
Gave {F} remaining bytes = (file : F) × IfSome (remaining file) (λ had. bytes ≡ had)

-- there was a file that had more bytes left than the limit, where that is known
abbrev pub GaveMore : {F : Type 0} → (F → Option (List ℕ)) → ℕ → Type 0
GaveMore {F} remaining limit = (file : F) × IfSome (remaining file) (λ had. limit < length had)

-- there was a file that took these bytes, behind what it held, where that is known
abbrev pub Took : {F : Type 0} → (F → Option (List ℕ)) → List ℕ → Type 0
Took {F} contents bytes = (before : F) × (after : F)
    × Appends (contents before) (contents after) bytes

-- what the reader below a host has left, where that is known
abbrev pub unread : {R I : Type 0} → (I → Option (List ℕ)) → StdHost R I → Option (List ℕ)
unread remaining host = remaining host.reader
