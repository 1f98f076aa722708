-- What `migrate` prints. This project's own texts.
use Rattle.std.specs.Prelude.{ℕ, List, ◌++◌, codes, decimal}
use Rattle.log_text.specs.declared.version.LogVersion.{LogVersion}
use Rattle.log_text.specs.declared.version.LogVersion.TheVariants.{Two}
use Rattle.log_text.specs.LogText.{version_number}
use Rattle.dos_texts.specs.Report.{line_feed}

-- the line of a text: its version, and how long it is
abbrev pub version_line : LogVersion → (bytes : ℕ) → List ℕ
version_line v bytes =
    codes "version " ++ decimal (version_number v) ++ codes " bytes " ++ decimal bytes ++ line_feed

-- of the text that was read, and of the one that was written
abbrev pub migrated_lines : LogVersion → (bytes written : ℕ) → List ℕ
migrated_lines v bytes written = version_line v bytes ++ version_line Two written
