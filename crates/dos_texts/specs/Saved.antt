-- What `save` says. This project's own text.
use Rattle.std.specs.Prelude.{ℕ, List, ◌++◌, codes, decimal}
use Rattle.dos_texts.specs.Report.{line_feed}

-- after how many rounds the group was saved
abbrev pub saved_line : (round : ℕ) → List ℕ
saved_line round = codes "saved round " ++ decimal round ++ line_feed
