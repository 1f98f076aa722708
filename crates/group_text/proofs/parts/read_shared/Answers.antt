use Rattle.group_text.proofs.ReadingLaws.{first_bytes_count}
use Rattle.group_text.proofs.parts.read_shared.Goals as goal

pub returns-clause-page : goal.returns-clause-page
returns-clause-page c = first_bytes_count _ _ _ _ _ c.in_ok-page.ensures
