use Rattle.generated_group.proofs.RoomLaws.{needed-generated}
use Rattle.generated_group.proofs.laws.generated_groups_have_room.Goals as goal

pub returns : goal.returns
returns c = needed-generated
