use Rattle.std.proofs.Common.{List, take, subst}
use Rattle.std.proofs.lemmas.List.{take_all}
use Rattle.elf_image.specs.Image.{Image}
use Rattle.group_open.specs.Group.{IsOpened}
use Rattle.group_open.proofs.GroupLaws.{images_more, next_fits, nothing_opened}
use Rattle.group_open.proofs.group.open_images.Goals as goal

pub loop-image-init : goal.loop-image-init
loop-image-init c = nothing_opened c.args.table.now.room c.args.frames.now c.args.table.now
    c.requires.frames c.requires.table

pub open_image-requires : goal.open_image-requires
open_image-requires c =
    next_fits c.args.table.now.room c.loop-image.frames c.loop-image.table c.args.images.now
    c.loop-image.image-index c.image-item.result c.loop-image.invariant
    c.loop-image-test.true c.image-item.is c.requires.few c.requires.fits

pub loop-image-preserved : goal.loop-image-preserved
loop-image-preserved c =
    let images = c.args.images.now in
    let count = c.args.table.now.room in
    subst (λ (is : List Image). IsOpened count c.open_image.new.frames c.open_image.new.table is)
    (images_more images c.loop-image.image-index c.image-item.result c.loop-image-test.true
    c.image-item.is)
    (c.open_image.ensures count (take c.loop-image.image-index images) c.loop-image.invariant)

pub returns : goal.returns
returns c =
    subst (λ (is : List Image). IsOpened c.args.table.now.room c.loop-image.frames
    c.loop-image.table is)
    (take_all c.loop-image.image-index c.args.images.now c.loop-image-test.false)
    c.loop-image.invariant
