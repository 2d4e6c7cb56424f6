-- Within one image it is a move; of two, each part of the list has one.
use Rattle.std.proofs.Common.{◌≡◌, refl, ◌<◌, get_or, map, set, ap, sym, subst, arith}
use Rattle.image_model.specs.Windows.{IsInside, window_view}
use Rattle.imgref.specs.Image.{vec_layout}
use Rattle.imgref.specs.Window.{as_window}
use Rattle.imgref.specs.Lists.{grids_of}
use Rattle.image_commands.specs.Commands.{grid_at}
use Rattle.imgref_replay.specs.Step.{ShowsCopy}
use Rattle.imgref_replay.proofs.Images.{fits_at, inside_at}
use Rattle.imgref_replay.proofs.Copies.{may_copy, copied, front_is, back_is, set_front, set_back}
use Rattle.imgref_replay.proofs.copy.copy_between.Goals as goal

-- ---- the same image is read and written

pub move_inside-requires : goal.move_inside-requires
move_inside-requires g c =
    let a = c.args in
    let r = c.requires in
    let images = a.images.now in
    let is = ap (get_or images a.target) c.index-images-target.is in
    let seen_inside = subst (λ j. (let g = grid_at (grids_of images) j in IsInside g.width g.height (as_window a.from))) c.if-source-target.true r.source_inside in
    record {
      fits = fits_at images a.target _ r.target is r.fit;
      source_inside = inside_at images a.target _ (as_window a.from) r.target is seen_inside;
      target_inside = rw (r.same_width, r.same_height) (inside_at images a.target _ (as_window a.to) r.target is r.target_inside);
    }

pub returns-then-source-target : goal.returns-then-source-target
returns-then-source-target g c =
    let a = c.args in
    let r = c.requires in
    let images = a.images.now in
    let i = a.target in
    let old = get_or images i c.index-images-target.result in
    let is : old ≡ get_or images i old = ap (get_or images i) c.index-images-target.is in
    let moved = c.move_inside in
    subst (λ j. ShowsCopy i a.to.left a.to.top (window_view (grid_at (grids_of images) j) (as_window a.from)) (map vec_layout images) (map vec_layout (set images i moved.new.self))) (sym c.if-source-target.true)
    (copied images i i a.to.left a.to.top (as_window a.from) old old moved.new.self (set images i moved.new.self) refl r.target r.target is is moved.ensures.grid moved.ensures.outside moved.ensures.fits r.fit)

-- ---- the image that is read is in front

pub copy_over-requires : goal.copy_over-requires
copy_over-requires g c =
    let a = c.args in
    let r = c.requires in
    let parts = c.split_at_mut-front.ensures in
    let is = back_is a.images.now _ _ a.target parts.value parts.front_len _ c.index-back-0.is in
    let seen_is = front_is a.images.now _ _ a.target parts.value parts.front_len a.source _ c.if-source-target-2.true c.index-front-source.is in
    may_copy a.images.now a.target a.source _ _ (as_window a.to) (as_window a.from) r.target r.source is seen_is r.fit r.target_inside r.source_inside r.same_width r.same_height

pub returns-then-source-target-2 : goal.returns-then-source-target-2
returns-then-source-target-2 g c =
    let a = c.args in
    let r = c.requires in
    let parts = c.split_at_mut-front.ensures in
    let over = c.copy_over in
    let is = back_is a.images.now _ _ a.target parts.value parts.front_len _ c.index-back-0.is in
    let seen_is = front_is a.images.now _ _ a.target parts.value parts.front_len a.source _ c.if-source-target-2.true c.index-front-source.is in
    copied a.images.now a.target a.source a.to.left a.to.top (as_window a.from) _ _ over.new.image _ (set_back a.images.now _ _ a.target parts.value parts.front_len over.new.image) r.target r.source is seen_is over.ensures.grid over.ensures.outside over.ensures.fits r.fit

-- ---- the image that is written is in front

pub copy_over-requires-else-source-target-2 : goal.copy_over-requires-else-source-target-2
copy_over-requires-else-source-target-2 g c =
    let a = c.args in
    let r = c.requires in
    let parts = c.split_at_mut-front-else-source-target-2.ensures in
    let below : a.target < a.source = omega (arith, c.if-source-target.false, c.if-source-target-2.false) in
    let is = front_is a.images.now _ _ a.source parts.value parts.front_len a.target _ below c.index-front-target.is in
    let seen_is = back_is a.images.now _ _ a.source parts.value parts.front_len _ c.index-back-0-else-source-target-2.is in
    may_copy a.images.now a.target a.source _ _ (as_window a.to) (as_window a.from) r.target r.source is seen_is r.fit r.target_inside r.source_inside r.same_width r.same_height

pub returns-else-source-target-2 : goal.returns-else-source-target-2
returns-else-source-target-2 g c =
    let a = c.args in
    let r = c.requires in
    let parts = c.split_at_mut-front-else-source-target-2.ensures in
    let over = c.copy_over-else-source-target-2 in
    let below : a.target < a.source = omega (arith, c.if-source-target.false, c.if-source-target-2.false) in
    let is = front_is a.images.now _ _ a.source parts.value parts.front_len a.target _ below c.index-front-target.is in
    let seen_is = back_is a.images.now _ _ a.source parts.value parts.front_len _ c.index-back-0-else-source-target-2.is in
    copied a.images.now a.target a.source a.to.left a.to.top (as_window a.from) _ _ over.new.image _ (set_front a.images.now _ _ a.source parts.value parts.front_len a.target over.new.image below) r.target r.source is seen_is over.ensures.grid over.ensures.outside over.ensures.fits r.fit
