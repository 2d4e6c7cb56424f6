use Rattle.std.proofs.Common.{◌≡◌, ◌≤◌, ◌+◌, ◌*◌, ◌∙◌, arith}
use Rattle.image_model.proofs.Places.{outside_trans}
use Rattle.image_model.proofs.Regions.{done_more, done_row_ends, all_labelled}
use Rattle.imgref.specs.Words.{grid_of, ref_layout, shaped, width_of}
use Rattle.image_regions.proofs.labels.label_all.Goals as goal

pub loop-x-preserved : goal.loop-x-preserved
loop-x-preserved g c =
    let s = c.args.shape in
    let step = c.label_place-regions.ensures.step c.loop-x.invariant.2 in (
      c.label_place-regions.ensures.fits,
      outside_trans (shaped c.args.labels.now s) (shaped c.loop-x.labels s) (shaped c.label_place-regions.new.labels s) c.loop-x.invariant.1 c.label_place-regions.ensures.outside,
      step.0,
      done_more g.T.PartialEq.eq c.requires.tells (ref_layout c.args.image) (grid_of (shaped c.loop-x.labels s)) (grid_of (shaped c.label_place-regions.new.labels s)) (width_of c.args.image) c.loop-x.x c.loop-y.y c.loop-x.invariant.3 step.1 step.2,
      omega (arith, c.loop-x.invariant.4, c.label_place-regions.ensures.most),
      c.label_place-regions.ensures.room ∙ c.loop-x.invariant.5,
    )

pub loop-y-preserved : goal.loop-y-preserved
loop-y-preserved g c =
    let wide : width_of c.args.image ≤ c.loop-x.x = omega arith in
    let next : (c.loop-y.y + 1) * width_of c.args.image ≡ c.loop-y.y * width_of c.args.image + width_of c.args.image = omega arith in
    let last : c.loop-x.x ≤ width_of c.args.image = omega arith in (
      c.loop-x.invariant.0,
      c.loop-x.invariant.1,
      c.loop-x.invariant.2,
      done_row_ends g.T.PartialEq.eq c.requires.tells (ref_layout c.args.image) (grid_of (shaped c.loop-x.labels c.args.shape)) (width_of c.args.image) c.loop-x.x c.loop-y.y wide c.loop-x.invariant.3,
      omega (arith, c.loop-x.invariant.4, next, last),
      c.loop-x.invariant.5,
    )

pub returns-clause-regions : goal.returns-clause-regions
returns-clause-regions g c =
    let out = c.loop-y.invariant.1 in
    all_labelled g.T.PartialEq.eq c.requires.tells (ref_layout c.args.image) (shaped c.loop-y.labels c.args.shape) c.loop-y.regions c.loop-y.y (omega (arith, out.width_stays, c.requires.labels.width)) (omega (arith, out.height_stays, c.requires.labels.height)) c.loop-y.invariant.2 (omega arith) c.loop-y.invariant.3
